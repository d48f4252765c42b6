-- What the march of the box answers, in plain words, and that the promises leave no choice. Assumes nothing.
use mathlib.Core.Path.{◌≡◌, ap, ◌∙◌}
use mathlib.Core.List.{List, ◌++◌}
use Prim.Native.Nat.{ℕ, ◌+◌, ◌*◌, ◌≤◌}
use native.Mathlib.Omega.{arith}
use lib.ListN.{length, drop}
use Rattle.laws.specs.Written.{Written}
use Rattle.laws.specs.Triangles.{flat}
use Rattle.laws.proofs.Written.{written-plain}
use Rattle.laws.proofs.Triangles.{flat-length}
use Rattle.lattice.specs.Sites.{cells}
use Rattle.march.specs.March.{Field, march}
use Rattle.march.proofs.March.{march-le}

-- the triangles first, then the entries that were there; as many as the definition has, and at most twelve a cell
pub record Marched (F : Field) (tris tris' : List ℕ) (r : ℕ) : Type 0 where
  pub count : r ≡ length (march F)
  pub most : r ≤ 12 * cells F.box
  pub list : tris' ≡ flat (march F) ++ drop (3 * r) tris

pub marched : (F : Field) (tris tris' : List ℕ) (r : ℕ) → 36 * cells F.box ≤ length tris → Written tris 0 (flat (march F)) tris' (3 * r) → Marched F tris tris' r
marched F tris tris' r room w =
    let n : r ≡ length (march F) = omega (arith, w.next, flat-length (march F)) in
    let fits : 0 + length (flat (march F)) ≤ length tris = omega (arith, flat-length (march F), march-le F) in
    let e : 0 + length (flat (march F)) ≡ 3 * r = omega (arith, flat-length (march F)) in
    record {
      count = n;
      most = omega (arith, march-le F);
      list = written-plain w fits ∙ ap (λ (k : ℕ). flat (march F) ++ drop k tris) e;
    }
