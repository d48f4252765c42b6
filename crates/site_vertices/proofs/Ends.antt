-- What the functions of one site need of an edge's other end. Assumes nothing.
use Rattle.std.specs.Prelude.{Option, Some}
use mathlib.Core.Path.{◌≡◌, sym, ◌∙◌}
use mathlib.Core.List.{List}
use Prim.Native.Nat.{ℕ, ◌<◌}
use native.Mathlib.Omega.{arith}
use lib.ListN.{length}
use lib.Ieee.{Float}
use Rattle.lattice.specs.declared.Sides.{Sides}
use Rattle.lattice.specs.declared.Uvw.{Uvw}
use Rattle.lattice.specs.Sites.{SidesFit, sites, InBox}
use Rattle.lattice.specs.Across.{across_of}
use Rattle.lattice.proofs.Sites.{sites-most}
use Rattle.lattice.proofs.OtherEnds.{across-joined}
use Rattle.marks.specs.Inner.Loops.{Sampled}

-- an edge of the site s leads to the site t, and both have samples
pub record Reached (n : Sides) (S : List Float) (s e t : ℕ) : Type 0 where
  pub inside : t < sites n
  pub here_in : s < length S
  pub there_in : t < length S
  pub small : t < 32768
  pub leads : across_of n s e ≡ Some t

pub reached : (n : Sides) (S : List Float) (s e t : ℕ) (o : Option ℕ) → Sampled n S → s < sites n → o ≡ across_of n s e → o ≡ Some t → Reached n S s e t
reached n S s e t o r h a q =
    let x : across_of n s e ≡ Some t = sym a ∙ q in
    let k = (across-joined n s e t r.fit h x).inside in
    record { inside = k; here_in = omega (arith, r.samples); there_in = omega (arith, k, r.samples); small = omega (arith, k, sites-most n r.fit); leads = x }

-- coordinates of the box are small
pub record Small (p : Uvw) : Type 0 where
  pub on_u : p.u < 32
  pub on_v : p.v < 32
  pub on_w : p.w < 32

pub box-small : {p : Uvw} (n : Sides) → SidesFit n → InBox n p → Small p
box-small n f b = record { on_u = omega (arith, b.on_u, f.u_most); on_v = omega (arith, b.on_v, f.v_most); on_w = omega (arith, b.on_w, f.w_most) }
