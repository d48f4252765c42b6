-- The masks as they are found: all of a list that has one a site. Assumes nothing.
use mathlib.Core.Path.{◌≡◌, sym, ap, ◌∙◌}
use mathlib.Core.List.{List, ◌++◌, append-nil}
use Prim.Native.Nat.{ℕ}
use native.Mathlib.Omega.{arith}
use lib.ListN.{length, get_or, drop}
use lib.Seq.{drop-length}
use lib.Ieee.{Float}
use Rattle.laws.proofs.Ranges.{each-one-at, each-one-length}
use Rattle.lattice.specs.declared.Sides.{Sides}
use Rattle.lattice.specs.Sites.{sites}
use Rattle.marks.specs.Marks.{mask_at, masks_of}
use Rattle.marks.specs.Inner.Loops.{Sampled}
use Rattle.vertex_pass.specs.Inner.Passing.{Masked}

module _ (n : Sides) (S : List Float) (h : Float) (m m' : List ℕ) (e : m' ≡ masks_of n S h ++ drop (sites n) m) (l : length m ≡ sites n) where
  pub masks_whole : m' ≡ masks_of n S h
  masks_whole = e ∙ ap (λ (k : ℕ). masks_of n S h ++ drop k m) (sym l) ∙ ap (λ (x : List ℕ). masks_of n S h ++ x) (drop-length m) ∙ append-nil (masks_of n S h)

  pub masks_masked : Sampled n S → Masked n S h m'
  unfolding masks_of
  masks_masked s = record {
    sampled = s;
    long = omega (arith, ap length masks_whole, each-one-length (sites n) (mask_at n S h));
    are = λ i b. ap (λ (x : List ℕ). get_or x i 0) masks_whole ∙ each-one-at 0 (sites n) (mask_at n S h) i b;
  }
