-- A site's mask depends only on its own sample and those across its fourteen edges. Assumes nothing.
use Rattle.std.specs.Prelude.{Option, None, Some}
use mathlib.Core.Path.{◌≡◌, refl, ap₂}
use mathlib.Core.Bool.{cond}
use mathlib.Core.List.{List}
use Prim.Native.Nat.{ℕ, ◌<◌}
use lib.Dec.{ltb}
use lib.Ieee.{Float}
use Rattle.laws.proofs.Digits.{mask-same}
use Rattle.samples.specs.Sides.{crossing, near}
use Rattle.lattice.specs.declared.Sides.{Sides}
use Rattle.lattice.specs.Across.{across_of}
use Rattle.marks.specs.Marks.{sample, beyond, marked_by, marked, mask_at}

by_same : (S S' : List Float) (h : Float) (s e : ℕ) (o : Option ℕ) → sample S s ≡ sample S' s → ((t : ℕ) → o ≡ Some t → sample S t ≡ sample S' t)
    → marked_by S h s e o ≡ marked_by S' h s e o
unfolding marked_by
by_same S S' h s e None p q = refl
by_same S S' h s e (Some t) p q =
    ap₂ (λ (x y : Float). cond (ltb e 7) (near (crossing x y h)) (beyond (crossing y x h))) p (q t refl)

-- samples that agree at the site and at its neighbours in the box give it the same mask
pub mask_local : (n : Sides) (S S' : List Float) (h : Float) (s : ℕ) → sample S s ≡ sample S' s
    → ((e t : ℕ) → e < 14 → across_of n s e ≡ Some t → sample S t ≡ sample S' t) → mask_at n S h s ≡ mask_at n S' h s
unfolding mask_at marked
mask_local n S S' h s p q = mask-same 14 (marked n S h s) (marked n S' h s) (λ e he. by_same S S' h s e (across_of n s e) p (λ t a. q e t he a))
