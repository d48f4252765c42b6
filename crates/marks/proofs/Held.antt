-- Every mask of a box is the same whether the free or the held fraction is compared with 0.5. Assumes nothing.
use Rattle.std.specs.Prelude.{Option, None, Some}
use mathlib.Core.Path.{◌≡◌, refl, ap}
use mathlib.Core.Bool.{not}
use mathlib.Core.List.{List, [], ◌∷◌}
use Prim.Native.Nat.{ℕ}
use lib.Ieee.{Float}
use Rattle.laws.proofs.Ranges.{each_same}
use Rattle.laws.proofs.Digits.{mask-same}
use Rattle.samples.specs.Sides.{crossing, is_near}
use Rattle.samples.specs.Held.{held_crossing}
use Rattle.samples.proofs.Held.{hold-near, held_by, held-near}
use Rattle.lattice.specs.declared.Sides.{Sides}
use Rattle.lattice.specs.Sites.{sites}
use Rattle.lattice.specs.Across.{across_of}
use Rattle.marks.specs.Marks.{sample, beyond, marked_by, marked, mask_at, masks_of}
use Rattle.marks.specs.Held.{held_marked_by, held_masks}

held-beyond : (a b h : Float) → beyond (held_crossing a b h) ≡ beyond (crossing a b h)
held-beyond = held_by beyond (λ t. ap not (hold-near t))

held-marked : (S : List Float) (h : Float) (s e : ℕ) (o : Option ℕ) → held_marked_by S h s e o ≡ marked_by S h s e o
unfolding held_marked_by marked_by is_near
held-marked S h s e None = refl
held-marked S h s e (Some t) = rw (held-near (sample S s) (sample S t) h, held-beyond (sample S t) (sample S s) h)

pub held_masks_lem : (n : Sides) (S : List Float) (h : Float) → held_masks n S h ≡ masks_of n S h
unfolding held_masks masks_of mask_at marked
held_masks_lem n S h =
    each_same (sites n) _ _
    (λ s _. ap (λ (m : ℕ). m ∷ []) (mask-same 14 _ _ (λ e _. held-marked S h s e (across_of n s e))))
