-- The marks with the held fraction in the place of the free one (docs/SCOPE.md, S3.4): nothing but the theorem asks for them that they are the same. Assumes nothing.
use Rattle.std.specs.Prelude.{Bool, false, cond, List, [], ◌∷◌, ℕ, ltb, Float, Option, None, Some}
use Rattle.laws.specs.Ranges.{each}
use Rattle.laws.specs.Digits.{mask}
use Rattle.samples.specs.Sides.{near}
use Rattle.samples.specs.Held.{held_crossing}
use Rattle.lattice.specs.declared.Sides.{Sides}
use Rattle.lattice.specs.Sites.{sites}
use Rattle.lattice.specs.Across.{across_of}
use Rattle.marks.specs.Marks.{sample, beyond}

unfoldable pub held_marked_by : List Float → Float → ℕ → ℕ → Option ℕ → Bool
held_marked_by S h s e None = false
held_marked_by S h s e (Some t) = cond (ltb e 7) (near (held_crossing (sample S s) (sample S t) h)) (beyond (held_crossing (sample S t) (sample S s) h))

unfoldable pub held_masks : Sides → List Float → Float → List ℕ
held_masks n S h = each (sites n) (λ s. mask 14 (λ e. held_marked_by S h s e (across_of n s e)) ∷ [])
