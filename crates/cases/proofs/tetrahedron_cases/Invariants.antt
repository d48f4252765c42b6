-- The invariant and the measure of each loop of `cases::tetrahedron_cases`. Assumes nothing.
use mathlib.Core.List.{[], ◌∷◌}
use Prim.Native.Nat.{ℕ, ◌≤◌, ◌-◌}
use Rattle.laws.specs.Ranges.{each}
use Rattle.laws.specs.Written.{Written}
use Rattle.cases.specs.Inner.Codes.{case_on}
use Rattle.cases.proofs.tetrahedron_cases.Given as goal

abbrev pub invariant-loop-t : goal.invariant-loop-t
invariant-loop-t l = (l.t ≤ 6) × Written l.initial.r 0 (each l.t (λ (t : ℕ). case_on l.codes t ∷ [])) l.r l.t

abbrev pub decreases-loop-t : goal.decreases-loop-t
decreases-loop-t l = 6 - l.t
