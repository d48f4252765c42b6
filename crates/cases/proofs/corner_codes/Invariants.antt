-- The invariant and the measure of each loop of `cases::corner_codes`. Assumes nothing.
use mathlib.Core.List.{[], ◌∷◌}
use Prim.Native.Nat.{ℕ, ◌≤◌, ◌-◌}
use Rattle.laws.specs.Ranges.{each}
use Rattle.laws.specs.Written.{Written}
use Rattle.cases.specs.Cases.{corner_value}
use Rattle.cases.specs.Inner.Codes.{code_of}
use Rattle.cases.proofs.corner_codes.Given as goal

abbrev pub invariant-loop-c : goal.invariant-loop-c
invariant-loop-c l = (l.c ≤ 8) × Written l.initial.r 0 (each l.c (λ (c : ℕ). code_of (corner_value l.n l.s l.u l.v 0 c) l.h ∷ [])) l.r l.c

abbrev pub decreases-loop-c : goal.decreases-loop-c
decreases-loop-c l = 8 - l.c
