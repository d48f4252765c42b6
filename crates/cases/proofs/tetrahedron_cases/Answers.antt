-- `cases::tetrahedron_cases` meets its contract. Assumes nothing.
use borrow.Author.Rules.{rules}
use mathlib.Core.Path.{◌≡◌, ap, ◌∙◌}
use mathlib.Core.List.{List, [], ◌∷◌}
use Prim.Native.Nat.{ℕ}
use native.Mathlib.Omega.{arith}
use Rattle.laws.proofs.Ranges.{each_none, each_same}
use Rattle.laws.proofs.Written.{written_none, written_one, written-turn, written-done, written-length, written-whole}
use Rattle.cases.specs.Cases.{cases_at}
use Rattle.cases.specs.Inner.Codes.{case_on}
use Rattle.cases.proofs.Codes.{codes_coded, case_on_lem}
use Rattle.cases.proofs.tetrahedron_cases.Goals as goal

pub corner_codes-codes-requires : goal.corner_codes-codes-requires
corner_codes-codes-requires c = c.requires

pub loop-t-init : goal.loop-t-init
loop-t-init c = (search rules, rw each_none (written_none _ _))

pub case_at-requires : goal.case_at-requires
case_at-requires c = let a = c.args in (rw c.corner_codes-codes.ensures (codes_coded a.n a.s.now a.h a.u a.v), search rules)

pub offset_bounds-r-t : goal.offset_bounds-r-t
offset_bounds-r-t c = omega arith

pub bounds-r-t : goal.bounds-r-t
bounds-r-t c = omega (arith, written-length c.loop-t.invariant.1)

pub overflow_step-t : goal.overflow_step-t
overflow_step-t c = omega arith

pub loop-t-smaller : goal.loop-t-smaller
loop-t-smaller c = omega arith

pub loop-t-preserved : goal.loop-t-preserved
loop-t-preserved c = let at = c.loop-t in
    (omega arith, written-turn _ at.t at.invariant.1 (rw (← c.case_at.ensures) (written_one at.r at.t c.case_at.result)))

pub returns : goal.returns
unfolding cases_at
returns c = let at = c.loop-t in
    let a = c.args in
    let w = written-done _ at.t 6 at.invariant.1 at.invariant.0 c.loop-t-test.false in
    let e : at.t ≡ 6 = omega arith in
    written-whole w e
    ∙ each_same 6 _ _ (λ t l. ap (λ (x : ℕ). x ∷ [])
    (ap (λ (q : List ℕ). case_on q t) c.corner_codes-codes.ensures ∙ case_on_lem a.n a.s.now a.h a.u a.v t l))
