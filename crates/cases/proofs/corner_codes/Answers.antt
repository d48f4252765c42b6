-- `cases::corner_codes` meets its contract. Assumes nothing.
use borrow.Author.Rules.{rules}
use mathlib.Core.Path.{◌≡◌}
use native.Mathlib.Omega.{arith}
use Rattle.laws.proofs.Ranges.{each_none}
use Rattle.laws.proofs.Written.{written_none, written_one, written-turn, written-done, written-length, written-whole}
use Rattle.cases.specs.Inner.Codes.{codes_of}
use Rattle.cases.proofs.corner_codes.Goals as goal

pub loop-c-init : goal.loop-c-init
loop-c-init c = (search rules, rw each_none (written_none _ _))

pub corner_sample-x-requires : goal.corner_sample-x-requires
corner_sample-x-requires c = (c.requires, c.loop-c-test.true)

pub offset_bounds-r-c : goal.offset_bounds-r-c
offset_bounds-r-c c = omega arith

pub bounds-r-c : goal.bounds-r-c
bounds-r-c c = omega (arith, written-length c.loop-c.invariant.1)

pub overflow_step-c : goal.overflow_step-c
overflow_step-c c = omega arith

pub loop-c-smaller : goal.loop-c-smaller
loop-c-smaller c = omega arith

pub loop-c-preserved : goal.loop-c-preserved
loop-c-preserved c = let at = c.loop-c in
    let x = rw c.corner_sample-x.ensures at c.sample_code.ensures in
    (omega arith, written-turn _ at.c at.invariant.1 (rw (← x) (written_one at.r at.c c.sample_code.result)))

pub returns : goal.returns
unfolding codes_of
returns c = let at = c.loop-c in
    let w = written-done _ at.c 8 at.invariant.1 at.invariant.0 c.loop-c-test.false in
    let e : at.c ≡ 8 = omega arith in
    written-whole w e
