-- `marks::crosses_at` meets its contract. Assumes nothing.
use native.Mathlib.Omega.{arith}
use mathlib.Core.Bool.{true, false}
use Rattle.laws.specs.Bools.{bit}
use Rattle.marks.specs.Marks.{crossed_by, is_crossed}
use Rattle.marks.proofs.Rooms.{number-lt, other-lt, cross_some}
use Rattle.marks.proofs.crosses_at.Goals as goal

pub bounds-samples-s : goal.bounds-samples-s
bounds-samples-s c = let a = c.args in
    omega (arith, c.requires.sampled.samples, number-lt a.n a.p a.s c.requires.in_box.0 c.requires.in_box.1)

pub offset_bounds-samples-s : goal.offset_bounds-samples-s
offset_bounds-samples-s c = let a = c.args in
    omega (arith, c.requires.sampled.samples, number-lt a.n a.p a.s c.requires.in_box.0 c.requires.in_box.1)

pub bounds-samples-t : goal.bounds-samples-t
bounds-samples-t c = let a = c.args in
    omega (arith, c.requires.sampled.samples, other-lt a.n a.p a.s a.label c.in-Some.t c.requires.sampled.fit c.requires.in_box.0 c.requires.in_box.1 (rw (c.requires.in_box.1, ← c.above-end.ensures) c.in-Some.is))

pub offset_bounds-samples-t : goal.offset_bounds-samples-t
offset_bounds-samples-t c = let a = c.args in
    omega (arith, c.requires.sampled.samples, other-lt a.n a.p a.s a.label c.in-Some.t c.requires.sampled.fit c.requires.in_box.0 c.requires.in_box.1 (rw (c.requires.in_box.1, ← c.above-end.ensures) c.in-Some.is))

pub returns-in-None : goal.returns-in-None
unfolding is_crossed crossed_by bit
returns-in-None c = rw (c.requires.in_box.1, ← c.above-end.ensures, c.in-None.is)

pub returns-then-is_inside : goal.returns-then-is_inside
returns-then-is_inside c = let a = c.args in
    cross_some a.n a.samples.now a.h a.s a.label c.in-Some.t true (rw (c.requires.in_box.1, ← c.above-end.ensures) c.in-Some.is)
    (rw (← c.is_inside-in-Some.ensures, ← c.is_inside.ensures) c.if-is_inside.true)

pub returns-else-is_inside : goal.returns-else-is_inside
returns-else-is_inside c = let a = c.args in
    cross_some a.n a.samples.now a.h a.s a.label c.in-Some.t false (rw (c.requires.in_box.1, ← c.above-end.ensures) c.in-Some.is)
    (rw (← c.is_inside-in-Some.ensures, ← c.is_inside.ensures) c.if-is_inside.false)
