-- `marks::mark_crossing` meets its contract. Assumes nothing.
use lib.Ieee.{of_bits}
use Rattle.marks.specs.Inner.Loops.{mark_crossing}
use Rattle.marks.proofs.mark_crossing.Goals as goal

pub returns-then-f : goal.returns-then-f
unfolding mark_crossing of_bits
returns-then-f c = rw (c.in-Some.is, c.if-f.true) c.set_bit.ensures

pub returns-else-f : goal.returns-else-f
unfolding mark_crossing of_bits
returns-else-f c = rw (c.in-Some.is, c.if-f.false) c.set_bit-else-f.ensures

pub returns-in_default : goal.returns-in_default
unfolding mark_crossing
returns-in_default c = rw c.in_default.is
