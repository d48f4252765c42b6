-- `refusals::inside_ok` meets its contract. Assumes nothing.
use lib.Ieee.{of_bits}
use Rattle.refusals.specs.Refusals.{inside_ok}
use Rattle.refusals.proofs.inside_ok.Goals as goal

pub returns-then-h : goal.returns-then-h
unfolding inside_ok of_bits
returns-then-h c = rw c.if-h.true

pub returns-else-h : goal.returns-else-h
unfolding inside_ok of_bits
returns-else-h c = rw c.if-h.false
