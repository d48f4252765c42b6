-- `vertex_pass::is_split` meets its contract. Assumes nothing.
use Rattle.vertex_pass.proofs.Passing.{flag_read, flag_past, flag_few}
use Rattle.vertex_pass.proofs.is_split.Goals as goal

pub returns-then-i-flags : goal.returns-then-i-flags
returns-then-i-flags c = let a = c.args in flag_read a.flags.now a.i a.held c.if-held-gt1.true

pub returns-else-i-flags : goal.returns-else-i-flags
returns-else-i-flags c = let a = c.args in flag_past a.flags.now a.i a.held c.if-i-flags.false

pub returns-else-held-gt1 : goal.returns-else-held-gt1
returns-else-held-gt1 c = let a = c.args in flag_few a.flags.now a.i a.held c.if-held-gt1.false
