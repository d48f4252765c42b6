-- `march::march_layer` meets its contract.
use Rattle.std.proofs.Common.{rules, arith, ◌*◌, ◌-◌}
use Rattle.laws.proofs.Ranges.{each_none}
use Rattle.laws.proofs.Written.{written_none, written-turn, written-done, written-room}
use Rattle.march.specs.Lists.{field_of}
use Rattle.march.specs.Inner.Loop.{row_flat}
use Rattle.march.proofs.Walk.{row_flat-le, slab-rows}
use Rattle.march.proofs.march_layer.Goals as goal

pub loop-v-init : goal.loop-v-init
loop-v-init c = (search rules, rw each_none (written_none _ _))

pub march_row-next-requires-clause-room : goal.march_row-next-requires-clause-room
unfolding field_of
march_row-next-requires-clause-room c = let at = c.loop-v in
    let a = c.args in
    let F = field_of a.n a.s.now a.h a.edges.now in
    written-room (row_flat F) ((a.n.nu - 1) * 36) (row_flat-le F) at.v (a.n.nv - 1) at.invariant.1 c.loop-v-test.true c.requires.nu_in_bounds

pub loop-v-preserved : goal.loop-v-preserved
loop-v-preserved c = let at = c.loop-v in
    (omega arith, written-turn _ at.v at.invariant.1 c.march_row-next.ensures)

pub returns : goal.returns
unfolding field_of
returns c = let at = c.loop-v in
    let a = c.args in
    rw (← slab-rows (field_of a.n a.s.now a.h a.edges.now)) (written-done _ at.v _ at.invariant.1 at.invariant.0 c.loop-v-test.false)
