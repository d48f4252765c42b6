-- `march::CellEdges::corner_vertex` meets its contract: an edge of a row of the case table is one of the cell's.
use Rattle.std.proofs.Common.{arith, ◌+◌, ◌*◌, ◌<◌}
use Rattle.tables.proofs.Cases.{mt_edges}
use Rattle.tables.proofs.Tets.{tet_owned}
use Rattle.march.specs.Inner.Loop.{corner_at}
use Rattle.march.proofs.CellEdges.corner_vertex.Goals as goal

pub tet_slot-x-requires : goal.tet_slot-x-requires
tet_slot-x-requires c = (c.requires.0, rw c.mt_edge-e.ensures (mt_edges c.args.case (3 * c.args.k + c.args.c) c.requires.1))

pub look_up-requires : goal.look_up-requires
look_up-requires c = let e : c.mt_edge-e.result < 6 = rw c.mt_edge-e.ensures (mt_edges c.args.case (3 * c.args.k + c.args.c) c.requires.1) in rw c.tet_slot-x.ensures (omega (arith, (tet_owned c.args.t c.mt_edge-e.result c.requires.0 e).inside))

pub returns : goal.returns
unfolding corner_at
returns c = rw (← c.mt_edge-e.ensures, ← c.tet_slot-x.ensures) c.look_up.ensures
