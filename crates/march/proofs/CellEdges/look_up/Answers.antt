-- `march::CellEdges::look_up` meets its contract: the place is in the table.
use Rattle.laws.proofs.Lists.{get_or-there}
use Rattle.tables.specs.Edges.{du, dv, dw}
use Rattle.march.specs.March.{none}
use Rattle.march.specs.Inner.Loop.{look_up}
use Rattle.march.proofs.Flat.{slot_in}
use Rattle.march.proofs.CellEdges.look_up.Goals as goal

pub returns : goal.returns
unfolding look_up du dv dw
returns c = get_or-there c.args.self.edges.now _ 0 none (slot_in c.args.x c.args.self.in_table)
