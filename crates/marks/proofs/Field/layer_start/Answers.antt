-- `marks::Field::layer_start` meets its contract. Assumes nothing.
use Rattle.marks.proofs.Rooms.{layer-starts}
use Rattle.marks.proofs.Field.layer_start.Goals as goal

pub returns-clause-inside : goal.returns-clause-inside
returns-clause-inside c = layer-starts c.args.self.now.sides c.args.w c.requires
