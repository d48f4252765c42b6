-- `marks::Field::from_layer` meets its contract. Assumes nothing.
use Rattle.laws.proofs.Tails.{tail_is}
use Rattle.marks.proofs.Rooms.{layer_sampled}
use Rattle.marks.proofs.Field.from_layer.Goals as goal

pub invariant_of-result : goal.invariant_of-result
invariant_of-result c = let field = c.args.self.now in
    record { sampled = rw (tail_is, c.layer_start-a.ensures.number) (layer_sampled field.sides c.args.w field.samples.now field.sampled c.requires) }
