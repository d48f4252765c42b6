-- `marks::Field::site` meets its contract. Assumes nothing.
use Rattle.marks.proofs.Rooms.{row-site, row-box, row-inside}
use Rattle.marks.proofs.Field.site.Goals as goal

pub sample-requires : goal.sample-requires
sample-requires c = row-inside c.args.self.now.sides c.args.u c.args.v c.args.self.now.sampled.fit c.requires.0 c.requires.1

pub invariant_of-result : goal.invariant_of-result
invariant_of-result c = let n = c.args.self.now.sides in
    let u = c.args.u in
    let v = c.args.v in
    let fit = c.args.self.now.sampled.fit in record {
      in_box = row-box n u v fit c.requires.0 c.requires.1;
      numbered = row-site n u v;
      inside = row-inside n u v fit c.requires.0 c.requires.1;
      valued = c.sample.ensures;
    }
