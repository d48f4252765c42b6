-- `pairs::list_sides` meets its contract. Assumes nothing.
use Rattle.pairs.proofs.Listing.{listed}
use Rattle.pairs.proofs.list_sides.Goals as goal

pub returns : goal.returns
returns c = let full = c.fill in
    let sorted = c.arrange in
    listed c.args.tris.now c.requires.whole c.args.room.now c.requires.nine full.new.room sorted.new.room full.ensures full.auto.room sorted.ensures
