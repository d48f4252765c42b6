-- `marks::mark_box` meets its contract. Assumes nothing.
use Rattle.marks.proofs.Masks.{box-done}
use Rattle.marks.proofs.mark_box.Goals as goal

pub returns : goal.returns
returns c = box-done c.args.n c.args.samples.now c.args.h c.site_count-k.result c.args.masks.now c.clear.new.masks c.mark_layers.new.masks
    c.requires.fit c.site_count-k.ensures c.clear.ensures c.mark_layers.ensures
