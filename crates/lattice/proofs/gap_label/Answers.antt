-- `lattice::gap_label` meets its contract. Assumes nothing.
use Rattle.lattice.proofs.Source.{label_at}
use Rattle.lattice.proofs.gap_label.Goals as goal

-- src/lib.rt:437:1
pub returns : goal.returns
returns c = label_at c.args.x c.args.y c.args.z c.requires.0 c.requires.1 c.requires.2
