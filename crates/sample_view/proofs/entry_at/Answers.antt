-- `sample_view::entry_at` meets its contract. Assumes nothing.
use Rattle.std.proofs.Common.{rules}
use Rattle.sample_view.specs.View.{entry_at}
use Rattle.sample_view.proofs.entry_at.Goals as goal

pub returns : goal.returns
unfolding entry_at
returns c = search rules
