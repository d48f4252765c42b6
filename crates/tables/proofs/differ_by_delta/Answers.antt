-- `tables::differ_by_delta` meets its contract. Assumes nothing.
use mathlib.Core.Path.{ap, ◌∙◌}
use Rattle.tables.specs.declared.Delta.{Delta}
use Rattle.tables.specs.Edges.{deltas, among}
use Rattle.tables.proofs.Neighbours.{apart-is}
use Rattle.tables.proofs.differ_by_delta.Goals as goal

pub returns : goal.returns
returns c = c.is_delta.ensures
    ∙ ap (λ (o : Delta). among o deltas) (apart-is c.args.d c.args.g _ _ _ c.requires.0 c.requires.1 c.apart-i.ensures c.apart-j.ensures c.apart-k.ensures)
