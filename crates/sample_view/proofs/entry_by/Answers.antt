-- `sample_view::entry_by` meets its contract. Assumes nothing.
use Rattle.std.proofs.Common.{◌∙◌}
use Rattle.sample_view.proofs.Lookups.{by_none, by_found}
use Rattle.sample_view.proofs.entry_by.Goals as goal

pub returns-in_err-end : goal.returns-in_err-end
returns-in_err-end c = c.from_residual.ensures ∙ by_none c.args.samples.now c.args.end c.in_err-end.was

pub returns : goal.returns
returns c = by_found c.args.samples.now c.args.end c.in_ok-end.field-0 _ c.in_ok-end.was c.entry_at.ensures
