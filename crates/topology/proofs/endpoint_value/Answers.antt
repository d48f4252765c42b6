-- `topology::endpoint_value` meets its contract. Assumes nothing.
use Rattle.std.proofs.Common.{sym, ap, ◌∙◌}
use Rattle.samples.specs.Sides.{known}
use Rattle.topology.proofs.endpoint_value.Goals as goal

pub returns-in_err-end : goal.returns-in_err-end
unfolding known
returns-in_err-end c = c.from_residual.ensures ∙ sym (ap known c.in_err-end.was)

pub returns : goal.returns
unfolding known
returns c = c.finite_sample.ensures ∙ sym (ap known c.in_ok-end.was)
