-- `site_vertices::end_at` meets its contract. Assumes nothing.
use native.Mathlib.Omega.{arith}
use mathlib.Core.Path.{sym, ap, ◌∙◌}
use Rattle.stages.specs.Samples.{end_by}
use Rattle.site_vertices.proofs.Ends.{reached}
use Rattle.site_vertices.proofs.end_at.Goals as goal

pub returns-in_err-t : goal.returns-in_err-t
unfolding end_by
returns-in_err-t c = c.from_residual.ensures ∙ sym (ap (end_by c.args.samples.now) (sym c.across.ensures ∙ c.in_err-t.was))

pub offset_bounds-samples-t : goal.offset_bounds-samples-t
offset_bounds-samples-t c = let a = c.args in omega (arith, (reached a.n a.samples.now a.s a.e c.in_ok-t.t _ c.requires.0 c.requires.1 c.across.ensures c.in_ok-t.was).small)

pub bounds-samples-t : goal.bounds-samples-t
bounds-samples-t c = let a = c.args in (reached a.n a.samples.now a.s a.e c.in_ok-t.t _ c.requires.0 c.requires.1 c.across.ensures c.in_ok-t.was).there_in

pub returns : goal.returns
unfolding end_by
returns c = sym (ap (end_by c.args.samples.now) (sym c.across.ensures ∙ c.in_ok-t.was))
