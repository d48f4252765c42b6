-- `sample_view::value_at` meets its contract. Assumes nothing.
use mathlib.Core.Path.{sym, ◌∙◌}
use Rattle.lattice.proofs.Sites.{sides-fit}
use Rattle.sample_view.proofs.Lookups.{at_there, at_past, at-unfit}
use Rattle.sample_view.proofs.value_at.Goals as goal

pub site_count-requires : goal.site_count-requires
site_count-requires c = sides-fit c.args.n (sym c.sides_ok.ensures ∙ c.if-sides_ok.true)

pub returns-then-s-site_count : goal.returns-then-s-site_count
returns-then-s-site_count c = let a = c.args in
    at_there a.n a.samples.now a.s _ _ (sym c.sides_ok.ensures ∙ c.if-sides_ok.true) c.site_count.ensures c.if-s-site_count.true c.entry_at.ensures

pub returns-else-s-site_count : goal.returns-else-s-site_count
returns-else-s-site_count c = let a = c.args in
    at_past a.n a.samples.now a.s _ (sym c.sides_ok.ensures ∙ c.if-sides_ok.true) c.site_count.ensures c.if-s-site_count.false

pub returns-else-sides_ok : goal.returns-else-sides_ok
returns-else-sides_ok c = let a = c.args in at-unfit a.n a.samples.now a.s (sym c.sides_ok.ensures ∙ c.if-sides_ok.false)
