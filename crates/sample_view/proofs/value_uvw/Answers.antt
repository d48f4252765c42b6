-- `sample_view::value_uvw` meets its contract. Assumes nothing.
use mathlib.Core.Path.{sym, ◌∙◌}
use Rattle.lattice.proofs.Sites.{sides-fit}
use Rattle.sample_view.proofs.Lookups.{uvw_there, uvw_past_u, uvw_past_v, uvw_past_w, uvw_unfit}
use Rattle.sample_view.proofs.value_uvw.Goals as goal

pub site_number-s-requires : goal.site_number-s-requires
site_number-s-requires c = (sides-fit c.args.n (sym c.sides_ok.ensures ∙ c.if-sides_ok.true), record { on_u = c.if-u-n.true; on_v = c.if-v-n.true; on_w = c.if-w-n.true })

pub returns-then-w-n : goal.returns-then-w-n
returns-then-w-n c = let a = c.args in
    uvw_there a.n a.samples.now a.u a.v a.w _ _ (sym c.sides_ok.ensures ∙ c.if-sides_ok.true) c.if-u-n.true c.if-v-n.true c.if-w-n.true c.site_number-s.ensures c.entry_at.ensures

pub returns-else-w-n : goal.returns-else-w-n
returns-else-w-n c = let a = c.args in
    uvw_past_w a.n a.samples.now a.u a.v a.w (sym c.sides_ok.ensures ∙ c.if-sides_ok.true) c.if-u-n.true c.if-v-n.true c.if-w-n.false

pub returns-else-v-n : goal.returns-else-v-n
returns-else-v-n c = let a = c.args in
    uvw_past_v a.n a.samples.now a.u a.v a.w (sym c.sides_ok.ensures ∙ c.if-sides_ok.true) c.if-u-n.true c.if-v-n.false

pub returns-else-u-n : goal.returns-else-u-n
returns-else-u-n c = let a = c.args in
    uvw_past_u a.n a.samples.now a.u a.v a.w (sym c.sides_ok.ensures ∙ c.if-sides_ok.true) c.if-u-n.false

pub returns-else-sides_ok : goal.returns-else-sides_ok
returns-else-sides_ok c = let a = c.args in uvw_unfit a.n a.samples.now a.u a.v a.w (sym c.sides_ok.ensures ∙ c.if-sides_ok.false)
