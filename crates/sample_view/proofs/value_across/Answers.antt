-- `sample_view::value_across` meets its contract. Assumes nothing.
use mathlib.Core.Path.{◌≡◌, sym, ◌∙◌, subst}
use mathlib.Core.Bool.{true}
use Prim.Native.Nat.{ℕ, ◌<◌}
use native.Mathlib.Omega.{arith}
use Rattle.lattice.specs.Sites.{sides_ok}
use Rattle.lattice.proofs.Sites.{sides-fit}
use Rattle.sample_view.proofs.Lookups.{across-there, across_no_edge, across_past, across-unfit}
use Rattle.sample_view.proofs.value_across.Goals as goal

pub site_count-requires : goal.site_count-requires
site_count-requires c = sides-fit c.args.n (let the_fit : sides_ok c.args.n ≡ true = sym c.sides_ok.ensures ∙ c.if-sides_ok.true in the_fit)

pub across-end-requires : goal.across-end-requires
across-end-requires c = let a = c.args in
    (sides-fit a.n (let the_fit : sides_ok c.args.n ≡ true = sym c.sides_ok.ensures ∙ c.if-sides_ok.true in the_fit), subst (λ (k : ℕ). a.s < k) c.site_count.ensures c.if-s-site_count.true, omega (arith, c.if-e-lt-EDGES.true))

pub returns-then-e-lt-EDGES : goal.returns-then-e-lt-EDGES
returns-then-e-lt-EDGES c = let a = c.args in
    across-there a.n a.samples.now a.s a.e _ _ _ (let the_fit : sides_ok c.args.n ≡ true = sym c.sides_ok.ensures ∙ c.if-sides_ok.true in the_fit) c.site_count.ensures c.if-s-site_count.true c.if-e-lt-EDGES.true c.across-end.ensures c.entry_by.ensures

pub returns-else-e-lt-EDGES : goal.returns-else-e-lt-EDGES
returns-else-e-lt-EDGES c = let a = c.args in
    across_no_edge a.n a.samples.now a.s a.e _ (let the_fit : sides_ok c.args.n ≡ true = sym c.sides_ok.ensures ∙ c.if-sides_ok.true in the_fit) c.site_count.ensures c.if-s-site_count.true c.if-e-lt-EDGES.false

pub returns-else-s-site_count : goal.returns-else-s-site_count
returns-else-s-site_count c = let a = c.args in
    across_past a.n a.samples.now a.s a.e _ (let the_fit : sides_ok c.args.n ≡ true = sym c.sides_ok.ensures ∙ c.if-sides_ok.true in the_fit) c.site_count.ensures c.if-s-site_count.false

pub returns-else-sides_ok : goal.returns-else-sides_ok
returns-else-sides_ok c = let a = c.args in across-unfit a.n a.samples.now a.s a.e (sym c.sides_ok.ensures ∙ c.if-sides_ok.false)
