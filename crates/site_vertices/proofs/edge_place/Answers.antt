-- `site_vertices::edge_place` meets its contract. Assumes nothing.
use native.Mathlib.Omega.{arith}
use mathlib.Core.Path.{sym, ap, ◌∙◌}
use Prim.Native.Nat.{ℕ, ◌+◌, ◌*◌, ◌-◌}
use Rattle.lattice.proofs.Sites.{sites-most}
use Rattle.stages.proofs.SampleMarks.{owned-low, owned_high}
use Rattle.site_vertices.proofs.edge_place.Goals as goal

pub overflow_mul-result : goal.overflow_mul-result
overflow_mul-result c = omega (arith, c.requires.1, sites-most c.args.n c.requires.0)

pub overflow_add-result : goal.overflow_add-result
overflow_add-result c = omega (arith, c.requires.1, sites-most c.args.n c.requires.0, c.if-e-lt-OWNED_EDGES.true)

pub returns-then-e-lt-OWNED_EDGES : goal.returns-then-e-lt-OWNED_EDGES
returns-then-e-lt-OWNED_EDGES c = sym (owned-low c.args.n c.args.s c.args.e c.if-e-lt-OWNED_EDGES.true)

pub overflow_mul-result-then-far-s : goal.overflow_mul-result-then-far-s
overflow_mul-result-then-far-s c = omega (arith, c.requires.1, sites-most c.args.n c.requires.0)

pub overflow_add-result-then-far-s : goal.overflow_add-result-then-far-s
overflow_add-result-then-far-s c = omega (arith, c.requires.1, sites-most c.args.n c.requires.0, c.requires.2)

pub returns-then-far-s : goal.returns-then-far-s
returns-then-far-s c = let s = c.args in
    ap (λ (x : ℕ). 7 * (s.s - x) + (s.e - 7)) c.reach_of-far.ensures ∙ sym (owned_high s.n s.s s.e c.if-e-lt-OWNED_EDGES.false)

pub returns : goal.returns
returns c = let s = c.args in omega (arith, c.if-far-s.false, c.reach_of-far.ensures, owned_high s.n s.s s.e c.if-e-lt-OWNED_EDGES.false)
