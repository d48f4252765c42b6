-- `lattice::above` meets its contract. Assumes nothing.
use mathlib.Core.Path.{sym, ◌∙◌, subst, ap}
use Prim.Native.Nat.{ℕ, ◌<◌}
use Rattle.tables.proofs.Edges.{corner_range}
use Rattle.lattice.specs.Across.{upward}
use Rattle.lattice.proofs.OtherEnds.{above-across}
use Rattle.lattice.proofs.above.Goals as goal

pub up-requires : goal.up-requires
up-requires c = (c.requires.0, c.requires.1, subst (λ (x : ℕ). x < 8) (sym c.label_corner-c.ensures) (corner_range c.args.label c.requires.2).1)

pub returns : goal.returns
returns c = let a = c.args in
    c.up.ensures ∙ ap (upward a.n a.p.u a.p.v a.p.w) c.label_corner-c.ensures ∙ above-across a.n a.p a.label c.requires.1 c.requires.2
