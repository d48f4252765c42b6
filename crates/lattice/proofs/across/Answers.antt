-- `lattice::across` meets its contract. Assumes nothing.
use mathlib.Core.Path.{sym, ◌∙◌, subst}
use Prim.Native.Nat.{ℕ, ◌-◌, ◌<◌}
use native.Mathlib.Omega.{arith}
use Rattle.tables.proofs.Edges.{corner_range}
use Rattle.lattice.specs.Sites.{InBox}
use Rattle.lattice.proofs.Sites.{uvw_box}
use Rattle.lattice.proofs.OtherEnds.{across-up, across-down}
use Rattle.lattice.proofs.across.Goals as goal

pub up-requires : goal.up-requires
up-requires c = let p = c.coordinates-p in
    (c.requires.0, subst (InBox c.args.n) (sym p.ensures) (uvw_box c.args.n c.requires.0 c.args.s c.requires.1), subst (λ (x : ℕ). x < 8) (sym c.label_corner-c.ensures) (corner_range c.args.label c.if-label-lt-OWNED_EDGES.true).1)

pub returns-then-label-lt-OWNED_EDGES : goal.returns-then-label-lt-OWNED_EDGES
returns-then-label-lt-OWNED_EDGES c = c.up.ensures ∙ rw (c.label_corner-c.ensures, c.coordinates-p.ensures) (sym (across-up c.args.n c.args.s c.args.label c.if-label-lt-OWNED_EDGES.true))

pub down-requires : goal.down-requires
down-requires c = let p = c.coordinates-p in
    (c.requires.0, subst (InBox c.args.n) (sym p.ensures) (uvw_box c.args.n c.requires.0 c.args.s c.requires.1), subst (λ (x : ℕ). x < 8) (sym c.label_corner-c-2.ensures) (corner_range (c.args.label - 7) (omega (arith, c.requires.2, c.if-label-lt-OWNED_EDGES.false))).1)

pub returns : goal.returns
returns c = c.down.ensures ∙ rw (c.label_corner-c-2.ensures, c.coordinates-p.ensures) (sym (across-down c.args.n c.args.s c.args.label c.if-label-lt-OWNED_EDGES.false c.requires.2))
