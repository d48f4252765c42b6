-- `rollback::Round::holds` meets its contract. Assumes nothing.
use Prim.Native.Nat.{◌<◌}
use native.Mathlib.Omega.{arith}
use lib.ListN.{length}
use Rattle.lattice.proofs.Sites.{sites-most}
use Rattle.site_vertices.proofs.Drawing.{place-low}
use Rattle.rollback.proofs.Masks.{held-read}
use Rattle.rollback.proofs.Round.holds.Goals as goal

pub offset_bounds-table-k : goal.offset_bounds-table-k
offset_bounds-table-k c = omega (arith, c.edge_place-k.ensures, place-low c.args.self.now.source.sides c.args.s c.args.e c.requires.0.low c.requires.1, sites-most c.args.self.now.source.sides c.args.self.now.source.sampled.fit)

pub bounds-table-k : goal.bounds-table-k
bounds-table-k c = (let the_within : c.edge_place-k.result < length c.args.table.now =
    omega (arith, c.edge_place-k.ensures, place-low c.args.self.now.source.sides c.args.s c.args.e c.requires.0.low c.requires.1, c.requires.0.table) in the_within)

pub returns : goal.returns
returns c = let a = c.args in
    let p = c.edge_place-k in
    held-read a.self.now.source.sides a.table.now a.s a.e a.i p.result p.ensures (let the_within : c.edge_place-k.result < length c.args.table.now =
    omega (arith, c.edge_place-k.ensures, place-low c.args.self.now.source.sides c.args.s c.args.e c.requires.0.low c.requires.1, c.requires.0.table) in the_within)
