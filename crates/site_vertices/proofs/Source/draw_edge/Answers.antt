-- `site_vertices::Source::draw_edge` meets its contract. Assumes nothing.
use native.Mathlib.Omega.{arith}
use mathlib.Core.Path.{sym, ◌∙◌}
use Rattle.lattice.proofs.Sites.{sites-most}
use Rattle.site_vertices.proofs.Drawing.{place-low, edge_none, edge-some}
use Rattle.site_vertices.proofs.Source.draw_edge.Goals as goal

pub offset_bounds-table-k : goal.offset_bounds-table-k
offset_bounds-table-k c = omega (arith, c.edge_place-k.ensures, place-low c.args.self.now.sides c.args.s c.args.e c.requires.0.low c.requires.1, sites-most c.args.self.now.sides c.args.self.now.sampled.fit)

pub bounds-table-k : goal.bounds-table-k
bounds-table-k c = omega (arith, c.edge_place-k.ensures, place-low c.args.self.now.sides c.args.s c.args.e c.requires.0.low c.requires.1, c.requires.0.table)

pub returns-in-None : goal.returns-in-None
returns-in-None c = let a = c.args in
    let w = a.self.now in
    edge_none w.frame w.sides w.samples.now a.s a.id a.e a.table.now a.sum (sym c.place_of.ensures ∙ c.in-None.is)

pub returns-in-Some : goal.returns-in-Some
returns-in-Some c = let a = c.args in
    let w = a.self.now in
    let k = c.edge_place-k in
    let d = edge-some w.frame w.sides w.samples.now a.s a.id a.e a.table.now a.sum c.in-Some.p k.result (sym c.place_of.ensures ∙ c.in-Some.is) k.ensures in
    record { sum = c.with_point.ensures ∙ d.sum; table = d.table }
