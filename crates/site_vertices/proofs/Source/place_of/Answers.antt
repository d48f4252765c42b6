-- `site_vertices::Source::place_of` meets its contract. Assumes nothing.
use native.Mathlib.Omega.{arith}
use mathlib.Core.Path.{sym, ap, ◌∙◌}
use Rattle.lattice.proofs.Sites.{uvw_box}
use Rattle.stages.specs.Samples.{place_of}
use Rattle.site_vertices.proofs.Ends.{reached, box-small}
use Rattle.site_vertices.proofs.Source.place_of.Goals as goal

pub returns-in_err-t : goal.returns-in_err-t
unfolding place_of
returns-in_err-t c = c.from_residual.ensures ∙ sym (ap (place_of c.args.self.now.frame c.args.self.now.sides c.args.self.now.samples.now c.args.s) (sym c.across.ensures ∙ c.in_err-t.was))

pub offset_bounds-self-t : goal.offset_bounds-self-t
offset_bounds-self-t c = let a = c.args in let w = a.self.now in omega (arith, (reached w.sides w.samples.now a.s a.e c.in_ok-t.t _ w.sampled c.requires.0 c.across.ensures c.in_ok-t.was).small)

pub bounds-self-t : goal.bounds-self-t
bounds-self-t c = let a = c.args in let w = a.self.now in (reached w.sides w.samples.now a.s a.e c.in_ok-t.t _ w.sampled c.requires.0 c.across.ensures c.in_ok-t.was).there_in

pub edge_point-requires : goal.edge_point-requires
edge_point-requires c = let s = c.args in
    let a = box-small s.self.now.sides s.self.now.sampled.fit (uvw_box s.self.now.sides s.self.now.sampled.fit s.s c.requires.0) in
    let b = box-small s.self.now.sides s.self.now.sampled.fit (uvw_box s.self.now.sides s.self.now.sampled.fit c.in_ok-t.t (reached s.self.now.sides s.self.now.samples.now s.s s.e c.in_ok-t.t _ s.self.now.sampled c.requires.0 c.across.ensures c.in_ok-t.was).inside) in
    rw (c.coordinates-a.ensures, c.coordinates-b.ensures) (a.on_u, a.on_v, a.on_w, b.on_u, b.on_v, b.on_w)

pub returns : goal.returns
unfolding place_of
returns c = let s = c.args in
    c.edge_point.ensures ∙ rw (c.coordinates-a.ensures, c.coordinates-b.ensures) (sym (ap (place_of s.self.now.frame s.self.now.sides s.self.now.samples.now s.s) (sym c.across.ensures ∙ c.in_ok-t.was)))
