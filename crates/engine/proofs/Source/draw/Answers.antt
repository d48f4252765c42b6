-- `engine::Source::draw` meets its contract. Assumes nothing.
use Rattle.engine.proofs.Passes.{pass_ahead, pass_stands, pass_split}
use Rattle.vertex_pass.specs.Inner.Passing.{flag_of}
use native.Mathlib.Omega.{arith}
use mathlib.Core.Path.{refl}
use Rattle.engine.proofs.Source.draw.Goals as goal

pub draw_box-walk-requires : goal.draw_box-walk-requires
draw_box-walk-requires c = let a = c.args in
    let L = c.requires.0 in
    record { masked = (L.masked, L.table); ahead = pass_ahead a.self.job a.self.samples.now (flag_of a.flags.now) L.masked.sampled.fit c.requires.1 a.positions.now a.book.now L.positions L.book }

pub march_box-triangles-requires : goal.march_box-triangles-requires
march_box-triangles-requires c = let L = c.requires.0 in
    record { fit = L.masked.sampled.fit; samples = L.masked.sampled.samples; table = omega (arith, L.table, c.draw_box-walk.auto.table); room = omega (arith, L.triangles) }

pub returns : goal.returns
returns c = let a = c.args in
    let d = c.draw_box-walk in
    let q = flag_of a.flags.now in
    let fit = c.requires.0.masked.sampled.fit in
    record {
      stands = λ x. pass_stands a.self.job a.self.samples.now q fit x d.result d.ensures _ refl c.march_box-triangles.ensures a.table.now;
      split = λ x. pass_split a.self.job a.self.samples.now q fit x d.result d.ensures;
      cases = d.ensures.cases;
    }
