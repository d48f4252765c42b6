-- `engine::run` meets its contract. Assumes nothing.
use Rattle.engine.proofs.Masks.{masks_masked, masks_whole}
use Rattle.engine.proofs.Unique.{finished_made, finished_lists}
use lib.ListN.{replicate}
use mathlib.Core.Path.{ap, ◌∙◌}
use Rattle.engine.proofs.run.Goals as goal

pub make-made-requires : goal.make-made-requires
make-made-requires c = let a = c.args in
    let H = c.requires in
    record {
      lists = record {
        masked = masks_masked a.job.sides a.samples.now a.job.threshold a.masks.now _ c.mark_box.ensures H.masks (record { fit = H.fit; samples = H.samples });
        table = H.table;
        positions = H.positions;
        book = H.book;
        triangles = H.triangles;
      };
      rounds = H.rounds;
      edges = H.edges;
    }

pub returns : goal.returns
returns c = let a = c.args in
    let z = c.make-made in
    record {
      made = finished_made a.job a.samples.now z.ensures;
      masks = masks_whole a.job.sides a.samples.now a.job.threshold a.masks.now _ c.mark_box.ensures c.requires.masks;
      lists = finished_lists a.job a.samples.now z.ensures;
      edges = c.clear.ensures ∙ ap (λ x. replicate x 0) (z.auto.room ∙ c.requires.edges);
    }
