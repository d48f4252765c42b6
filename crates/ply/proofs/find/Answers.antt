-- `ply::find` meets its contract. Assumes nothing.
use Rattle.ply.proofs.Answering.{short-words, short_triangles}
use Rattle.ply.proofs.find.Goals as goal
use Rattle.ply.proofs.find.Goals.{then-words-counts-via-then-words-counts, then-words-counts-via-else-words-counts+then-triangles-counts}

pub returns-then-words-counts : goal.returns-then-words-counts
returns-then-words-counts c = elim c.then-words-counts.branch [
  | then-words-counts-via-then-words-counts w ↦ short-words _ _ _ _ c.in_ok-found.ensures _ _ w.if-words-counts.true
  | then-words-counts-via-else-words-counts+then-triangles-counts w ↦ short_triangles _ _ _ _ c.in_ok-found.ensures _ _ w.if-triangles-counts.true
]
