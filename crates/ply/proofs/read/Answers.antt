-- `ply::read` meets its contract. Assumes nothing.
use mathlib.Core.Path.{refl}
use Rattle.std.proofs.lemmas.Result.{err_from_is_err_and}
use Rattle.ply.specs.Answers.{unstored}
use Rattle.ply.proofs.Answering.{read_done}
use Rattle.ply.proofs.read.Goals as goal

pub returns-in_err-found : goal.returns-in_err-found
returns-in_err-found c =
    let p = err_from_is_err_and c.from_residual.result c.from_residual.ensures.1 in
    rw (p.1, p.2) (unstored _ c.in_err-found.ensures refl refl refl)

pub returns : goal.returns
returns c = read_done _ _ _ _ _ _ c.in_ok-found.ensures _ _ _ _ c.get_words.ensures c.get_faces.ensures
