-- `ply::sizes` meets its contract. Assumes nothing.
use mathlib.Core.Path.{refl}
use Rattle.std.proofs.lemmas.Result.{err_from_is_err_and}
use Rattle.ply.specs.Answers.{unread}
use Rattle.ply.proofs.Answering.{sizes-known}
use Rattle.ply.proofs.sizes.Goals as goal

pub returns-in_err-look : goal.returns-in_err-look
returns-in_err-look c =
    let p = err_from_is_err_and c.from_residual.result c.from_residual.ensures.1 in
    rw (p.1, p.2) (unread _ c.in_err-look.ensures refl)

pub returns : goal.returns
returns c = sizes-known _ _ _ _ c.in_ok-look.ensures
