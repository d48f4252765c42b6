-- `ply_write::write_file` meets its contract. Assumes nothing.
use mathlib.Core.List.{map}
use lib.ListN.{length-map}
use Rattle.std.proofs.lemmas.Result.{err_from_is_err_and}
use Rattle.ply_write.proofs.Writing.{started, not-begun, words-room, faces-room, write_done}
use Rattle.ply_write.proofs.write_file.Goals as goal

pub returns-in_err-a : goal.returns-in_err-a
returns-in_err-a g c =
    let p = err_from_is_err_and c.from_residual.result c.from_residual.ensures.1 in
    rw (p.1, p.2) (not-begun _ (map g.W.Word.bits c.args.words.now) _ _ _ (length-map c.args.words.now g.W.Word.bits) _ c.in_err-a.ensures)

pub put_words-b-requires : goal.put_words-b-requires
put_words-b-requires g c = words-room _ (map g.W.Word.bits c.args.words.now) _ _ _ (length-map c.args.words.now g.W.Word.bits) _ (started _ _ _ _ _ c.in_ok-a.ensures)

pub put_faces-requires : goal.put_faces-requires
put_faces-requires g c = faces-room _ _ _ _ _ (length-map c.args.words.now g.W.Word.bits) _ (started _ _ _ _ _ c.in_ok-a.ensures) _ _ c.put_words-b.ensures.written

pub returns : goal.returns
returns g c = write_done _ _ _ _ _ (length-map c.args.words.now g.W.Word.bits) _ (started _ _ _ _ _ c.in_ok-a.ensures) _ _ c.put_words-b.ensures.written c.put_words-b.ensures.small _ _ c.put_faces.ensures
