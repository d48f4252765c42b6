-- `lines::key_end` meets its contract. Assumes nothing.
use mathlib.Core.Path.{sym, ◌∙◌}
use native.Mathlib.Omega.{arith}
use lib.ListN.{drop, length-drop}
use Rattle.laws.proofs.Tails.{tail_is}
use Rattle.lines.proofs.Rows.{key_found, key_none}
use Rattle.lines.proofs.key_end.Goals as goal

pub returns-in-Some : goal.returns-in-Some
returns-in-Some c = let a = c.args in
    let e = rw tail_is at c.first_equals.ensures in
    omega (arith, key_found (drop a.p a.keys.now) c.in-Some.i (sym e ∙ c.in-Some.is))

pub returns-in-None : goal.returns-in-None
returns-in-None c = let a = c.args in
    let e = rw tail_is at c.first_equals.ensures in
    omega (arith, key_none (drop a.p a.keys.now) (sym e ∙ c.in-None.is), length-drop a.p a.keys.now, c.requires)
