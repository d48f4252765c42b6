-- `lines::has` meets its contract. Assumes nothing.
use mathlib.Core.Path.{sym, ◌∙◌}
use Rattle.laws.proofs.Tails.{tail_is}
use Rattle.lines.proofs.Keys.{starts_pointwise}
use Rattle.lines.proofs.has.Goals as goal

pub returns : goal.returns
returns c = let a = c.args in
    sym (starts_pointwise a.key.now _ ∙ rw (← tail_is a.at a.s.now) (sym c.starts_with.ensures.value))
