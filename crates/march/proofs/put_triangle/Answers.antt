-- `march::put_triangle` meets its contract.
use Rattle.laws.proofs.Written.{written_none}
use Rattle.march.specs.Inner.Loop.{unless_twice}
use Rattle.march.proofs.put_triangle.Goals as goal

pub returns-then-repeats : goal.returns-then-repeats
unfolding unless_twice
returns-then-repeats c = rw (← c.repeats.ensures, c.if-repeats.true) (written_none _ _)

pub returns : goal.returns
unfolding unless_twice
returns c = rw (← c.repeats.ensures, c.if-repeats.false) c.put3.ensures
