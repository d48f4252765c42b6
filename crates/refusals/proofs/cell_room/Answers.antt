-- `refusals::cell_room` meets its contract. Assumes nothing.
use borrow.Author.Tests.{le-leb, lt-leb}
use native.Mathlib.Omega.{arith}
use Rattle.lattice.proofs.Sites.{cells-room}
use Rattle.lattice.specs.Sites.{cells}
use Rattle.refusals.specs.Refusals.{cell_room}
use Rattle.refusals.proofs.cell_room.Goals as goal

pub overflow_mul-cells : goal.overflow_mul-cells
unfolding cells
overflow_mul-cells c = omega (arith, c.cell_count-cells.ensures, cells-room c.args.n c.requires)

pub overflow_mul-result : goal.overflow_mul-result
unfolding cells
overflow_mul-result c = omega (arith, c.cell_count-cells.ensures, cells-room c.args.n c.requires)

pub returns-then-cells-lent : goal.returns-then-cells-lent
unfolding cell_room
returns-then-cells-lent c = rw (← c.cell_count-cells.ensures, le-leb _ _ c.if-cells-lent.true)

pub returns-else-cells-lent : goal.returns-else-cells-lent
unfolding cell_room
returns-else-cells-lent c = rw (← c.cell_count-cells.ensures, lt-leb _ _ c.if-cells-lent.false)
