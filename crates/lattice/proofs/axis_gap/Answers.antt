-- `lattice::axis_gap` meets its contract. Assumes nothing.
use Rattle.lattice.proofs.Owner.{Below, bits-eq, read-less, read-not-less, read-one_fits, read_one, not-one, read-two_fits, read-two, not-two, gap-none, gap-one, gap-two, gap_far}
use Rattle.lattice.proofs.axis_gap.Goals as goal

pub returns-then-a-b : goal.returns-then-a-b
returns-then-a-b c = gap-none c.args.a c.args.b (bits-eq c.args.a c.args.b c.ranges.a c.ranges.b c.if-a-b.true)

pub overflow_sub-c : goal.overflow_sub-c
overflow_sub-c c = read-one_fits c.args.a c.args.b c.ranges.a c.ranges.b (let the_up : Below c.args.a c.args.b = read-less c.args.a c.args.b c.ranges.a c.ranges.b c.if-a-b-2.true in the_up)

pub returns-then-a-c : goal.returns-then-a-c
returns-then-a-c c = (gap-one c.args.a c.args.b (let the_up : Below c.args.a c.args.b = read-less c.args.a c.args.b c.ranges.a c.ranges.b c.if-a-b-2.true in the_up) (read_one c.args.a c.args.b c.ranges.a c.ranges.b (let the_up : Below c.args.a c.args.b = read-less c.args.a c.args.b c.ranges.a c.ranges.b c.if-a-b-2.true in the_up) c.if-a-c.true)).0

pub overflow_sub-c-then-a-b-2 : goal.overflow_sub-c-then-a-b-2
overflow_sub-c-then-a-b-2 c = read-two_fits c.args.a c.args.b c.ranges.a c.ranges.b (let the_up : Below c.args.a c.args.b = read-less c.args.a c.args.b c.ranges.a c.ranges.b c.if-a-b-2.true in the_up) c.if-a-c.false

pub returns-then-a-c-2 : goal.returns-then-a-c-2
returns-then-a-c-2 c = (gap-two c.args.a c.args.b (let the_up : Below c.args.a c.args.b = read-less c.args.a c.args.b c.ranges.a c.ranges.b c.if-a-b-2.true in the_up) (read-two c.args.a c.args.b c.ranges.a c.ranges.b (let the_up : Below c.args.a c.args.b = read-less c.args.a c.args.b c.ranges.a c.ranges.b c.if-a-b-2.true in the_up) c.if-a-c.false c.if-a-c-2.true)).0

pub returns-then-a-b-2 : goal.returns-then-a-b-2
returns-then-a-b-2 c = (gap_far c.args.a c.args.b (let the_up : Below c.args.a c.args.b = read-less c.args.a c.args.b c.ranges.a c.ranges.b c.if-a-b-2.true in the_up) (not-one c.args.a c.args.b c.ranges.a c.ranges.b (let the_up : Below c.args.a c.args.b = read-less c.args.a c.args.b c.ranges.a c.ranges.b c.if-a-b-2.true in the_up) c.if-a-c.false)
    (not-two c.args.a c.args.b c.ranges.a c.ranges.b (let the_up : Below c.args.a c.args.b = read-less c.args.a c.args.b c.ranges.a c.ranges.b c.if-a-b-2.true in the_up) c.if-a-c.false c.if-a-c-2.false)).0

pub overflow_sub-c-2 : goal.overflow_sub-c-2
overflow_sub-c-2 c = read-one_fits c.args.b c.args.a c.ranges.b c.ranges.a (let the_down : Below c.args.b c.args.a = read-not-less c.args.a c.args.b c.ranges.a c.ranges.b c.if-a-b-2.false c.if-a-b.false in the_down)

pub returns-then-b-c : goal.returns-then-b-c
returns-then-b-c c = (gap-one c.args.b c.args.a (let the_down : Below c.args.b c.args.a = read-not-less c.args.a c.args.b c.ranges.a c.ranges.b c.if-a-b-2.false c.if-a-b.false in the_down) (read_one c.args.b c.args.a c.ranges.b c.ranges.a (let the_down : Below c.args.b c.args.a = read-not-less c.args.a c.args.b c.ranges.a c.ranges.b c.if-a-b-2.false c.if-a-b.false in the_down) c.if-b-c.true)).1

pub overflow_sub-c-3 : goal.overflow_sub-c-3
overflow_sub-c-3 c = read-two_fits c.args.b c.args.a c.ranges.b c.ranges.a (let the_down : Below c.args.b c.args.a = read-not-less c.args.a c.args.b c.ranges.a c.ranges.b c.if-a-b-2.false c.if-a-b.false in the_down) c.if-b-c.false

pub returns-then-b-c-2 : goal.returns-then-b-c-2
returns-then-b-c-2 c = (gap-two c.args.b c.args.a (let the_down : Below c.args.b c.args.a = read-not-less c.args.a c.args.b c.ranges.a c.ranges.b c.if-a-b-2.false c.if-a-b.false in the_down) (read-two c.args.b c.args.a c.ranges.b c.ranges.a (let the_down : Below c.args.b c.args.a = read-not-less c.args.a c.args.b c.ranges.a c.ranges.b c.if-a-b-2.false c.if-a-b.false in the_down) c.if-b-c.false c.if-b-c-2.true)).1

pub returns : goal.returns
returns c = (gap_far c.args.b c.args.a (let the_down : Below c.args.b c.args.a = read-not-less c.args.a c.args.b c.ranges.a c.ranges.b c.if-a-b-2.false c.if-a-b.false in the_down) (not-one c.args.b c.args.a c.ranges.b c.ranges.a (let the_down : Below c.args.b c.args.a = read-not-less c.args.a c.args.b c.ranges.a c.ranges.b c.if-a-b-2.false c.if-a-b.false in the_down) c.if-b-c.false)
    (not-two c.args.b c.args.a c.ranges.b c.ranges.a (let the_down : Below c.args.b c.args.a = read-not-less c.args.a c.args.b c.ranges.a c.ranges.b c.if-a-b-2.false c.if-a-b.false in the_down) c.if-b-c.false c.if-b-c-2.false)).1
