-- `lines::hex_value` meets its contract. Assumes nothing.
use Prim.Native.Nat.{◌+◌, ◌-◌}
use native.Mathlib.Omega.{arith}
use mathlib.Core.Path.{◌≡◌, ap}
use borrow.Author.Tests.{lt-ltb, le-ltb}
use Rattle.std.specs.Prelude.{Some}
use Rattle.lines.specs.Inner.Readers.{hex_val}
use Rattle.lines.proofs.hex_value.Goals as goal

pub returns-in-48-to-57 : goal.returns-in-48-to-57
unfolding hex_val
returns-in-48-to-57 c = let b = c.args.b in
    rw (le-ltb b 48 (omega arith), lt-ltb b 58 (omega arith)) (ap Some c.from.ensures)

pub returns-in-97-to-102 : goal.returns-in-97-to-102
unfolding hex_val
returns-in-97-to-102 c = let b = c.args.b in
    let e : c.from-in-97-to-102.result + 10 ≡ b - 87 = omega (arith, c.from-in-97-to-102.ensures) in
    rw (le-ltb b 48 (omega arith), le-ltb b 58 (omega arith), le-ltb b 97 (omega arith), lt-ltb b 103 (omega arith)) (ap Some e)

pub returns-in_default : goal.returns-in_default
unfolding hex_val
returns-in_default c = rw (lt-ltb c.args.b 48 (omega arith))

pub returns-in_default-2 : goal.returns-in_default-2
unfolding hex_val
returns-in_default-2 c = let b = c.args.b in
    rw (le-ltb b 48 (omega arith), le-ltb b 58 (omega arith), lt-ltb b 97 (omega arith))

pub returns-in_default-3 : goal.returns-in_default-3
unfolding hex_val
returns-in_default-3 c = let b = c.args.b in
    rw (le-ltb b 48 (omega arith), le-ltb b 58 (omega arith), le-ltb b 97 (omega arith), le-ltb b 103 (omega arith))
