-- `ply_write::digits` meets its contract. Assumes nothing.
use mathlib.Core.Path.{◌≡◌, sym, ap, ◌∙◌}
use Prim.Native.Nat.{◌+◌}
use native.Mathlib.Omega.{arith}
use lib.ListN.{length}
use Rattle.lines.specs.Numbers.{dec}
use Rattle.lines.proofs.Decimals.{dec-room}
use Rattle.ply_write.proofs.Writing.{digits_count, dec-least}
use Rattle.ply_write.proofs.digits.Goals as goal

pub returns : goal.returns
returns c =
    let p = c.ilog10.ensures in
    let e : c.ilog10.result + 1 ≡ length (dec c.args.n) = sym (digits_count c.ilog10.result c.max.result p.power_le p.next_power_gt (omega arith)) ∙ ap (λ m. length (dec m)) c.max.ensures ∙ dec-least c.args.n in
    (e, omega (arith, dec-room c.args.n))
