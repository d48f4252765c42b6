-- `site_vertices::put_point` meets its contract. Assumes nothing.
use lib.ListN.{length-set}
use native.Mathlib.Omega.{arith}
use native.Mathlib.Numerals.{add-one}
use Prim.Native.Nat.{◌+◌, suc}
use mathlib.Core.Path.{◌≡◌}
use Rattle.site_vertices.proofs.put_point.Goals as goal

pub bounds-positions-at-2 : goal.bounds-positions-at-2
bounds-positions-at-2 c = simp length-set (omega arith)

pub bounds-positions-at-3 : goal.bounds-positions-at-3
bounds-positions-at-3 c = simp length-set (omega arith)

pub returns : goal.returns
returns c = let n = c.args.at in
    let two : n + 2 ≡ suc (suc n) = omega arith in
    rw (add-one, two)
