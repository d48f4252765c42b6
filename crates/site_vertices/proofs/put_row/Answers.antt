-- `site_vertices::put_row` meets its contract. Assumes nothing.
use lib.ListN.{length-set}
use native.Mathlib.Omega.{arith}
use native.Mathlib.Numerals.{add-one}
use Prim.Native.Nat.{◌+◌, suc}
use mathlib.Core.Path.{◌≡◌}
use Rattle.site_vertices.proofs.put_row.Goals as goal

pub bounds-book-at-2 : goal.bounds-book-at-2
bounds-book-at-2 c = simp length-set (omega arith)

pub bounds-book-at-3 : goal.bounds-book-at-3
bounds-book-at-3 c = simp length-set (omega arith)

pub bounds-book-at-4 : goal.bounds-book-at-4
bounds-book-at-4 c = simp length-set (omega arith)

pub returns : goal.returns
returns c = let n = c.args.at in
    let two : n + 2 ≡ suc (suc n) = omega arith in
    let three : n + 3 ≡ suc (suc (suc n)) = omega arith in
    rw (add-one, two, three)
