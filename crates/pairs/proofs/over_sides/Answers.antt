-- `pairs::over_sides` meets its contract. Assumes nothing.
use mathlib.Core.Path.{◌≡◌, sym}
use Prim.Native.Nat.{ℕ, ◌*◌}
use native.Mathlib.Omega.{arith}
use lib.ListN.{length, take, drop}
use lib.Seq.{length-take-le}
use Rattle.pairs.proofs.Flags.{listed_homed, cleared}
use borrow.Author.Rules.{rules}
use Rattle.pairs.proofs.over_sides.Goals as goal

pub slice_bounds-flag_home-end-2 : goal.slice_bounds-flag_home-end-2
slice_bounds-flag_home-end-2 c = sym (length-take-le _ c.list_sides.new.room ((search rules)))

pub flag_home-requires : goal.flag_home-requires
flag_home-requires c = let tris = c.args.tris.now in
    let listed = c.list_sides in
    let w : ℕ = length tris * 3 in
    let size : length (take w listed.new.room) ≡ w = length-take-le w listed.new.room ((search rules)) in
    (omega (arith, size), listed.ensures.done.sorted, listed_homed tris c.requires.whole (take w listed.new.room) size listed.ensures.done.perm)

pub returns : goal.returns
returns c = let tris = c.args.tris.now in
    let listed = c.list_sides in
    let home = c.flag_home in
    let end = c.clear in
    let w : ℕ = length tris * 3 in
    let room = listed.new.room in
    let size : length (take w room) ≡ w = length-take-le w room ((search rules)) in
    cleared tris c.requires.whole (take w room) size listed.ensures.done.perm (length c.args.room.now) (drop w room) home.new.s end.new.s c.requires.nine listed.ensures.zeros home.auto.s home.ensures end.ensures
