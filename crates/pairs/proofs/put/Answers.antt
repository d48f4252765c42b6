-- `pairs::put` meets its contract: the lower end goes first. Assumes nothing.
use Rattle.std.proofs.Common.{ap, ◌∙◌, arith}
use Rattle.sort.specs.declared.Rec.{Rec}
use Rattle.sort.specs.Records.{stored}
use Rattle.pairs.proofs.Sides.{next-within}
use Rattle.pairs.proofs.Listing.{side_by_corners}
use Rattle.pairs.proofs.put.Goals as goal

pub offset_bounds-tris-n : goal.offset_bounds-tris-n
offset_bounds-tris-n c = let a = c.args in
    omega (arith, c.next_corner-n.ensures, next-within a.tris.now c.requires.0.whole a.k c.requires.1)

pub bounds-tris-n : goal.bounds-tris-n
bounds-tris-n c = let a = c.args in
    omega (arith, c.next_corner-n.ensures, next-within a.tris.now c.requires.0.whole a.k c.requires.1)

pub returns : goal.returns
returns c = let a = c.args in
    let p = c.requires in
    c.store.ensures
    ∙ ap (λ (r : Rec). stored a.room.now a.k r) (side_by_corners a.tris.now p.0.whole a.k _ _ _ p.1 c.next_corner-n.ensures c.min.ensures c.max.ensures)
