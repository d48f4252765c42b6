-- `cases::case_at` meets its contract. Assumes nothing.
use native.Mathlib.Omega.{arith}
use lib.Dec.{lit<}
use Rattle.cases.specs.Inner.Codes.{case_on}
use Rattle.cases.proofs.Codes.{corner_by}
use Rattle.cases.proofs.case_at.Goals as goal

pub offset_bounds-codes-a : goal.offset_bounds-codes-a
offset_bounds-codes-a c = omega (arith, corner_by c.args.t 0 _ c.requires.1 (lit< tt) c.tet_corner-a.ensures)

pub bounds-codes-a : goal.bounds-codes-a
bounds-codes-a c = corner_by c.args.t 0 _ c.requires.1 (lit< tt) c.tet_corner-a.ensures

pub offset_bounds-codes-b : goal.offset_bounds-codes-b
offset_bounds-codes-b c = omega (arith, corner_by c.args.t 1 _ c.requires.1 (lit< tt) c.tet_corner-b.ensures)

pub bounds-codes-b : goal.bounds-codes-b
bounds-codes-b c = corner_by c.args.t 1 _ c.requires.1 (lit< tt) c.tet_corner-b.ensures

pub offset_bounds-codes-c : goal.offset_bounds-codes-c
offset_bounds-codes-c c = omega (arith, corner_by c.args.t 2 _ c.requires.1 (lit< tt) c.tet_corner-c.ensures)

pub bounds-codes-c : goal.bounds-codes-c
bounds-codes-c c = corner_by c.args.t 2 _ c.requires.1 (lit< tt) c.tet_corner-c.ensures

pub case_by-requires : goal.case_by-requires
case_by-requires c = let small = c.requires.0.small in
    (small 0 (lit< tt), small _ (corner_by c.args.t 0 _ c.requires.1 (lit< tt) c.tet_corner-a.ensures), small _ (corner_by c.args.t 1 _ c.requires.1 (lit< tt) c.tet_corner-b.ensures), small _ (corner_by c.args.t 2 _ c.requires.1 (lit< tt) c.tet_corner-c.ensures))

pub returns : goal.returns
unfolding case_on
returns c = rw (← c.tet_corner-a.ensures, ← c.tet_corner-b.ensures, ← c.tet_corner-c.ensures) c.case_by.ensures
