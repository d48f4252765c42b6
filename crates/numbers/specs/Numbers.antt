-- The numbers to check by (docs/SCOPE.md, S14.1): sides, crossings, marks and fractions, neighbours, the topology test, cases. One table, one statement, which antt computes. Assumes nothing.
use Rattle.std.specs.Prelude.{◌≡◌, refl, Bool, true, false, List, [], ◌∷◌, map, ℕ, ◌+◌, ◌^◌, pos, negsuc, length, Float, Option, None, Some}
use Rattle.std.specs.Int.Bits.{bit_and}
use Rattle.std.specs.Int.Count.{count_trailing_zeros}
use Rattle.std.specs.Float.{nan, inf, fin, binary64}
use Rattle.std.specs.Float.Ieee.{lt, neg, sub, div, of_bits}
use Rattle.laws.specs.Bools.{bit}
use Rattle.laws.specs.Lists.{total}
use Rattle.laws.specs.Ranges.{each, any}
use Rattle.laws.specs.Digits.{digit, is_set, mask}
use Rattle.tables.specs.Edges.{are_neighbours, neighbour_mask, corners, corner_of, du, dv, dw}
use Rattle.tables.specs.FlatHoles.{hole_of, flat_holes, flat_hole}
use Rattle.tables.specs.Cases.{mt_row}
use Rattle.samples.specs.Sides.{base, half, inside, finite, when_finite, known, mark_fraction, hold, point_fraction, crossing, is_near}
use Rattle.lattice.specs.declared.Sides.{Sides}
use Rattle.lattice.specs.Sites.{sites, in_box, site_of, uvw_of, step}
use Rattle.lattice.specs.Across.{upward, downward, across_at, across_of}
use Rattle.marks.specs.Marks.{marked_by, marked, mask_at, masks_of}
use Rattle.topology.specs.declared.TopologyCase.{TopologyCase}
use Rattle.topology.specs.declared.TopologyCase.TheVariants.{ClosedSurface, MultiHole, FlatHole, MultiSurface, SimpleSurface, DoNotCluster}
use Rattle.topology.specs.declared.TopologyResult.{TopologyResult}
use Rattle.topology.specs.Walk.{low_bit, found, rem_turn, fr_turn, comp_turn, walk, first, walks_in, walks, components, visits}
use Rattle.topology.specs.Flat.{collapses, collapses_at, pairs_collapse, row_flat, is_flat}
use Rattle.topology.specs.Topology.{kind_of, singles, result, case_of, visits_of, topology_of}
use Rattle.cases.specs.Cases.{case_from}

-- ---- what is asked, and what is answered, with the threshold 1.0e-9 or, where it is given first, another

pub data Ask : Type 0 where
  -- which side is the value on?
  side : Float → Ask
  side_at : Float → Float → Ask
  -- a box of 2 x 1 x 1 sites with these samples: its one edge leads from site 0, the owner, to site 1
  edge : Float → Float → Ask
  edge_at : Float → Float → Float → Ask
  -- a fraction, to be held
  to_hold : Float → Ask
  -- at which fraction does the point on an edge stand, from the first value towards the second?
  point : Float → Float → Ask
  -- are the two edges neighbours?
  both : ℕ → ℕ → Ask
  -- which edges of the mask are neighbours of the edge?
  beside : ℕ → ℕ → Ask
  -- how many edges do the walks over the mask take?
  walking : ℕ → Ask
  -- the topology test of a mask, to be clustered or not, with the samples at the fourteen ends
  near : ℕ → List (Option Float) → Ask
  near_at : Float → ℕ → List (Option Float) → Ask
  unclustered : ℕ → Ask
  -- a tetrahedron with these samples at its four corners
  tetrahedron : Option Float → Option Float → Option Float → Option Float → Ask
  tetrahedron_at : Float → Option Float → Option Float → Option Float → Option Float → Ask

pub data Answer : Type 0 where
  -- whether it is inside
  is_inside : Bool → Answer
  -- where the edge is crossed, and the masks of the two sites
  is_crossed : Option Float → List ℕ → Answer
  is_fraction : Float → Answer
  are_so : Bool → Answer
  -- as a mask
  are_these : ℕ → Answer
  are_many : ℕ → Answer
  -- the case, the clusters and how many edges the walks took
  is_case : TopologyResult → Answer
  -- the case and how many triangles it has
  has_triangles : ℕ → ℕ → Answer

abbrev pub no_ends : List (Option Float)
no_ends = None ∷ None ∷ None ∷ None ∷ None ∷ None ∷ None ∷ None ∷ None ∷ None ∷ None ∷ None ∷ None ∷ None ∷ []

abbrev pub pair : Sides
pair = record { nu = 2; nv = 1; nw = 1 }

unfoldable pub answer : Ask → Answer
answer (side v) = is_inside (inside v base)
answer (side_at h v) = is_inside (inside v h)
answer (edge a b) = is_crossed (crossing a b base) (masks_of pair (a ∷ b ∷ []) base)
answer (edge_at h a b) = is_crossed (crossing a b h) (masks_of pair (a ∷ b ∷ []) h)
answer (to_hold t) = is_fraction (hold t)
answer (point a b) = is_fraction (point_fraction a b)
answer (both e f) = are_so (are_neighbours e f)
answer (beside e m) = are_these (bit_and (neighbour_mask e) m)
answer (walking m) = are_many (visits m)
answer (near m ends) = is_case (topology_of m true ends base)
answer (near_at h m ends) = is_case (topology_of m true ends h)
answer (unclustered m) = is_case (topology_of m false no_ends base)
answer (tetrahedron a b c d) = has_triangles (case_from a b c d base) (length (mt_row (case_from a b c d base)))
answer (tetrahedron_at h a b c d) = has_triangles (case_from a b c d h) (length (mt_row (case_from a b c d h)))

-- ---- how the rows are written

abbrev pub plus : ℕ → Float
plus n = fin false n (pos 0)

abbrev pub minus : ℕ → Float
minus n = fin true n (pos 0)

-- 2 ^ -1074, the least f64 above 0, and the f64 after 1
abbrev pub least : Bool → Float
least negative = fin negative 1 (negsuc 1073)

abbrev pub after_one : Float
after_one = of_bits binary64 0x3FF0000000000001

-- a hair below -1.0e-9: the next f64
abbrev pub hair : Float
hair = of_bits binary64 0xBE112E0BE826D696

-- 0.25; -0.9 and -1.1
abbrev pub quarter : Float
quarter = of_bits binary64 0x3FD0000000000000

abbrev pub above : Float
above = of_bits binary64 0xBFECCCCCCCCCCCCD

abbrev pub below : Float
below = of_bits binary64 0xBFF199999999999A

-- a set of edges as a mask
abbrev pub only : List ℕ → ℕ
only [] = 0
only (e ∷ es) = 2 ^ e + only es

-- a mark: by the owner under its label 0, or by the other end under the label 7
abbrev pub by_owner : List ℕ
by_owner = only (0 ∷ []) ∷ only [] ∷ []

abbrev pub by_other : List ℕ
by_other = only [] ∷ only (7 ∷ []) ∷ []

abbrev pub nobody : List ℕ
nobody = only [] ∷ only [] ∷ []

-- the case, each cluster by its edges, and how many edges the walks took
abbrev pub says : TopologyCase → List (List ℕ) → ℕ → Answer
says c clusters v = is_case (result c (map only clusters) v)

-- each edge by itself
abbrev pub alone : List (List ℕ)
alone = (0 ∷ []) ∷ (1 ∷ []) ∷ (2 ∷ []) ∷ (3 ∷ []) ∷ (4 ∷ []) ∷ (5 ∷ []) ∷ (6 ∷ []) ∷ (7 ∷ []) ∷ (8 ∷ []) ∷ (9 ∷ []) ∷ (10 ∷ []) ∷ (11 ∷ []) ∷ (12 ∷ []) ∷ (13 ∷ []) ∷ []

-- s at ends 0 and 1, t at ends 4 and 13; the others are missing
abbrev pub four_ends : Float → Float → List (Option Float)
four_ends s t =
    Some s ∷ Some s ∷ None ∷ None ∷ Some t ∷ None ∷ None ∷ None ∷ None ∷ None ∷ None ∷ None ∷ None ∷ Some t ∷ []

abbrev pub within : Option Float
within = Some (minus 1)

abbrev pub outside : Option Float
outside = Some (plus 1)

-- ---- the table

pub record Row : Type 0 where
  pub ask : Ask
  pub gets : Answer

abbrev pub row : Ask → Answer → Row
row a x = record { ask = a; gets = x }

unfoldable pub table : List Row
table =
    -- −1.0e-9 is outside, the next f64 below is inside, a NaN is outside
    row (side (neg base)) (is_inside false)
    ∷ row (side hair) (is_inside true)
    ∷ row (side nan) (is_inside false)
    -- from 1 to −1 the fraction is exactly 0.5, and the other end is marked; from 1 to −3 it is 0.25, and the owner is
    ∷ row (edge (plus 1) (minus 1)) (is_crossed (Some half) by_other)
    ∷ row (edge (plus 1) (minus 3)) (is_crossed (Some (of_bits binary64 0x3FD0000000000000)) by_owner)
    -- on one side there is no mark; a fraction that is NaN marks the other end
    ∷ row (edge (plus 1) (plus 3)) (is_crossed None nobody)
    ∷ row (edge (inf false) (inf true)) (is_crossed (Some nan) by_other)
    -- from −1.0e-9 to a hair below it, both negative, the fraction is about −4.8e15, and the owner is marked; the other way round it is as far above 1
    ∷ row (edge (neg base) hair) (is_crossed (Some (minus 4835703278458517)) by_owner)
    ∷ row (edge hair (neg base)) (is_crossed (Some (fin false 2417851639229259 (pos 1))) by_other)
    -- the point stands at the end where the fraction is held
    ∷ row (point (neg base) hair) (is_fraction (plus 0))
    ∷ row (point hair (neg base)) (is_fraction (plus 1))
    ∷ row (point (plus 1) (minus 3)) (is_fraction (of_bits binary64 0x3FD0000000000000))
    -- below 0 it is 0, above 1 it is 1, otherwise unchanged: −0.0 and a NaN too
    ∷ row (to_hold (plus 0)) (is_fraction (plus 0))
    ∷ row (to_hold (minus 0)) (is_fraction (minus 0))
    ∷ row (to_hold (least true)) (is_fraction (plus 0))
    ∷ row (to_hold (least false)) (is_fraction (least false))
    ∷ row (to_hold (plus 1)) (is_fraction (plus 1))
    ∷ row (to_hold after_one) (is_fraction (plus 1))
    ∷ row (to_hold nan) (is_fraction nan)
    ∷ row (to_hold (inf true)) (is_fraction (plus 0))
    ∷ row (to_hold (inf false)) (is_fraction (plus 1))
    -- other thresholds. −h is outside and the next f64 below it inside; 0.0 and −0.0 are outside for all, and with 0 all that is below them is inside
    ∷ row (side_at quarter (neg quarter)) (is_inside false)
    ∷ row (side_at quarter (of_bits binary64 0xBFD0000000000001)) (is_inside true)
    ∷ row (side_at (plus 1) (minus 1)) (is_inside false)
    ∷ row (side_at (plus 1) (neg after_one)) (is_inside true)
    ∷ row (side_at (plus 0) (minus 0)) (is_inside false)
    ∷ row (side_at (minus 0) (minus 0)) (is_inside false)
    ∷ row (side_at (minus 0) (plus 0)) (is_inside false)
    ∷ row (side_at (plus 0) (least true)) (is_inside true)
    ∷ row (side_at (minus 0) (least true)) (is_inside true)
    ∷ row (side_at (least false) (least true)) (is_inside false)
    -- with 1 the surface runs between −0.9 and −1.1. The fraction is where the values would cross 0, outside the edge, and the point is held at the end of −0.9
    ∷ row (edge_at (plus 1) above below) (is_crossed (Some (of_bits binary64 0xC011FFFFFFFFFFFE)) by_owner)
    ∷ row (edge_at (plus 1) below above) (is_crossed (Some (of_bits binary64 0x4015FFFFFFFFFFFE)) by_other)
    ∷ row (point above below) (is_fraction (plus 0))
    ∷ row (point below above) (is_fraction (plus 1))
    ∷ row (edge above below) (is_crossed None nobody)
    -- with 0 two ends of different sides may be as near as the least f64 and 0
    ∷ row (edge_at (plus 0) (plus 0) (least true)) (is_crossed (Some (plus 0)) by_owner)
    ∷ row (edge_at (plus 0) (least false) (fin true 3 (negsuc 1073))) (is_crossed (Some quarter) by_owner)
    -- neighbours' deltas differ by 2 on the first axis, or by 1 on two; not by 2 on the second or the third, by 4 in all, or by nothing
    ∷ row (both 0 9) (are_so true)
    ∷ row (both 0 4) (are_so true)
    ∷ row (both 0 2) (are_so false)
    ∷ row (both 5 10) (are_so false)
    ∷ row (both 0 5) (are_so false)
    ∷ row (both 0 0) (are_so false)
    -- there is no edge 14
    ∷ row (both 0 13) (are_so true)
    ∷ row (both 0 14) (are_so false)
    ∷ row (both 14 0) (are_so false)
    ∷ row (beside 0 0xFFFF) (are_these (only (1 ∷ 3 ∷ 4 ∷ 9 ∷ 12 ∷ 13 ∷ [])))
    ∷ row (beside 0 0x2005) (are_these (only (13 ∷ [])))
    ∷ row (beside 0 0x0000) (are_these (only []))
    -- the walks take each of the fourteen edges once, and bits 14 and 15 are none
    ∷ row (walking 0x0000) (are_many 0)
    ∷ row (walking 0xC000) (are_many 0)
    ∷ row (walking 0x0001) (are_many 1)
    ∷ row (walking 0x2000) (are_many 1)
    ∷ row (walking 0x0081) (are_many 2)
    ∷ row (walking 0x1FFF) (are_many 13)
    ∷ row (walking 0x3FFF) (are_many 14)
    ∷ row (walking 0xFFFF) (are_many 14)
    -- masks, with their clusters by edges: no walk where there is no edge or each has a mark, one of several surfaces, else two
    ∷ row (near 0x0000 no_ends) (says SimpleSurface [] 0)
    ∷ row (near 0xC000 no_ends) (says SimpleSurface [] 0)
    ∷ row (near 0x3FFF no_ends) (says ClosedSurface alone 0)
    ∷ row (near 0x0003 no_ends) (says SimpleSurface ((0 ∷ 1 ∷ []) ∷ []) 14)
    ∷ row (near 0x0081 no_ends) (says MultiSurface ((0 ∷ []) ∷ (7 ∷ []) ∷ []) 2)
    ∷ row (near 0x2015 no_ends) (says MultiHole ((0 ∷ []) ∷ (2 ∷ []) ∷ (4 ∷ []) ∷ (13 ∷ []) ∷ []) 14)
    -- 0x2014 is flat with 1 at the ends 0 and 1 and −3 at the ends 4 and 13, and is not with 3 at the ends 0 and 1, nor where an end is not finite
    ∷ row (near 0x2014 (four_ends (plus 1) (minus 3))) (says FlatHole ((2 ∷ []) ∷ (4 ∷ []) ∷ (13 ∷ []) ∷ []) 14)
    ∷ row (near 0x2014 (four_ends (plus 3) (minus 3))) (says SimpleSurface ((2 ∷ 4 ∷ 13 ∷ []) ∷ []) 14)
    ∷ row (near 0x2014 (four_ends (plus 1) (inf true))) (says SimpleSurface ((2 ∷ 4 ∷ 13 ∷ []) ∷ []) 14)
    -- nor with the threshold 1 where −1 takes the place of −3: then no end is inside
    ∷ row (near 0x2014 (four_ends quarter (minus 1))) (says FlatHole ((2 ∷ []) ∷ (4 ∷ []) ∷ (13 ∷ []) ∷ []) 14)
    ∷ row (near_at (plus 1) 0x2014 (four_ends quarter (minus 1))) (says SimpleSurface ((2 ∷ 4 ∷ 13 ∷ []) ∷ []) 14)
    -- not to be clustered: no walk
    ∷ row (unclustered 0x0000) (says SimpleSurface [] 0)
    ∷ row (unclustered 0x2014) (says DoNotCluster ((2 ∷ []) ∷ (4 ∷ []) ∷ (13 ∷ []) ∷ []) 0)
    ∷ row (unclustered 0x3FFF) (says DoNotCluster alone 0)
    -- corners −1, 1, 1, 1: case 1, one triangle; with a NaN, an infinity or a missing corner case 0
    ∷ row (tetrahedron within outside outside outside) (has_triangles 1 1)
    ∷ row (tetrahedron within (Some nan) outside outside) (has_triangles 0 0)
    ∷ row (tetrahedron within outside outside (Some (inf true))) (has_triangles 0 0)
    ∷ row (tetrahedron within outside None outside) (has_triangles 0 0)
    ∷ row (tetrahedron within within outside outside) (has_triangles 3 2)
    ∷ row (tetrahedron within within within within) (has_triangles 15 0)
    -- with the threshold 1 a corner of −1 is outside
    ∷ row (tetrahedron_at (plus 1) within outside outside outside) (has_triangles 0 0)
    ∷ row (tetrahedron_at (plus 1) (Some (minus 3)) within outside outside) (has_triangles 1 1)
    ∷ []

pub numbers : map (λ (r : Row). answer r.ask) table ≡ map (λ (r : Row). r.gets) table
unfolding answer table inside finite when_finite known mark_fraction hold point_fraction crossing is_near lt neg sub div of_bits bit total each any digit is_set mask count_trailing_zeros
    corners corner_of du dv dw sites in_box site_of uvw_of step upward downward across_at across_of marked_by marked mask_at masks_of
    topology_of case_of visits_of kind_of singles is_flat row_flat pairs_collapse collapses_at collapses components visits walks walks_in first walk rem_turn fr_turn comp_turn found low_bit
    neighbour_mask are_neighbours flat_hole flat_holes hole_of case_from mt_row
numbers = refl
