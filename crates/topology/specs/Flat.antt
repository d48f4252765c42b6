-- When clustering would flatten the surface (the paper's Figure 6, Table 4 read as the comment over `is_flat_hole` in topology.rs says). Assumes nothing.
-- O is the site, and A, B, C, D are ends of its edges. OA and OB have no intersection near O, OC and OD have one. The surface
-- collapses if the intersections on AC and AD are both near A, or those on BC and BD both near B.
use Rattle.std.specs.Prelude.{◌≡◌, ℕ, ◌<◌, Bool, true, false, ◌&&◌, ◌||◌, List, ◌==◌, bit_and, bit_xor, slice_index_or, Float, Option, None, Some}
use Rattle.laws.specs.Ranges.{any}
use Rattle.laws.specs.Digits.{digit}
use Rattle.tables.specs.Edges.{are_neighbours}
use Rattle.tables.specs.declared.FlatHole.{FlatHole}
use Rattle.tables.specs.FlatHoles.{flat_hole}
use Rattle.samples.specs.Sides.{known, is_near}
use Rattle.topology.specs.declared.TwoEdges.{TwoEdges}
use Rattle.topology.specs.Parts.{low}
use Rattle.topology.specs.Walk.{low_bit}

-- the two edges of a mask that has two, the lower first
abbrev pub two_edges : ℕ → TwoEdges
two_edges m = record { first = low m; second = low (bit_xor m (low_bit m)) }

-- the values at A, B, C and D
unfoldable pub collapses : Float → Float → Float → Float → Float → Bool
collapses a b c d h = (is_near a d h && is_near a c h) || (is_near b d h && is_near b c h)

-- where one of the four is missing or not finite, they say nothing
unfoldable pub collapses_at : Option Float → Option Float → Option Float → Option Float → Float → Bool
collapses_at (Some a) (Some b) (Some c) (Some d) h = collapses a b c d h
collapses_at None b c d h = false
collapses_at (Some a) None c d h = false
collapses_at (Some a) (Some b) None d h = false
collapses_at (Some a) (Some b) (Some c) None h = false

-- the sample at the end of an edge, where there is one and it is finite
abbrev pub end_at : List (Option Float) → ℕ → Option Float
end_at ends e = known (slice_index_or ends e None)

unfoldable pub pairs_collapse : List (Option Float) → Float → TwoEdges → TwoEdges → Bool
pairs_collapse ends h off on =
    collapses_at (end_at ends off.first) (end_at ends off.second) (end_at ends on.first) (end_at ends on.second) h

-- a row of Table 4: the mask has neither of its edges and both of the opposite ones
unfoldable pub row_flat : ℕ → List (Option Float) → Float → FlatHole → Bool
row_flat m ends h r =
    (bit_and m r.edges == 0) && (bit_and m r.opposite == r.opposite && pairs_collapse ends h (two_edges r.edges) (two_edges r.opposite))

-- some row says so
unfoldable pub is_flat : ℕ → List (Option Float) → Float → Bool
is_flat m ends h = any 36 (λ i. row_flat m ends h (flat_hole i))

-- The same without the table (`flat_collapse` and `collapse_flat` of proofs/FlatMeaning): A and B are neighbours, and C and D are
-- the two neighbours that they have in common.
pub record Collapse (m : ℕ) (ends : List (Option Float)) (h : Float) : Type 0 where
  pub a : ℕ
  pub b : ℕ
  pub c : ℕ
  pub d : ℕ
  pub a_b : (a < b) × (b < 14) × (are_neighbours a b ≡ true)
  pub c_d : (c < d) × (d < 14)
  pub to_c : (are_neighbours a c ≡ true) × (are_neighbours b c ≡ true)
  pub to_d : (are_neighbours a d ≡ true) × (are_neighbours b d ≡ true)
  pub far : (digit m a ≡ 0) × (digit m b ≡ 0)
  pub near : (digit m c ≡ 1) × (digit m d ≡ 1)
  pub va : Float
  pub vb : Float
  pub vc : Float
  pub vd : Float
  pub at_a : end_at ends a ≡ Some va
  pub at_b : end_at ends b ≡ Some vb
  pub at_c : end_at ends c ≡ Some vc
  pub at_d : end_at ends d ≡ Some vd
  pub falls : collapses va vb vc vd h ≡ true
