-- The rows of the flat-hole table: their edges, the loop over them, and one row by the tests on the way. Assumes nothing.
use Rattle.std.specs.Prelude.{Option}
use Rattle.std.proofs.Common.{◌≡◌, ℕ, ◌+◌, ◌<◌, ◌≤◌, Bool, true, false, ◌&&◌, ◌||◌, T, ltb, List, sym, refl, ap, ◌∙◌, ap₂, arith, ltb→lt, eq-eqb, ne_eqb}
use lib.Ieee.{Float}
use lib.Bits.{bit_and}
use lib.Count.{count_trailing_zeros}
use Rattle.laws.specs.Bools.{bit}
use Rattle.laws.specs.Ranges.{all, any}
use Rattle.laws.proofs.Bools.{and_left, and_right}
use Rattle.laws.proofs.Ranges.{all-at, any-more, any_some}
use Rattle.tables.specs.declared.FlatHole.{FlatHole}
use Rattle.tables.specs.Edges.{are_neighbours}
use Rattle.tables.specs.FlatHoles.{hole_of, flat_holes, flat_hole}
use Rattle.topology.specs.declared.TwoEdges.{TwoEdges}
use Rattle.topology.specs.Walk.{low_bit}
use Rattle.topology.specs.Flat.{two_edges, collapses_at, end_at, pairs_collapse, row_flat, is_flat}

-- ---- the edges of a row are among the fourteen

abbrev pub off : ℕ → TwoEdges
off i = two_edges (flat_hole i).edges

abbrev pub on : ℕ → TwoEdges
on i = two_edges (flat_hole i).opposite

abbrev among : TwoEdges → Bool
among e = ltb e.first 14 && ltb e.second 14

among-lt : (e : TwoEdges) → T (among e) → (e.first < 14) × (e.second < 14)
among-lt e h = (ltb→lt _ _ (and_left (ltb e.first 14) _ h), ltb→lt _ _ (and_right (ltb e.first 14) _ h))

pub row-edges : (i : ℕ) → i < 36 → (((off i).first < 14) × ((off i).second < 14)) × (((on i).first < 14) × ((on i).second < 14))
unfolding all flat_hole flat_holes hole_of are_neighbours bit count_trailing_zeros low_bit
row-edges i h =
    let b : T (among (off i) && among (on i)) = all-at 36 (λ i. among (off i) && among (on i)) tt i h in
    (among-lt (off i) (and_left (among (off i)) (among (on i)) b), among-lt (on i) (and_right (among (off i)) (among (on i)) b))

pub edges-lt : (i : ℕ) → i < 36 → (o n : TwoEdges) → o ≡ off i → n ≡ on i → (o.first < 14) × (o.second < 14) × (n.first < 14) × (n.second < 14)
edges-lt i l o n eo en = let e = row-edges i l in rw (eo, en) (e.0.0, e.0.1, e.1.0, e.1.1)

-- ---- the four samples of a row

pub four : (ends : List (Option Float)) (h : Float) (o n : TwoEdges) (a b c d : Option Float) → end_at ends o.first ≡ a → end_at ends o.second ≡ b
    → end_at ends n.first ≡ c → end_at ends n.second ≡ d → pairs_collapse ends h o n ≡ collapses_at a b c d h
unfolding pairs_collapse
four ends h o n a b c d ea eb ec ed = rw (ea, eb, ec, ed)

-- ---- the loop: no row so far is flat

module _ (m : ℕ) (ends : List (Option Float)) (h : Float) where
  abbrev pub NoneSo : ℕ → Type 0
  NoneSo i = (i ≤ 36) × (any i (λ j. row_flat m ends h (flat_hole j)) ≡ false)

  pub rows_start : NoneSo 0
  unfolding any
  rows_start = (omega arith, refl)

  pub row_skip : (i : ℕ) → i < 36 → NoneSo i → row_flat m ends h (flat_hole i) ≡ false → NoneSo (i + 1)
  row_skip i l n f = (omega arith, any-more i (λ j. row_flat m ends h (flat_hole j)) ∙ ap₂ (λ (x y : Bool). x || y) n.1 f)

  pub row_hit : (i : ℕ) → i < 36 → row_flat m ends h (flat_hole i) ≡ true → true ≡ is_flat m ends h
  unfolding is_flat
  row_hit i l t = sym (any_some 36 (λ j. row_flat m ends h (flat_hole j)) i l t)

  pub rows_end : (i : ℕ) → 36 ≤ i → NoneSo i → false ≡ is_flat m ends h
  unfolding is_flat
  rows_end i l n = let e : i ≡ 36 = omega arith in sym n.1 ∙ ap (λ (k : ℕ). any k (λ j. row_flat m ends h (flat_hole j))) e

  -- ---- one row

  module _ (r : FlatHole) where
    pub no_edges : (bit_and m r.edges ≡ 0 → ⊥) → row_flat m ends h r ≡ false
    unfolding row_flat
    no_edges n = rw (ne_eqb _ _ n)

    pub no_opposite : bit_and m r.edges ≡ 0 → (bit_and m r.opposite ≡ r.opposite → ⊥) → row_flat m ends h r ≡ false
    unfolding row_flat
    no_opposite p n = rw (eq-eqb _ _ p, ne_eqb _ _ n)

    pub both-on : bit_and m r.edges ≡ 0 → bit_and m r.opposite ≡ r.opposite → row_flat m ends h r ≡ pairs_collapse ends h (two_edges r.edges) (two_edges r.opposite)
    unfolding row_flat
    both-on p q = rw (eq-eqb _ _ p, eq-eqb _ _ q)

  -- ---- row i as the code reads it: its two masks are w and v, and o and n are their edges

  module _ (i : ℕ) (l : i < 36) (so : NoneSo i) (w v : ℕ) (ew : w ≡ (flat_hole i).edges) (ev : v ≡ (flat_hole i).opposite) where
    pub pass_edges : (bit_and m w ≡ 0 → ⊥) → NoneSo (i + 1)
    pass_edges x = row_skip i l so (no_edges (flat_hole i) (λ e. x (ap (bit_and m) ew ∙ e)))

    pub pass_opposite : bit_and m w ≡ 0 → (bit_and m v ≡ v → ⊥) → NoneSo (i + 1)
    pass_opposite p x = row_skip i l so (no_opposite (flat_hole i) (ap (bit_and m) (sym ew) ∙ p) (λ e. x (ap (bit_and m) ev ∙ e ∙ sym ev)))

    module _ (o n : TwoEdges) (eo : o ≡ two_edges w) (en : n ≡ two_edges v) where
      pub pair-fits : (o.first < 14) × (o.second < 14) × (n.first < 14) × (n.second < 14)
      pair-fits = edges-lt i l o n (eo ∙ ap two_edges ew) (en ∙ ap two_edges ev)

      module _ (p : bit_and m w ≡ 0) (q : bit_and m v ≡ v) (r : Bool) (er : r ≡ pairs_collapse ends h o n) where
        row-told : row_flat m ends h (flat_hole i) ≡ r
        row-told = both-on (flat_hole i) (ap (bit_and m) (sym ew) ∙ p) (ap (bit_and m) (sym ev) ∙ q ∙ ev)
            ∙ sym (ap₂ (pairs_collapse ends h) (eo ∙ ap two_edges ew) (en ∙ ap two_edges ev)) ∙ sym er

        pub row-flat : r ≡ true → true ≡ is_flat m ends h
        row-flat t = row_hit i l (row-told ∙ t)

        pub pass-pair : r ≡ false → NoneSo (i + 1)
        pass-pair f = row_skip i l so (row-told ∙ f)
