-- One cell, by tests computed at all 256 sides of its corners: its triangles close up with the segments on its faces, and all their corners are crossed edges. Assumes nothing.
use mathlib.Core.Path.{◌≡◌, refl, ap}
use mathlib.Core.Bool.{Bool, true, not, ◌&&◌, beq}
use mathlib.Core.List.{List, [], ◌∷◌, ◌++◌, map}
use Prim.Native.Nat.{ℕ, ◌+◌, ◌/◌, ◌%◌, ◌<◌}
use native.Mathlib.Omega.{arith}
use borrow.Author.Tests.{ltb-true}
use lib.Dec.{T, eqb, ltb}
use lib.ListN.{length}
use Rattle.laws.specs.Bools.{bit, all_bools}
use Rattle.laws.specs.Ranges.{each, sum, all}
use Rattle.laws.specs.Lists.{count, every, All}
use Rattle.laws.specs.Couples.{Pair, turn, on_both, from_to, against, push, left, is_nil, cancels}
use Rattle.laws.specs.Triangles.{Tri, flat, sides_of}
use Rattle.laws.proofs.Bools.{bools_at, and-apart, true_T}
use Rattle.laws.proofs.Ranges.{each_map, same_at}
use Rattle.laws.proofs.Sums.{each-count}
use Rattle.laws.proofs.Lists.{count-append, map-append, every-all}
use Rattle.laws.proofs.Couples.{turn-count, on_both-turn, cancels_even}
use Rattle.tables.specs.Edges.{corner_of, label_to, du, dv, dw}
use Rattle.tables.specs.Tets.{tet_label, tet_corner, tet_pair, tet_pairs, edge_of, edge_in}
use Rattle.tables.specs.Cases.{mt_row, segment}
use Rattle.tables.proofs.Cases.{segment-named}
use Rattle.march.specs.Cells.{Corners, at, case_of, tet_ok, case_no, on_each, tet_tris, cell_tris}
use Rattle.march_balance.specs.Faces.{unit, segment_on, face}
use Rattle.march_balance.proofs.Boxes.{on, step_on}

-- all corners are there
unfoldable pub always : Corners
always = true ∷ true ∷ true ∷ true ∷ true ∷ true ∷ true ∷ true ∷ []

abbrev pub same : ℕ → ℕ
same x = x

-- `unfolding cell_key` opens all that a cell with known corners computes by
unfoldable pub cell_key : Unit {0}
unfolding all_bools all each bit at case_of tet_ok case_no on_each tet_tris cell_tris tet_label tet_corner tet_pair tet_pairs edge_of edge_in corner_of label_to du dv dw mt_row sides_of always
cell_key = tt

-- ---- the triangles and the faces

-- the directed sides of a cell's triangles, the segments on its three low faces turned, and those on its three high faces
unfoldable pub closing : Corners → List Pair
closing side = sides_of (cell_tris always side) ++ map turn (each 3 (λ x. face x side same 0)) ++ each 3 (λ x. face x side same (unit x))

pub closes : (side : Corners) → length side ≡ 8 → T (cancels (closing side))
unfolding cell_key closing cancels left push against is_nil face segment_on segment unit turn
closes side e = bools_at 8 (λ l. cancels (closing l)) tt side e

-- ---- the same under a naming h of the edges

module _ (h : ℕ → ℕ) where
  pub sides-named : (ts : List Tri) → map (on_both h) (sides_of ts) ≡ sides_of (map (on_each h) ts)
  unfolding on_both on_each sides_of
  sides-named [] = refl
  sides-named (t ∷ ts) = ap {B = List Pair} (λ r. (h t.0, h t.1) ∷ (h t.1, h t.2) ∷ (h t.2, h t.0) ∷ r) (sides-named ts)

  pub face-named : (x : ℕ) (side : Corners) (a : ℕ) → map (on_both h) (face x side same a) ≡ face x side h a
  unfolding face segment_on
  face-named x side a = simp (map-append, on_both-turn, segment-named)

  closing-named : (side : Corners)
      → map (on_both h) (closing side)
      ≡ sides_of (map (on_each h) (cell_tris always side)) ++ map turn (each 3 (λ x. face x side h 0)) ++ each 3 (λ x. face x side h (unit x))
  unfolding closing
  closing-named side = simp (map-append, on_both-turn, sides-named, each_map, face-named)

  -- p to q less q to p: the cell's triangles have what its low faces have, less what its high faces have
  pub cell_even : (side : Corners) → length side ≡ 8 → (p q : ℕ)
      → count (from_to p q) (sides_of (map (on_each h) (cell_tris always side)))
      + sum 3 (λ x. count (from_to q p) (face x side h 0)) + sum 3 (λ x. count (from_to p q) (face x side h (unit x)))
      ≡ count (from_to q p) (sides_of (map (on_each h) (cell_tris always side)))
      + sum 3 (λ x. count (from_to p q) (face x side h 0)) + sum 3 (λ x. count (from_to q p) (face x side h (unit x)))
  cell_even side e p q =
      omega (arith, simp (closing-named, count-append, turn-count, each-count) at (cancels_even h p q (closing side) (closes side e)))

-- ---- the edges that the triangles join

-- edge e of the cell leads from a corner c up to the corner c + k, axis by axis, and the two are on different sides
unfoldable pub crossed_in : Corners → ℕ → Bool
crossed_in l e =
    let c = e / 7 in
    let k = corner_of (e % 7) in
    all 3 (λ x. eqb (step_on x c + step_on x k) (step_on x (c + k))) && ltb (c + k) 8 && not (beq (at l c) (at l (c + k)))

-- what the test says
pub record CrossedIn (l : Corners) (e : ℕ) : Type 0 where
  pub steps : (x : ℕ) → x < 3 → step_on x (e / 7) + step_on x (corner_of (e % 7)) ≡ step_on x (e / 7 + corner_of (e % 7))
  pub inside : e / 7 + corner_of (e % 7) < 8
  pub owner : e / 7 < 8
  pub apart : not (beq (at l (e / 7)) (at l (e / 7 + corner_of (e % 7)))) ≡ true

pub crossed_in_lem : (l : Corners) (e : ℕ) → crossed_in l e ≡ true → CrossedIn l e
unfolding crossed_in
crossed_in_lem l e h =
    let c = e / 7 in
    let k = corner_of (e % 7) in
    let a = all 3 (λ x. eqb (step_on x c + step_on x k) (step_on x (c + k))) in
    let r = and-apart (a && ltb (c + k) 8) (not (beq (at l c) (at l (c + k)))) h in
    let s = and-apart a (ltb (c + k) 8) r.0 in
    record {
      steps = same_at 3 (λ x. step_on x c + step_on x k) (λ x. step_on x (c + k)) (true_T a s.0);
      inside = ltb-true (c + k) 8 s.1;
      owner = first-lt c k (ltb-true (c + k) 8 s.1);
      apart = r.1;
    }
  where
    first-lt : (c k : ℕ) → c + k < 8 → c < 8
    first-lt c k h = omega arith

crossed-test : (side : Corners) → length side ≡ 8 → T (every (crossed_in side) (flat (cell_tris always side)))
unfolding cell_key every crossed_in flat step_on on
crossed-test side e = bools_at 8 (λ l. every (crossed_in l) (flat (cell_tris always l))) tt side e

pub cell_crossed : (side : Corners) → length side ≡ 8 → All (λ e. crossed_in side e ≡ true) (flat (cell_tris always side))
cell_crossed side e = every-all (crossed_in side) (flat (cell_tris always side)) (crossed-test side e)
