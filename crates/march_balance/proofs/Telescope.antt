-- A box of cells has as many directed sides p to q as q to p where the samples on its outer faces are all on one side. Assumes nothing.
-- Each face of a cell is one of its neighbour's too, run the other way: summed over the box, the faces between two cells go out.
use mathlib.Core.Path.{◌≡◌, refl, ap, ap₂, ◌∙◌}
use mathlib.Core.Bool.{Bool}
use mathlib.Core.List.{List, map}
use Prim.Native.Nat.{ℕ, zero, suc, ◌+◌, ◌<◌}
use native.Mathlib.Omega.{arith}
use lib.ListN.{length}
use Rattle.laws.specs.Ranges.{each, sum}
use Rattle.laws.specs.Lists.{keep, count}
use Rattle.laws.specs.Couples.{from_to}
use Rattle.laws.specs.Triangles.{Tri, sides_of}
use Rattle.laws.proofs.Sums.{sum_same}
use Rattle.laws.proofs.Lists.{count-append}
use Rattle.tables.specs.Edges.{label_to, du, dv, dw}
use Rattle.tables.specs.Tets.{edge_of}
use Rattle.tables.proofs.Cases.{segment-none, sides-append}
use Rattle.lattice.specs.Sites.{step}
use Rattle.march.specs.Cells.{at, on_each, cell_tris}
use Rattle.march.specs.March.{corners_of, vertex_in, proper}
use Rattle.march_balance.specs.Faces.{unit, segment_on, face}
use Rattle.march_balance.proofs.Boxes.{on, above, box_sum, box-same, box-plus, box_sum_lem, box-next}
use Rattle.march_balance.proofs.Cells.{always, cell_even}
use Rattle.march_balance.proofs.Triangles.{keep_even}

-- the triangles of the cell at (u, v, w), all of whose corners are there, with sides S and vertices G
unfoldable pub cell_at : (ℕ → ℕ → ℕ → Bool) → (ℕ → ℕ → ℕ → ℕ → ℕ) → ℕ → ℕ → ℕ → List Tri
cell_at S G u v w = keep proper (map (on_each (vertex_in G u v w)) (cell_tris always (corners_of S u v w)))

-- those of a box of a x b x c cells
unfoldable pub cells_of : (a b c : ℕ) → (ℕ → ℕ → ℕ → Bool) → (ℕ → ℕ → ℕ → ℕ → ℕ) → List Tri
cells_of a b c S G = each c (λ w. each b (λ v. each a (λ u. cell_at S G u v w)))

module _ (S : ℕ → ℕ → ℕ → Bool) (G : ℕ → ℕ → ℕ → ℕ → ℕ) (p q : ℕ) where
  -- the directed sides p to q of a cell, and the segments p to q on its low face across axis x
  unfoldable pub cell_runs : ℕ → ℕ → ℕ → ℕ
  cell_runs u v w = count (from_to p q) (sides_of (cell_at S G u v w))

  unfoldable pub face_runs : ℕ → ℕ → ℕ → ℕ → ℕ
  face_runs x u v w = count (from_to p q) (face x (corners_of S u v w) (vertex_in G u v w) 0)

  -- a high face is the low face of the next cell
  next-face : (x : ℕ) → x < 3 → (u v w : ℕ)
      → count (from_to p q) (face x (corners_of S u v w) (vertex_in G u v w) (unit x)) ≡ above (unit x) (face_runs x) u v w
  unfolding face_runs above face segment_on unit corners_of at vertex_in edge_of label_to step du dv dw
  next-face zero l u v w = refl
  next-face (suc zero) l u v w = refl
  next-face (suc (suc zero)) l u v w = refl
  next-face (suc (suc (suc x))) l u v w = absurd (omega arith)

  sides-each : (n : ℕ) (f : ℕ → List Tri) → count (from_to p q) (sides_of (each n f)) ≡ sum n (λ i. count (from_to p q) (sides_of (f i)))
  unfolding each sum count sides_of
  sides-each zero f = refl
  sides-each (suc n) f =
      ap (count (from_to p q)) (sides-append (each n f) (f n)) ∙ count-append (from_to p q) (sides_of (each n f)) (sides_of (f n))
      ∙ ap (λ (x : ℕ). x + count (from_to p q) (sides_of (f n))) (sides-each n f)

  pub box-runs : (a b c : ℕ) → count (from_to p q) (sides_of (cells_of a b c S G)) ≡ box_sum a b c cell_runs
  unfolding cells_of box_sum cell_runs
  box-runs a b c = simp sides-each

-- ---- a face with its corners on one side has no segment

module _ (S : ℕ → ℕ → ℕ → Bool) (G : ℕ → ℕ → ℕ → ℕ → ℕ) (o : Bool) (p q : ℕ) where
  face-none : (x : ℕ) → x < 3 → (m : ℕ) → ((u v w : ℕ) → on x u v w ≡ m → S u v w ≡ o) → (u v w : ℕ) → on x u v w ≡ m → face_runs S G p q x u v w ≡ 0
  unfolding face_runs face segment_on unit corners_of at on count
  face-none zero l m k u v w e = simp (k u v w e, k u v (suc w) e, k u (suc v) w e, k u (suc v) (suc w) e, segment-none)
  face-none (suc zero) l m k u v w e = simp (k u v w e, k (suc u) v w e, k u v (suc w) e, k (suc u) v (suc w) e, segment-none)
  face-none (suc (suc zero)) l m k u v w e = simp (k u v w e, k (suc u) v w e, k u (suc v) w e, k (suc u) (suc v) w e, segment-none)
  face-none (suc (suc (suc x))) l m k u v w e = absurd (omega arith)

-- ---- one cell, and the box

module _ (S : ℕ → ℕ → ℕ → Bool) (G : ℕ → ℕ → ℕ → ℕ → ℕ) (p q : ℕ) where
  weight : ℕ → ℕ → ℕ → ℕ
  weight u v w = cell_runs S G p q u v w + sum 3 (λ x. face_runs S G q p x u v w) + sum 3 (λ x. above (unit x) (face_runs S G p q x) u v w)

pub corners_8 : (S : ℕ → ℕ → ℕ → Bool) (u v w : ℕ) → length (corners_of S u v w) ≡ 8
unfolding corners_of
corners_8 S u v w = refl

module _ (S : ℕ → ℕ → ℕ → Bool) (G : ℕ → ℕ → ℕ → ℕ → ℕ) (p q : ℕ) where
  cell_weight : (u v w : ℕ) → weight S G p q u v w ≡ weight S G q p u v w
  unfolding weight cell_runs face_runs cell_at
  cell_weight u v w =
      omega (
        arith,
        keep_even p q (map (on_each (vertex_in G u v w)) (cell_tris always (corners_of S u v w))),
        cell_even (vertex_in G u v w) (corners_of S u v w) (corners_8 S u v w) p q,
        sum_same 3 _ _ (λ x l. next-face S G p q x l u v w),
        sum_same 3 _ _ (λ x l. next-face S G q p x l u v w),
      )

module _ (S : ℕ → ℕ → ℕ → Bool) (G : ℕ → ℕ → ℕ → ℕ → ℕ) (a b c : ℕ) (o : Bool)
    (low : (x : ℕ) → x < 3 → (u v w : ℕ) → on x u v w ≡ 0 → S u v w ≡ o)
    (high : (x : ℕ) → x < 3 → (u v w : ℕ) → on x u v w ≡ on x a b c → S u v w ≡ o) where
  -- moved by one along their axis, the faces of the box have the same sum
  box_weight : (p q : ℕ)
      → box_sum a b c (weight S G p q)
      ≡ box_sum a b c (cell_runs S G p q) + sum 3 (λ x. box_sum a b c (face_runs S G q p x)) + sum 3 (λ x. box_sum a b c (face_runs S G p q x))
  unfolding weight
  box_weight p q =
      box-plus a b c (λ u v w. cell_runs S G p q u v w + sum 3 (λ x. face_runs S G q p x u v w)) (λ u v w. sum 3 (λ x. above (unit x) (face_runs S G p q x) u v w))
      ∙ ap₂ (λ (m n : ℕ). m + n)
      (box-plus a b c (cell_runs S G p q) (λ u v w. sum 3 (λ x. face_runs S G q p x u v w))
      ∙ ap (λ (m : ℕ). box_sum a b c (cell_runs S G p q) + m) (box_sum_lem a b c 3 (face_runs S G q p)))
      (box_sum_lem a b c 3 (λ x. above (unit x) (face_runs S G p q x))
      ∙ sum_same 3 _ _ (λ x l. box-next a b c x l (face_runs S G p q x)
      (face-none S G o p q x l 0 (low x l)) (face-none S G o p q x l (on x a b c) (high x l))))

  -- The directed sides of the triangles balance, for any sides that are o on the outer faces of the box, and any vertices at all.
  pub cells_even : (p q : ℕ) → count (from_to p q) (sides_of (cells_of a b c S G)) ≡ count (from_to q p) (sides_of (cells_of a b c S G))
  cells_even p q =
      omega (
        arith,
        box-runs S G p q a b c,
        box-runs S G q p a b c,
        box-same a b c _ _ (cell_weight S G p q),
        box_weight p q,
        box_weight q p,
      )
