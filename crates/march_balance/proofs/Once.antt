-- Where each crossed edge has a vertex of its own, a pair that is in a triangle is in exactly two, which run it opposite ways. Assumes nothing.
use mathlib.Core.Path.{◌≡◌, refl, sym, ap, ◌∙◌}
use mathlib.Core.Logic.{◌⊎◌, inl, inr}
use mathlib.Core.Bool.{Bool, true, false, cond}
use mathlib.Core.List.{List, [], ◌∷◌, map}
use Prim.Native.Nat.{ℕ, zero, suc, ◌/◌, ◌%◌, ◌≤◌, ◌<◌}
use native.Mathlib.Omega.{arith}
use Rattle.laws.specs.Lists.{keep, count}
use Rattle.laws.specs.Couples.{Pair, on_both, from_to}
use Rattle.laws.specs.Triangles.{Tri, sides_of}
use Rattle.laws.proofs.Ranges.{lt-or}
use Rattle.laws.proofs.Lists.{all_map, count_map, count_witness, count-within}
use Rattle.laws.proofs.Couples.{from-ends, ends-from}
use Rattle.tables.specs.Edges.{du, dv, dw}
use Rattle.lattice.specs.Sites.{in_box, step}
use Rattle.march.specs.Cells.{on_each, cell_tris}
use Rattle.march.specs.March.{Field, vertex_at, corners_of, vertex_in, proper, march}
use Rattle.march.specs.Runs.{runs, touches}
use Rattle.march_balance.specs.Fit.{Fit, Own}
use Rattle.march_balance.proofs.Boxes.{on, step_on, above, box-one}
use Rattle.march_balance.proofs.Cells.{always, crossed_in, sides-named}
use Rattle.march_balance.proofs.Triangles.{runs-sides}
use Rattle.march_balance.proofs.Telescope.{cell_at, cell_runs, box-runs, corners_8}
use Rattle.march_balance.proofs.Sites.{cell_edge, side_out, corners_in, cell_outer, march-cells}
use Rattle.march_balance.proofs.Shared.{cell_sides, Fine, all-fine, meet_once}
use Rattle.march.proofs.March.{march-proper}
use Rattle.march_balance.proofs.Balance.{touch_count, twice_closed}

-- the sides of the triangles that are kept are among those of all
sides-keep : (p q : ℕ) (f : Tri → Bool) (ts : List Tri) → count (from_to p q) (sides_of (keep f ts)) ≤ count (from_to p q) (sides_of ts)
unfolding keep sides_of count
sides-keep p q f [] = omega arith
sides-keep p q f (t ∷ ts) = go (f t) (sides-keep p q f ts)
  where
    go : (b : Bool) → count (from_to p q) (sides_of (keep f ts)) ≤ count (from_to p q) (sides_of ts)
        → count (from_to p q) (sides_of (cond b (t ∷ keep f ts) (keep f ts))) ≤ count (from_to p q) (sides_of (t ∷ ts))
    go true h = omega arith
    go false h = omega arith

module _ (F : Field) (o : Bool) (P : Fit F o) (own : Own F) where
  -- the cell at (u, v, w) is in the box
  Inside : ℕ → ℕ → ℕ → Type 0
  Inside u v w = in_box F.box (suc u) (suc v) (suc w) ≡ true

  -- the sides of the samples, and the vertex of an edge of a cell
  S : ℕ → ℕ → ℕ → Bool
  S = side_out F o

  h : ℕ → ℕ → ℕ → ℕ → ℕ
  h = vertex_in (vertex_at F)

  -- crossed edges of two cells with the same vertex are the same edge of the box
  same_vertex : (u v w u' v' w' : ℕ) → Inside u v w → Inside u' v' w' → (e e' : ℕ) → crossed_in (corners_of S u v w) e ≡ true → crossed_in (corners_of S u' v' w') e' ≡ true
      → h u v w e ≡ h u' v' w' e' → ((x : ℕ) → x < 3 → step (step_on x (e / 7)) (on x u v w) ≡ step (step_on x (e' / 7)) (on x u' v' w')) × (e % 7 ≡ e' % 7)
  unfolding Inside S h Own vertex_in above step_on on
  same_vertex u v w u' v' w' i i' e e' c c' q =
      let r = own (step (du (e / 7)) u) (step (dv (e / 7)) v) (step (dw (e / 7)) w) (e % 7)
      (step (du (e' / 7)) u') (step (dv (e' / 7)) v') (step (dw (e' / 7)) w') (e' % 7)
      (cell_edge F u v w i e (rw (corners_in F o P u v w i) at c)) (cell_edge F u' v' w' i' e' (rw (corners_in F o P u' v' w' i') at c')) q in
      (steps r.0 r.1 r.2, r.3)
    where
      steps : step (du (e / 7)) u ≡ step (du (e' / 7)) u' → step (dv (e / 7)) v ≡ step (dv (e' / 7)) v' → step (dw (e / 7)) w ≡ step (dw (e' / 7)) w'
          → (x : ℕ) → x < 3 → step (step_on x (e / 7)) (on x u v w) ≡ step (step_on x (e' / 7)) (on x u' v' w')
      steps a b c zero l = a
      steps a b c (suc zero) l = b
      steps a b c (suc (suc x)) l = c

  module _ (p q : ℕ) where
    meets : (u v w u' v' w' : ℕ) → Inside u v w → Inside u' v' w' → (z z' : Pair) → Fine (corners_of S u v w) z → Fine (corners_of S u' v' w') z'
        → from_to p q (on_both (h u v w) z) ≡ true → from_to p q (on_both (h u' v' w') z') ≡ true → (u ≡ u') × (v ≡ v') × (w ≡ w') × (z ≡ z')
    unfolding on_both
    meets u v w u' v' w' i i' z z' f f' e e' =
        let n = from-ends p q (on_both (h u v w) z) e in
        let n' = from-ends p q (on_both (h u' v' w') z') e' in
        let a = same_vertex u v w u' v' w' i i' z.0 z'.0 f.first f'.first (n.0 ∙ sym n'.0) in
        let b = same_vertex u v w u' v' w' i i' z.1 z'.1 f.second f'.second (n.1 ∙ sym n'.1) in
        meet_once S u v w u' v' w' z z' (record { one = f; other = f'; first = a.0; second = b.0; label₀ = a.1; label₁ = b.1 })

    -- the directed sides of a cell before any is dropped
    cell_all : ℕ → ℕ → ℕ → ℕ
    cell_all u v w = count (λ z. from_to p q (on_both (h u v w) z)) (cell_sides (corners_of S u v w))

    runs-all : (u v w : ℕ) → cell_runs S (vertex_at F) p q u v w ≤ cell_all u v w
    unfolding cell_runs cell_all cell_at cell_sides h
    runs-all u v w =
        rw (← count_map (from_to p q) (on_both (vertex_in (vertex_at F) u v w)) (sides_of (cell_tris always (corners_of S u v w))), sides-named)
        (sides-keep p q proper (map (on_each (vertex_in (vertex_at F) u v w)) (cell_tris always (corners_of S u v w))))

    -- a cell with a side p to q is in the box
    inside : (u v w : ℕ) → 0 < cell_runs S (vertex_at F) p q u v w → Inside u v w
    unfolding Inside S cell_runs count sides_of
    inside u v w l = go (in_box F.box (suc u) (suc v) (suc w)) refl
      where
        empty : cell_at (side_out F o) (vertex_at F) u v w ≡ [] → ⊥
        empty e = omega (arith, ap (λ (ts : List Tri). count (from_to p q) (sides_of ts)) e)

        go : (b : Bool) → in_box F.box (suc u) (suc v) (suc w) ≡ b → b ≡ true
        go true e = refl
        go false e = absurd (empty (cell_outer F o P u v w e))

    found : (u v w : ℕ) → 0 < cell_runs S (vertex_at F) p q u v w → (z : Pair) × (from_to p q (on_both (h u v w) z) ≡ true) × Fine (corners_of S u v w) z
    unfolding cell_all
    found u v w l =
        count_witness (λ z. from_to p q (on_both (h u v w) z)) (Fine (corners_of S u v w)) (cell_sides (corners_of S u v w)) (all-fine (corners_of S u v w) (corners_8 S u v w))
        (omega (arith, runs-all u v w))

    cell_apart : (u v w u' v' w' : ℕ) → 0 < cell_runs S (vertex_at F) p q u v w → 0 < cell_runs S (vertex_at F) p q u' v' w' → (u ≡ u') × (v ≡ v') × (w ≡ w')
    cell_apart u v w u' v' w' l l' =
        let r = found u v w l in
        let r' = found u' v' w' l' in
        let m = meets u v w u' v' w' (inside u v w l) (inside u' v' w' l') r.0 r'.0 r.2 r'.2 r.1 r'.1 in
        (m.0, m.1, m.2)

    cell_once : (u v w : ℕ) → cell_runs S (vertex_at F) p q u v w ≤ 1
    unfolding cell_all
    cell_once u v w = go (lt-or 0 (cell_runs S (vertex_at F) p q u v w))
      where
        go : (0 < cell_runs S (vertex_at F) p q u v w) ⊎ (cell_runs S (vertex_at F) p q u v w ≤ 0) → cell_runs S (vertex_at F) p q u v w ≤ 1
        go (inr l) = omega arith
        go (inl l) =
            let r = found u v w l in
            let i = inside u v w l in
            omega (
              arith,
              runs-all u v w,
              count-within (λ z. from_to p q (on_both (h u v w) z)) (from_to r.0.0 r.0.1) (cell_sides (corners_of S u v w))
                  (all_map (Fine (corners_of S u v w)) (λ z. from_to p q (on_both (h u v w) z) ≡ true → from_to r.0.0 r.0.1 z ≡ true)
                  (λ z f e.
                  let m = (meets u v w u v w i i z r.0 f r.2 e r.1).3 in
                  ends-from r.0.0 r.0.1 z (ap (λ (y : Pair). y.0) m) (ap (λ (y : Pair). y.1) m))
                  (cell_sides (corners_of S u v w)) (all-fine (corners_of S u v w) (corners_8 S u v w))),
              r.2.once,
            )

    -- no two triangles run p to q
    pub run_once : count (runs p q) (march F) ≤ 1
    unfolding S
    run_once =
        rw (
          runs-sides p q (march F) (march-proper F),
          march-cells F o P,
          box-runs (side_out F o) (vertex_at F) p q F.box.nu F.box.nv F.box.nw,
        )
        (box-one F.box.nu F.box.nv F.box.nw (cell_runs (side_out F o) (vertex_at F) p q) cell_once cell_apart)

module _ (F : Field) (o : Bool) (P : Fit F o) (own : Own F) (p q : ℕ) where
  -- no pair is in more than two triangles
  pub touch_most : count (touches p q) (march F) ≤ 2
  touch_most = omega (arith, touch_count F p q, run_once F o P own p q, run_once F o P own q p)

  -- a pair that is in a triangle is in exactly two, which run it opposite ways
  pub exactly_two : 0 < count (touches p q) (march F)
      → (count (touches p q) (march F) ≡ 2) × (count (runs p q) (march F) ≡ 1) × (count (runs q p) (march F) ≡ 1)
  exactly_two l = twice_closed F o P p q l touch_most
