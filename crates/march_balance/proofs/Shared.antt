-- Two cells that share a directed pair of crossed edges are one cell: on a face between two cells the pair runs one way for each of them. Assumes nothing.
use mathlib.Core.Path.{◌≡◌, refl, sym, ap, ap₂, ◌∙◌}
use mathlib.Core.Bool.{Bool, true, false, not, ◌&&◌, ◌||◌, true≢false, false≢true, or-true}
use mathlib.Core.Logic.{◌≢◌, ◌⊎◌, inl, inr}
use mathlib.Core.List.{List, map}
use Prim.Native.Nat.{ℕ, zero, suc, ◌+◌, ◌*◌, ◌/◌, ◌%◌, ◌≤◌, ◌<◌}
use native.Mathlib.Omega.{arith}
use borrow.Author.Tests.{ltb-true, leb-true, lt-ltb, eq-eqb, ne_eqb, not-true}
use lib.Dec.{T, eqb, ltb, leb}
use lib.ListN.{length}
use Rattle.laws.specs.Bools.{bit}
use Rattle.laws.specs.Ranges.{all}
use Rattle.laws.specs.Lists.{count, every, All}
use Rattle.laws.specs.Couples.{Pair, turn, on_both, from_to}
use Rattle.laws.specs.Triangles.{sides_of}
use Rattle.laws.proofs.Bools.{bools_at, and-apart, and_yes, true_T, T_true}
use Rattle.laws.proofs.Ranges.{all-at, all_at2, same_at2, lt-or, eq-or}
use Rattle.laws.proofs.Lists.{every-all, all_map, all_of, count_map, count-within}
use Rattle.laws.proofs.Couples.{from-ends, ends-from}
use Rattle.tables.specs.Edges.{corner_of, label_to, du, dv, dw}
use Rattle.tables.specs.Tets.{edge_of}
use Rattle.tables.specs.Cases.{segment}
use Rattle.tables.proofs.Edges.{corner_steps}
use Rattle.lattice.specs.Sites.{step}
use Rattle.lattice.proofs.Sites.{step-add}
use Rattle.march.specs.Cells.{Corners, at, cell_tris}
use Rattle.march.specs.March.{corners_of}
use Rattle.march_balance.specs.Faces.{unit, segment_on, face}
use Rattle.march_balance.proofs.Boxes.{on, step_on, step_on-lt, above}
use Rattle.march_balance.proofs.Cells.{always, same, cell_key, crossed_in, crossed_in_lem, face-named}

-- ---- what a directed pair of a cell's edges is like

-- both edges lie on the high face across axis x, or both on the low face
unfoldable pub on_high : ℕ → Pair → Bool
on_high x z = eqb (step_on x (z.0 / 7)) 1 && eqb (step_on x (z.1 / 7)) 1

unfoldable pub on_low : ℕ → Pair → Bool
on_low x z =
    eqb (step_on x (z.0 / 7)) 0 && eqb (step_on x (z.1 / 7)) 0 && eqb (step_on x (corner_of (z.0 % 7))) 0 && eqb (step_on x (corner_of (z.1 % 7))) 0

unfoldable pub on_face : ℕ → Pair → Bool
on_face x z = on_high x z || on_low x z

unfoldable pub has : Pair → List Pair → Bool
has z l = ltb 0 (count (from_to z.0 z.1) l)

-- the directed sides of a cell's triangles
unfoldable pub cell_sides : Corners → List Pair
cell_sides l = sides_of (cell_tris always l)

-- A directed side joins crossed edges; on a low face it is a segment of the face, on a high face it is not one, but runs against it;
-- it is on one face at the most; and it is there once.
unfoldable pub fine : Corners → Pair → Bool
fine l z =
    (crossed_in l z.0 && crossed_in l z.1)
    && all 3 (λ x. not (on_high x z) || not (has z (face x l same (unit x))))
    && all 3 (λ x. not (on_low x z) || has z (face x l same 0))
    && all 3 (λ x. all 3 (λ y. eqb x y || not (on_face x z && on_face y z)))
    && leb (count (from_to z.0 z.1) (cell_sides l)) 1

fine_test_lem : (l : Corners) → length l ≡ 8 → T (every (fine l) (cell_sides l))
unfolding cell_key every fine has on_high on_low on_face cell_sides crossed_in step_on on count from_to face segment_on segment unit turn
fine_test_lem l e = bools_at 8 (λ l. every (fine l) (cell_sides l)) tt l e

pub record Fine (l : Corners) (z : Pair) : Type 0 where
  pub first : crossed_in l z.0 ≡ true
  pub second : crossed_in l z.1 ≡ true
  pub high : (x : ℕ) → x < 3 → on_high x z ≡ true → has z (face x l same (unit x)) ≡ false
  pub low : (x : ℕ) → x < 3 → on_low x z ≡ true → has z (face x l same 0) ≡ true
  pub alone : (x y : ℕ) → x < 3 → y < 3 → x ≢ y → on_face x z ≡ true → on_face y z ≡ true → ⊥
  pub once : count (from_to z.0 z.1) (cell_sides l) ≤ 1

imp : (a b : Bool) → T (not a || b) → a ≡ true → b ≡ true
imp true b t e = T_true b t
imp false b t e = absurd (false≢true e)

not-both : (a b c : Bool) → T (a || not (b && c)) → a ≡ false → b ≡ true → c ≡ true → ⊥
not-both true b c t e f g = absurd (true≢false e)
not-both false true true t e f g = t
not-both false true false t e f g = false≢true g
not-both false false c t e f g = false≢true f

fine_parts : (l : Corners) (z : Pair) → fine l z ≡ true → Fine l z
unfolding fine
fine_parts l z h =
    let ends = crossed_in l z.0 && crossed_in l z.1 in
    let highs = all 3 (λ x. not (on_high x z) || not (has z (face x l same (unit x)))) in
    let lows = all 3 (λ x. not (on_low x z) || has z (face x l same 0)) in
    let alones = all 3 (λ x. all 3 (λ y. eqb x y || not (on_face x z && on_face y z))) in
    let single = leb (count (from_to z.0 z.1) (cell_sides l)) 1 in
    let a = and-apart (ends && highs && lows && alones) single h in
    let b = and-apart (ends && highs && lows) alones a.0 in
    let c = and-apart (ends && highs) lows b.0 in
    let d = and-apart ends highs c.0 in
    let e = and-apart (crossed_in l z.0) (crossed_in l z.1) d.0 in
    record {
      first = e.0;
      second = e.1;
      high = λ x hx t. not-true (has z (face x l same (unit x))) (imp (on_high x z) (not (has z (face x l same (unit x))))
          (all-at 3 (λ x. not (on_high x z) || not (has z (face x l same (unit x)))) (true_T highs d.1) x hx) t);
      low = λ x hx t. imp (on_low x z) (has z (face x l same 0)) (all-at 3 (λ x. not (on_low x z) || has z (face x l same 0)) (true_T lows c.1) x hx) t;
      alone = λ x y hx hy n t t'. not-both (eqb x y) (on_face x z) (on_face y z)
          (all_at2 3 3 (λ x y. eqb x y || not (on_face x z && on_face y z)) (true_T alones b.1) x y hx hy) (ne_eqb x y n) t t';
      once = leb-true (count (from_to z.0 z.1) (cell_sides l)) 1 a.1;
    }

pub all-fine : (l : Corners) → length l ≡ 8 → All (Fine l) (cell_sides l)
all-fine l e = all_map (λ z. fine l z ≡ true) (Fine l) (fine_parts l) (cell_sides l) (every-all (fine l) (cell_sides l) (fine_test_lem l e))

-- ---- the low face of the next cell, moved, is the high face

from_moved : (h : ℕ → ℕ) (z y : Pair) → from_to z.0 z.1 y ≡ true → from_to (on_both h z).0 (on_both h z).1 (on_both h y) ≡ true
unfolding on_both
from_moved h z y e = let r = from-ends z.0 z.1 y e in ends-from (h z.0) (h z.1) (on_both h y) (ap h r.0) (ap h r.1)

has_moved : (h : ℕ → ℕ) (z : Pair) (l : List Pair) → has z l ≡ true → has (on_both h z) (map (on_both h) l) ≡ true
unfolding has
has_moved h z l t =
    lt-ltb 0 (count (from_to (on_both h z).0 (on_both h z).1) (map (on_both h) l))
    (omega (arith, ltb-true 0 (count (from_to z.0 z.1) l) t, within))
  where
    within : count (from_to z.0 z.1) l ≤ count (from_to (on_both h z).0 (on_both h z).1) (map (on_both h) l)
    within = rw (count_map (from_to (on_both h z).0 (on_both h z).1) (on_both h) l) (count-within _ _ l (all_of _ (from_moved h z) l))

next_moved : (S : ℕ → ℕ → ℕ → Bool) (u v w x : ℕ) → x < 3
    → face x (above (unit x) (corners_of S) u v w) (λ e. e + 7 * unit x) 0 ≡ face x (corners_of S u v w) same (unit x)
unfolding above face segment_on unit corners_of at edge_of label_to step du dv dw
next_moved S u v w zero l = refl
next_moved S u v w (suc zero) l = refl
next_moved S u v w (suc (suc zero)) l = refl
next_moved S u v w (suc (suc (suc x))) l = absurd (omega arith)

face-next : (S : ℕ → ℕ → ℕ → Bool) (u v w x : ℕ) → x < 3
    → map (on_both (λ e. e + 7 * unit x)) (face x (above (unit x) (corners_of S) u v w) same 0) ≡ face x (corners_of S u v w) same (unit x)
face-next S u v w x l = face-named (λ e. e + 7 * unit x) x (above (unit x) (corners_of S) u v w) 0 ∙ next_moved S u v w x l

-- ---- one axis, in numbers: i and i' are the places of two cells, a and a' how far the one edge lies in each, b and b' the other edge,
-- ka and kb how far the edges lead

record Level (i i' a a' b b' ka kb : ℕ) : Type 0 where
  first : i + a ≡ i' + a'
  second : i + b ≡ i' + b'
  room_a : a + ka < 2
  room_a' : a' + ka < 2
  room_b : b + kb < 2
  room_b' : b' + kb < 2

level_sym : {i i' a a' b b' ka kb : ℕ} → Level i i' a a' b b' ka kb → Level i' i a' a b' b ka kb
level_sym m = record { first = sym m.first; second = sym m.second; room_a = m.room_a'; room_a' = m.room_a; room_b = m.room_b'; room_b' = m.room_b }

-- cells that are not at the same place are neighbours, and both edges lie on the face between them
record Rises (i i' a a' b b' ka kb : ℕ) : Type 0 where
  next : i' ≡ suc i
  is_a : a ≡ 1
  is_a' : a' ≡ 0
  is_b : b ≡ 1
  is_b' : b' ≡ 0
  is_ka : ka ≡ 0
  is_kb : kb ≡ 0

rises : {i i' a a' b b' ka kb : ℕ} → Level i i' a a' b b' ka kb → i < i' → Rises i i' a a' b b' ka kb
rises m l = record {
  next = omega arith;
  is_a = omega arith;
  is_a' = omega arith;
  is_b = omega arith;
  is_b' = omega arith;
  is_ka = omega arith;
  is_kb = omega arith;
}

high_if : (x : ℕ) (z : Pair) → step_on x (z.0 / 7) ≡ 1 → step_on x (z.1 / 7) ≡ 1 → on_high x z ≡ true
unfolding on_high
high_if x z a b = and_yes (eq-eqb _ 1 a) (eq-eqb _ 1 b)

low_if : (x : ℕ) (z : Pair) → step_on x (z.0 / 7) ≡ 0 → step_on x (z.1 / 7) ≡ 0 → step_on x (corner_of (z.0 % 7)) ≡ 0 → step_on x (corner_of (z.1 % 7)) ≡ 0 → on_low x z ≡ true
unfolding on_low
low_if x z a b c d = and_yes (and_yes (and_yes (eq-eqb _ 0 a) (eq-eqb _ 0 b)) (eq-eqb _ 0 c)) (eq-eqb _ 0 d)

high_face : (x : ℕ) (z : Pair) → on_high x z ≡ true → on_face x z ≡ true
unfolding on_face
high_face x z e = rw e

low-face : (x : ℕ) (z : Pair) → on_low x z ≡ true → on_face x z ≡ true
unfolding on_face
low-face x z e = rw (e, or-true)

-- ---- an axis's own corner

unit_steps : (x y : ℕ) → x < 3 → y < 3 → step_on y (unit x) ≡ bit (eqb x y)
unfolding all step_on on unit du dv dw bit
unit_steps x y hx hy = same_at2 3 3 (λ x y. step_on y (unit x)) (λ x y. bit (eqb x y)) tt x y hx hy

unit-lt : (x : ℕ) → x < 3 → unit x < 8
unfolding unit all
unit-lt x h = ltb-true (unit x) 8 (T_true (ltb (unit x) 8) (all-at 3 (λ x. ltb (unit x) 8) tt x h))

corner_0 : (x : ℕ) → step_on x 0 ≡ 0
unfolding step_on on du dv dw
corner_0 zero = refl
corner_0 (suc zero) = refl
corner_0 (suc (suc x)) = refl

-- an edge of which each step is that of another and that of corner c
edge_moved : (c e e' : ℕ) → c < 8 → e / 7 < 8 → e' / 7 < 8 → e % 7 ≡ e' % 7 → ((y : ℕ) → y < 3 → step_on y (e / 7) ≡ step_on y (e' / 7) + step_on y c) → e ≡ e' + 7 * c
unfolding step_on on
edge_moved c e e' hc h h' l f =
    omega (
      arith,
      corner_steps (e / 7) h,
      corner_steps (e' / 7) h',
      corner_steps c hc,
      f 0 (omega arith),
      f 1 (omega arith),
      f 2 (omega arith),
    )

-- ---- two cells, with a directed pair of each, of the same crossed edges of the box

pub record Meet (S : ℕ → ℕ → ℕ → Bool) (u v w u' v' w' : ℕ) (z z' : Pair) : Type 0 where
  pub one : Fine (corners_of S u v w) z
  pub other : Fine (corners_of S u' v' w') z'
  pub first : (x : ℕ) → x < 3 → step (step_on x (z.0 / 7)) (on x u v w) ≡ step (step_on x (z'.0 / 7)) (on x u' v' w')
  pub second : (x : ℕ) → x < 3 → step (step_on x (z.1 / 7)) (on x u v w) ≡ step (step_on x (z'.1 / 7)) (on x u' v' w')
  pub label₀ : z.0 % 7 ≡ z'.0 % 7
  pub label₁ : z.1 % 7 ≡ z'.1 % 7

meet_sym : (S : ℕ → ℕ → ℕ → Bool) (u v w u' v' w' : ℕ) (z z' : Pair) → Meet S u v w u' v' w' z z' → Meet S u' v' w' u v w z' z
meet_sym S u v w u' v' w' z z' m = record {
  one = m.other;
  other = m.one;
  first = λ x h. sym (m.first x h);
  second = λ x h. sym (m.second x h);
  label₀ = sym m.label₀;
  label₁ = sym m.label₁;
}

-- the room of a crossed edge in its cell
crossed-room : (l : Corners) (e : ℕ) → crossed_in l e ≡ true → (x : ℕ) → x < 3 → step_on x (e / 7) + step_on x (corner_of (e % 7)) < 2
crossed-room l e h x hx = omega (arith, (crossed_in_lem l e h).steps x hx, step_on-lt x (e / 7 + corner_of (e % 7)))

step-plus : (x c c' i i' : ℕ) → step (step_on x c) i ≡ step (step_on x c') i' → i + step_on x c ≡ i' + step_on x c'
step-plus x c c' i i' e = sym (step-add (step_on x c) i (step_on-lt x c)) ∙ e ∙ step-add (step_on x c') i' (step_on-lt x c')

module _ (S : ℕ → ℕ → ℕ → Bool) (u v w u' v' w' : ℕ) (z z' : Pair) (m : Meet S u v w u' v' w' z z') where
  axis : (x : ℕ) → x < 3
      → Level (on x u v w) (on x u' v' w') (step_on x (z.0 / 7)) (step_on x (z'.0 / 7)) (step_on x (z.1 / 7)) (step_on x (z'.1 / 7))
      (step_on x (corner_of (z.0 % 7))) (step_on x (corner_of (z.1 % 7)))
  axis x h = record {
    first = step-plus x (z.0 / 7) (z'.0 / 7) (on x u v w) (on x u' v' w') (m.first x h);
    second = step-plus x (z.1 / 7) (z'.1 / 7) (on x u v w) (on x u' v' w') (m.second x h);
    room_a = crossed-room (corners_of S u v w) z.0 m.one.first x h;
    room_a' = rw m.label₀ (crossed-room (corners_of S u' v' w') z'.0 m.other.first x h);
    room_b = crossed-room (corners_of S u v w) z.1 m.one.second x h;
    room_b' = rw m.label₁ (crossed-room (corners_of S u' v' w') z'.1 m.other.second x h);
  }

  -- where the cells are apart on one axis, they are level on the others
  module _ (x : ℕ) (hx : x < 3) (l : on x u v w < on x u' v' w') where
    up : Rises (on x u v w) (on x u' v' w') (step_on x (z.0 / 7)) (step_on x (z'.0 / 7)) (step_on x (z.1 / 7)) (step_on x (z'.1 / 7))
        (step_on x (corner_of (z.0 % 7))) (step_on x (corner_of (z.1 % 7)))
    up = rises (axis x hx) l

    above_it : on_high x z ≡ true
    above_it = high_if x z up.is_a up.is_b

    below_it : on_low x z' ≡ true
    below_it = low_if x z' up.is_a' up.is_b' (rw m.label₀ at up.is_ka) (rw m.label₁ at up.is_kb)

    level : (y : ℕ) → y < 3 → x ≢ y → on y u v w ≡ on y u' v' w'
    level y hy n = go (lt-or (on y u v w) (on y u' v' w')) (lt-or (on y u' v' w') (on y u v w))
      where
        no : on_face y z ≡ true → ⊥
        no t = m.one.alone x y hx hy n (high_face x z above_it) t

        go : (on y u v w < on y u' v' w') ⊎ (on y u' v' w' ≤ on y u v w) → (on y u' v' w' < on y u v w) ⊎ (on y u v w ≤ on y u' v' w') → on y u v w ≡ on y u' v' w'
        go (inl k) r = let s = rises (axis y hy) k in absurd (no (high_face y z (high_if y z s.is_a s.is_b)))
        go (inr k) (inl k') = let s = rises (level_sym (axis y hy)) k' in absurd (no (low-face y z (low_if y z s.is_a' s.is_b' s.is_ka s.is_kb)))
        go (inr k) (inr k') = omega arith

    -- so the other cell is the next along the axis, and its pair is the same pair moved
    record Moved (y : ℕ) : Type 0 where
      place : on y u' v' w' ≡ step (step_on y (unit x)) (on y u v w)
      edge₀ : step_on y (z.0 / 7) ≡ step_on y (z'.0 / 7) + step_on y (unit x)
      edge₁ : step_on y (z.1 / 7) ≡ step_on y (z'.1 / 7) + step_on y (unit x)

    moved : (y : ℕ) → y < 3 → Moved y
    unfolding bit
    moved y hy = go (eq-or x y)
      where
        go : (x ≡ y) ⊎ (x ≡ y → ⊥) → Moved y
        go (inl e) =
            let t : step_on y (unit x) ≡ 1 = unit_steps x y hx hy ∙ ap bit (eq-eqb x y e) in
            let s = rw e at up in
            record {
              place = omega (arith, t, s, step-add (step_on y (unit x)) (on y u v w) (step_on-lt y (unit x)));
              edge₀ = omega (arith, t, s);
              edge₁ = omega (arith, t, s);
            }
        go (inr n) =
            let t : step_on y (unit x) ≡ 0 = unit_steps x y hx hy ∙ ap bit (ne_eqb x y n) in
            let s = axis y hy in
            let r = level y hy n in
            record {
              place = omega (arith, t, r, step-add (step_on y (unit x)) (on y u v w) (step_on-lt y (unit x)));
              edge₀ = omega (arith, t, s, r);
              edge₁ = omega (arith, t, s, r);
            }

    next-pair : z ≡ on_both (λ e. e + 7 * unit x) z'
    unfolding on_both
    next-pair =
        ap₂ {C = Pair} (λ (a b : ℕ). (a, b))
        (edge_moved (unit x) z.0 z'.0 (unit-lt x hx) (crossed_in_lem (corners_of S u v w) z.0 m.one.first).owner (crossed_in_lem (corners_of S u' v' w') z'.0 m.other.first).owner
        m.label₀ (λ y hy. (moved y hy).edge₀))
        (edge_moved (unit x) z.1 z'.1 (unit-lt x hx) (crossed_in_lem (corners_of S u v w) z.1 m.one.second).owner (crossed_in_lem (corners_of S u' v' w') z'.1 m.other.second).owner
        m.label₁ (λ y hy. (moved y hy).edge₁))

    next_cell : corners_of S u' v' w' ≡ above (unit x) (corners_of S) u v w
    unfolding above step_on on
    next_cell = λ i. corners_of S ((moved 0 (omega arith)).place i) ((moved 1 (omega arith)).place i) ((moved 2 (omega arith)).place i)

    -- the pair is a segment of the face between them as the other cell has it, and is none as the one cell has it
    never : ⊥
    never =
        let t : has z' (face x (above (unit x) (corners_of S) u v w) same 0) ≡ true = rw next_cell at (m.other.low x hx below_it) in
        let s = has_moved (λ e. e + 7 * unit x) z' (face x (above (unit x) (corners_of S) u v w) same 0) t in
        let r : has z (face x (corners_of S u v w) same (unit x)) ≡ true = rw (next-pair, ← face-next S u v w x hx) s in
        true≢false (sym r ∙ m.one.high x hx above_it)

-- the cells are one, and so are the pairs
module _ (S : ℕ → ℕ → ℕ → Bool) (u v w u' v' w' : ℕ) (z z' : Pair) (m : Meet S u v w u' v' w' z z') where
  same_place : (x : ℕ) → x < 3 → on x u v w ≡ on x u' v' w'
  same_place x h = go (lt-or (on x u v w) (on x u' v' w')) (lt-or (on x u' v' w') (on x u v w))
    where
      go : (on x u v w < on x u' v' w') ⊎ (on x u' v' w' ≤ on x u v w) → (on x u' v' w' < on x u v w) ⊎ (on x u v w ≤ on x u' v' w') → on x u v w ≡ on x u' v' w'
      go (inl l) r = absurd (never S u v w u' v' w' z z' m x h l)
      go (inr k) (inl l) = absurd (never S u' v' w' u v w z' z (meet_sym S u v w u' v' w' z z' m) x h l)
      go (inr k) (inr l) = omega arith

  same-edge : (e e' : ℕ) → e / 7 < 8 → e' / 7 < 8 → e % 7 ≡ e' % 7 → ((x : ℕ) → x < 3 → step (step_on x (e / 7)) (on x u v w) ≡ step (step_on x (e' / 7)) (on x u' v' w')) → e ≡ e'
  same-edge e e' h h' l f =
      let r = edge_moved 0 e e' (omega arith) h h' l
      (λ x hx. omega (arith, step-plus x (e / 7) (e' / 7) (on x u v w) (on x u' v' w') (f x hx), same_place x hx, corner_0 x)) in
      omega (arith, r)

  pub meet_once : (u ≡ u') × (v ≡ v') × (w ≡ w') × (z ≡ z')
  unfolding on
  meet_once = (
    same_place 0 (omega arith),
    same_place 1 (omega arith),
    same_place 2 (omega arith),
    ap₂ {C = Pair} (λ (a b : ℕ). (a, b))
        (same-edge z.0 z'.0 (crossed_in_lem (corners_of S u v w) z.0 m.one.first).owner (crossed_in_lem (corners_of S u' v' w') z'.0 m.other.first).owner m.label₀ m.first)
        (same-edge z.1 z'.1 (crossed_in_lem (corners_of S u v w) z.1 m.one.second).owner (crossed_in_lem (corners_of S u' v' w') z'.1 m.other.second).owner m.label₁ m.second),
  )
