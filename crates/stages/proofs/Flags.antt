-- What splits and what is rolled back, by the flags of the sides of the flat triangle list. Assumes nothing.
use mathlib.Core.Path.{◌≡◌, refl, ap, sym, ◌∙◌}
use mathlib.Core.Logic.{◌≢◌}
use mathlib.Core.Bool.{Bool, true, false, not, ◌&&◌, ◌||◌, false≢true}
use mathlib.Core.List.{List, [], ◌∷◌}
use Prim.Native.Nat.{ℕ, ◌+◌, ◌*◌, ◌/◌, ◌%◌, ◌<◌}
use native.Mathlib.Omega.{arith}
use lib.Dec.{T, eqb, ltb, eqb→eq}
use borrow.Author.Tests.{ltb-true, lt-ltb, eqb-true, eq-eqb}
use lib.ListN.{length, get_or}
use Rattle.stages.specs.Vertices.{Vertex}
use Rattle.stages.specs.Splits.{end_of, is_crowded, crowded_sides, some}
use Rattle.stages.specs.Rounds.{on_crowded, crowded_tris, cluster_of, owns}
use Rattle.laws.specs.Bools.{all_bools, bit}
use Rattle.laws.specs.Ranges.{any}
use Rattle.laws.specs.Lists.{All, count, keep}
use Rattle.laws.specs.Couples.{Pair, from_to}
use Rattle.laws.specs.Triangles.{Tri, flat, sides_of}
use Rattle.march.specs.March.{proper}
use Rattle.march.specs.Runs.{runs, touches}
use Rattle.pairs.specs.Sides.{directed, joins, next, pair_count}
use Rattle.laws.proofs.Bools.{and-apart, bool_ext, bools_at}
use Rattle.laws.proofs.Ranges.{any-one, any_same, any_some}
use Rattle.laws.proofs.Lists.{all_member, count-find, count_kept, count-some}
use Rattle.laws.proofs.Triangles.{flat-length, flat-at}
use Rattle.pairs.proofs.Sides.{directed-at, directed-length, flat-directed}
use Rattle.pairs.specs.Sides as pairs

-- ---- some member passes a test

module _ {A : Type 0} where
  some-any : (d : A) (p : A → Bool) (xs : List A) → some p xs ≡ any (length xs) (λ k. p (get_or xs k d))
  unfolding some
  some-any d p xs =
      bool_ext (ltb 0 (count p xs)) (any (length xs) (λ k. p (get_or xs k d)))
      (λ h. let r = count-find d p xs (ltb-true 0 (count p xs) h) in any_some (length xs) (λ k. p (get_or xs k d)) r.0 r.1 r.2)
      (λ h. let r = any-one (length xs) (λ k. p (get_or xs k d)) h in lt-ltb 0 (count p xs) (count-some d p xs r.0 r.1 r.2))

  some-keep : (f p : A → Bool) (xs : List A) → some f (keep p xs) ≡ some (λ x. p x && f x) xs
  unfolding some
  some-keep f p xs = ap (ltb 0) (count_kept f p xs)

-- the three corners differ
pub record Apart (t : Tri) : Type 0 where
  pub first : t.0 ≢ t.1
  pub second : t.1 ≢ t.2
  pub third : t.2 ≢ t.0

not-eq : (x y : ℕ) → not (eqb x y) ≡ true → x ≢ y
not-eq x y h e = false≢true (sym (ap not (eq-eqb x y e)) ∙ h)

pub proper-apart : (t : Tri) → proper t ≡ true → Apart t
unfolding proper
proper-apart t h =
    let p = and-apart (not (eqb t.0 t.1) && not (eqb t.1 t.2)) (not (eqb t.0 t.2)) h in
    let q = and-apart (not (eqb t.0 t.1)) (not (eqb t.1 t.2)) p.0 in
    record { first = not-eq t.0 t.1 q.0; second = not-eq t.1 t.2 q.1; third = λ e. not-eq t.0 t.2 p.1 (sym e) }

-- ---- a triangle is on a pair as often as the pair is one of its sides

-- a, b, c: the corners are p; d, e, f: they are q. No two corners are one, none is both.
apt : Bool → Bool → Bool → Bool → Bool → Bool → Bool
apt a b c d e f =
    (not (a && b) && not (b && c) && not (c && a)) && (not (d && e) && not (e && f) && not (f && d)) && (not (a && d) && not (b && e) && not (c && f))

touch : Bool → Bool → Bool → Bool → Bool → Bool → ℕ
touch a b c d e f = bit (((a && e) || (b && f) || (c && d)) || ((d && b) || (e && c) || (f && a)))

three : Bool → Bool → Bool → Bool → Bool → Bool → ℕ
three a b c d e f = bit ((a && e) || (d && b)) + (bit ((b && f) || (e && c)) + bit ((c && d) || (f && a)))

once_of : Bool → Bool → Bool → Bool → Bool → Bool → Bool
once_of a b c d e f = not (apt a b c d e f) || eqb (touch a b c d e f) (three a b c d e f)

once : List Bool → Bool
once l = once_of (get_or l 0 false) (get_or l 1 false) (get_or l 2 false) (get_or l 3 false) (get_or l 4 false) (get_or l 5 false)

all_once : (a b c d e f : Bool) → T (once_of a b c d e f)
unfolding once once_of apt touch three bit all_bools
all_once a b c d e f = bools_at 6 once tt (a ∷ b ∷ c ∷ d ∷ e ∷ f ∷ []) refl

or-not : (a c : Bool) → T (not a || c) → a ≡ true → T c
or-not true c t e = t
or-not false c t e = absurd (false≢true e)

not-both : (x y : Bool) → (x ≡ true → y ≡ true → ⊥) → not (x && y) ≡ true
not-both true true h = absurd (h refl refl)
not-both true false h = refl
not-both false y h = refl

apart_from : (u v x : ℕ) → u ≢ v → not (eqb u x && eqb v x) ≡ true
apart_from u v x n = not-both (eqb u x) (eqb v x) (λ p q. n (eqb-true u x p ∙ sym (eqb-true v x q)))

not-two : (u p q : ℕ) → p ≢ q → not (eqb u p && eqb u q) ≡ true
not-two u p q n = not-both (eqb u p) (eqb u q) (λ a c. n (sym (eqb-true u p a) ∙ eqb-true u q c))

module _ (p q : ℕ) (ne : p ≢ q) where
  tri_sides : (t : Tri) → Apart t → bit (touches p q t) ≡ bit (joins p q (t.0, t.1)) + (bit (joins p q (t.1, t.2)) + bit (joins p q (t.2, t.0)))
  unfolding touches runs joins from_to apt once_of touch three
  tri_sides t s =
      let k : apt (eqb t.0 p) (eqb t.1 p) (eqb t.2 p) (eqb t.0 q) (eqb t.1 q) (eqb t.2 q) ≡ true =
      λ i. (apart_from t.0 t.1 p s.first i && apart_from t.1 t.2 p s.second i && apart_from t.2 t.0 p s.third i)
      && (apart_from t.0 t.1 q s.first i && apart_from t.1 t.2 q s.second i && apart_from t.2 t.0 q s.third i)
      && (not-two t.0 p q ne i && not-two t.1 p q ne i && not-two t.2 p q ne i) in
      eqb→eq (touch (eqb t.0 p) (eqb t.1 p) (eqb t.2 p) (eqb t.0 q) (eqb t.1 q) (eqb t.2 q))
      (three (eqb t.0 p) (eqb t.1 p) (eqb t.2 p) (eqb t.0 q) (eqb t.1 q) (eqb t.2 q))
      (or-not (apt (eqb t.0 p) (eqb t.1 p) (eqb t.2 p) (eqb t.0 q) (eqb t.1 q) (eqb t.2 q)) _
      (all_once (eqb t.0 p) (eqb t.1 p) (eqb t.2 p) (eqb t.0 q) (eqb t.1 q) (eqb t.2 q)) k)

  -- THE TRIANGLES ON A PAIR ARE THE SIDES THAT THE PAIR IS
  pub touch_sides : (ts : List Tri) → All (λ t. proper t ≡ true) ts → count (touches p q) ts ≡ pair_count p q (flat ts)
  unfolding count pair_count directed flat All
  touch_sides [] h = refl
  touch_sides (t ∷ ts) h = omega (arith, tri_sides t (proper-apart t h.0), touch_sides ts h.1)

-- ---- the flat list

abbrev pub nowhere : Tri
nowhere = (0, 0, 0)

sides_apart : (ts : List Tri) → All (λ t. proper t ≡ true) ts → All (λ p. p.0 ≢ p.1) (sides_of ts)
unfolding All sides_of
sides_apart [] h = tt
sides_apart (t ∷ ts) h = let s = proper-apart t h.0 in (s.first, (s.second, (s.third, sides_apart ts h.1)))

module _ (ts : List Tri) (P : All (λ t. proper t ≡ true) ts) where
  crowded-pair : (x y : ℕ) → x ≢ y → is_crowded ts (x, y) ≡ ltb 2 (pair_count x y (flat ts))
  unfolding is_crowded
  crowded-pair x y n = ap (ltb 2) (touch_sides x y n ts P)

  sides_long : length (sides_of ts) ≡ length (flat ts)
  sides_long = ap length (sym (flat-directed ts)) ∙ directed-length (flat ts) ∙ omega (arith, flat-length ts)

  side_at_lem : (k : ℕ) → k < length (flat ts) → get_or (sides_of ts) k (0, 0) ≡ (get_or (flat ts) k 0, get_or (flat ts) (next k) 0)
  side_at_lem k h = ap (λ (l : List Pair). get_or l k (0, 0)) (sym (flat-directed ts)) ∙ directed-at (flat ts) k (omega (arith, flat-length ts))

  -- a side's pair is crowded for the triangles as it is for the sides
  pub side-crowded : (k : ℕ) → k < length (flat ts) → is_crowded ts (get_or (flat ts) k 0, get_or (flat ts) (next k) 0) ≡ pairs.crowded (flat ts) k
  unfolding pairs.crowded
  side-crowded k h =
      let d : (get_or (sides_of ts) k (0, 0)).0 ≢ (get_or (sides_of ts) k (0, 0)).1 =
      all_member (0, 0) (λ p. p.0 ≢ p.1) (sides_of ts) (sides_apart ts P) k (omega (arith, sides_long)) in
      crowded-pair (get_or (flat ts) k 0) (get_or (flat ts) (next k) 0) (rw (side_at_lem k h) at d)

  -- WHAT SPLITS: vertex n is an end of a side that is crowded
  pub ends_are : (n : ℕ)
      → end_of (crowded_sides ts) n ≡ any (length (flat ts)) (λ k. pairs.crowded (flat ts) k && (eqb n (get_or (flat ts) k 0) || eqb n (get_or (flat ts) (next k) 0)))
  unfolding end_of crowded_sides
  ends_are n =
      let f : Pair → Bool = λ p. eqb n p.0 || eqb n p.1 in
      some-keep f (is_crowded ts) (sides_of ts)
      ∙ some-any (0, 0) (λ p. is_crowded ts p && f p) (sides_of ts)
      ∙ ap (λ (m : ℕ). any m (λ k. is_crowded ts (get_or (sides_of ts) k (0, 0)) && f (get_or (sides_of ts) k (0, 0)))) sides_long
      ∙ any_same (length (flat ts)) (λ k. is_crowded ts (get_or (sides_of ts) k (0, 0)) && f (get_or (sides_of ts) k (0, 0)))
      (λ k. pairs.crowded (flat ts) k && (eqb n (get_or (flat ts) k 0) || eqb n (get_or (flat ts) (next k) 0)))
      (λ k h. ap (λ (p : Pair). is_crowded ts p && f p) (side_at_lem k h) ∙ ap (λ (c : Bool). c && f (get_or (flat ts) k 0, get_or (flat ts) (next k) 0)) (side-crowded k h))

  -- a triangle is on a crowded pair where one of its three sides is crowded
  pub triangle-crowded : (t : ℕ) → t < length ts
      → on_crowded ts (get_or ts t nowhere) ≡ pairs.crowded (flat ts) (3 * t) || pairs.crowded (flat ts) (3 * t + 1) || pairs.crowded (flat ts) (3 * t + 2)
  unfolding on_crowded next
  triangle-crowded t h =
      let x = get_or ts t nowhere in
      let c = flat-at nowhere ts t h in
      let l : 3 * t + 2 < length (flat ts) = omega (arith, flat-length ts) in
      let n0 : 3 * t / 3 * 3 + (3 * t + 1) % 3 ≡ 3 * t + 1 = omega arith in
      let n1 : (3 * t + 1) / 3 * 3 + (3 * t + 1 + 1) % 3 ≡ 3 * t + 2 = omega arith in
      let n2 : (3 * t + 2) / 3 * 3 + (3 * t + 2 + 1) % 3 ≡ 3 * t = omega arith in
      let a : is_crowded ts (x.0, x.1) ≡ pairs.crowded (flat ts) (3 * t) =
      (λ i. is_crowded ts (sym c.0 i, (sym c.1 ∙ ap (λ (j : ℕ). get_or (flat ts) j 0) (sym n0)) i)) ∙ side-crowded (3 * t) (omega arith) in
      let d : is_crowded ts (x.1, x.2) ≡ pairs.crowded (flat ts) (3 * t + 1) =
      (λ i. is_crowded ts (sym c.1 i, (sym c.2 ∙ ap (λ (j : ℕ). get_or (flat ts) j 0) (sym n1)) i)) ∙ side-crowded (3 * t + 1) (omega arith) in
      let e : is_crowded ts (x.2, x.0) ≡ pairs.crowded (flat ts) (3 * t + 2) =
      (λ i. is_crowded ts (sym c.2 i, (sym c.0 ∙ ap (λ (j : ℕ). get_or (flat ts) j 0) (sym n2)) i)) ∙ side-crowded (3 * t + 2) (omega arith) in
      λ i. a i || d i || e i

  -- WHAT IS ROLLED BACK: the sites of the live cluster vertices at the corners of triangles with a side that is crowded
  pub owns_are : (vs : List Vertex) (s : ℕ)
      → owns vs (crowded_tris ts) s
      ≡ any (length ts) (λ t. (pairs.crowded (flat ts) (3 * t) || pairs.crowded (flat ts) (3 * t + 1) || pairs.crowded (flat ts) (3 * t + 2))
      && (cluster_of vs s (get_or (flat ts) (3 * t) 0) || cluster_of vs s (get_or (flat ts) (3 * t + 1) 0) || cluster_of vs s (get_or (flat ts) (3 * t + 2) 0)))
  unfolding owns crowded_tris
  owns_are vs s =
      let f : Tri → Bool = λ t. cluster_of vs s t.0 || cluster_of vs s t.1 || cluster_of vs s t.2 in
      some-keep f (on_crowded ts) ts
      ∙ some-any nowhere (λ t. on_crowded ts t && f t) ts
      ∙ any_same (length ts) (λ t. on_crowded ts (get_or ts t nowhere) && f (get_or ts t nowhere)) _
      (λ t h. let c = flat-at nowhere ts t h in
      λ i. triangle-crowded t h i && (cluster_of vs s (sym c.0 i) || cluster_of vs s (sym c.1 i) || cluster_of vs s (sym c.2 i)))
