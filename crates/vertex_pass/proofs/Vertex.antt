-- One cluster in the pass: no vertex without a point, one vertex, or one for each of its edges. Assumes nothing.
use mathlib.Core.Path.{◌≡◌, refl, sym, ap, ◌∙◌}
use mathlib.Core.Bool.{Bool, true, false, ◌&&◌, cond}
use mathlib.Core.List.{List, [], ◌∷◌, ◌++◌, map, append-nil}
use Prim.Native.Nat.{ℕ, suc, ◌+◌, ◌*◌, ◌≤◌, ◌<◌}
use native.Mathlib.Omega.{arith}
use lib.Dec.{eqb, ltb}
use borrow.Author.Tests.{eqb-true, eqb-false}
use lib.ListN.{length, get_or, set, length-set}
use lib.Seq.{sets, get_or-set_same, get_or-set_other, ext_get_or}
use lib.Ieee.{Float}
use Rattle.laws.specs.Bools.{bit}
use Rattle.laws.specs.Lists.{count, keep}
use Rattle.lattice.specs.declared.Sides.{Sides}
use Rattle.points.specs.declared.Frame.{Frame}
use Rattle.points.specs.declared.Point.{Point}
use Rattle.points.specs.declared.Sum.{Sum}
use Rattle.points.specs.Means.{mean_of, mean_sum, sum_of}
use Rattle.points.proofs.Means.{mean_sum_lem, sum-count}
use Rattle.march.specs.March.{none}
use Rattle.stages.specs.Boxes.{owned}
use Rattle.stages.specs.Vertices.{Vertex, apart, filled, fresh, held, several}
use Rattle.stages.specs.Meshes.{book_of, positions_of}
use Rattle.stages.specs.Samples.{edges_of, points_of, position_at}
use Rattle.stages.specs.Inner.Steps.{number, paint, paint_from}
use Rattle.stages.proofs.Table.{paint-length}
use Rattle.stages.specs.Splits.{place_by, split_by}
use Rattle.site_vertices.specs.Inner.Appending.{Appended, Space, pointed_of, singles_of}
use Rattle.site_vertices.proofs.Points.{points_kept, points_long}
use Rattle.site_vertices.proofs.Appending.{appended_same, paint-singles, singles_are}
use Rattle.vertex_pass.specs.declared.Pass.{Pass}
use Rattle.vertex_pass.specs.Inner.Passing.{Ahead, Passed, candidate_of}
use Rattle.vertex_pass.proofs.Passing.{passed_none, passed-same}

-- ---- numbers written over other numbers

paint_other : (j : ℕ) (ks t : List ℕ) (x : ℕ) → count (eqb x) ks ≡ 0 → get_or (paint j ks t) x none ≡ get_or t x none
unfolding paint count bit
paint_other j [] t x h = refl
paint_other j (k ∷ ks) t x h = go (eqb x k) refl h (paint_other j ks (set t k j) x)
  where
    go : (c : Bool) → eqb x k ≡ c → bit c + count (eqb x) ks ≡ 0 → (count (eqb x) ks ≡ 0 → get_or (paint j ks (set t k j)) x none ≡ get_or (set t k j) x none)
        → get_or (paint j ks (set t k j)) x none ≡ get_or t x none
    go true e z r = let y : ⊥ = omega arith in absurd y
    go false e z r = r (omega arith) ∙ get_or-set_other t k x j none (eqb-false x k e)

-- what was at the numbered places does not matter
number-agree : (i : ℕ) (ks t t' : List ℕ) → length t ≡ length t' → ((x : ℕ) → x < length t → count (eqb x) ks ≡ 0 → get_or t x none ≡ get_or t' x none)
    → number i ks t ≡ number i ks t'
unfolding number count bit
number-agree i [] t t' l h = ext_get_or none t t' l (λ x b. h x b refl)
number-agree i (k ∷ ks) t t' l h =
    number-agree (suc i) ks (set t k i) (set t' k i) (length-set t k i ∙ l ∙ sym (length-set t' k i)) (λ x b z. go x (omega (arith, length-set t k i)) z (eqb x k) refl)
  where
    go : (x : ℕ) → x < length t → count (eqb x) ks ≡ 0 → (c : Bool) → eqb x k ≡ c → get_or (set t k i) x none ≡ get_or (set t' k i) x none
    go x b z true e =
        let q : x ≡ k = eqb-true x k e in
        rw q (get_or-set_same t k i none (omega arith) ∙ sym (get_or-set_same t' k i none (omega (arith, l))))
    go x b z false e =
        get_or-set_other t k x i none (eqb-false x k e) ∙ h x b (ap (λ (c : Bool). bit c + count (eqb x) ks) e ∙ omega arith) ∙ sym (get_or-set_other t' k x i none (eqb-false x k e))

number_over : (i j : ℕ) (ks t : List ℕ) → number i ks (paint j ks t) ≡ number i ks t
number_over i j ks t = number-agree i ks (paint j ks t) t (paint-length j ks t) (λ x b z. paint_other j ks t x z)

-- ---- the candidate of a cluster

module _ (f : Frame) (n : Sides) (S : List Float) (s m : ℕ) where
  es : List ℕ
  es = pointed_of n S s (edges_of m)

  x : Vertex
  x = fresh 0 s es

  candidate_none : (l : List ℕ) → length l ≡ 0 → map (fresh 0 s) (keep filled (l ∷ [])) ≡ []
  unfolding keep filled
  candidate_none [] h = refl
  candidate_none (e ∷ l) h = let z : ⊥ = omega arith in absurd z

  candidate_one : (l : List ℕ) → (length l ≡ 0 → ⊥) → map (fresh 0 s) (keep filled (l ∷ [])) ≡ fresh 0 s l ∷ []
  unfolding keep filled
  candidate_one [] h = absurd (h refl)
  candidate_one (e ∷ l) h = refl

  pub held-count : (q : Sum) → q ≡ sum_of (points_of f n S s (edges_of m)) → q.count ≡ length (pointed_of n S s (edges_of m))
  held-count q e =
      ap (λ (y : Sum). y.count) e ∙ sum-count (points_of f n S s (edges_of m)) ∙ points_long f n S s (edges_of m)

  mean-is : (q : Sum) → q ≡ sum_of (points_of f n S s (edges_of m)) → mean_sum q ≡ mean_of (points_of f n S s (pointed_of n S s (edges_of m)))
  mean-is q e =
      ap mean_sum e ∙ mean_sum_lem (points_of f n S s (edges_of m)) ∙ ap mean_of (sym (points_kept f n S s (edges_of m)))

  one_place : (q : ℕ → Bool) (i : ℕ) (c : Bool) → (several x && q i) ≡ c → place_by q i (x ∷ []) ≡ cond c (apart 0 x) (x ∷ [])
  unfolding place_by
  one_place q i c e = ap (λ (y : Bool). cond y (apart 0 x) (x ∷ []) ++ []) e ∙ append-nil (cond c (apart 0 x) (x ∷ []))

  one_split : (q : ℕ → Bool) (i : ℕ) (c : Bool) → (several x && q i) ≡ c → split_by q i (x ∷ []) ≡ cond c 1 0
  unfolding split_by
  one_split q i c e = ap (λ (y : Bool). cond y 1 0 + 0) e ∙ go c
    where
      go : (c : Bool) → cond c 1 0 + 0 ≡ cond c 1 0
      go true = refl
      go false = refl

  several-is : several x ≡ ltb 1 (length es)
  unfolding several held fresh x
  several-is = refl

  -- the edges apart are the single vertices of the mask
  apart-is : singles_of n S 0 s m ≡ apart 0 x
  unfolding apart held fresh x es
  apart-is = singles_are n S 0 s m

  module _ (q : ℕ → Bool) (a : Pass) (t t₁ : List ℕ) (p : List Float) (k : List ℕ) (w : Sum) (ew : w ≡ sum_of (points_of f n S s (edges_of m)))
      (et : t₁ ≡ paint a.next (map (owned n s) (pointed_of n S s (edges_of m))) t) where
    painted : t₁ ≡ paint a.next (map (owned n s) es) t
    unfolding es
    painted = et

    -- WITHOUT A POINT NO VERTEX
    pub vertex_none : w.count ≡ 0 → Passed f n S q (candidate_of n S s m) a t p k a t₁ p k
    unfolding candidate_of paint es
    vertex_none h =
        let l : length es ≡ 0 = sym (held-count w ew) ∙ h in
        passed-same f n S q (sym (candidate_none es l)) (rw (painted ∙ go es l) (passed_none f n S q a t p k))
      where
        go : (l : List ℕ) → length l ≡ 0 → paint a.next (map (owned n s) l) t ≡ t
        go [] h = refl
        go (e ∷ l) h = let z : ⊥ = omega arith in absurd z

    module _ (some : w.count ≡ 0 → ⊥) where
      is_one : candidate_of n S s m ≡ x ∷ []
      unfolding candidate_of x es
      is_one = candidate_one es (λ (z : length es ≡ 0). some (held-count w ew ∙ z))

      flag_is : (c : Bool) → (ltb 1 w.count && q a.tried) ≡ c → (several x && q a.tried) ≡ c
      unfolding es
      flag_is c e = ap (λ (y : Bool). y && q a.tried) (several-is ∙ ap (ltb 1) (sym (held-count w ew))) ∙ e

      -- ONE VERTEX
      pub vertex_whole : (ltb 1 w.count && q a.tried) ≡ false → (z : Point) (p' : List Float) (k' : List ℕ) → z ≡ mean_sum w
          → p' ≡ sets p (3 * a.next) (z.x ∷ z.y ∷ z.z ∷ []) → k' ≡ sets k (4 * a.next) (s ∷ w.count ∷ w.count ∷ 0 ∷ [])
          → Passed f n S q (candidate_of n S s m) a t p k (record { next = a.next + 1; tried = a.tried + 1; split = a.split }) t₁ p' k'
      unfolding x paint_from held fresh positions_of position_at book_of es
      vertex_whole e z p' k' ez ep ek =
          passed-same f n S q (sym is_one) (record {
            vertices = appended_same f n S (sym (one_place q a.tried false (flag_is false e))) one;
            tried = refl;
            split = omega (arith, one_split q a.tried false (flag_is false e));
          })
        where
          one : Appended f n S (x ∷ []) a.next t p k (a.next + 1) t₁ p' k'
          one = record {
            next = refl;
            table = painted;
            positions = ep ∙ ap (λ (y : Point). sets p (3 * a.next) (y.x ∷ y.y ∷ y.z ∷ [])) (ez ∙ mean-is w ew);
            book = ek ∙ ap (λ (y : ℕ). sets k (4 * a.next) (s ∷ y ∷ y ∷ 0 ∷ [])) (held-count w ew);
          }

      -- A VERTEX FOR EACH EDGE
      pub vertex_split : (ltb 1 w.count && q a.tried) ≡ true → (j : ℕ) (t' : List ℕ) (p' : List Float) (k' : List ℕ)
          → Appended f n S (singles_of n S 0 s m) a.next t₁ p k j t' p' k'
          → Passed f n S q (candidate_of n S s m) a t p k (record { next = j; tried = a.tried + 1; split = a.split + 1 }) t' p' k'
      unfolding es
      vertex_split e j t' p' k' d =
          passed-same f n S q (sym is_one) (record {
            vertices = appended_same f n S (sym (one_place q a.tried true (flag_is true e) ∙ refl)) (appended_same f n S apart-is all);
            tried = refl;
            split = omega (arith, one_split q a.tried true (flag_is true e));
          })
        where
          over : paint_from n a.next (singles_of n S 0 s m) t₁ ≡ paint_from n a.next (singles_of n S 0 s m) t
          over =
              let l = pointed_of n S s (edges_of m) in
              ap (λ (v : List Vertex). paint_from n a.next v t₁) (singles_are n S 0 s m) ∙ paint-singles n a.next 0 s l t₁
              ∙ ap (number a.next (map (owned n s) l)) painted ∙ number_over a.next a.next (map (owned n s) l) t
              ∙ sym (paint-singles n a.next 0 s l t) ∙ ap (λ (v : List Vertex). paint_from n a.next v t) (sym (singles_are n S 0 s m))

          all : Appended f n S (singles_of n S 0 s m) a.next t p k j t' p' k'
          all = record { next = d.next; table = d.table ∙ over; positions = d.positions; book = d.book }

      -- ---- room

      pub whole_space : (ltb 1 w.count && q a.tried) ≡ false → Ahead q (candidate_of n S s m) a p k → Space p k (a.next + 1)
      whole_space e z = record { positions = omega (arith, z.space.positions, l); book = omega (arith, z.space.book, l); few = omega (arith, z.space.few, l) }
        where
          l : length (place_by q a.tried (candidate_of n S s m)) ≡ 1
          l = ap (λ (v : List Vertex). length (place_by q a.tried v)) is_one ∙ ap length (one_place q a.tried false (flag_is false e))

      pub split_space : (ltb 1 w.count && q a.tried) ≡ true → Ahead q (candidate_of n S s m) a p k → Space p k (a.next + length (singles_of n S 0 s m))
      split_space e z = record { positions = omega (arith, z.space.positions, l); book = omega (arith, z.space.book, l); few = omega (arith, z.space.few, l) }
        where
          l : length (place_by q a.tried (candidate_of n S s m)) ≡ length (singles_of n S 0 s m)
          l = ap (λ (v : List Vertex). length (place_by q a.tried v)) is_one ∙ ap length (one_place q a.tried true (flag_is true e) ∙ sym apart-is)

      -- one candidate is met
      pub met_one : Ahead q (candidate_of n S s m) a p k → (a.tried + 1 ≤ 1048576) × (a.split + 1 ≤ 1048577)
      met_one z = let l : length (candidate_of n S s m) ≡ 1 = ap length is_one in (omega (arith, z.tried, l), omega (arith, z.tried, z.split, l))
