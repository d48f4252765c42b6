-- What a split and a rollback do to any sum over the vertices. Assumes nothing.
use mathlib.Core.Path.{◌≡◌, refl, ap, sym, ◌∙◌}
use mathlib.Core.Bool.{Bool, true, false, ◌&&◌, cond}
use mathlib.Core.List.{List, [], ◌∷◌, map}
use Prim.Native.Nat.{ℕ, suc, ◌+◌, ◌≤◌}
use native.Mathlib.Omega.{arith}
use lib.Dec.{eqb}
use Rattle.stages.specs.Vertices.{Vertex, apart, several}
use Rattle.stages.specs.Splits.{place_by}
use Rattle.stages.specs.Rounds.{is_in, live_at, regrown, retire, retired, rollback, rolled}
use Rattle.laws.specs.Lists.{count, joined, keep, total}
use Rattle.laws.proofs.Lists.{total-append, total-joined, total-keep, total-le, total-map, total_once, total-plus, total-same, total-swap, total-zero}

module _ (W : Vertex → ℕ) where
  module _ (q : ℕ → Bool) where
    one-le : ((x : Vertex) → several x ≡ true → total W (apart 0 x) ≤ W x)
        → (x : Vertex) (c d : Bool) → several x ≡ c → total W (cond (c && d) (apart 0 x) (x ∷ [])) ≤ W x
    unfolding total
    one-le h x false d e = omega arith
    one-le h x true true e = h x e
    one-le h x true false e = omega arith

    pub place-le : ((x : Vertex) → several x ≡ true → total W (apart 0 x) ≤ W x)
        → (n : ℕ) (xs : List Vertex) → total W (place_by q n xs) ≤ total W xs
    unfolding total place_by
    place-le h n [] = omega arith
    place-le h n (x ∷ xs) =
        omega (
          arith,
          total-append W (cond (several x && q n) (apart 0 x) (x ∷ [])) (place_by q (suc n) xs),
          place-le h (suc n) xs,
          one-le h x (several x) (q n) refl,
        )

    one_same : ((x : Vertex) → several x ≡ true → total W (apart 0 x) ≡ W x)
        → (x : Vertex) (c d : Bool) → several x ≡ c → total W (cond (c && d) (apart 0 x) (x ∷ [])) ≡ W x
    unfolding total
    one_same h x false d e = omega arith
    one_same h x true true e = h x e
    one_same h x true false e = omega arith

    pub place_same : ((x : Vertex) → several x ≡ true → total W (apart 0 x) ≡ W x)
        → (n : ℕ) (xs : List Vertex) → total W (place_by q n xs) ≡ total W xs
    unfolding total place_by
    place_same h n [] = refl
    place_same h n (x ∷ xs) =
        omega (
          arith,
          total-append W (cond (several x && q n) (apart 0 x) (x ∷ [])) (place_by q (suc n) xs),
          place_same h (suc n) xs,
          one_same h x (several x) (q n) refl,
        )

  module _ (r : ℕ) (os : List ℕ) (once : (s : ℕ) → count (eqb s) os ≤ 1) where
    -- what x is worth afterwards: itself retired, and what it appends
    pub after : Vertex → ℕ
    after x = cond (rolled os x) (W (retired x) + total W (apart r x)) (W x)

    regrown-sum : (vs : List Vertex) (s : ℕ) → total W (regrown r vs s) ≡ total (λ x. cond (live_at s x) (total W (apart r x)) 0) vs
    unfolding regrown
    regrown-sum vs s = total-joined W (map (apart r) (keep (live_at s) vs)) ∙ total-map (total W) (apart r) (keep (live_at s) vs)
        ∙ total-keep (λ x. total W (apart r x)) (live_at s) vs

    per : (x : Vertex) (c : Bool) → total (λ s. cond (c && eqb x.site s) (total W (apart r x)) 0) os
        ≡ cond (c && is_in os x.site) (total W (apart r x)) 0
    unfolding is_in
    per x true = total_once os x.site (total W (apart r x)) (once x.site)
    per x false = total-zero os

    kept : (x : Vertex) (c : Bool) (a : ℕ) → W (cond c (retired x) x) + cond c a 0 ≡ cond c (W (retired x) + a) (W x)
    kept x true a = refl
    kept x false a = omega arith

    each_after : (x : Vertex) → W (retire os x) + total (λ s. cond (live_at s x) (total W (apart r x)) 0) os ≡ after x
    unfolding after live_at retire rolled
    each_after x = ap (λ (n : ℕ). W (cond (several x && is_in os x.site) (retired x) x) + n) (per x (several x))
        ∙ kept x (several x && is_in os x.site) (total W (apart r x))

    pub roll_sum : (vs : List Vertex) → total W (rollback r os vs) ≡ total after vs
    unfolding rollback
    roll_sum vs =
        total-append W (map (retire os) vs) (joined (map (regrown r vs) os))
        ∙ (λ i. total-map W (retire os) vs i + (total-joined W (map (regrown r vs) os) ∙ total-map (total W) (regrown r vs) os
        ∙ total-same (λ s. total W (regrown r vs s)) (λ s. total (λ x. cond (live_at s x) (total W (apart r x)) 0) vs) (regrown-sum vs) os
        ∙ total-swap (λ s x. cond (live_at s x) (total W (apart r x)) 0) os vs) i)
        ∙ sym (total-plus (λ x. W (retire os x)) (λ x. total (λ s. cond (live_at s x) (total W (apart r x)) 0) os) vs)
        ∙ total-same (λ x. W (retire os x) + total (λ s. cond (live_at s x) (total W (apart r x)) 0) os) after each_after vs

    after-le : ((x : Vertex) → several x ≡ true → W (retired x) + total W (apart r x) ≤ W x) → (x : Vertex) (c d : Bool) → several x ≡ c
        → cond (c && d) (W (retired x) + total W (apart r x)) (W x) ≤ W x
    after-le h x false d e = omega arith
    after-le h x true true e = h x e
    after-le h x true false e = omega arith

    pub roll_le : ((x : Vertex) → several x ≡ true → W (retired x) + total W (apart r x) ≤ W x)
        → (vs : List Vertex) → total W (rollback r os vs) ≤ total W vs
    unfolding after rolled
    roll_le h vs = omega (arith, roll_sum vs, total-le after W (λ x. after-le h x (several x) (is_in os x.site) refl) vs)

    after_same : ((x : Vertex) → several x ≡ true → W (retired x) + total W (apart r x) ≡ W x) → (x : Vertex) (c d : Bool) → several x ≡ c
        → cond (c && d) (W (retired x) + total W (apart r x)) (W x) ≡ W x
    after_same h x false d e = refl
    after_same h x true true e = h x e
    after_same h x true false e = refl

    pub roll_same : ((x : Vertex) → several x ≡ true → W (retired x) + total W (apart r x) ≡ W x)
        → (vs : List Vertex) → total W (rollback r os vs) ≡ total W vs
    unfolding after rolled
    roll_same h vs = roll_sum vs ∙ total-same after W (λ x. after_same h x (several x) (is_in os x.site) refl) vs
