-- Laws of the split by flags: lists one after the other, flags that are the same, no flag, and the candidates site by site. Assumes nothing.
use mathlib.Core.Path.{◌≡◌, refl, sym, ap, ◌∙◌}
use mathlib.Core.Bool.{Bool, true, false, ◌&&◌, cond, and-false}
use mathlib.Core.List.{List, [], ◌∷◌, ◌++◌, append_assoc}
use Prim.Native.Nat.{ℕ, zero, suc, ◌+◌, ◌≤◌, ◌<◌}
use native.Mathlib.Omega.{arith}
use borrow.Author.Tests.{ltb-true}
use lib.ListN.{length, length-append, length-map}
use Rattle.laws.specs.Ranges.{each, sum}
use Rattle.laws.proofs.Bools.{and-apart}
use Rattle.stages.specs.Vertices.{Vertex, apart, fresh, held, several}
use Rattle.stages.specs.Splits.{place_by, split_by}

-- ---- one list, then another

pub place-append : (q : ℕ → Bool) (i : ℕ) (xs ys : List Vertex) → place_by q i (xs ++ ys) ≡ place_by q i xs ++ place_by q (i + length xs) ys
unfolding place_by
place-append q i [] ys = let e : i ≡ i + 0 = omega arith in ap (λ (j : ℕ). place_by q j ys) e
place-append q i (x ∷ xs) ys =
    let e : suc i + length xs ≡ i + suc (length xs) = omega arith in
    let c = cond (several x && q i) (apart 0 x) (x ∷ []) in
    ap (λ (l : List Vertex). c ++ l) (place-append q (suc i) xs ys ∙ ap (λ (j : ℕ). place_by q (suc i) xs ++ place_by q j ys) e)
    ∙ sym (append_assoc c (place_by q (suc i) xs) (place_by q (i + suc (length xs)) ys))

pub split-append : (q : ℕ → Bool) (i : ℕ) (xs ys : List Vertex) → split_by q i (xs ++ ys) ≡ split_by q i xs + split_by q (i + length xs) ys
unfolding split_by
split-append q i [] ys = let e : i ≡ i + 0 = omega arith in omega (arith, ap (λ (j : ℕ). split_by q j ys) e)
split-append q i (x ∷ xs) ys =
    let e : suc i + length xs ≡ i + suc (length xs) = omega arith in
    let g : split_by q (suc i + length xs) ys ≡ split_by q (i + suc (length xs)) ys = ap (λ (j : ℕ). split_by q j ys) e in
    omega (arith, split-append q (suc i) xs ys, g)

pub split-le : (q : ℕ → Bool) (i : ℕ) (xs : List Vertex) → split_by q i xs ≤ length xs
unfolding split_by
split-le q i [] = omega arith
split-le q i (x ∷ xs) = omega (arith, split-le q (suc i) xs, go (several x && q i))
  where
    go : (c : Bool) → cond c 1 0 ≤ 1
    go true = omega arith
    go false = omega arith

-- the split makes no fewer vertices
pub place_longer : (q : ℕ → Bool) (i : ℕ) (vs : List Vertex) → length vs ≤ length (place_by q i vs)
unfolding place_by several apart
place_longer q i [] = omega arith
place_longer q i (x ∷ vs) =
    let c = several x && q i in
    omega (arith, length-append (cond c (apart 0 x) (x ∷ [])) (place_by q (suc i) vs), place_longer q (suc i) vs, one c refl)
  where
    long : length (apart 0 x) ≡ length (held x)
    long = length-map (held x) (λ e. fresh 0 x.site (e ∷ []))

    one : (c : Bool) → several x && q i ≡ c → 1 ≤ length (cond c (apart 0 x) (x ∷ []))
    one true e = omega (arith, long, ltb-true 1 (length (held x)) (and-apart (several x) (q i) e).0)
    one false e = omega arith

-- ---- flags that are the same, and no flag

-- flags that are the same for the candidates do the same
pub place_same : (q r : ℕ → Bool) (i : ℕ) (vs : List Vertex) → ((v : ℕ) → v < i + length vs → q v ≡ r v) → place_by q i vs ≡ place_by r i vs
unfolding place_by
place_same q r i [] h = refl
place_same q r i (x ∷ vs) h =
    let a : q i ≡ r i = h i (omega arith) in
    let b : place_by q (suc i) vs ≡ place_by r (suc i) vs = place_same q r (suc i) vs (λ v l. h v (omega arith)) in
    λ j. cond (several x && a j) (apart 0 x) (x ∷ []) ++ b j

pub split-same : (q r : ℕ → Bool) (i : ℕ) (vs : List Vertex) → ((v : ℕ) → v < i + length vs → q v ≡ r v) → split_by q i vs ≡ split_by r i vs
unfolding split_by
split-same q r i [] h = refl
split-same q r i (x ∷ vs) h =
    let a : q i ≡ r i = h i (omega arith) in
    let b : split_by q (suc i) vs ≡ split_by r (suc i) vs = split-same q r (suc i) vs (λ v l. h v (omega arith)) in
    λ j. cond (several x && a j) 1 0 + b j

-- without a flag nothing is split
pub place_never : (q : ℕ → Bool) (i : ℕ) (vs : List Vertex) → ((v : ℕ) → q v ≡ false) → place_by q i vs ≡ vs
unfolding place_by
place_never q i [] h = refl
place_never q i (x ∷ vs) h =
    let a : several x && q i ≡ false = ap (λ (c : Bool). several x && c) (h i) ∙ and-false (several x) in
    λ j. cond (a j) (apart 0 x) (x ∷ []) ++ place_never q (suc i) vs h j

pub split_never : (q : ℕ → Bool) (i : ℕ) (vs : List Vertex) → ((v : ℕ) → q v ≡ false) → split_by q i vs ≡ 0
unfolding split_by
split_never q i [] h = refl
split_never q i (x ∷ vs) h =
    let a : several x && q i ≡ false = ap (λ (c : Bool). several x && c) (h i) ∙ and-false (several x) in
    rw a (omega (arith, split_never q (suc i) vs h))

-- ---- the second vertex pass, site by site

pub place-each : (q : ℕ → Bool) (f : ℕ → List Vertex) (n : ℕ) → place_by q 0 (each n f) ≡ each n (λ s. place_by q (length (each s f)) (f s))
unfolding each place_by
place-each q f zero = refl
place-each q f (suc n) =
    let e : 0 + length (each n f) ≡ length (each n f) = omega arith in
    place-append q 0 (each n f) (f n) ∙ (λ i. place-each q f n i ++ place_by q (e i) (f n))

pub split_count-each : (q : ℕ → Bool) (f : ℕ → List Vertex) (n : ℕ) → split_by q 0 (each n f) ≡ sum n (λ s. split_by q (length (each s f)) (f s))
unfolding each sum split_by
split_count-each q f zero = refl
split_count-each q f (suc n) =
    let e : 0 + length (each n f) ≡ length (each n f) = omega arith in
    split-append q 0 (each n f) (f n) ∙ (λ i. split_count-each q f n i + split_by q (e i) (f n))
