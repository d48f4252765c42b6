-- Laws of sums over the numbers below a bound. Assumes nothing.
use mathlib.Core.Path.{◌≡◌, refl, sym, ap, ap₂, ◌∙◌}
use mathlib.Core.Bool.{Bool, true, false}
use mathlib.Core.Logic.{◌⊎◌, inl, inr, ⊎_elim}
use mathlib.Core.List.{List, [], ◌∷◌}
use Prim.Native.Nat.{ℕ, zero, suc, ◌+◌, ◌-◌, ◌*◌, ◌/◌, ◌%◌, ◌≤◌, ◌<◌}
use native.Mathlib.Nat.{add-zero, zero-add, add-suc, add_assoc, add_comm, suc-mul, zero-mul, add-le-add, le_antisymm, mul-le-mul_right}
use native.Mathlib.Numerals.{add-one}
use native.Mathlib.Omega.{arith}
use borrow.Author.Tests.{leb-true, leb-false, eqb-true, eqb-false, eq-eqb, ne_eqb}
use lib.Dec.{eqb, leb}
use lib.Count.{ones_in}
use Rattle.laws.specs.Bools.{bit}
use Rattle.laws.specs.Digits.{mask}
use Rattle.laws.specs.Ranges.{sum, each}
use Rattle.laws.specs.Lists.{count, total}
use Rattle.laws.proofs.Bools.{bit_le}
use Rattle.laws.proofs.Digits.{low_bit_lem}
use Rattle.laws.proofs.Ranges.{lt-or}
use Rattle.laws.proofs.Lists.{total-append, count-append}

pub sum-none : (f : ℕ → ℕ) → sum 0 f ≡ 0
unfolding sum
sum-none f = refl

-- the loop's turn
pub sum-turn : (f : ℕ → ℕ) (k n r : ℕ) → n ≡ sum k f → r ≡ f k → n + r ≡ sum (k + 1) f
unfolding sum
sum-turn f k n r p q = rw (add-one, p, q)

-- the loop's end
pub sum_done : (f : ℕ → ℕ) (k n r : ℕ) → r ≡ sum k f → k ≤ n → n ≤ k → r ≡ sum n f
sum_done f k n r p h h' = p ∙ ap (λ (j : ℕ). sum j f) (le_antisymm h h')

pub sum_same : (n : ℕ) (f g : ℕ → ℕ) → ((i : ℕ) → i < n → f i ≡ g i) → sum n f ≡ sum n g
unfolding sum
sum_same zero f g h = refl
sum_same (suc n) f g h = ap₂ (λ (x y : ℕ). x + y) (sum_same n f g (λ i l. h i (omega arith))) (h n (omega arith))

pub sum-zero : (n : ℕ) (f : ℕ → ℕ) → ((i : ℕ) → i < n → f i ≡ 0) → sum n f ≡ 0
unfolding sum
sum-zero zero f h = refl
sum-zero (suc n) f h = omega (arith, sum-zero n f (λ i l. h i (omega arith)), h n (omega arith))

pub sum-le : (n b : ℕ) (f : ℕ → ℕ) → ((i : ℕ) → f i ≤ b) → sum n f ≤ n * b
unfolding sum
sum-le zero b f h = omega arith
sum-le (suc n) b f h = rw suc-mul (add-le-add (sum-le n b f h) (h n))

-- room for one turn more, where the terms are at most b
pub sum_room : (f : ℕ → ℕ) (b k m n r : ℕ) → ((i : ℕ) → f i ≤ b) → n ≡ sum k f → r ≡ f k → k < m → n + r ≤ m * b
sum_room f b k m n r h p q l =
    let a : n + r ≡ sum (k + 1) f = sum-turn f k n r p q in
    omega (arith, a, sum-le (k + 1) b f h, mul-le-mul_right b (turns l))
  where
    turns : k < m → k + 1 ≤ m
    turns l = omega arith

-- the sum of sums, term by term
pub sum-plus : (n : ℕ) (f g : ℕ → ℕ) → sum n (λ i. f i + g i) ≡ sum n f + sum n g
unfolding sum
sum-plus zero f g = refl
sum-plus (suc n) f g = omega (arith, sum-plus n f g)

-- the first m terms, and the n after them
pub sum-add : (m n : ℕ) (f : ℕ → ℕ) → sum (m + n) f ≡ sum m f + sum n (λ i. f (m + i))
unfolding sum
sum-add m zero f = rw (add-zero, add-zero)
sum-add m (suc n) f = rw (add-suc, sum-add m n f) (add_assoc (sum m f) (sum n (λ i. f (m + i))) (f (m + n)))

-- m rows of n
pub sum_rows : (m n : ℕ) (f : ℕ → ℕ) → sum (m * n) f ≡ sum m (λ j. sum n (λ i. f (j * n + i)))
unfolding sum
sum_rows zero n f = rw zero-mul
sum_rows (suc m) n f = rw (suc-mul, sum-add (m * n) n f, sum_rows m n f)

pub sum-swap : (n m : ℕ) (f : ℕ → ℕ → ℕ) → sum n (λ i. sum m (f i)) ≡ sum m (λ j. sum n (λ i. f i j))
unfolding sum
sum-swap zero m f = sym (sum-zero m (λ j. 0) (λ i h. refl))
sum-swap (suc n) m f = rw (sum-swap n m f) (sym (sum-plus m (λ j. sum n (λ i. f i j)) (f n)))

-- ---- at most one term that is not 0

-- a sum that is not 0 has a term that is not
pub sum_pos : (n : ℕ) (f : ℕ → ℕ) → 0 < sum n f → (i : ℕ) × (i < n) × (0 < f i)
unfolding sum
sum_pos zero f h = absurd (omega arith)
sum_pos (suc n) f h = go (lt-or 0 (f n)) (sum_pos n f)
  where
    go : (0 < f n) ⊎ (f n ≤ 0) → (0 < sum n f → (i : ℕ) × (i < n) × (0 < f i)) → (i : ℕ) × (i < suc n) × (0 < f i)
    go (inl l) k = (n, omega arith, l)
    go (inr e) k = let r = k (omega arith) in (r.0, omega (arith, r.1), r.2)

pub sum_one : (n : ℕ) (f : ℕ → ℕ) → ((i : ℕ) → i < n → f i ≤ 1) → ((i j : ℕ) → i < n → j < n → 0 < f i → 0 < f j → i ≡ j) → sum n f ≤ 1
unfolding sum
sum_one zero f h k = omega arith
sum_one (suc n) f h k =
    go (lt-or 0 (sum n f)) (lt-or 0 (f n)) (sum_one n f (λ i l. h i (omega arith)) (λ i j li lj. k i j (omega arith) (omega arith))) (h n (omega arith))
  where
    go : (0 < sum n f) ⊎ (sum n f ≤ 0) → (0 < f n) ⊎ (f n ≤ 0) → sum n f ≤ 1 → f n ≤ 1 → sum n f + f n ≤ 1
    go (inl l) (inl m) a b = let r = sum_pos n f l in absurd (omega (arith, r.1, k r.0 n (omega (arith, r.1)) (omega arith) r.2 m))
    go (inl l) (inr m) a b = omega arith
    go (inr l) m a b = omega arith

-- ---- the terms moved by one, and by o

pub sum-next : (n : ℕ) (f : ℕ → ℕ) → sum n (λ i. f (suc i)) + f 0 ≡ sum n f + f n
unfolding sum
sum-next zero f = refl
sum-next (suc n) f = omega (arith, sum-next n f)

-- the first term, and those after it
pub sum_front : (n : ℕ) (f : ℕ → ℕ) → sum (suc n) f ≡ f 0 + sum n (λ i. f (suc i))
unfolding sum
sum_front n f = omega (arith, sum-next n f)

-- g is f moved up by o, within n
pub sum_shift : (f g : ℕ → ℕ) (o n : ℕ) → ((x : ℕ) → x < o → x < n → g x ≡ 0) → ((y : ℕ) → y + o < n → g (y + o) ≡ f y) → ((y : ℕ) → y < n → n ≤ y + o → f y ≡ 0)
    → sum n g ≡ sum n f
sum_shift f g o n low mid high =
    ⊎_elim (λ p. sum-zero n g (λ k b. low k (omega arith) b) ∙ sym (sum-zero n f (λ k b. high k b (omega arith)))) (λ p. inside p) (lt-or n o)
  where
    inside : o ≤ n → sum n g ≡ sum n f
    inside p =
        let e : o + (n - o) ≡ n = omega arith in
        let e' : n - o + o ≡ n = omega arith in
        let first : sum n g ≡ sum (n - o) f =
        ap (λ (k : ℕ). sum k g) (sym e) ∙ sum-add o (n - o) g
        ∙ rw (sum-zero o g (λ k b. low k b (omega arith)), zero-add) (sum_same (n - o) (λ k. g (o + k)) f (λ k b. ap g (add_comm o k) ∙ mid k (omega arith))) in
        let second : sum n f ≡ sum (n - o) f =
        ap (λ (k : ℕ). sum k f) (sym e') ∙ sum-add (n - o) o f
        ∙ rw (sum-zero o (λ k. f (n - o + k)) (λ k b. high (n - o + k) (omega arith) (omega arith)), add-zero) in
        first ∙ sym second

-- the set digits of a mask are the places that pass its test
pub mask_ones : (n : ℕ) (p : ℕ → Bool) → ones_in n (mask n p) ≡ sum n (λ e. bit (p e))
unfolding ones_in mask
mask_ones zero p = sym (sum-none (λ e. bit (p e)))
mask_ones (suc n) p =
    let r = mask n (λ e. p (suc e)) in
    let a : (bit (p 0) + 2 * r) % 2 ≡ bit (p 0) = (low_bit_lem (bit (p 0)) r (bit_le (p 0))).0 in
    let b : (bit (p 0) + 2 * r) / 2 ≡ r = (low_bit_lem (bit (p 0)) r (bit_le (p 0))).1 in
    omega (arith, a, ap (ones_in n) b, mask_ones n (λ e. p (suc e)), sum_front n (λ e. bit (p e)))

-- a sum, and a count, over joined lists
pub each-total : {A : Type 0} (W : A → ℕ) (n : ℕ) (f : ℕ → List A) → total W (each n f) ≡ sum n (λ i. total W (f i))
unfolding each sum total
each-total W zero f = refl
each-total W (suc n) f = total-append W (each n f) (f n) ∙ ap (λ (x : ℕ). x + total W (f n)) (each-total W n f)

pub each-count : {A : Type 0} (p : A → Bool) (n : ℕ) (f : ℕ → List A) → count p (each n f) ≡ sum n (λ i. count p (f i))
unfolding each sum count
each-count p zero f = refl
each-count p (suc n) f = count-append p (each n f) (f n) ∙ ap (λ (x : ℕ). x + count p (f n)) (each-count p n f)

-- a sum whose terms are at most those of another
pub sum-under : (n : ℕ) (f g : ℕ → ℕ) → ((i : ℕ) → f i ≤ g i) → sum n f ≤ sum n g
unfolding sum
sum-under zero f g h = omega arith
sum-under (suc n) f g h = omega (arith, h n, sum-under n f g h)

-- ---- the term of one number, and a count spread over the numbers

pick_none : (n k : ℕ) (f : ℕ → ℕ) → n ≤ k → sum n (λ e. f e * bit (eqb e k)) ≡ 0
unfolding bit
pick_none n k f h =
    sum-zero n (λ e. f e * bit (eqb e k)) (λ e l. let d : eqb e k ≡ false = ne_eqb e k (λ (q : e ≡ k). omega arith) in rw d (omega arith))

pick_turn : (n k : ℕ) (f : ℕ → ℕ) (c : Bool) → eqb n k ≡ c → k < suc n → (k < n → sum n (λ e. f e * bit (eqb e k)) ≡ f k)
    → sum n (λ e. f e * bit (eqb e k)) + f n * bit c ≡ f k
unfolding bit
pick_turn n k f true e h r = let q : n ≡ k = eqb-true n k e in let z : f n ≡ f k = ap f q in omega (arith, z, pick_none n k f (omega arith))
pick_turn n k f false e h r =
    let q : (n ≡ k → ⊥) = eqb-false n k e in
    let l : k < n = omega (arith, q) in
    omega (arith, r l)

pub sum_pick : (n k : ℕ) (f : ℕ → ℕ) → k < n → sum n (λ e. f e * bit (eqb e k)) ≡ f k
unfolding sum
sum_pick zero k f h = let z : ⊥ = omega arith in absurd z
sum_pick (suc n) k f h = pick_turn n k f (eqb n k) refl h (sum_pick n k f)

-- x counts itself, so it lies below n
below_of : (n x : ℕ) (l : List ℕ) → ((e : ℕ) → n ≤ e → bit (eqb e x) + count (eqb e) l ≡ 0) → (c : Bool) → leb n x ≡ c → x < n
unfolding bit
below_of n x l h true e =
    let s : eqb x x ≡ true = eq-eqb x x refl in
    let z : 1 + count (eqb x) l ≡ 0 = rw s at (h x (leb-true n x e)) in
    let y : ⊥ = omega arith in absurd y
below_of n x l h false e = leb-false n x e

pub count-spread : (n : ℕ) (p : ℕ → Bool) (l : List ℕ) → ((e : ℕ) → n ≤ e → count (eqb e) l ≡ 0) → count p l ≡ sum n (λ e. bit (p e) * count (eqb e) l)
unfolding count
count-spread n p [] h = sym (sum-zero n (λ e. bit (p e) * 0) (λ e l. omega arith))
count-spread n p (x ∷ l) h =
    let r = count-spread n p l (λ e g. omega (arith, h e g)) in
    let s = sum_pick n x (λ e. bit (p e)) (below_of n x l h (leb n x) refl) in
    let a = sum-plus n (λ e. bit (p e) * bit (eqb e x)) (λ e. bit (p e) * count (eqb e) l) in
    omega (arith, r, s, a) ∙ sum_same n (λ e. bit (p e) * bit (eqb e x) + bit (p e) * count (eqb e) l) (λ e. bit (p e) * (bit (eqb e x) + count (eqb e) l))
    (λ e g. omega arith)
