-- Laws of lists: what passes a test, counts, joined lists, sums over a list, and what holds of every member. Assumes nothing.
use mathlib.Core.Path.{◌≡◌, refl, sym, ap, ap₂, ◌∙◌}
use mathlib.Core.Bool.{Bool, true, false, ◌&&◌, cond, and-false, and_assoc, false≢true}
use mathlib.Core.List.{List, [], ◌∷◌, ◌++◌, map, append_assoc}
use Prim.Native.Nat.{ℕ, zero, suc, ◌+◌, ◌-◌, ◌*◌, ◌≤◌, ◌<◌}
use native.Mathlib.Nat.{not-suc-le-zero, le_of_suc-le-suc}
use native.Mathlib.Numerals.{add-one}
use native.Mathlib.Omega.{arith}
use lib.Dec.{T, eqb, ltb}
use borrow.Author.Tests.{eqb-true, ltb-true, lt-ltb}
use lib.ListN.{length, get_or, set, take, drop, replicate, length-map}
use lib.Seq.{take-suc, take-suc-set, drop-cons, get_or_at, set_at, length-take-le, take_at, drop_at}
use Rattle.laws.specs.Bools.{bit, Tells}
use Rattle.laws.specs.Lists.{keep, count, every, joined, total, All}
use Rattle.laws.proofs.Bools.{bit_le, bit_T, and_left, and_right, T_true, true_T}

-- ---- those that pass a test

module _ {A : Type 0} where
  pub keep_append : (p : A → Bool) (xs ys : List A) → keep p (xs ++ ys) ≡ keep p xs ++ keep p ys
  unfolding keep
  keep_append p [] ys = refl
  keep_append p (x ∷ xs) ys = go (p x) (keep_append p xs ys)
    where
      go : (c : Bool) → keep p (xs ++ ys) ≡ keep p xs ++ keep p ys
          → cond c (x ∷ keep p (xs ++ ys)) (keep p (xs ++ ys)) ≡ cond c (x ∷ keep p xs) (keep p xs) ++ keep p ys
      go true e = ap (λ (l : List A). x ∷ l) e
      go false e = e

  pub keep_same : (p q : A → Bool) → ((x : A) → p x ≡ q x) → (xs : List A) → keep p xs ≡ keep q xs
  unfolding keep
  keep_same p q h [] = refl
  keep_same p q h (x ∷ xs) = ap₂ (λ (c : Bool) (l : List A). cond c (x ∷ l) l) (h x) (keep_same p q h xs)

  pub keep-le : (p : A → Bool) (xs : List A) → length (keep p xs) ≤ length xs
  unfolding keep
  keep-le p [] = omega arith
  keep-le p (x ∷ xs) = go (p x) (keep-le p xs)
    where
      go : (c : Bool) → length (keep p xs) ≤ length xs → length (cond c (x ∷ keep p xs) (keep p xs)) ≤ suc (length xs)
      go true h = omega arith
      go false h = omega arith

  -- ---- how many pass it

  pub count-append : (p : A → Bool) (xs ys : List A) → count p (xs ++ ys) ≡ count p xs + count p ys
  unfolding count
  count-append p [] ys = omega arith
  count-append p (x ∷ xs) ys = omega (arith, count-append p xs ys)

  pub count_same : (p q : A → Bool) → ((x : A) → p x ≡ q x) → (xs : List A) → count p xs ≡ count q xs
  unfolding count
  count_same p q h [] = refl
  count_same p q h (x ∷ xs) = ap₂ (λ (c : Bool) (n : ℕ). bit c + n) (h x) (count_same p q h xs)

  pub count-le : (p : A → Bool) (xs : List A) → count p xs ≤ length xs
  unfolding count
  count-le p [] = omega arith
  count-le p (x ∷ xs) = omega (arith, bit_le (p x), count-le p xs)

  pub count_set : (d : A) (p : A → Bool) (l : List A) (i : ℕ) (v : A) → i < length l
      → count p (set l i v) + bit (p (get_or l i d)) ≡ count p l + bit (p v)
  unfolding count
  count_set d p [] i v h = absurd (not-suc-le-zero h)
  count_set d p (x ∷ l) zero v h = omega arith
  count_set d p (x ∷ l) (suc i) v h = omega (arith, count_set d p l i v (le_of_suc-le-suc h))

  pub count-some : (d : A) (p : A → Bool) (l : List A) (k : ℕ) → k < length l → p (get_or l k d) ≡ true → 0 < count p l
  unfolding count bit
  count-some d p [] k h e = absurd (not-suc-le-zero h)
  count-some d p (x ∷ l) zero h e = omega (arith, ap bit e)
  count-some d p (x ∷ l) (suc k) h e = omega (arith, count-some d p l k (le_of_suc-le-suc h) e)

  pub count_none : (d : A) (p : A → Bool) (l : List A) → ((k : ℕ) → k < length l → p (get_or l k d) ≡ false) → count p l ≡ 0
  unfolding count bit
  count_none d p [] h = refl
  count_none d p (x ∷ l) h = omega (arith, ap bit (h 0 (omega arith)), count_none d p l (λ k b. h (suc k) (omega arith)))

  -- ---- sums over the members

  pub total-append : (f : A → ℕ) (xs ys : List A) → total f (xs ++ ys) ≡ total f xs + total f ys
  unfolding total
  total-append f [] ys = omega arith
  total-append f (x ∷ xs) ys = omega (arith, total-append f xs ys)

  pub total-same : (f g : A → ℕ) → ((x : A) → f x ≡ g x) → (xs : List A) → total f xs ≡ total g xs
  unfolding total
  total-same f g e [] = refl
  total-same f g e (x ∷ xs) = omega (arith, e x, total-same f g e xs)

  pub total-le : (f g : A → ℕ) → ((x : A) → f x ≤ g x) → (xs : List A) → total f xs ≤ total g xs
  unfolding total
  total-le f g e [] = omega arith
  total-le f g e (x ∷ xs) = omega (arith, e x, total-le f g e xs)

  pub total-plus : (f g : A → ℕ) (xs : List A) → total (λ x. f x + g x) xs ≡ total f xs + total g xs
  unfolding total
  total-plus f g [] = refl
  total-plus f g (x ∷ xs) = omega (arith, total-plus f g xs)

  pub total-zero : (xs : List A) → total (λ (x : A). 0) xs ≡ 0
  unfolding total
  total-zero [] = refl
  total-zero (x ∷ xs) = omega (arith, total-zero xs)

  pub total-keep : (f : A → ℕ) (p : A → Bool) (xs : List A) → total f (keep p xs) ≡ total (λ x. cond (p x) (f x) 0) xs
  unfolding total keep
  total-keep f p [] = refl
  total-keep f p (x ∷ xs) = go (p x) (total-keep f p xs)
    where
      go : (c : Bool) → total f (keep p xs) ≡ total (λ y. cond (p y) (f y) 0) xs
          → total f (cond c (x ∷ keep p xs) (keep p xs)) ≡ cond c (f x) 0 + total (λ y. cond (p y) (f y) 0) xs
      go true e = omega (arith, e)
      go false e = omega (arith, e)

  pub total-count : (p : A → Bool) (xs : List A) → count p xs ≡ total (λ x. bit (p x)) xs
  unfolding total count
  total-count p [] = refl
  total-count p (x ∷ xs) = ap (λ (n : ℕ). bit (p x) + n) (total-count p xs)

  pub total-joined : (f : A → ℕ) (ls : List (List A)) → total f (joined ls) ≡ total (total f) ls
  unfolding total joined
  total-joined f [] = refl
  total-joined f (l ∷ ls) = total-append f l (joined ls) ∙ ap (λ (n : ℕ). total f l + n) (total-joined f ls)

  -- ---- joined lists taken apart

  -- equal lists whose fronts are equally long: the fronts are equal, and what follows them
  pub append-apart : (x y r t : List A) → length x ≡ length y → x ++ r ≡ y ++ t → (x ≡ y) × (r ≡ t)
  append-apart x y r t h e = (
    sym (take_at x r (length y) h) ∙ ap (take (length y)) e ∙ take_at y t (length y) refl,
    sym (drop_at x r (length y) h) ∙ ap (drop (length y)) e ∙ drop_at y t (length y) refl,
  )

  -- an entry that is there, whatever would stand for one that is not
  pub get_or-there : (l : List A) (i : ℕ) (d d' : A) → i < length l → get_or l i d ≡ get_or l i d'
  get_or-there [] i d d' h = absurd (not-suc-le-zero h)
  get_or-there (x ∷ l) zero d d' h = refl
  get_or-there (x ∷ l) (suc i) d d' h = get_or-there l i d d' (le_of_suc-le-suc h)

  pub drop-replicate : (k n : ℕ) (a : A) → drop k (replicate n a) ≡ replicate (n - k) a
  drop-replicate zero n a = let e : n - 0 ≡ n = omega arith in rw e
  drop-replicate (suc k) zero a = let e : 0 - suc k ≡ 0 = omega arith in rw e
  drop-replicate (suc k) (suc n) a = let e : suc n - suc k ≡ n - k = omega arith in rw e (drop-replicate k n a)

module _ {A B : Type 0} where
  -- an entry of a mapped list, whatever stands for an entry that is not there
  pub get_d_map : (f : A → B) (l : List A) (i : ℕ) (d : A) (d' : B) → i < length l → get_or (map f l) i d' ≡ f (get_or l i d)
  get_d_map f [] i d d' h = absurd (not-suc-le-zero h)
  get_d_map f (x ∷ l) zero d d' h = refl
  get_d_map f (x ∷ l) (suc i) d d' h = get_d_map f l i d d' (le_of_suc-le-suc h)

  pub map-append : (f : A → B) (xs ys : List A) → map f (xs ++ ys) ≡ map f xs ++ map f ys
  map-append f [] ys = refl
  map-append f (x ∷ xs) ys = ap (λ (l : List B). f x ∷ l) (map-append f xs ys)

  -- two functions that agree on every member
  pub map-agree : (f g : A → B) (xs : List A) → All (λ x. f x ≡ g x) xs → map f xs ≡ map g xs
  unfolding All
  map-agree f g [] a = refl
  map-agree f g (x ∷ xs) a = ap₂ (λ (y : B) (l : List B). y ∷ l) a.0 (map-agree f g xs a.1)

  pub keep-map : (p : B → Bool) (f : A → B) (xs : List A) → keep p (map f xs) ≡ map f (keep (λ x. p (f x)) xs)
  unfolding keep
  keep-map p f [] = refl
  keep-map p f (x ∷ xs) = go (p (f x)) (keep-map p f xs)
    where
      go : (c : Bool) → keep p (map f xs) ≡ map f (keep (λ y. p (f y)) xs)
          → cond c (f x ∷ keep p (map f xs)) (keep p (map f xs)) ≡ map f (cond c (x ∷ keep (λ y. p (f y)) xs) (keep (λ y. p (f y)) xs))
      go true e = ap (λ (l : List B). f x ∷ l) e
      go false e = e

  pub total-map : (f : B → ℕ) (g : A → B) (xs : List A) → total f (map g xs) ≡ total (λ x. f (g x)) xs
  unfolding total
  total-map f g [] = refl
  total-map f g (x ∷ xs) = ap (λ (n : ℕ). f (g x) + n) (total-map f g xs)

  pub count_map : (p : B → Bool) (g : A → B) (xs : List A) → count p (map g xs) ≡ count (λ x. p (g x)) xs
  unfolding count
  count_map p g [] = refl
  count_map p g (x ∷ xs) = ap (λ (n : ℕ). bit (p (g x)) + n) (count_map p g xs)

  pub total-swap : (f : A → B → ℕ) (xs : List A) (ys : List B) → total (λ x. total (f x) ys) xs ≡ total (λ y. total (λ x. f x y) xs) ys
  unfolding total
  total-swap f [] ys = sym (total-zero ys)
  total-swap f (x ∷ xs) ys = ap (λ (n : ℕ). total (f x) ys + n) (total-swap f xs ys) ∙ sym (total-plus (f x) (λ y. total (λ z. f z y) xs) ys)

-- ---- a list changed entry by entry from the front, as a loop does

module _ {A : Type 0} where
  -- the entry that comes next stands as it was
  pub front_map-at : (d : A) (f : A → A) (l : List A) (i : ℕ) → i < length l → get_or (map f (take i l) ++ drop i l) i d ≡ get_or l i d
  front_map-at d f l i h =
      ap (λ (q : List A). get_or (map f (take i l) ++ q) i d) (drop-cons l i d h)
      ∙ get_or_at (map f (take i l)) (get_or l i d) (drop (suc i) l) d i (length-map (take i l) f ∙ length-take-le i l (omega arith))

  pub front_map-more : (d : A) (f : A → A) (l : List A) (i : ℕ) → i < length l
      → set (map f (take i l) ++ drop i l) i (f (get_or l i d)) ≡ map f (take (i + 1) l) ++ drop (i + 1) l
  front_map-more d f l i h =
      let n : length (map f (take i l)) ≡ i = length-map (take i l) f ∙ length-take-le i l (omega arith) in
      ap (λ (q : List A). set (map f (take i l) ++ q) i (f (get_or l i d))) (drop-cons l i d h)
      ∙ set_at (map f (take i l)) (get_or l i d) (drop (suc i) l) (f (get_or l i d)) i n
      ∙ rw (add-one, take-suc l i d h, map-append f (take i l) (get_or l i d ∷ []), append_assoc)

  -- a list that is another one as far as k, and then one entry further
  pub copied_more : (d : A) (l m : List A) (k : ℕ) → k < length l → k < length m → take k l ≡ take k m → take (k + 1) (set l k (get_or m k d)) ≡ take (k + 1) m
  copied_more d l m k h g e = rw (add-one, take-suc-set l k (get_or m k d) h, take-suc m k d g, e)

-- ---- what holds of every member

module _ {A : Type 0} where
  pub all_append : (P : A → Type 0) (xs ys : List A) → All P xs → All P ys → All P (xs ++ ys)
  unfolding All
  all_append P [] ys a b = b
  all_append P (x ∷ xs) ys a b = (a.0, all_append P xs ys a.1 b)

  pub all_map : (P Q : A → Type 0) → ((x : A) → P x → Q x) → (xs : List A) → All P xs → All Q xs
  unfolding All
  all_map P Q f [] a = tt
  all_map P Q f (x ∷ xs) a = (f x a.0, all_map P Q f xs a.1)

  pub all_of : (P : A → Type 0) → ((x : A) → P x) → (xs : List A) → All P xs
  unfolding All
  all_of P f [] = tt
  all_of P f (x ∷ xs) = (f x, all_of P f xs)

  pub all_keep : (p : A → Bool) (xs : List A) → All (λ x. p x ≡ true) (keep p xs)
  unfolding All keep
  all_keep p [] = tt
  all_keep p (x ∷ xs) = go (p x) refl (all_keep p xs)
    where
      go : (c : Bool) → p x ≡ c → All (λ y. p y ≡ true) (keep p xs) → All (λ y. p y ≡ true) (cond c (x ∷ keep p xs) (keep p xs))
      go true e a = (e, a)
      go false e a = a

  pub every-all : (p : A → Bool) (xs : List A) → T (every p xs) → All (λ x. p x ≡ true) xs
  unfolding All every
  every-all p [] t = tt
  every-all p (x ∷ xs) t = (T_true (p x) (and_left (p x) (every p xs) t), every-all p xs (and_right (p x) (every p xs) t))

  pub all-every : (p : A → Bool) (xs : List A) → All (λ x. p x ≡ true) xs → every p xs ≡ true
  unfolding All every
  all-every p [] a = refl
  all-every p (x ∷ xs) a = rw a.0 (all-every p xs a.1)

  -- one that fails is enough
  pub every_false : (d : A) (p : A → Bool) (xs : List A) (k : ℕ) → k < length xs → p (get_or xs k d) ≡ false → every p xs ≡ false
  unfolding every
  every_false d p [] k h e = absurd (not-suc-le-zero h)
  every_false d p (x ∷ xs) zero h e = rw e
  every_false d p (x ∷ xs) (suc k) h e = ap (λ (b : Bool). p x && b) (every_false d p xs k (le_of_suc-le-suc h) e) ∙ and-false (p x)

  pub every_append : (p : A → Bool) (xs ys : List A) → every p (xs ++ ys) ≡ every p xs && every p ys
  unfolding every
  every_append p [] ys = refl
  every_append p (x ∷ xs) ys = ap (λ (b : Bool). p x && b) (every_append p xs ys) ∙ sym (and_assoc (p x) (every p xs) (every p ys))

  -- where some pass a test, there is one, and it has what all have
  pub count_witness : (p : A → Bool) (P : A → Type 0) (xs : List A) → All P xs → 0 < count p xs → (x : A) × (p x ≡ true) × P x
  unfolding All count bit
  count_witness p P [] a h = absurd (omega arith)
  count_witness p P (x ∷ xs) a h = go (p x) refl h (count_witness p P xs a.1)
    where
      go : (c : Bool) → p x ≡ c → 0 < bit c + count p xs → (0 < count p xs → (y : A) × (p y ≡ true) × P y) → (y : A) × (p y ≡ true) × P y
      go true e h k = (x, e, a.0)
      go false e h k = k (omega arith)

  -- no more pass a test than pass one that follows from it
  pub count-within : (p q : A → Bool) (xs : List A) → All (λ x. p x ≡ true → q x ≡ true) xs → count p xs ≤ count q xs
  unfolding All count bit
  count-within p q [] a = omega arith
  count-within p q (x ∷ xs) a = go (p x) refl (count-within p q xs a.1)
    where
      go : (c : Bool) → p x ≡ c → count p xs ≤ count q xs → bit c + count p xs ≤ bit (q x) + count q xs
      go true e h = omega (arith, ap bit (a.0 e))
      go false e h = omega arith

  pub all-index : (d : A) (P : A → Type 0) (l : List A) → ((k : ℕ) → k < length l → P (get_or l k d)) → All P l
  unfolding All
  all-index d P [] f = tt
  all-index d P (x ∷ l) f = (f 0 (omega arith), all-index d P l (λ k h. f (suc k) (omega arith)))

  pub all_member : (d : A) (P : A → Type 0) (l : List A) → All P l → (k : ℕ) → k < length l → P (get_or l k d)
  unfolding All
  all_member d P [] a k h = absurd (not-suc-le-zero h)
  all_member d P (x ∷ l) a zero h = a.0
  all_member d P (x ∷ l) a (suc k) h = all_member d P l a.1 k (le_of_suc-le-suc h)

  -- one more from the front, and one more from behind
  pub all_take : (d : A) (P : A → Type 0) (l : List A) (i : ℕ) → i < length l → All P (take i l) → P (get_or l i d) → All P (take (i + 1) l)
  unfolding All
  all_take d P l i h a e = rw (add-one, take-suc l i d) (all_append P (take i l) (get_or l i d ∷ []) a (e, tt))

  pub all_drop : (d : A) (P : A → Type 0) (l : List A) (j : ℕ) → j < length l → All P (drop (suc j) l) → P (get_or l j d) → All P (drop j l)
  unfolding All
  all_drop d P l j h a e = rw (drop-cons l j d) (e, a)

  pub all_both : (P Q : A → Type 0) (l : List A) → All P l → All Q l → All (λ x. P x × Q x) l
  unfolding All
  all_both P Q [] a b = tt
  all_both P Q (x ∷ l) a b = ((a.0, b.0), all_both P Q l a.1 b.1)

  -- of a part, what holds of the whole
  pub all-take-more : (P : A → Type 0) (l : List A) (i : ℕ) → All P l → All P (take i l)
  unfolding All
  all-take-more P l zero a = tt
  all-take-more P [] (suc i) a = tt
  all-take-more P (x ∷ l) (suc i) a = (a.0, all-take-more P l i a.1)

  pub all-drop-more : (P : A → Type 0) (l : List A) (i : ℕ) → All P l → All P (drop i l)
  unfolding All
  all-drop-more P l zero a = a
  all-drop-more P [] (suc i) a = tt
  all-drop-more P (x ∷ l) (suc i) a = all-drop-more P l i a.1

  -- ---- counts of a test that all pass, or some do not

  pub all-count : (p : A → Bool) (l : List A) → All (λ x. p x ≡ true) l → count p l ≡ length l
  unfolding All count bit
  all-count p [] a = refl
  all-count p (x ∷ l) a = omega (arith, ap bit a.0, all-count p l a.1)

  pub all-count-none : (p : A → Bool) (l : List A) → All (λ x. p x ≡ false) l → count p l ≡ 0
  unfolding All count bit
  all-count-none p [] a = refl
  all-count-none p (x ∷ l) a = omega (arith, ap bit a.0, all-count-none p l a.1)

  pub count-all : (p : A → Bool) (l : List A) → count p l ≡ length l → All (λ x. p x ≡ true) l
  unfolding All count
  count-all p [] e = tt
  count-all p (x ∷ l) e =
      (T_true (p x) (bit_T (p x) (omega (arith, count-le p l, bit_le (p x)))), count-all p l (omega (arith, count-le p l, bit_le (p x))))

  pub count-not-all : (d : A) (p : A → Bool) (l : List A) (k : ℕ) → k < length l → p (get_or l k d) ≡ false → count p l < length l
  unfolding count bit
  count-not-all d p [] k h e = absurd (not-suc-le-zero h)
  count-not-all d p (x ∷ l) zero h e = omega (arith, ap bit e, count-le p l)
  count-not-all d p (x ∷ l) (suc k) h e = omega (arith, count-not-all d p l k (le_of_suc-le-suc h) e, bit_le (p x))

  -- one that passes, where some do
  pub count-find : (d : A) (p : A → Bool) (l : List A) → 0 < count p l → (k : ℕ) × (k < length l) × (p (get_or l k d) ≡ true)
  unfolding count bit
  count-find d p [] h = absurd (not-suc-le-zero h)
  count-find d p (x ∷ l) h = go (p x) refl h (count-find d p l)
    where
      go : (b : Bool) → p x ≡ b → 0 < bit b + count p l → (0 < count p l → (k : ℕ) × (k < length l) × (p (get_or l k d) ≡ true))
          → (k : ℕ) × (k < suc (length l)) × (p (get_or (x ∷ l) k d) ≡ true)
      go true e g f = (0, omega arith, e)
      go false e g f = let r = f (omega arith) in (suc r.0, omega (arith, r.1), r.2)

  -- two tests that agree on every member
  pub count-agree : (p q : A → Bool) (l : List A) → All (λ x. p x ≡ q x) l → count p l ≡ count q l
  unfolding All count
  count-agree p q [] a = refl
  count-agree p q (x ∷ l) a = ap₂ (λ (c : Bool) (n : ℕ). bit c + n) a.0 (count-agree p q l a.1)

-- ---- kept twice, kept of joined lists, and a key among a list

module _ {A : Type 0} where
  pub keep-both : (p q : A → Bool) (xs : List A) → keep q (keep p xs) ≡ keep (λ x. p x && q x) xs
  unfolding keep
  keep-both p q [] = refl
  keep-both p q (x ∷ xs) = go (p x) (keep-both p q xs)
    where
      go : (c : Bool) → keep q (keep p xs) ≡ keep (λ x. p x && q x) xs
          → keep q (cond c (x ∷ keep p xs) (keep p xs)) ≡ cond (c && q x) (x ∷ keep (λ x. p x && q x) xs) (keep (λ x. p x && q x) xs)
      go true e = ap (λ (l : List A). cond (q x) (x ∷ l) l) e
      go false e = e

  pub keep_never : (xs : List A) → keep (λ x. false) xs ≡ []
  unfolding keep
  keep_never [] = refl
  keep_never (x ∷ xs) = keep_never xs

  pub count-keep : (p q : A → Bool) (xs : List A) → count p (keep q xs) ≤ count p xs
  unfolding count keep
  count-keep p q [] = omega arith
  count-keep p q (x ∷ xs) = go (q x) (count-keep p q xs)
    where
      go : (c : Bool) → count p (keep q xs) ≤ count p xs → count p (cond c (x ∷ keep q xs) (keep q xs)) ≤ bit (p x) + count p xs
      go true h = omega (arith, h)
      go false h = omega (arith, h)

  pub count_kept : (p q : A → Bool) (xs : List A) → count p (keep q xs) ≡ count (λ x. q x && p x) xs
  unfolding count keep bit
  count_kept p q [] = refl
  count_kept p q (x ∷ xs) = go (q x) (count_kept p q xs)
    where
      go : (c : Bool) → count p (keep q xs) ≡ count (λ x. q x && p x) xs
          → count p (cond c (x ∷ keep q xs) (keep q xs)) ≡ bit (c && p x) + count (λ x. q x && p x) xs
      go true e = omega (arith, e)
      go false e = omega (arith, e)

  pub count-joined : (p : A → Bool) (ls : List (List A)) → count p (joined ls) ≡ total (count p) ls
  unfolding joined total count
  count-joined p [] = refl
  count-joined p (l ∷ ls) = omega (arith, count-append p l (joined ls), count-joined p ls)

  -- one member's part of a sum
  pub total-at : (d : A) (f : A → ℕ) (xs : List A) (i : ℕ) → i < length xs → f (get_or xs i d) ≤ total f xs
  unfolding total
  total-at d f [] i h = let z : ⊥ = omega arith in absurd z
  total-at d f (x ∷ xs) zero h = omega arith
  total-at d f (x ∷ xs) (suc i) h = omega (arith, total-at d f xs i (omega arith))

  -- those that are kept pass the test
  pub keep_pass : (p : A → Bool) (xs : List A) → All (λ x. p x ≡ true) (keep p xs)
  unfolding All keep
  keep_pass p [] = tt
  keep_pass p (x ∷ xs) = go (p x) refl (keep_pass p xs)
    where
      go : (c : Bool) → p x ≡ c → All (λ x. p x ≡ true) (keep p xs) → All (λ x. p x ≡ true) (cond c (x ∷ keep p xs) (keep p xs))
      go true q r = (q, r)
      go false q r = r

  pub all_kept : (P : A → Type 0) (p : A → Bool) (xs : List A) → All P xs → All P (keep p xs)
  unfolding All keep
  all_kept P p [] a = tt
  all_kept P p (x ∷ xs) a = go (p x) (all_kept P p xs a.1)
    where
      go : (c : Bool) → All P (keep p xs) → All P (cond c (x ∷ keep p xs) (keep p xs))
      go true r = (a.0, r)
      go false r = r

  -- a test after one that is weaker on the members
  pub keep-keep : (p q : A → Bool) (xs : List A) → All (λ x. p x ≡ true → q x ≡ true) xs → keep p (keep q xs) ≡ keep p xs
  unfolding All keep
  keep-keep p q [] a = refl
  keep-keep p q (x ∷ xs) a = go (p x) (q x) refl refl (keep-keep p q xs a.1)
    where
      go : (c d : Bool) → p x ≡ c → q x ≡ d → keep p (keep q xs) ≡ keep p xs
          → keep p (cond d (x ∷ keep q xs) (keep q xs)) ≡ cond c (x ∷ keep p xs) (keep p xs)
      go c true e f r = ap (λ (b : Bool). cond b (x ∷ keep p (keep q xs)) (keep p (keep q xs))) e ∙ ap (λ (l : List A). cond c (x ∷ l) l) r
      go true false e f r = absurd (false≢true (sym f ∙ a.0 e))
      go false false e f r = r

module _ {A B : Type 0} where
  pub joined-append : (f : A → List B) (xs ys : List A) → joined (map f (xs ++ ys)) ≡ joined (map f xs) ++ joined (map f ys)
  unfolding joined
  joined-append f [] ys = refl
  joined-append f (x ∷ xs) ys =
      ap (λ (l : List B). f x ++ l) (joined-append f xs ys) ∙ sym (append_assoc (f x) (joined (map f xs)) (joined (map f ys)))

  pub all-joined : (P : A → Type 0) (Q : B → Type 0) (f : A → List B) → ((x : A) → P x → All Q (f x)) → (xs : List A) → All P xs → All Q (joined (map f xs))
  unfolding All joined
  all-joined P Q f h [] a = tt
  all-joined P Q f h (x ∷ xs) a = all_append Q (f x) (joined (map f xs)) (h x a.0) (all-joined P Q f h xs a.1)

  pub all_under : (P : B → Type 0) (f : A → B) (xs : List A) → All (λ x. P (f x)) xs → All P (map f xs)
  unfolding All
  all_under P f [] a = tt
  all_under P f (x ∷ xs) a = (a.0, all_under P f xs a.1)

key-times : (c : Bool) (a n m : ℕ) → m ≡ n * a → cond c a 0 + m ≡ (bit c + n) * a
unfolding bit
key-times true a n m e = omega (arith, e)
key-times false a n m e = omega (arith, e)

total-times : (ks : List ℕ) (k a : ℕ) → total (λ j. cond (eqb k j) a 0) ks ≡ count (eqb k) ks * a
unfolding total count
total-times [] k a = omega arith
total-times (j ∷ ks) k a = key-times (eqb k j) a (count (eqb k) ks) (total (λ j. cond (eqb k j) a 0) ks) (total-times ks k a)

once_or-not : (n a : ℕ) → n ≤ 1 → n * a ≡ cond (ltb 0 n) a 0
once_or-not zero a h = omega arith
once_or-not (suc zero) a h = omega arith
once_or-not (suc (suc n)) a h = let z : ⊥ = omega arith in absurd z

-- a key among those that are kept
pub count-key : (p : ℕ → Bool) (e : ℕ) (l : List ℕ) → count (eqb e) (keep p l) ≡ cond (p e) (count (eqb e) l) 0
unfolding keep count bit
count-key p e [] = zeros (p e)
  where
    zeros : (c : Bool) → ◌≡◌ {A = ℕ} 0 (cond c 0 0)
    zeros true = refl
    zeros false = refl
count-key p e (d ∷ l) = go (p d) (p e) (eqb e d) refl refl refl (count-key p e l)
  where
    go : (c q w : Bool) → p d ≡ c → p e ≡ q → eqb e d ≡ w → count (eqb e) (keep p l) ≡ cond q (count (eqb e) l) 0
        → count (eqb e) (cond c (d ∷ keep p l) (keep p l)) ≡ cond q (bit w + count (eqb e) l) 0
    go true true w i j m r = omega (arith, ap bit m, r)
    go true false true i j m r = absurd (false≢true (sym j ∙ ap p (eqb-true e d m) ∙ i))
    go true false false i j m r = omega (arith, ap bit m, r)
    go false true true i j m r = absurd (false≢true (sym i ∙ sym (ap p (eqb-true e d m)) ∙ j))
    go false true false i j m r = omega (arith, r)
    go false false w i j m r = r

-- a list without repeats gives a once where it has k, and never else
pub total_once : (ks : List ℕ) (k a : ℕ) → count (eqb k) ks ≤ 1 → total (λ j. cond (eqb k j) a 0) ks ≡ cond (ltb 0 (count (eqb k) ks)) a 0
total_once ks k a h = total-times ks k a ∙ once_or-not (count (eqb k) ks) a h

-- whether all numbers of a list are below v, as a test
pub every-below : (v : ℕ) (l : List ℕ) (r : Bool) → Tells (All (λ x. x < v) l) r → r ≡ every (λ x. ltb x v) l
every-below v l true a = sym (all-every (λ x. ltb x v) l (all_map (λ x. x < v) (λ x. ltb x v ≡ true) (λ x h. lt-ltb x v h) l a))
every-below v l false n = go (every (λ x. ltb x v) l) refl
  where
    go : (b : Bool) → every (λ x. ltb x v) l ≡ b → false ≡ every (λ x. ltb x v) l
    go true e = absurd (n (all_map (λ x. ltb x v ≡ true) (λ x. x < v) (λ x h. ltb-true x v h) l (every-all (λ x. ltb x v) l (true_T (every (λ x. ltb x v) l) e))))
    go false e = sym e
