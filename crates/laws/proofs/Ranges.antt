-- Laws of folds, joined lists and tests over the numbers below a bound. Assumes nothing.
use mathlib.Core.Path.{◌≡◌, refl, sym, ap, ap₂, ◌∙◌, subst}
use mathlib.Core.Bool.{Bool, true, false, ◌||◌, beq, or_assoc, or-false, false≢true}
use mathlib.Core.Logic.{◌⊎◌, inl, inr, ⊎_elim}
use mathlib.Core.List.{List, [], ◌∷◌, ◌++◌, map, append-nil, append_assoc}
use Prim.Native.Nat.{ℕ, zero, suc, ◌+◌, ◌*◌, ◌≤◌, ◌<◌, pred}
use native.Mathlib.Nat.{add-zero, add-suc, zero-mul, suc-mul, le_antisymm, not-suc-le-zero, add-le-add}
use native.Mathlib.Numerals.{add-one}
use native.Mathlib.Omega.{arith}
use lib.Dec.{T, eqb, eqb→eq}
use borrow.Author.Tests.{eqb-true}
use lib.ListN.{length, get_or, length-append, get_or-append}
use lib.Seq.{get_or_at, get_or-append-add}
use Rattle.laws.specs.Ranges.{fold, each, any, all}
use Rattle.laws.specs.Bools.{bit}
use Rattle.laws.specs.Lists.{keep, count, joined, All}
use Rattle.laws.proofs.Bools.{and_left, and_right, or_apart, beq→eq}
use Rattle.laws.proofs.Lists.{keep_append, map-append, count-append, joined-append, all_append}

-- ---- cases on two numbers

pub lt-or : (a b : ℕ) → (a < b) ⊎ (b ≤ a)
lt-or a zero = inr (omega arith)
lt-or zero (suc b) = inl (omega arith)
lt-or (suc a) (suc b) = ⊎_elim (λ h. inl (omega arith)) (λ h. inr (omega arith)) (lt-or a b)

pub eq-or : (a b : ℕ) → (a ≡ b) ⊎ (a ≡ b → ⊥)
eq-or zero zero = inl refl
eq-or zero (suc b) = inr (λ p. omega arith)
eq-or (suc a) zero = inr (λ p. omega arith)
eq-or (suc a) (suc b) = ⊎_elim (λ h. inl (ap suc h)) (λ h. inr (λ p. h (omega arith))) (eq-or a b)

pub le_ne : (i : ℕ) {k : ℕ} → i ≤ k → (k ≡ i → ⊥) → i < k
le_ne i {k} h z = omega arith

-- ---- a loop that counts from 0

module _ {A : Type 0} where
  pub fold-none : (f : ℕ → A → A) (a : A) → fold f 0 a ≡ a
  unfolding fold
  fold-none f a = refl

  -- one turn more
  pub fold_more : (f : ℕ → A → A) (k : ℕ) (a : A) → fold f (k + 1) a ≡ f k (fold f k a)
  unfolding fold
  fold_more f k a = rw add-one

  -- the loop's turn: b is what the first k turns made, and b' what turn k makes of it
  pub fold-turn : (f : ℕ → A → A) (k : ℕ) (a b b' : A) → b ≡ fold f k a → b' ≡ f k b → b' ≡ fold f (k + 1) a
  fold-turn f k a b b' p q = q ∙ ap (f k) p ∙ sym (fold_more f k a)

  -- the loop's end
  pub fold_done : (f : ℕ → A → A) (k n : ℕ) (a b : A) → b ≡ fold f k a → k ≤ n → n ≤ k → b ≡ fold f n a
  fold_done f k n a b p h h' = p ∙ ap (λ (j : ℕ). fold f j a) (le_antisymm h h')

  -- what the turns below n keep, the loop keeps
  pub fold_inv : (P : A → Type 0) (f : ℕ → A → A) (n : ℕ) (a : A) → P a → ((k : ℕ) (b : A) → k < n → P b → P (f k b)) → P (fold f n a)
  unfolding fold
  fold_inv P f zero a p keep = p
  fold_inv P f (suc n) a p keep = keep n (fold f n a) (omega arith) (fold_inv P f n a p (λ k b h. keep k b (omega arith)))

  -- What each turn can only add to a flag g, the loop adds: turn k adds p k. P is what every turn keeps.
  pub fold-or : (P : A → Type 0) (g : A → Bool) (f : ℕ → A → A) (p : ℕ → Bool) (n : ℕ) (a : A)
      → ((k : ℕ) (b : A) → k < n → P b → P (f k b)) → ((k : ℕ) (b : A) → k < n → P b → g (f k b) ≡ g b || p k)
      → P a → P (fold f n a) × (g (fold f n a) ≡ g a || any n p)
  unfolding fold any
  fold-or P g f p zero a keep e h = (h, sym (or-false (g a)))
  fold-or P g f p (suc n) a keep e h =
      let ih = fold-or P g f p n a (λ k b l. keep k b (omega arith)) (λ k b l. e k b (omega arith)) h in
      let l : n < suc n = omega arith in
      (keep n (fold f n a) l ih.0, e n (fold f n a) l ih.0 ∙ ap (λ (b : Bool). b || p n) ih.1 ∙ or_assoc (g a) (any n p) (p n))

module _ {A : Type 0} where
  -- two loops whose turns agree on all that P holds of, which the turns keep
  pub fold_same : (P : A → Type 0) (f g : ℕ → A → A) (n : ℕ) (a : A) → P a → ((k : ℕ) (b : A) → k < n → P b → P (g k b))
      → ((k : ℕ) (b : A) → k < n → P b → f k b ≡ g k b) → fold f n a ≡ fold g n a
  unfolding fold
  fold_same P f g zero a p keep h = refl
  fold_same P f g (suc n) a p keep h =
      ap (f n) (fold_same P f g n a p (λ k b l. keep k b (omega arith)) (λ k b l. h k b (omega arith)))
      ∙ h n (fold g n a) (omega arith) (fold_inv P g n a p (λ k b l. keep k b (omega arith)))

  pub fold-add : (f : ℕ → A → A) (m n : ℕ) (a : A) → fold f (m + n) a ≡ fold (λ i. f (m + i)) n (fold f m a)
  unfolding fold
  fold-add f m zero a = rw add-zero
  fold-add f m (suc n) a = rw (add-suc, fold-add f m n a)

  -- m rows of n turns
  pub fold-rows : (f : ℕ → A → A) (m n : ℕ) (a : A) → fold f (m * n) a ≡ fold (λ j. fold (λ i. f (j * n + i)) n) m a
  unfolding fold
  fold-rows f zero n a = rw zero-mul
  fold-rows f (suc m) n a = rw (suc-mul, fold-add f (m * n) n a, fold-rows f m n a)

-- turns that work on the part of a list behind a given front
pub fold_behind : {A : Type 0} (front : List A) (f g : ℕ → List A → List A) (n : ℕ) (r : List A)
    → ((k : ℕ) (x : List A) → k < n → g k (front ++ x) ≡ front ++ f k x) → fold g n (front ++ r) ≡ front ++ fold f n r
unfolding fold
fold_behind front f g zero r h = refl
fold_behind front f g (suc n) r h = ap (g n) (fold_behind front f g n r (λ k x l. h k x (omega arith))) ∙ h n (fold f n r) (omega arith)

pub fold_keeps : {A B : Type 0} (g : A → B) (f : ℕ → A → A) → ((k : ℕ) (a : A) → g (f k a) ≡ g a) → (k : ℕ) (a : A) → g (fold f k a) ≡ g a
unfolding fold
fold_keeps g f e zero a = refl
fold_keeps g f e (suc k) a = rw (e, fold_keeps g f e k a)

-- ---- lists joined

module _ {A : Type 0} where
  pub each_none : (f : ℕ → List A) → each 0 f ≡ []
  unfolding each
  each_none f = refl

  pub each_more : (k : ℕ) (f : ℕ → List A) → each (k + 1) f ≡ each k f ++ f k
  unfolding each
  each_more k f = rw add-one

  pub each_same : (n : ℕ) (f g : ℕ → List A) → ((i : ℕ) → i < n → f i ≡ g i) → each n f ≡ each n g
  unfolding each
  each_same zero f g h = refl
  each_same (suc n) f g h = ap₂ (λ (x y : List A). x ++ y) (each_same n f g (λ i l. h i (omega arith))) (h n (omega arith))

  pub each_nil : (n : ℕ) (f : ℕ → List A) → ((i : ℕ) → i < n → f i ≡ []) → each n f ≡ []
  unfolding each
  each_nil zero f h = refl
  each_nil (suc n) f h = ap₂ (λ (x y : List A). x ++ y) (each_nil n f (λ i l. h i (omega arith))) (h n (omega arith))

  -- the last one gives nothing, and may be left out
  pub each_trim : (n : ℕ) (f g : ℕ → List A) → ((i : ℕ) → suc i < n → f i ≡ g i) → ((i : ℕ) → suc i ≡ n → f i ≡ []) → each n f ≡ each (pred n) g
  unfolding each
  each_trim zero f g h e = refl
  each_trim (suc n) f g h e =
      ap₂ (λ (x y : List A). x ++ y) (each_same n f g (λ i l. h i (omega arith))) (e n refl) ∙ append-nil (each n g)

  pub each-le : (b n : ℕ) (f : ℕ → List A) → ((i : ℕ) → length (f i) ≤ b) → length (each n f) ≤ n * b
  unfolding each
  each-le b zero f h = omega arith
  each-le b (suc n) f h = rw (length-append, suc-mul) (add-le-add (each-le b n f h) (h n))

  pub each-add : (m n : ℕ) (f : ℕ → List A) → each (m + n) f ≡ each m f ++ each n (λ i. f (m + i))
  unfolding each
  each-add m zero f = rw (add-zero, append-nil)
  each-add m (suc n) f = rw (add-suc, each-add m n f, append_assoc)

  -- the first list, and those after it
  pub each_first : (n : ℕ) (f : ℕ → List A) → each (suc n) f ≡ f 0 ++ each n (λ i. f (suc i))
  unfolding each
  each_first zero f = sym (append-nil (f 0))
  each_first (suc n) f = rw (each_first n f, append_assoc)

  -- the lists before l, the list of l, and those after it
  pub each-split : (l r : ℕ) (f : ℕ → List A) → each (l + suc r) f ≡ each l f ++ (f l ++ each r (λ i. f (l + suc i)))
  each-split l r f =
      each-add l (suc r) f
      ∙ ap (λ (x : List A). each l f ++ x) (each_first r (λ i. f (l + i)) ∙ ap (λ (j : ℕ). f j ++ each r (λ i. f (l + suc i))) (add-zero l))

  -- an entry of one of the lists is an entry of the joined list
  pub each_entry : (d : A) (n : ℕ) (f : ℕ → List A) (k j : ℕ) → k < n → j < length (f k)
      → (i : ℕ) × (i < length (each n f)) × (get_or (each n f) i d ≡ get_or (f k) j d)
  unfolding each
  each_entry d zero f k j h l = absurd (not-suc-le-zero h)
  each_entry d (suc n) f k j h l =
      ⊎_elim
      (λ b.
      let r = each_entry d n f k j b l in
      (r.0, omega (arith, r.1, length-append (each n f) (f n)), get_or-append (each n f) (f n) d r.0 r.1 ∙ r.2))
      (λ b.
      let e : k ≡ n = omega arith in
      let l' : j < length (f n) = subst (λ (x : ℕ). j < length (f x)) e l in (
        length (each n f) + j,
        omega (arith, length-append (each n f) (f n)),
        get_or-append-add (each n f) (f n) j d ∙ ap (λ (x : ℕ). get_or (f x) j d) (sym e),
      )) (lt-or k n)

  -- what holds of every member of each of the lists holds of every member of the joined list
  pub each_all : (P : A → Type 0) (n : ℕ) (f : ℕ → List A) → ((i : ℕ) → i < n → All P (f i)) → All P (each n f)
  unfolding each All
  each_all P zero f h = tt
  each_all P (suc n) f h = all_append P (each n f) (f n) (each_all P n f (λ i l. h i (omega arith))) (h n (omega arith))

  -- m rows of n, one after the other, are the numbers below m * n
  pub each_rows : (m n : ℕ) (f : ℕ → List A) → each (m * n) f ≡ each m (λ j. each n (λ i. f (j * n + i)))
  unfolding each
  each_rows zero n f = rw zero-mul
  each_rows (suc m) n f = rw (suc-mul, each-add (m * n) n f, each_rows m n f)

  -- a list given entry by entry: its length, and its entries
  pub each-one-length : (n : ℕ) (f : ℕ → A) → length (each n (λ i. f i ∷ [])) ≡ n
  unfolding each
  each-one-length zero f = refl
  each-one-length (suc n) f = length-append (each n (λ i. f i ∷ [])) (f n ∷ []) ∙ ap (λ (k : ℕ). k + 1) (each-one-length n f) ∙ add-one n

  pub each-one-at : (d : A) (n : ℕ) (f : ℕ → A) (k : ℕ) → k < n → get_or (each n (λ i. f i ∷ [])) k d ≡ f k
  unfolding each
  each-one-at d zero f k h = absurd (not-suc-le-zero h)
  each-one-at d (suc n) f k h =
      ⊎_elim
      (λ l.
      get_or-append (each n (λ i. f i ∷ [])) (f n ∷ []) d k (omega (arith, each-one-length n f))
      ∙ each-one-at d n f k l)
      (λ g.
      let q : k ≡ n = omega arith in
      ap (λ (j : ℕ). get_or (each n (λ i. f i ∷ []) ++ f n ∷ []) j d) q ∙ get_or_at (each n (λ i. f i ∷ [])) (f n) [] d n (each-one-length n f) ∙ ap f (sym q))
      (lt-or k n)

module _ {A B : Type 0} where
  pub each_map : (g : A → B) (n : ℕ) (f : ℕ → List A) → map g (each n f) ≡ each n (λ i. map g (f i))
  unfolding each
  each_map g zero f = refl
  each_map g (suc n) f = map-append g (each n f) (f n) ∙ ap (λ (l : List B). l ++ map g (f n)) (each_map g n f)

  -- a loop over the places of a list
  pub each_list : (l : List A) (d : A) (g : A → List B) → each (length l) (λ k. g (get_or l k d)) ≡ joined (map g l)
  unfolding each joined
  each_list [] d g = refl
  each_list (x ∷ l) d g = each_first (length l) (λ k. g (get_or (x ∷ l) k d)) ∙ ap (λ (r : List B). g x ++ r) (each_list l d g)

-- ---- tests at every number below a bound

pub all-at : (n : ℕ) (p : ℕ → Bool) → T (all n p) → (k : ℕ) → k < n → T (p k)
unfolding all
all-at zero p t k h = absurd (not-suc-le-zero h)
all-at (suc n) p t k h =
    ⊎_elim (λ l. all-at n p (and_right (p n) (all n p) t) k l)
    (λ g. let q : n ≡ k = omega arith in subst (λ (x : ℕ). T (p x)) q (and_left (p n) (all n p) t)) (lt-or k n)

-- the same for two numbers
pub all_at2 : (n m : ℕ) (p : ℕ → ℕ → Bool) → T (all n (λ i. all m (p i))) → (i j : ℕ) → i < n → j < m → T (p i j)
all_at2 n m p t i j hi hj = all-at m (p i) (all-at n (λ i. all m (p i)) t i hi) j hj

-- two tables of numbers, or of truth values, that a computed test finds equal below n
pub same_at : (n : ℕ) (f g : ℕ → ℕ) → T (all n (λ k. eqb (f k) (g k))) → (k : ℕ) → k < n → f k ≡ g k
same_at n f g t k h = eqb→eq (f k) (g k) (all-at n (λ k. eqb (f k) (g k)) t k h)

pub same_at2 : (n m : ℕ) (f g : ℕ → ℕ → ℕ) → T (all n (λ i. all m (λ j. eqb (f i j) (g i j)))) → (i j : ℕ) → i < n → j < m → f i j ≡ g i j
same_at2 n m f g t i j hi hj = eqb→eq (f i j) (g i j) (all_at2 n m (λ i j. eqb (f i j) (g i j)) t i j hi hj)

pub beq_at2 : (n m : ℕ) (f g : ℕ → ℕ → Bool) → T (all n (λ i. all m (λ j. beq (f i j) (g i j)))) → (i j : ℕ) → i < n → j < m → f i j ≡ g i j
beq_at2 n m f g t i j hi hj = beq→eq (f i j) (g i j) (all_at2 n m (λ i j. beq (f i j) (g i j)) t i j hi hj)

-- some number passes where one does
pub any_some : (n : ℕ) (p : ℕ → Bool) (k : ℕ) → k < n → p k ≡ true → any n p ≡ true
unfolding any
any_some zero p k h e = absurd (not-suc-le-zero h)
any_some (suc n) p k h e =
    ⊎_elim (λ l. ap (λ (b : Bool). b || p n) (any_some n p k l e))
    (λ g. let q : k ≡ n = omega arith in ap (λ (j : ℕ). any n p || p j) (sym q) ∙ ap (λ (b : Bool). any n p || b) e ∙ last (any n p)) (lt-or k n)
  where
    last : (b : Bool) → b || true ≡ true
    last true = refl
    last false = refl

-- the loop's turn: one number more
pub any-more : (k : ℕ) (p : ℕ → Bool) → any (k + 1) p ≡ any k p || p k
unfolding any
any-more k p = rw add-one

pub any_same : (n : ℕ) (p q : ℕ → Bool) → ((k : ℕ) → k < n → p k ≡ q k) → any n p ≡ any n q
unfolding any
any_same zero p q h = refl
any_same (suc n) p q h = ap₂ (λ (x y : Bool). x || y) (any_same n p q (λ k l. h k (omega arith))) (h n (omega arith))

-- where the test passes at some number, there is one
pub any-one : (n : ℕ) (p : ℕ → Bool) → any n p ≡ true → (k : ℕ) × (k < n) × (p k ≡ true)
unfolding any
any-one zero p e = absurd (false≢true e)
any-one (suc n) p e =
    ⊎_elim (λ l. let r = any-one n p l in (r.0, omega (arith, r.1), r.2)) (λ l. (n, omega arith, l)) (or_apart (any n p) (p n) e)

-- none does where none does
pub any_none : (n : ℕ) (p : ℕ → Bool) → ((k : ℕ) → k < n → p k ≡ false) → any n p ≡ false
unfolding any
any_none zero p h = refl
any_none (suc n) p h = ap₂ (λ (x y : Bool). x || y) (any_none n p (λ k l. h k (omega arith))) (h n (omega arith))

-- ---- kept, joined and compared range by range

module _ {A : Type 0} where
  pub each_keep : (p : A → Bool) (n : ℕ) (f : ℕ → List A) → keep p (each n f) ≡ each n (λ i. keep p (f i))
  unfolding each keep
  each_keep p zero f = refl
  each_keep p (suc n) f = keep_append p (each n f) (f n) ∙ ap (λ (l : List A). l ++ keep p (f n)) (each_keep p n f)

pub each-joined : {A B : Type 0} (f : A → List B) (n : ℕ) (h : ℕ → List A) → joined (map f (each n h)) ≡ each n (λ s. joined (map f (h s)))
unfolding joined each
each-joined f zero h = refl
each-joined f (suc n) h = joined-append f (each n h) (h n) ∙ ap (λ (l : List _). l ++ joined (map f (h n))) (each-joined f n h)

-- a number stands at most once among the numbers below n, and from n on never
pub record Once (n s c : ℕ) : Type 0 where
  pub most : c ≤ 1
  pub past : n ≤ s → c ≡ 0

once_more : (s n : ℕ) (c : Bool) → eqb s n ≡ c → Once n s (count (eqb s) (each n (λ i. i ∷ []))) → Once (suc n) s (count (eqb s) (each n (λ i. i ∷ [])) + (bit c + 0))
unfolding bit
once_more s n true e o =
    let h : s ≡ n = eqb-true s n e in
    record { most = omega (arith, o.past (omega (arith, h))); past = λ l. let z : ⊥ = omega arith in absurd z }
once_more s n false e o = record { most = omega (arith, o.most); past = λ l. omega (arith, o.past (omega arith)) }

pub each_once : (n s : ℕ) → Once n s (count (eqb s) (each n (λ i. i ∷ [])))
unfolding each count
each_once zero s = record { most = omega arith; past = λ h. refl }
each_once (suc n) s = rw (count-append (eqb s) (each n (λ i. i ∷ [])) (n ∷ [])) (once_more s n (eqb s n) refl (each_once n s))
