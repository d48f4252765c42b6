-- The turns of the loops: the ways out of one, and what every turn keeps. Assumes nothing.
use mathlib.Core.Path.{◌≡◌, refl, sym, ap, ◌∙◌}
use mathlib.Core.Bool.{Bool, true, false, ◌||◌}
use mathlib.Core.List.{List}
use Prim.Native.Nat.{ℕ, ◌+◌, ◌*◌, ◌%◌, ◌≤◌, ◌<◌}
use native.Mathlib.Omega.{arith}
use lib.Dec.{eqb, ltb}
use lib.ListN.{length, get_or, set, length-set}
use lib.Seq.{get_or-set_other}
use borrow.Author.Tests.{eq-eqb, ne_eqb}
use Rattle.laws.specs.Bools.{bit}
use Rattle.laws.specs.Ranges.{any, fold}
use Rattle.laws.proofs.Bools.{bit_T, T_true}
use Rattle.laws.proofs.Ranges.{fold_keeps, fold-none, fold-turn, any-more}
use Rattle.pairs.specs.Sides.{next, crowded}
use Rattle.crowded.specs.Inner.Turns.{Ready, mark, end_turn, flagged, crowded_at, wanted, owner_turn}

pub next_low : (s : List ℕ) → length s % 3 ≡ 0 → (k : ℕ) → k < length s → next k < length s
unfolding next
next_low s h k l = omega arith

bit-one : (b : Bool) → bit b ≡ 1 → b ≡ true
bit-one b e = T_true b (bit_T b e)

bit_not : (b : Bool) → (bit b ≡ 1 → ⊥) → b ≡ false
unfolding bit
bit_not true n = absurd (n refl)
bit_not false n = refl

bit_test : (b : Bool) → eqb (bit b) 1 ≡ b
unfolding bit
bit_test true = refl
bit_test false = refl

-- ---- the flag of a side says whether it is crowded

module _ {s room : List ℕ} {a : ℕ} (r : Ready s room a) (k : ℕ) (h : k < length s) where
  pub flag_yes : get_or room k 0 ≡ 1 → crowded s k ≡ true
  flag_yes e = bit-one (crowded s k) (sym (r.flags k h) ∙ e)

  pub flag_no : (get_or room k 0 ≡ 1 → ⊥) → crowded s k ≡ false
  flag_no n = bit_not (crowded s k) (λ e. n (r.flags k h ∙ e))

  pub flag_is : eqb (get_or room k 0) 1 ≡ crowded s k
  flag_is = ap (λ (x : ℕ). eqb x 1) (r.flags k h) ∙ bit_test (crowded s k)

-- ---- the ways out of a turn

module _ (a : ℕ) (b : Bool) (x : ℕ) (l : List ℕ) where
  pub mark_yes : b ≡ true → set l (a + x) 1 ≡ mark a b x l
  unfolding mark
  mark_yes e = sym (rw e refl)

  pub mark_no : b ≡ false → l ≡ mark a b x l
  unfolding mark
  mark_no e = sym (rw e refl)

module _ (s : List ℕ) (a k : ℕ) (l : List ℕ) where
  pub side_yes : (n : ℕ) → n ≡ next k → crowded s k ≡ true → set (set l (a + get_or s k 0) 1) (a + get_or s n 0) 1 ≡ end_turn s a k l
  unfolding end_turn mark
  side_yes n e o = sym (rw (o, ← e) refl)

  pub side_no : crowded s k ≡ false → l ≡ end_turn s a k l
  unfolding end_turn mark
  side_no o = sym (rw o refl)

module _ (l : List ℕ) (k : ℕ) where
  pub flagged-first : get_or l k 0 ≡ 1 → true ≡ flagged l k
  unfolding flagged
  flagged-first e = sym (rw (eq-eqb (get_or l k 0) 1 e) refl)

  module _ (n m : ℕ) (is_n : n ≡ next k) (is_m : m ≡ next n) (first : get_or l k 0 ≡ 1 → ⊥) where
    pub flagged_second : get_or l n 0 ≡ 1 → true ≡ flagged l k
    unfolding flagged
    flagged_second e = sym (rw (ne_eqb (get_or l k 0) 1 first, ← is_n, eq-eqb (get_or l n 0) 1 e) refl)

    pub flagged-third : (get_or l n 0 ≡ 1 → ⊥) → eqb (get_or l m 0) 1 ≡ flagged l k
    unfolding flagged
    flagged-third e = sym (rw (ne_eqb (get_or l k 0) 1 first, ← is_n, ne_eqb (get_or l n 0) 1 e, ← is_m) refl)

-- the flags of a triangle say whether it has a side that is crowded
pub flagged-crowded : {s room : List ℕ} {a : ℕ} → Ready s room a → (k : ℕ) → k < length s → flagged room k ≡ crowded_at s k
unfolding flagged crowded_at
flagged-crowded {s} {room} r k h =
    let n : next k < length s = next_low s r.whole k h in
    let m : next (next k) < length s = next_low s r.whole (next k) n in
    λ i. flag_is r k h i || flag_is r (next k) n i || flag_is r (next (next k)) m i

module _ (s book : List ℕ) (a k : ℕ) (l : List ℕ) where
  pub corner_yes : crowded_at s k ≡ true → {r : Bool} {l' : List ℕ} → r ≡ ltb 1 (get_or book (4 * get_or s k 0 + 1) 0)
      → l' ≡ mark a (ltb 1 (get_or book (4 * get_or s k 0 + 1) 0)) (get_or book (4 * get_or s k 0) 0) l → (r ≡ wanted s book k) × (l' ≡ owner_turn s book a k l)
  unfolding wanted owner_turn
  corner_yes e g h = (g ∙ sym (rw e refl), h ∙ sym (rw e refl))

  pub corner_no : crowded_at s k ≡ false → (false ≡ wanted s book k) × (l ≡ owner_turn s book a k l)
  unfolding wanted owner_turn mark
  corner_no e = (sym (rw e refl), sym (rw e refl))

-- ---- what every turn keeps: the length, and the words before a

mark-length : (a : ℕ) (b : Bool) (x : ℕ) (l : List ℕ) → length (mark a b x l) ≡ length l
unfolding mark
mark-length a true x l = length-set l (a + x) 1
mark-length a false x l = refl

mark_before : (a : ℕ) (b : Bool) (x : ℕ) (l : List ℕ) (j : ℕ) → j < a → get_or (mark a b x l) j 0 ≡ get_or l j 0
unfolding mark
mark_before a true x l j h = get_or-set_other l (a + x) j 1 0 (λ e. omega arith)
mark_before a false x l j h = refl

pub record Keeps (a : ℕ) (turn : ℕ → List ℕ → List ℕ) : Type 0 where
  pub long : (k : ℕ) (l : List ℕ) → length (turn k l) ≡ length l
  pub before : (j : ℕ) → j < a → (k : ℕ) (l : List ℕ) → get_or (turn k l) j 0 ≡ get_or l j 0

pub end_keeps : (s : List ℕ) (a : ℕ) → Keeps a (end_turn s a)
unfolding end_turn
end_keeps s a = record {
  long = λ k l. mark-length a (crowded s k) (get_or s (next k) 0) _ ∙ mark-length a (crowded s k) (get_or s k 0) l;
  before = λ j h k l. mark_before a (crowded s k) (get_or s (next k) 0) _ j h ∙ mark_before a (crowded s k) (get_or s k 0) l j h;
}

pub owner_keeps : (s book : List ℕ) (a : ℕ) → Keeps a (owner_turn s book a)
unfolding owner_turn
owner_keeps s book a = record {
  long = λ k l. mark-length a (wanted s book k) (get_or book (4 * get_or s k 0) 0) l;
  before = λ j h k l. mark_before a (wanted s book k) (get_or book (4 * get_or s k 0) 0) l j h;
}

-- ---- the loop: after k turns the list is l, and f says whether a turn found anything

pub record Looped (s : List ℕ) (a : ℕ) (turn : ℕ → List ℕ → List ℕ) (p : ℕ → Bool) (l₀ : List ℕ) (k : ℕ) (l : List ℕ) (f : Bool) : Type 0 where
  pub low : k ≤ length s
  pub list : l ≡ fold turn k l₀
  pub long : length l ≡ length l₀
  pub found : f ≡ any k p

module _ (s : List ℕ) (a : ℕ) (turn : ℕ → List ℕ → List ℕ) (p : ℕ → Bool) (l₀ : List ℕ) where
  pub looped_start : Looped s a turn p l₀ 0 l₀ false
  unfolding any
  looped_start = record { low = omega arith; list = sym (fold-none turn l₀); long = refl; found = refl }

  module _ {k : ℕ} {l : List ℕ} {f : Bool} (d : Looped s a turn p l₀ k l f) where
    pub looped_ready : Keeps a turn → Ready s l₀ a → Ready s l a
    looped_ready t r = record {
      whole = r.whole;
      front = r.front;
      within = omega (arith, r.within, d.long);
      fits = r.fits;
      flags = λ j h. ap (λ (q : List ℕ). get_or q j 0) d.list ∙ fold_keeps (λ (q : List ℕ). get_or q j 0) turn (t.before j (omega (arith, r.front))) k l₀ ∙ r.flags j h;
    }

    pub looped_turn : k < length s → (l' : List ℕ) (r : Bool) → l' ≡ turn k l → length l' ≡ length l → r ≡ p k → Looped s a turn p l₀ (k + 1) l' (f || r)
    looped_turn h l' r e n g = record {
      low = omega arith;
      list = fold-turn turn k l₀ l l' d.list e;
      long = n ∙ d.long;
      found = ap (λ (c : Bool). f || c) g ∙ ap (λ (c : Bool). c || p k) d.found ∙ sym (any-more k p);
    }
