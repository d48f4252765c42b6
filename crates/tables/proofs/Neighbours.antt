-- Neighbours worked out: a delta by the sizes of its axes, the difference of two, and the loop over the edges of a mask. Assumes nothing.
use mathlib.Core.Path.{◌≡◌, refl, sym, ap, ◌∙◌, subst}
use mathlib.Core.Bool.{Bool, true, false, ◌&&◌, beq}
use mathlib.Core.Logic.{◌⊎◌, ⊎_elim}
use mathlib.Core.List.{List, [], ◌∷◌}
use Prim.Native.Nat.{ℕ, zero, suc, ◌+◌, ◌-◌, ◌*◌, ◌%◌, ◌^◌, ◌≤◌, ◌<◌, min, max}
use native.Mathlib.Nat.{zero-mul}
use native.Mathlib.Omega.{arith}
use lib.Dec.{T, eqb, ltb, leb, leb→le}
use lib.IntN.{ℤ, pos, negsuc, ◌-ℤ◌}
use lib.Signed.{mag}
use lib.ListN.{length, get_or}
use lib.Bits.{bit_and, bit_or, bit_xor, and_le_l, or_zero_r, or_lt, mask_lt}
use lib.Count.{count_trailing_zeros, ones_in}
use lib.Pow.{pow-lt}
use borrow.Author.Tests.{eqb-true, eq-eqb, ne_eqb, lt-ltb, le-ltb}
use mir.Syntax.{w8}
use mir.Val.{bool_byte}
use mir.ValLaws.{to_z-of_z}
use Rattle.laws.specs.Ints.{size_of}
use Rattle.laws.specs.Bools.{bit}
use Rattle.laws.specs.Ranges.{all}
use Rattle.laws.specs.Digits.{digit}
use Rattle.laws.proofs.Bools.{and_left, and_right, and-apart, or_apart, bool_ext, beq→eq, true_T}
use Rattle.laws.proofs.Ranges.{all-at, all_at2, beq_at2, eq-or}
use Rattle.laws.proofs.Digits.{digit_lt, digit-zero, digit_and, digit_or, digit_ext, digit-all, digit-pow-same, digit-pow_other, low-set}
use Rattle.laws.proofs.Sizes.{read, minus-read}
use Rattle.laws.proofs.Visits.{low-here, low_bit_lem, low-off, off_less, off-short, off-same, off_other}
use Rattle.tables.specs.declared.Delta.{Delta}
use Rattle.tables.specs.Edges.{offset, minus, same, deltas, delta, among, are_neighbours, neighbour_mask}
use Rattle.tables.specs.Inner.Offsets.{Small}
use Rattle.tables.proofs.Edges.{same→eq, offset-eq, neighbour_rule, neighbour_lt}

-- ---- what a delta is, by the sizes of its axes

-- they add up to 2, and neither the second nor the third is 2
unfoldable pub by_sizes : ℕ → ℕ → ℕ → Bool
by_sizes x y z = eqb (x + y + z) 2 && ltb y 2 && ltb z 2

-- the numbers of size 2 and less
abbrev five : ℕ → ℤ
five k = pos k -ℤ pos 2

five_of : (z : ℤ) → size_of z ≤ 2 → (k : ℕ) × (k < 5) × (five k ≡ z)
unfolding size_of
five_of (pos zero) h = (2, omega arith, refl)
five_of (pos (suc zero)) h = (3, omega arith, refl)
five_of (pos (suc (suc zero))) h = (4, omega arith, refl)
five_of (pos (suc (suc (suc n)))) h = absurd (omega arith)
five_of (negsuc zero) h = (1, omega arith, refl)
five_of (negsuc (suc zero)) h = (0, omega arith, refl)
five_of (negsuc (suc (suc n))) h = absurd (omega arith)

abbrev agree : Delta → Bool
agree d = beq (by_sizes (size_of d.i) (size_of d.j) (size_of d.k)) (among d deltas)

-- ONE COMPUTED TEST: at the 125 offsets of at most 2 on each axis
agree_at : (a b c : ℕ) → a < 5 → b < 5 → c < 5 → T (agree (offset (five a) (five b) (five c)))
unfolding all by_sizes among deltas size_of
agree_at a b c ha hb hc =
    all-at 5 (λ c. agree (offset (five a) (five b) (five c))) (all_at2 5 5 (λ a b. all 5 (λ c. agree (offset (five a) (five b) (five c)))) tt a b ha hb) c hc

agree-small : (d : Delta) → Small d → by_sizes (size_of d.i) (size_of d.j) (size_of d.k) ≡ among d deltas
agree-small d h =
    let x = five_of d.i h.0 in
    let y = five_of d.j h.1 in
    let z = five_of d.k h.2 in
    beq→eq _ _ (subst (λ (o : Delta). T (agree o)) (offset-eq x.2 y.2 z.2) (agree_at x.0 y.0 z.0 x.1 y.1 z.1))

sizes-small : (x y z : ℕ) → by_sizes x y z ≡ true → (x ≤ 2) × (y ≤ 2) × (z ≤ 2)
unfolding by_sizes
sizes-small x y z t =
    let r = and-apart (eqb (x + y + z) 2) (ltb y 2) (and-apart (eqb (x + y + z) 2 && ltb y 2) (ltb z 2) t).0 in
    let s : x + y + z ≡ 2 = eqb-true (x + y + z) 2 r.0 in
    (omega arith, omega arith, omega arith)

-- every delta is small
pub delta-small : (e : ℕ) → e < 14 → Small (delta e)
unfolding all delta size_of
delta-small e h =
    let x = leb (size_of (delta e).i) 2 in
    let y = leb (size_of (delta e).j) 2 in
    let z = leb (size_of (delta e).k) 2 in
    let t : T (x && y && z) = all-at 14 (λ e. leb (size_of (delta e).i) 2 && leb (size_of (delta e).j) 2 && leb (size_of (delta e).k) 2) tt e h in
    (leb→le _ _ (and_left x y (and_left (x && y) z t)), leb→le _ _ (and_right x y (and_left (x && y) z t)), leb→le _ _ (and_right (x && y) z t))

-- an offset that is among some is one of them
among_one : (d : Delta) (l : List Delta) (o : Delta) → among d l ≡ true → (k : ℕ) × (k < length l) × (get_or l k o ≡ d)
unfolding among
among_one d [] o t = absurd (true_T _ t)
among_one d (e ∷ es) o t =
    ⊎_elim (λ s. (0, omega arith, sym (same→eq d e (true_T (same d e) s))))
    (λ s. let r = among_one d es o s in (suc r.0, omega (arith, r.1), r.2)) (or_apart (same d e) (among d es) t)

among-small : (d : Delta) → among d deltas ≡ true → Small d
unfolding delta deltas
among-small d t = let r = among_one d deltas (offset (pos 0) (pos 0) (pos 0)) t in subst Small r.2 (delta-small r.0 r.1)

-- AN OFFSET IS A DELTA EXACTLY IF THE SIZES OF ITS AXES SAY SO, however large it is
pub delta-by_sizes : (d : Delta) → by_sizes (size_of d.i) (size_of d.j) (size_of d.k) ≡ among d deltas
delta-by_sizes d =
    let x = size_of d.i in
    let y = size_of d.j in
    let z = size_of d.k in
    bool_ext (by_sizes x y z) (among d deltas) (λ t. sym (agree-small d (sizes-small x y z t)) ∙ t) (λ t. agree-small d (among-small d t) ∙ t)

-- ONE COMPUTED TEST at the 196 pairs of edges: two are neighbours exactly if the sizes say so of the difference of their deltas
pub neighbours_by_sizes : (e f : ℕ) → e < 14 → f < 14
    → are_neighbours e f ≡ by_sizes (size_of ((delta e).i -ℤ (delta f).i)) (size_of ((delta e).j -ℤ (delta f).j)) (size_of ((delta e).k -ℤ (delta f).k))
unfolding all are_neighbours by_sizes size_of
neighbours_by_sizes e f he hf =
    beq_at2 14 14 are_neighbours (λ e f. by_sizes (size_of ((delta e).i -ℤ (delta f).i)) (size_of ((delta e).j -ℤ (delta f).j)) (size_of ((delta e).k -ℤ (delta f).k))) tt e f he hf

-- the sizes as the machine takes them, and the three ways of the test
module _ (d : Delta) (fi : mag d.i < 2 ^ 7) (fj : mag d.j < 2 ^ 7) (fk : mag d.k < 2 ^ 7)
    (x y z : ℕ) (ex : x ≡ size_of (read w8 d.i)) (ey : y ≡ size_of (read w8 d.j)) (ez : z ≡ size_of (read w8 d.k)) where
  told : by_sizes x y z ≡ among d deltas
  told =
      rw (ex, ey, ez, to_z-of_z w8 d.i (record { sfits = fi }), to_z-of_z w8 d.j (record { sfits = fj }), to_z-of_z w8 d.k (record { sfits = fk })) (delta-by_sizes d)

  pub told_no : (x + y + z ≡ 2 → ⊥) → eqb (x + y + z) 2 ≡ among d deltas
  unfolding by_sizes
  told_no n = ne_eqb (x + y + z) 2 n ∙ sym (rw (ne_eqb (x + y + z) 2 n)) ∙ told

  pub told_second : x + y + z ≡ 2 → (x + y + z ≡ 2 × 2 ≤ y) ⊎ (x + y + z ≡ 2 → ⊥) → ltb y 2 ≡ among d deltas
  unfolding by_sizes
  told_second h e =
      ⊎_elim (λ s. le-ltb y 2 s.1 ∙ sym (rw (eq-eqb (x + y + z) 2 h, le-ltb y 2 s.1)) ∙ told) (λ n. absurd (n h)) e

  pub told-third : x + y + z ≡ 2 → y < 2 → ltb z 2 ≡ among d deltas
  unfolding by_sizes
  told-third h hy = sym (rw (eq-eqb (x + y + z) 2 h, lt-ltb y 2 hy)) ∙ told

-- ---- two edges

-- the difference of two small offsets, taken axis by axis
pub apart-is : (d g : Delta) (x y z : ℤ) → Small d → Small g → x ≡ read w8 d.i -ℤ read w8 g.i → y ≡ read w8 d.j -ℤ read w8 g.j
    → z ≡ read w8 d.k -ℤ read w8 g.k → offset (read w8 x) (read w8 y) (read w8 z) ≡ minus d g
apart-is d g x y z hd hg p q r =
    offset-eq (ap (read w8) p ∙ minus-read w8 d.i g.i (omega (arith, hd.0, hg.0))) (ap (read w8) q ∙ minus-read w8 d.j g.j (omega (arith, hd.1, hg.1)))
    (ap (read w8) r ∙ minus-read w8 d.k g.k (omega (arith, hd.2, hg.2)))

pub edge-small : (e : ℕ) (d : Delta) → d ≡ delta e → e < 14 → Small d
edge-small e d q h = subst Small (sym q) (delta-small e h)

-- of the deltas of two edges it says whether they are neighbours
pub differ_neighbours : (e f : ℕ) (d g : Delta) → d ≡ delta e → g ≡ delta f → e < 14 → f < 14 → among (minus d g) deltas ≡ are_neighbours e f
unfolding are_neighbours
differ_neighbours e f d g q r he hf = rw (q, r, lt-ltb e 14 he, lt-ltb f 14 hf)

-- ---- the loop over the edges of a mask

-- `left` are still to be asked: what is found, with the neighbours among them, are the neighbours in the mask
pub record Asking (e m left found : ℕ) : Type 0 where
  pub short : left < 2 ^ 14
  pub room : found < 2 ^ 14
  pub all : (f : ℕ) → f < 14 → max (digit found f) (min (digit (neighbour_mask e) f) (digit left f)) ≡ min (digit (neighbour_mask e) f) (digit m f)

pub ask_start : (e m : ℕ) → Asking e m (bit_and m 0x3FFF) 0
ask_start e m = record {
  short = mask_lt m 14;
  room = omega arith;
  all = λ f h. omega (arith, digit-zero f, digit_and m 0x3FFF f, digit-all 14 f h, digit_lt m f, digit_lt (neighbour_mask e) f);
}

module _ (e m left found : ℕ) (more : left ≡ 0 → ⊥) (a : Asking e m left found) where
  abbrev low : ℕ
  low = count_trailing_zeros 16 left

  some : 0 < left
  some = omega arith

  pub low_14 : low < 14
  low_14 = low-here 16 14 left (omega arith) some a.short

  there : digit left low ≡ 1
  there = low-set 16 left some (omega (arith, a.short))

  -- the lowest edge is asked, and found if it is a neighbour
  turn : (now : ℕ) → now < 2 ^ 14 → digit now low ≡ max (digit found low) (digit (neighbour_mask e) low)
      → ((f : ℕ) → (low ≡ f → ⊥) → digit now f ≡ digit found f) → Asking e m (bit_xor left (2 ^ low)) now
  turn now l s o = record {
    short = off-short 16 14 left (omega arith) some a.short;
    room = l;
    all = λ f h. ⊎_elim (λ q. subst Holds q (omega (arith, s, there, off-same left low there, digit_lt (neighbour_mask e) low, a.all low low_14))) (λ q. omega (arith, o f q, off_other left low f q, a.all f h)) (eq-or low f);
  }
    where
      Holds : ℕ → Type 0
      Holds f = max (digit now f) (min (digit (neighbour_mask e) f) (digit (bit_xor left (2 ^ low)) f)) ≡ min (digit (neighbour_mask e) f) (digit m f)

  asked : (r : Bool) → r ≡ are_neighbours e low → Asking e m (bit_xor left (2 ^ low)) (bit_or found (bool_byte r * 2 ^ low % 2 ^ 16))
  unfolding bit
  asked true q =
      rw (low_bit_lem 16 14 left (omega arith) some a.short)
      (turn (bit_or found (2 ^ low)) (or_lt 14 found (2 ^ low) a.room (pow-lt low_14))
      (omega (arith, digit_or found (2 ^ low) low, digit-pow-same low, neighbour_rule e low low_14 ∙ ap bit (sym q), digit_lt found low))
      (λ f n. omega (arith, digit_or found (2 ^ low) f, digit-pow_other low f n)))
  asked false q = rw (zero-mul (2 ^ low), or_zero_r found) (turn found a.room (omega (arith, neighbour_rule e low low_14 ∙ ap bit (sym q))) (λ f n. refl))

  -- `left & (left - 1)` is `left` without its lowest edge
  pub ask_turn : (r : Bool) → r ≡ are_neighbours e low → Asking e m (bit_and left (left - 1)) (bit_or found (bool_byte r * 2 ^ low % 2 ^ 16))
  ask_turn r q = rw (low-off 16 14 left (omega arith) some a.short) (asked r q)

  pub ask_less : ones_in 14 (bit_and left (left - 1)) < ones_in 14 left
  ask_less = rw (low-off 16 14 left (omega arith) some a.short) (off_less 16 14 left (omega arith) some a.short)

pub ask_end : (e m left found : ℕ) → left ≡ 0 → Asking e m left found → found ≡ bit_and (neighbour_mask e) m
ask_end e m left found z a =
    digit_ext 14 found (bit_and (neighbour_mask e) m) a.room (omega (arith, and_le_l (neighbour_mask e) m, neighbour_lt e))
    (λ f h. omega (arith, a.all f h, digit_and (neighbour_mask e) m f, ap (λ (x : ℕ). digit x f) z ∙ digit-zero f, digit_lt found f, digit_lt (neighbour_mask e) f))
