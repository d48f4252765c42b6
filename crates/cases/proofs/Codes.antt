-- Laws of the numbers of corners and of the cases that they give. Assumes nothing.
use Rattle.std.specs.Prelude.{Option}
use mathlib.Core.Path.{◌≡◌, refl, ap}
use mathlib.Core.Bool.{Bool, true, false, ◌&&◌, cond}
use mathlib.Core.Logic.{⊎_elim}
use mathlib.Core.List.{List}
use Prim.Native.Nat.{ℕ, zero, suc, ◌+◌, ◌*◌, ◌≤◌, ◌<◌}
use native.Mathlib.Omega.{arith}
use lib.Dec.{ltb, ltb→lt, lit<}
use borrow.Author.Tests.{lt-ltb, le-ltb, ltb-true}
use lib.ListN.{get_or}
use lib.Ieee.{Float}
use Rattle.laws.specs.Bools.{bit}
use Rattle.laws.specs.Ranges.{all, sum}
use Rattle.laws.proofs.Bools.{bit_le}
use Rattle.laws.proofs.Ranges.{lt-or, all_at2, each-one-at, each-one-length}
use Rattle.tables.specs.Edges.{corner_of}
use Rattle.tables.specs.Tets.{tet_label, tet_corner}
use Rattle.lattice.specs.declared.Sides.{Sides}
use Rattle.cases.specs.Cases.{is_there, is_below, case_from, corner_value, tetrahedron_case}
use Rattle.cases.specs.Inner.Codes.{code, code_of, codes_of, case_by, case_on, code_sum, Coded}

-- ---- the corners of the tetrahedra

pub corner-lt : (t i : ℕ) → t < 6 → i < 4 → tet_corner t i < 8
unfolding all tet_corner tet_label corner_of
corner-lt t i ht hi = ltb→lt _ _ (all_at2 6 4 (λ t i. ltb (tet_corner t i) 8) tt t i ht hi)

pub corner_by : (t i a : ℕ) → t < 6 → i < 3 → a ≡ tet_corner t (suc i) → a < 8
corner_by t i a ht hi e = rw e (corner-lt t (suc i) ht (omega arith))

first-corner : (t : ℕ) → tet_corner t 0 ≡ 0
unfolding tet_corner
first-corner t = refl

-- ---- a corner as a number

code-le : (ok side : Bool) → code ok side ≤ 16
unfolding code
code-le true side = omega (arith, bit_le side)
code-le false side = omega arith

code-low : (ok side : Bool) → code ok side ≤ 8 → code ok side ≤ 1
unfolding code
code-low true side h = bit_le side
code-low false side h = absurd (omega arith)

pub code_of-le : (x : Option Float) (h : Float) → code_of x h ≤ 16
unfolding code_of
code_of-le x h = code-le (is_there x) (is_below x h)

-- the case by four numbers: 0 where one corner is not there
pub case_codes : (a b c d p q r s : Bool)
    → case_by (code a p) (code b q) (code c r) (code d s) ≡ cond (a && b && c && d) (bit p + 2 * bit q + 4 * bit r + 8 * bit s) 0
unfolding case_by code
case_codes true true true true p q r s =
    ap (λ (t : Bool). cond t (bit p + 2 * bit q + 4 * bit r + 8 * bit s) 0) (lt-ltb (bit p + 2 * bit q + 4 * bit r + 8 * bit s) 16 (omega (arith, bit_le p, bit_le q, bit_le r, bit_le s)))
case_codes true true true false p q r s = ap (λ (t : Bool). cond t (bit p + 2 * bit q + 4 * bit r + 8 * 16) 0) (le-ltb (bit p + 2 * bit q + 4 * bit r + 8 * 16) 16 (omega arith))
case_codes true true false d p q r s = ap (λ (t : Bool). cond t (bit p + 2 * bit q + 4 * 16 + 8 * code d s) 0) (le-ltb (bit p + 2 * bit q + 4 * 16 + 8 * code d s) 16 (omega arith))
case_codes true false c d p q r s = ap (λ (t : Bool). cond t (bit p + 2 * 16 + 4 * code c r + 8 * code d s) 0) (le-ltb (bit p + 2 * 16 + 4 * code c r + 8 * code d s) 16 (omega arith))
case_codes false b c d p q r s = ap (λ (t : Bool). cond t (16 + 2 * code b q + 4 * code c r + 8 * code d s) 0) (le-ltb (16 + 2 * code b q + 4 * code c r + 8 * code d s) 16 (omega arith))

pub case_samples : (a b c d : Option Float) (h : Float) → case_by (code_of a h) (code_of b h) (code_of c h) (code_of d h) ≡ case_from a b c d h
unfolding code_of case_from
case_samples a b c d h = case_codes (is_there a) (is_there b) (is_there c) (is_there d) (is_below a h) (is_below b h) (is_below c h) (is_below d h)

case_lt : (a b c d : ℕ) → case_by a b c d < 16
unfolding case_by
case_lt a b c d = go (ltb (a + 2 * b + 4 * c + 8 * d) 16) refl
  where
    go : (t : Bool) → ltb (a + 2 * b + 4 * c + 8 * d) 16 ≡ t → cond t (a + 2 * b + 4 * c + 8 * d) 0 < 16
    go true e = ltb-true (a + 2 * b + 4 * c + 8 * d) 16 e
    go false e = omega arith

pub on-lt : (l : List ℕ) (t : ℕ) → case_on l t < 16
unfolding case_on
on-lt l t = case_lt (get_or l 0 0) (get_or l (tet_corner t 1) 0) (get_or l (tet_corner t 2) 0) (get_or l (tet_corner t 3) 0)

-- ---- the numbers of a cell's corners

module _ (n : Sides) (s : List Float) (h : Float) (u v : ℕ) where
  pub codes_at : (c : ℕ) → c < 8 → get_or (codes_of n s h u v) c 0 ≡ code_of (corner_value n s u v 0 c) h
  unfolding codes_of
  codes_at c l = each-one-at 0 8 (λ c. code_of (corner_value n s u v 0 c) h) c l

  pub codes_coded : Coded (codes_of n s h u v)
  unfolding codes_of
  codes_coded = record {
    eight = each-one-length 8 (λ c. code_of (corner_value n s u v 0 c) h);
    small = λ c l. rw (codes_at c l) (code_of-le (corner_value n s u v 0 c) h);
  }

  -- the case of a tetrahedron by the numbers is that of its corners' samples
  pub case_on_lem : (t : ℕ) → t < 6 → case_on (codes_of n s h u v) t ≡ tetrahedron_case n s h u v 0 t
  unfolding case_on tetrahedron_case
  case_on_lem t l =
      let p = codes_at 0 (lit< tt) in
      let q = codes_at (tet_corner t 1) (corner-lt t 1 l (lit< tt)) in
      let r = codes_at (tet_corner t 2) (corner-lt t 2 l (lit< tt)) in
      let x = codes_at (tet_corner t 3) (corner-lt t 3 l (lit< tt)) in
      rw (p, q, r, x, first-corner t)
      (case_samples (corner_value n s u v 0 0) (corner_value n s u v 0 (tet_corner t 1)) (corner_value n s u v 0 (tet_corner t 2)) (corner_value n s u v 0 (tet_corner t 3)) h)

-- ---- all eight together: where the sum is 0, and where it is 8

pub code_of-low : (x : Option Float) (h : Float) → code_of x h ≤ 8 → code_of x h ≤ 1
unfolding code_of
code_of-low x h l = code-low (is_there x) (is_below x h) l

term_le : (n : ℕ) (f : ℕ → ℕ) (k : ℕ) → k < n → f k ≤ sum n f
unfolding sum
term_le zero f k h = absurd (omega arith)
term_le (suc n) f k h = ⊎_elim (λ l. omega (arith, term_le n f k l)) (λ (l : n ≤ k). let e : k ≡ n = omega arith in rw e (omega arith)) (lt-or k n)

ones_le : (n : ℕ) (f : ℕ → ℕ) → ((k : ℕ) → k < n → f k ≤ 1) → sum n f ≤ n
unfolding sum
ones_le zero f h = omega arith
ones_le (suc n) f h = omega (arith, ones_le n f (λ k l. h k (omega arith)), h n (omega arith))

ones_at : (n : ℕ) (f : ℕ → ℕ) → ((k : ℕ) → k < n → f k ≤ 1) → sum n f ≡ n → (k : ℕ) → k < n → f k ≡ 1
unfolding sum
ones_at zero f h e k l = absurd (omega arith)
ones_at (suc n) f h e k l =
    let low : (k : ℕ) → k < n → f k ≤ 1 = λ k l. h k (omega arith) in
    let last : f n ≡ 1 = omega (arith, ones_le n f low, h n (omega arith)) in
    ⊎_elim (λ b. ones_at n f low (omega arith) k b) (λ b. let q : k ≡ n = omega arith in rw q last) (lt-or k n)

pub sum_zeros : (l : List ℕ) → code_sum l ≡ 0 → (c : ℕ) → c < 8 → get_or l c 0 ≡ 0
unfolding code_sum
sum_zeros l e c h = omega (arith, term_le 8 (λ c. get_or l c 0) c h)

pub sum_ones : (l : List ℕ) → code_sum l ≡ 8 → ((c : ℕ) → c < 8 → get_or l c 0 ≤ 8 → get_or l c 0 ≤ 1) → (c : ℕ) → c < 8 → get_or l c 0 ≡ 1
unfolding code_sum
sum_ones l e low c h = ones_at 8 (λ c. get_or l c 0) (λ c b. low c b (omega (arith, term_le 8 (λ c. get_or l c 0) c b))) e c h

-- a cell whose corners all have one number: its tetrahedra have one case
pub case_even : (l : List ℕ) (k : ℕ) → ((c : ℕ) → c < 8 → get_or l c 0 ≡ k) → (t : ℕ) → t < 6 → case_on l t ≡ case_by k k k k
unfolding case_on
case_even l k same t b =
    rw (same 0 (lit< tt), same (tet_corner t 1) (corner-lt t 1 b (lit< tt)), same (tet_corner t 2) (corner-lt t 2 b (lit< tt)), same (tet_corner t 3) (corner-lt t 3 b (lit< tt)))
