-- Laws of lines: the bytes say the numbers, one line or a run of them; reading line by line reads the run; and what is printed reads back. Assumes nothing.
use mathlib.Core.Path.{◌≡◌, refl, sym, ap, ◌∙◌}
use mathlib.Core.Bool.{Bool, true, false, ◌&&◌, false≢true}
use mathlib.Core.List.{List, [], ◌∷◌, ◌++◌, append_assoc, append-nil}
use Prim.Native.Nat.{ℕ, suc, ◌+◌, ◌^◌, ◌≤◌}
use native.Mathlib.Nat.{add_assoc, add-zero}
use native.Mathlib.Omega.{arith}
use lib.Dec.{ltb}
use lib.ListN.{length, get_or, drop, length-append}
use lib.Seq.{drop_at}
use borrow.Author.Tests.{ltb-true}
use Rattle.laws.specs.Lists.{total}
use Rattle.laws.specs.Ranges.{each}
use Rattle.laws.proofs.Bools.{and-apart}
use Rattle.laws.proofs.Lists.{append-apart}
use Rattle.laws.proofs.Ranges.{each_first}
use Rattle.lines.specs.declared.Num.{Num}
use Rattle.std.specs.Prelude.{Option, Some, None}
use Rattle.lines.specs.Numbers.{dec, hex}
use Rattle.lines.specs.Lines.{dec_line, Field, Dec, Hex, line_of, ok_of, lines, Fine, none, line}
use Rattle.lines.specs.Inner.Readers.{Reads, Absent, Line}
use Rattle.lines.proofs.Decimals.{dec-same, run-dec, span, lf_no_digit, dec-short, dec-room}
use Rattle.lines.proofs.Hex.{hex-length, hex-same}

-- ---- one line

pub record Two {A : Type 0} (a b : A) (r t : List ℕ) : Type 0 where
  pub first : a ≡ b
  pub rest : r ≡ t

-- two lines of one kind with equal bytes have the same number, and the same follows
pub line_same : (f : Field) (n m : ℕ) (r t : List ℕ) → ok_of f n → ok_of f m → line_of f n ++ r ≡ line_of f m ++ t → Two n m r t
unfolding line_of ok_of
line_same (Dec key) n m r t a b e =
    let e' : key ++ (dec n ++ 10 ∷ r) ≡ key ++ (dec m ++ 10 ∷ t) = simp append_assoc at e in
    let c = append-apart key key (dec n ++ 10 ∷ r) (dec m ++ 10 ∷ t) refl e' in
    let s = span (run-dec n a) (run-dec m b) 10 10 r t lf_no_digit lf_no_digit c.1 in
    record { first = dec-same n m (omega arith) (omega arith) s.runs; rest = s.rests }
line_same (Hex key) n m r t a b e =
    let e' : key ++ (hex 16 n ++ 10 ∷ r) ≡ key ++ (hex 16 m ++ 10 ∷ t) = simp append_assoc at e in
    let c = append-apart key key (hex 16 n ++ 10 ∷ r) (hex 16 m ++ 10 ∷ t) refl e' in
    let d = append-apart (hex 16 n) (hex 16 m) (10 ∷ r) (10 ∷ t) (hex-length 16 n ∙ sym (hex-length 16 m)) c.1 in
    let q = d.1 in
    record { first = hex-same 16 n m (omega arith) (omega arith) d.0; rest = cc }

num_same : (n m j k : ℕ) → n ≡ m → j ≡ k → ◌≡◌ {A = Num} (record { value = n; next = j }) (record { value = m; next = k })
num_same n m j k v e = rw (v, e)

-- two answers that conform are equal
pub line_unique : (f : Field) (s : List ℕ) (at : ℕ) (r q : Option Num) → Line (line_of f) (ok_of f) s at r → Line (line_of f) (ok_of f) s at q → r ≡ q
line_unique f s at None None a b = refl
line_unique f s at None (Some q) a b = absurd (a.none q.value (drop q.next s) b.fine b.here)
line_unique f s at (Some r) None a b = absurd (b.none r.value (drop r.next s) a.fine a.here)
line_unique f s at (Some r) (Some q) a b =
    let t = line_same f r.value q.value (drop r.next s) (drop q.next s) a.fine b.fine (sym a.here ∙ b.here) in
    let v : r.value ≡ q.value = t.first in
    let e : r.next ≡ q.next = a.past ∙ rw t.first (sym b.past) in
    ap Some (num_same r.value q.value r.next q.next v e)

-- what is printed reads back as the same number, wherever it stands
pub line_back : (f : Field) (n : ℕ) (x y : List ℕ) (r : Option Num) → ok_of f n → Line (line_of f) (ok_of f) (x ++ (line_of f n ++ y)) (length x) r
    → r ≡ Some (record { value = n; next = length x + length (line_of f n) })
line_back f n x y r a q = line_unique f (x ++ (line_of f n ++ y)) (length x) r (Some (record { value = n; next = length x + length (line_of f n) })) q here
  where
    after : drop (length x + length (line_of f n)) (x ++ (line_of f n ++ y)) ≡ y
    after = ap (drop (length x + length (line_of f n))) (sym (append_assoc x (line_of f n) y)) ∙ drop_at (x ++ line_of f n) y (length x + length (line_of f n)) (length-append x (line_of f n))

    here : Reads (line_of f) (ok_of f) (x ++ (line_of f n ++ y)) (length x) n (length x + length (line_of f n))
    here = record {
      fine = a;
      here = drop_at x (line_of f n ++ y) (length x) refl ∙ rw after;
      past = refl;
      within = rw (length-append, length-append) (omega arith);
    }

-- ---- how long a line is

unfoldable pub key_of : Field → List ℕ
key_of (Dec key) = key
key_of (Hex key) = key

pub dec_line-length : (key : List ℕ) (n : ℕ) → length (key ++ (dec n ++ (10 ∷ []))) ≡ length key + (length (dec n) + 1)
dec_line-length key n = simp length-append

pub dec_line-room : (key : List ℕ) (n : ℕ) → length (dec_line key n) ≤ length key + 21
dec_line-room key n = omega (arith, dec_line-length key n, dec-room n)

pub line-room : (f : Field) (n : ℕ) → length (line_of f n) ≤ length (key_of f) + 21
unfolding line_of key_of
line-room (Dec key) n = dec_line-room key n
line-room (Hex key) n = simp (length-append, hex-length) (omega arith)

-- ---- a run of lines

lines_same' : (fs : List Field) (vs ws : List ℕ) (r t : List ℕ) → Fine fs vs → Fine fs ws → lines fs vs ++ r ≡ lines fs ws ++ t → Two vs ws r t
unfolding lines
lines_same' [] [] [] r t none none e = record { first = refl; rest = e }
lines_same' (f ∷ fs) (v ∷ vs) (w ∷ ws) r t (line a p) (line b q) e =
    let e' : line_of f v ++ (lines fs vs ++ r) ≡ line_of f w ++ (lines fs ws ++ t) = simp append_assoc at e in
    let c = line_same f v w (lines fs vs ++ r) (lines fs ws ++ t) a b e' in
    let d = lines_same' fs vs ws r t p q c.rest in
    record { first = rw (c.first, d.first); rest = d.rest }
lines_same' [] [] (w ∷ ws) r t _ x10 e = elim x10 [ ]
lines_same' [] (v ∷ vs) ws r t x7 _ e = elim x7 [ ]
lines_same' (f ∷ fs) [] ws r t x6 _ e = elim x6 [ ]
lines_same' (f ∷ fs) (v ∷ vs) [] r t _ x10 e = elim x10 [ ]

pub lines_same : {fs : List Field} {vs ws : List ℕ} (r t : List ℕ) → Fine fs vs → Fine fs ws → lines fs vs ++ r ≡ lines fs ws ++ t → Two vs ws r t
lines_same {fs} {vs} {ws} r t p q e = lines_same' fs vs ws r t p q e

fine_more : {fs : List Field} {vs : List ℕ} (f : Field) (v : ℕ) → Fine fs vs → ok_of f v → Fine (fs ++ f ∷ []) (vs ++ v ∷ [])
fine_more f v none a = line a none
fine_more f v (line b p) a = line b (fine_more f v p a)

lines_more : {fs : List Field} {vs : List ℕ} (f : Field) (v : ℕ) → Fine fs vs → lines (fs ++ f ∷ []) (vs ++ v ∷ []) ≡ lines fs vs ++ line_of f v
unfolding lines
lines_more f v none = append-nil (line_of f v)
lines_more f v (line b p) = rw (lines_more f v p, append_assoc)

pub fine-length : {fs : List Field} {vs : List ℕ} → Fine fs vs → length vs ≡ length fs
fine-length none = refl
fine-length (line a p) = ap suc (fine-length p)

-- a test that tells whether each number is as its line may have
unfoldable pub fine_test : List Field → List ℕ → Bool
fine_test [] [] = true
fine_test [] (v ∷ vs) = false
fine_test (f ∷ fs) [] = false
fine_test (Dec key ∷ fs) (v ∷ vs) = ltb v 1000000000 && fine_test fs vs
fine_test (Hex key ∷ fs) (v ∷ vs) = ltb v (2 ^ 64) && fine_test fs vs

pub fine_tested : (fs : List Field) (vs : List ℕ) → fine_test fs vs ≡ true → Fine fs vs
unfolding fine_test ok_of
fine_tested [] [] e = none
fine_tested [] (v ∷ vs) e = absurd (false≢true e)
fine_tested (f ∷ fs) [] e = absurd (false≢true e)
fine_tested (Dec key ∷ fs) (v ∷ vs) e = let a = and-apart (ltb v 1000000000) (fine_test fs vs) e in line (ltb-true v 1000000000 a.0) (fine_tested fs vs a.1)
fine_tested (Hex key ∷ fs) (v ∷ vs) e = let a = and-apart (ltb v (2 ^ 64)) (fine_test fs vs) e in line (ltb-true v (2 ^ 64) a.0) (fine_tested fs vs a.1)

-- how long a line is at most, where its number is as it may have, and a run
unfoldable pub line_most : Field → ℕ
line_most (Dec key) = length key + 10
line_most (Hex key) = length key + 17

line_most_lem : (f : Field) (n : ℕ) → ok_of f n → length (line_of f n) ≤ line_most f
unfolding line_of ok_of line_most
line_most_lem (Dec key) n a = rw (dec_line-length key n) (omega (arith, dec-short n a))
line_most_lem (Hex key) n a = simp (length-append, hex-length) (omega arith)

pub lines-most : {fs : List Field} {vs : List ℕ} → Fine fs vs → length (lines fs vs) ≤ total line_most fs
unfolding lines total
lines-most none = omega arith
lines-most (line {f} {fs} {v} {vs} a p) = rw length-append (omega (arith, line_most_lem f v a, lines-most p))

-- and where the numbers are any of 64 bits
pub lines-room : (fs : List Field) (vs : List ℕ) → length fs ≡ length vs → length (lines fs vs) ≤ total (λ f. length (key_of f) + 21) fs
unfolding lines total
lines-room [] vs e = omega arith
lines-room (f ∷ fs) [] e = absurd (omega arith)
lines-room (f ∷ fs) (v ∷ vs) e = rw length-append (omega (arith, line-room f v, lines-room fs vs (omega arith)))

-- a run is its lines, numbered
pub lines-each : (d : Field) (fs : List Field) (vs : List ℕ) → length fs ≡ length vs → lines fs vs ≡ each (length fs) (λ k. line_of (get_or fs k d) (get_or vs k 0))
unfolding lines each
lines-each d [] vs e = refl
lines-each d (f ∷ fs) [] e = absurd (omega arith)
lines-each d (f ∷ fs) (v ∷ vs) e = rw (lines-each d fs vs (omega arith)) (sym (each_first (length fs) (λ k. line_of (get_or (f ∷ fs) k d) (get_or (v ∷ vs) k 0))))

-- the numbers of a longer run, taken apart
record Split (fs : List Field) (f : Field) (gs : List Field) (ws : List ℕ) : Type 0 where
  front : List ℕ
  back : List ℕ
  mid : ℕ
  fine : Fine fs front
  ok : ok_of f mid
  is : lines (fs ++ f ∷ gs) ws ≡ lines fs front ++ (line_of f mid ++ lines gs back)

split : (fs : List Field) (f : Field) (gs : List Field) (ws : List ℕ) → Fine (fs ++ f ∷ gs) ws → Split fs f gs ws
unfolding lines
split [] f gs (w ∷ ws) (line a p) = record { front = []; back = ws; mid = w; fine = none; ok = a; is = refl }
split (g ∷ fs) f gs (w ∷ ws) (line a p) =
    let i = split fs f gs ws p in
    record { front = w ∷ i.front; back = i.back; mid = i.mid; fine = line a i.fine; ok = i.ok; is = rw (i.is, append_assoc) }
split [] f gs [] x'' = elim x'' [ ]
split (g ∷ fs) f gs [] x3 = elim x3 [ ]

pub reads_none : (s : List ℕ) (at : ℕ) → at ≤ length s → Reads (lines []) (Fine []) s at [] at
unfolding lines
reads_none s at h = record { fine = none; here = refl; past = sym (add-zero at); within = h }

module _ {fs : List Field} {s : List ℕ} {at : ℕ} {vs : List ℕ} {mid : ℕ} (p : Reads (lines fs) (Fine fs) s at vs mid) (f : Field) where
  pub reads_more : (v next : ℕ) → Reads (line_of f) (ok_of f) s mid v next → Reads (lines (fs ++ f ∷ [])) (Fine (fs ++ f ∷ [])) s at (vs ++ v ∷ []) next
  reads_more v next q = record {
    fine = fine_more f v p.fine q.fine;
    here = p.here ∙ rw (q.here, lines_more f v p.fine, append_assoc);
    past = q.past ∙ rw (p.past, lines_more f v p.fine, length-append, add_assoc);
    within = q.within;
  }

  pub absent_more : Absent (line_of f) (ok_of f) s mid → (gs : List Field) → Absent (lines (fs ++ f ∷ gs)) (Fine (fs ++ f ∷ gs)) s at
  absent_more q gs = record {
    none = λ ws rest b e.
        let i = split fs f gs ws b in
        let e' : lines fs vs ++ drop mid s ≡ lines fs i.front ++ (line_of f i.mid ++ (lines gs i.back ++ rest)) =
        sym p.here ∙ e ∙ rw i.is (simp append_assoc) in
        let t = lines_same (drop mid s) (line_of f i.mid ++ (lines gs i.back ++ rest)) p.fine i.fine e' in
        q.none i.mid (lines gs i.back ++ rest) i.ok t.rest;
  }
