-- Reading a decimal digit by digit: what has been read so far is the print of the number so far; and each way in which there is none. Assumes nothing.
use mathlib.Core.Path.{◌≡◌, sym, ap, ◌∙◌}
use mathlib.Core.List.{List, [], ◌∷◌, ◌++◌, append_assoc}
use Prim.Native.Nat.{ℕ, ◌+◌, ◌*◌, ◌≤◌, ◌<◌}
use native.Mathlib.Numerals.{add-one}
use native.Mathlib.Omega.{arith}
use lib.ListN.{length, get_or, drop, length-append, length-drop, get_or-append}
use lib.Seq.{drop-cons}
use Rattle.lines.specs.Numbers.{dec}
use Rattle.lines.specs.Lines.{dec_end, Small}
use Rattle.lines.specs.Inner.Readers.{Absent}
use Rattle.lines.proofs.Decimals.{dec-small, dec_more, Digit, Run, more, run-append, run-dec, lf_no_digit, span, stops, dec-short, dec_long, dec-zero, dec_some}

pub record Sofar (s : List ℕ) (from n i : ℕ) : Type 0 where
  pub small : n < 1000000000
  pub here : drop from s ≡ dec n ++ drop i s
  pub far : i ≡ from + length (dec n)
  pub within : i ≤ length s

-- the byte at i, then the rest
pub next_byte : (s : List ℕ) (i : ℕ) → i < length s → drop i s ≡ get_or s i 0 ∷ drop (i + 1) s
next_byte s i h = rw (add-one i) (drop-cons s i 0 h)

pub start : (s : List ℕ) (from d : ℕ) → from < length s → d < 10 → get_or s from 0 ≡ 48 + d → Sofar s from d (from + 1)
start s from d h b e = record {
  small = omega arith;
  here = next_byte s from h ∙ rw (dec-small d b, e);
  far = rw (dec-small d b);
  within = omega arith;
}

module _ (s : List ℕ) (from n i : ℕ) (at : Sofar s from n i) where
  pub turn : i < length s → (e : ℕ) → e < 10 → get_or s i 0 ≡ 48 + e → (n ≡ 0 → ⊥) → n < 100000000 → Sofar s from (n * 10 + e) (i + 1)
  turn h e b g z w =
      let m : dec (n * 10 + e) ≡ dec n ++ ((48 + e) ∷ []) = dec_more n e (pos n z) (omega arith) b in
      record {
        small = omega arith;
        here = at.here ∙ rw (next_byte s i h, m, g, append_assoc);
        far = rw (m, length-append) (omega (arith, at.far));
        within = omega arith;
      }
    where
      pos : (n : ℕ) → (n ≡ 0 → ⊥) → 0 < n
      pos n z = omega arith

  regroup : (m : ℕ) (rest : List ℕ) → drop from s ≡ dec_end m ++ rest → dec n ++ drop i s ≡ dec m ++ 10 ∷ rest
  regroup m rest e = sym at.here ∙ e ∙ append_assoc (dec m) (10 ∷ []) rest

  pub bad_byte : i < length s → (get_or s i 0 ≡ 10 → ⊥) → (Digit (get_or s i 0) → ⊥) → Absent dec_end Small s from
  bad_byte h z d = record {
    none = λ m rest b e.
        let e' : dec n ++ get_or s i 0 ∷ drop (i + 1) s ≡ dec m ++ 10 ∷ rest = rw (sym (next_byte s i h)) (regroup m rest e) in
        z (span (run-dec n at.small) (run-dec m b) (get_or s i 0) 10 (drop (i + 1) s) rest d lf_no_digit e').ends;
  }

  pub bad-end : length s ≤ i → Absent dec_end Small s from
  bad-end h = record {
    none = λ m rest b e.
        let e' = regroup m rest e in
        let k : length (dec n) ≤ length (dec m) = stops (dec m) (run-dec n at.small) 10 rest (drop i s) lf_no_digit (sym e') in
        let l = ap length e' in
        omega (arith, simp (length-append, length-drop) at l);
  }

  pub bad_long : i < length s → Digit (get_or s i 0) → 100000000 ≤ n → Absent dec_end Small s from
  bad_long h d w = record {
    none = λ m rest b e.
        let e' : (dec n ++ (get_or s i 0 ∷ [])) ++ drop (i + 1) s ≡ dec m ++ 10 ∷ rest = rw append_assoc (rw (sym (next_byte s i h)) (regroup m rest e)) in
        let r : Run (dec n ++ (get_or s i 0 ∷ [])) = run-append (run-dec n at.small) (more d Run.end) in
        let k = stops (dec m) r 10 rest (drop (i + 1) s) lf_no_digit (sym e') in
        let k' = rw length-append at k in
        omega (arith, k', dec-short m b, dec_long n at.small w);
  }

  pub bad-zero : i < length s → Digit (get_or s i 0) → n ≡ 0 → Absent dec_end Small s from
  bad-zero h d z = record {
    none = λ m rest b e.
        let n48 : dec n ≡ 48 ∷ [] = dec-small n (omega arith) ∙ rw z in
        let e' : 48 ∷ get_or s i 0 ∷ drop (i + 1) s ≡ dec m ++ 10 ∷ rest = rw (sym (next_byte s i h)) (rw n48 at (regroup m rest e)) in
        let f : get_or (dec m) 0 0 ≡ 48 = sym (get_or-append (dec m) (10 ∷ rest) 0 0 (dec_some m)) ∙ sym (ap (λ l. get_or l 0 0) e') in
        let m0 : m ≡ 0 = dec-zero m b f in
        let m48 : dec m ≡ 48 ∷ [] = dec-small m (omega arith) ∙ rw m0 in
        let e'' : 48 ∷ get_or s i 0 ∷ drop (i + 1) s ≡ 48 ∷ 10 ∷ rest = rw m48 at e' in
        let g : get_or s i 0 ≡ 10 = cc in
        lf_no_digit (rw g at d);
  }

pub no_byte : (s : List ℕ) (from : ℕ) → length s ≤ from → Absent dec_end Small s from
no_byte s from h = record {
  none = λ m rest b e.
      let l = ap length e in
      omega (arith, dec_some m, simp (length-append, length-drop) at l);
}

pub no_digit : (s : List ℕ) (from : ℕ) → from < length s → (Digit (get_or s from 0) → ⊥) → Absent dec_end Small s from
no_digit s from h d = record {
  none = λ m rest b e.
      let k : length (dec m) ≤ 0 = stops [] (run-dec m b) (get_or s from 0) (drop (from + 1) s) (10 ∷ rest) d (sym (next_byte s from h) ∙ e ∙ append_assoc (dec m) (10 ∷ []) rest) in
      omega (arith, dec_some m);
}
