-- Laws of a string of keys: where key k stands, that it is field k of the list that the string says, and how a walk goes on. Assumes nothing.
use mathlib.Core.Path.{◌≡◌, refl, sym, ap, ◌∙◌}
use mathlib.Core.Bool.{Bool, true, false, cond, not}
use mathlib.Core.Logic.{inl, inr}
use mathlib.Core.List.{List, [], ◌∷◌}
use Prim.Native.Nat.{ℕ, zero, suc, ◌+◌, ◌-◌, ◌≤◌, ◌<◌}
use native.Mathlib.Numerals.{add-one}
use native.Mathlib.Omega.{arith}
use lib.Dec.{eqb, leb}
use lib.ListN.{length, get_or, drop, take, length-drop}
use lib.Seq.{drop-drop, take_all}
use borrow.Author.Tests.{lt-ltb, le-ltb, leb-true, leb-false}
use Rattle.laws.proofs.Ranges.{lt-or}
use Rattle.std.specs.Prelude.{Some, None, position, nat_lt, nat_eq}
use Rattle.std.specs.List.{position_or_len}
use Rattle.lines.specs.Lines.{Field, Dec, Hex, lines, Fine}
use Rattle.lines.specs.Inner.Readers.{Reads}
use Rattle.lines.specs.Inner.Stored.{Stored}
use Rattle.lines.specs.Inner.Forms.{first_key, field_of, form_of}

-- ---- one key

-- a key is what the string begins with
pub key-take : (l : List ℕ) → take (length (first_key l)) l ≡ first_key l
unfolding first_key
key-take [] = refl
key-take (b ∷ l) = go (eqb b 61) (key-take l)
  where
    go : (t : Bool) → take (length (first_key l)) l ≡ first_key l → take (length (b ∷ cond t [] (first_key l))) (b ∷ l) ≡ b ∷ cond t [] (first_key l)
    go true e = refl
    go false e = rw e

pub key-length : (l : List ℕ) → length (first_key l) ≤ length l
unfolding first_key
key-length [] = omega arith
key-length (b ∷ l) = go (eqb b 61) (key-length l)
  where
    go : (t : Bool) → length (first_key l) ≤ length l → length (b ∷ cond t [] (first_key l)) ≤ length (b ∷ l)
    go true e = omega arith
    go false e = omega arith

-- a key ends at the first `=`
key-ends : (l : List ℕ) → length (first_key l) ≡ cond (nat_lt (position_or_len (λ b. nat_eq b 61) l) (length l)) (suc (position_or_len (λ b. nat_eq b 61) l)) (length l)
unfolding first_key
key-ends [] = refl
key-ends (b ∷ l) = go (eqb b 61) (position_or_len (λ b. nat_eq b 61) l) (key-ends l)
  where
    step : (p n : ℕ) → suc (cond (nat_lt p n) (suc p) n) ≡ cond (nat_lt (1 + p) (suc n)) (suc (1 + p)) (suc n)
    step p n = elim (lt-or p n) [
      | inl t ↦ rw (lt-ltb p n t, lt-ltb (1 + p) (suc n) (omega arith)) (omega arith)
      | inr t ↦ rw (le-ltb p n t, le-ltb (1 + p) (suc n) (omega arith))
    ]

    go : (t : Bool) (far : ℕ) → length (first_key l) ≡ cond (nat_lt far (length l)) (suc far) (length l)
        → suc (length (cond t [] (first_key l))) ≡ cond (nat_lt (cond (not t) (1 + far) 0) (suc (length l))) (suc (cond (not t) (1 + far) 0)) (suc (length l))
    go true far e = rw (lt-ltb 0 (suc (length l)) (omega arith))
    go false far e = rw e (step far (length l))

pub key_found : (l : List ℕ) (i : ℕ) → position (λ b. nat_eq b 61) l ≡ Some i → length (first_key l) ≡ suc i
key_found l i e = let p = position_or_len (λ b. nat_eq b 61) l in
    elim (lt-or p (length l)) [
      | inl t ↦
          let e' = rw (lt-ltb p (length l) t) at e in
          let f : p ≡ i = cc in
          rw (← f) (rw (lt-ltb p (length l) t) at (key-ends l))
      | inr t ↦ let e' = rw (le-ltb p (length l) t) at e in cc
    ]

pub key_none : (l : List ℕ) → position (λ b. nat_eq b 61) l ≡ None → length (first_key l) ≡ length l
key_none l e = let p = position_or_len (λ b. nat_eq b 61) l in
    elim (lt-or p (length l)) [
      | inl t ↦ let e' = rw (lt-ltb p (length l) t) at e in cc
      | inr t ↦ rw (le-ltb p (length l) t) at (key-ends l)
    ]

-- ---- the keys one after the other

-- the string after k keys
unfoldable pub after : ℕ → List ℕ → List ℕ
after zero l = l
after (suc k) l = after k (drop (length (first_key l)) l)

after_more : (k : ℕ) (l : List ℕ) → after (suc k) l ≡ drop (length (first_key (after k l))) (after k l)
unfolding after
after_more zero l = refl
after_more (suc k) l = after_more k (drop (length (first_key l)) l)

pub form-length : (d n : ℕ) (l : List ℕ) → length (form_of d n l) ≡ n
unfolding form_of
form-length d zero l = refl
form-length zero (suc n) l = ap suc (form-length zero n (drop (length (first_key l)) l))
form-length (suc d) (suc n) l = ap suc (form-length d n (drop (length (first_key l)) l))

field_dec : (d n : ℕ) (l : List ℕ) (k : ℕ) (f : Field) → k < n → k < d → get_or (form_of d n l) k f ≡ Dec (first_key (after k l))
unfolding form_of after
field_dec d zero l k f g h = absurd (omega arith)
field_dec zero (suc n) l k f g h = absurd (omega arith)
field_dec (suc d) (suc n) l zero f g h = refl
field_dec (suc d) (suc n) l (suc k) f g h = field_dec d n (drop (length (first_key l)) l) k f (omega arith) (omega arith)

field_hex : (d n : ℕ) (l : List ℕ) (k : ℕ) (f : Field) → k < n → d ≤ k → get_or (form_of d n l) k f ≡ Hex (first_key (after k l))
unfolding form_of after
field_hex d zero l k f g h = absurd (omega arith)
field_hex zero (suc n) l zero f g h = refl
field_hex zero (suc n) l (suc k) f g h = field_hex zero n (drop (length (first_key l)) l) k f (omega arith) (omega arith)
field_hex (suc d) (suc n) l zero f g h = absurd (omega arith)
field_hex (suc d) (suc n) l (suc k) f g h = field_hex d n (drop (length (first_key l)) l) k f (omega arith) (omega arith)

form_field : (d n : ℕ) (l : List ℕ) (k : ℕ) (f : Field) → k < n → get_or (form_of d n l) k f ≡ field_of (leb d k) (first_key (after k l))
unfolding field_of
form_field d n l k f g = go (leb d k) refl
  where
    go : (b : Bool) → leb d k ≡ b → get_or (form_of d n l) k f ≡ field_of b (first_key (after k l))
    go true e = field_hex d n l k f g (leb-true d k e)
    go false e = field_dec d n l k f g (leb-false d k e)

-- ---- a walk along the string: p is where key k starts

pub record Row (keys : List ℕ) (p k : ℕ) : Type 0 where
  pub within : p ≤ length keys
  pub rest : drop p keys ≡ after k keys

pub row-start : (keys : List ℕ) → Row keys 0 0
unfolding after
row-start keys = record { within = omega arith; rest = refl }

module _ (keys : List ℕ) (p k : ℕ) (r : Row keys p k) (q : ℕ) (e : q ≡ p + length (first_key (drop p keys))) where
  pub row-end : q ≤ length keys
  row-end = omega (arith, e, r.within, key-length (drop p keys), length-drop p keys)

  pub row-turn : Row keys q (k + 1)
  row-turn = record {
    within = row-end;
    rest = rw (e, add-one k) (sym (drop-drop (length (first_key (drop p keys))) p keys) ∙ rw r.rest (sym (after_more k keys)));
  }

  pub row-key : take (q - p) (drop p keys) ≡ first_key (drop p keys)
  row-key =
      let m : q - p ≡ length (first_key (drop p keys)) = omega arith in
      rw m (key-take (drop p keys))

  pub row_field : (d n : ℕ) (f : Field) → k < n → get_or (form_of d n keys) k f ≡ field_of (leb d k) (take (q - p) (drop p keys))
  row_field d n f g = form_field d n keys k f g ∙ rw (← r.rest, row-key)

-- the whole list was filled
pub stored-all : (form : List Field) (s : List ℕ) (from n : ℕ) (l l' : List ℕ) (next : ℕ) → Stored form s from n l l' next → length l ≡ n → Reads (lines form) (Fine form) s from l' next
stored-all form s from n l l' next p e = rw (take_all n l' (omega (arith, p.full, e))) at p.reads
