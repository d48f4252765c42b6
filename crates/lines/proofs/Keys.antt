-- Laws of keys: a key at a place, byte by byte, what that means, and a line after its key. Assumes nothing.
use mathlib.Core.Path.{◌≡◌, refl, sym, ap, ◌∙◌}
use mathlib.Core.Bool.{Bool, true, false, ◌&&◌}
use mathlib.Core.List.{List, [], ◌∷◌, ◌++◌, append_assoc}
use Prim.Native.Nat.{ℕ, ◌+◌, ◌≤◌}
use native.Mathlib.Nat.{add_assoc}
use native.Mathlib.Omega.{arith}
use lib.Dec.{eqb}
use lib.ListN.{length, drop, take, length-append, length-drop}
use lib.Seq.{drop-drop, drop-append_seam}
use borrow.Author.Tests.{eqb-true, eqb-false, eq-eqb, ne_eqb}
use Rattle.lines.specs.declared.Num.{Num}
use Rattle.std.specs.Prelude.{Option, Some, None}
use Rattle.std.specs.Cmp.Lexicographic.{pointwise}
use Rattle.lines.specs.Inner.Readers.{Absent, Line, starts}

eqb_swap : (a b : ℕ) → eqb a b ≡ eqb b a
eqb_swap a b = go (eqb a b) refl
  where
    go : (t : Bool) → eqb a b ≡ t → eqb a b ≡ eqb b a
    go true e = let p = eqb-true a b e in rw (e, eq-eqb b a (sym p))
    go false e = let p = eqb-false a b e in rw (e, ne_eqb b a (λ q. p (sym q)))

-- ---- as the library tests it: byte by byte, along the first bytes
pub starts_pointwise : (k l : List ℕ) → starts k l ≡ pointwise (λ a b. eqb a b) k (take (length k) l)
unfolding starts
starts_pointwise [] l = refl
starts_pointwise (k ∷ ks) [] = refl
starts_pointwise (k ∷ ks) (b ∷ l) = rw (eqb_swap b k, starts_pointwise ks l)

-- ---- what it means
pub starts_is : (k l : List ℕ) → starts k l ≡ true → l ≡ k ++ drop (length k) l
unfolding starts
starts_is [] l e = refl
starts_is (k ∷ ks) [] e = cc
starts_is (k ∷ ks) (b ∷ l) e = go (eqb b k) refl e (starts_is ks l)
  where
    go : (t : Bool) → eqb b k ≡ t → (t && starts ks l) ≡ true → (starts ks l ≡ true → l ≡ ks ++ drop (length ks) l) → b ∷ l ≡ k ∷ ks ++ drop (length ks) l
    go true q e f = let p = eqb-true b k q in let r = f e in cc
    go false q e f = cc

pub starts_of : (k r : List ℕ) → starts k (k ++ r) ≡ true
unfolding starts
starts_of [] r = refl
starts_of (k ∷ ks) r = rw (eq-eqb k k refl) (starts_of ks r)

-- ---- a line after its key

module _ (p : ℕ → List ℕ) (ok : ℕ → Type 0) (s : List ℕ) (at : ℕ) (key : List ℕ) where
  abbrev keyed : ℕ → List ℕ
  keyed n = key ++ p n

  pub no_key : starts key (drop at s) ≡ false → Absent keyed ok s at
  no_key h = record {
    none = λ n rest b e.
        let t : starts key (drop at s) ≡ true = rw (e, append_assoc) (starts_of key (p n ++ rest)) in
        let z : ◌≡◌ {A = Bool} true false = sym t ∙ h in
        let z' : ◌≡◌ {A = ℕ} 0 1 = cc in
        omega arith;
  }

  past_key : starts key (drop at s) ≡ true → drop at s ≡ key ++ drop (at + length key) s
  past_key h = starts_is key (drop at s) h ∙ rw drop-drop

  pub key-within : at ≤ length s → starts key (drop at s) ≡ true → at + length key ≤ length s
  key-within g h =
      let l = ap length (past_key h) in
      omega (arith, simp (length-append, length-drop) at l)

  pub after-key : starts key (drop at s) ≡ true → (r : Option Num) → Line p ok s (at + length key) r → Line keyed ok s at r
  after-key h None q = record {
    none = λ n rest b e.
        q.none n rest b (rw (e, append_assoc, drop-append_seam) at (sym (drop-drop (length key) at s) ∙ refl));
  }
  after-key h (Some a) q = record {
    fine = q.fine;
    here = past_key h ∙ rw (q.here, append_assoc);
    past = q.past ∙ rw (length-append, add_assoc);
    within = q.within;
  }
