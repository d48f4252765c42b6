-- Laws of printing: a sign, and digits behind a point, appended; and how long they are. Assumes nothing.
use mathlib.Core.Path.{◌≡◌, refl, sym, ◌∙◌}
use mathlib.Core.Bool.{true, false, false≢true, true≢false}
use mathlib.Core.List.{List, [], ◌∷◌}
use Prim.Native.Nat.{ℕ, zero, suc, ◌+◌, ◌-◌, ◌/◌, ◌%◌, ◌≤◌}
use native.Mathlib.Omega.{arith}
use lib.IntN.{ℤ, pos, negsuc}
use lib.ListN.{length, set, length-append}
use lib.Signed.{lt_z}
use borrow.Author.Tests.{le-ltb}
use Rattle.laws.specs.Ints.{size_of}
use Rattle.laws.specs.Written.{Written}
use Rattle.laws.proofs.Written.{written_none, written_one, written-more}
use Rattle.lines.specs.Numbers.{dec}
use Rattle.lines.proofs.Decimals.{dec-room}
use Rattle.decimals.specs.Decimals.{sign_of, signed_dec, pointed, decimal}

-- ---- a sign

not-minus : (n : ℕ) → lt_z (pos n) (pos 0) ≡ false
not-minus n = le-ltb n 0 (omega arith)

module _ (l : List ℕ) (at : ℕ) where
  pub sign-minus : (z : ℤ) → lt_z z (pos 0) ≡ true → Written l at (sign_of z) (set l at 45) (at + 1)
  unfolding sign_of
  sign-minus (pos n) e = absurd (false≢true (sym (not-minus n) ∙ e))
  sign-minus (negsuc n) e = written_one l at 45

  pub sign-none : (z : ℤ) → lt_z z (pos 0) ≡ false → Written l at (sign_of z) l at
  unfolding sign_of
  sign-none (pos n) e = written_none l at
  sign-none (negsuc n) e = absurd (true≢false e)

pub sign-some : (z : ℤ) → lt_z z (pos 0) ≡ true → length (sign_of z) ≡ 1
unfolding sign_of
sign-some (pos n) e = absurd (false≢true (sym (not-minus n) ∙ e))
sign-some (negsuc n) e = omega arith

pub sign-room : (z : ℤ) → length (sign_of z) ≤ 1
unfolding sign_of
sign-room (pos n) = omega arith
sign-room (negsuc n) = omega arith

pub signed-room : (z : ℤ) → length (signed_dec z) ≤ 21
unfolding signed_dec
signed-room z = omega (arith, length-append (sign_of z) (dec (size_of z)), sign-room z, dec-room (size_of z))

-- ---- digits behind a point

pub pointed-none : (k n : ℕ) → k ≡ 0 → length (pointed k n) ≡ length (dec n) + 1
unfolding pointed
pointed-none k n e = rw e (length-append (dec n) (46 ∷ []))

pub pointed-some : (k n : ℕ) → (k ≡ 0 → ⊥) → length (pointed k n) ≡ length (pointed (k - 1) (n / 10)) + 1
unfolding pointed
pointed-some zero n h = absurd (omega arith)
pointed-some (suc k) n h =
    let e : suc k - 1 ≡ k = omega arith in
    rw e (length-append (pointed k (n / 10)) ((48 + n % 10) ∷ []))

module _ {l l' : List ℕ} {at mid : ℕ} (k n : ℕ) where
  pub point-put : k ≡ 0 → Written l at (dec n) l' mid → Written l at (pointed k n) (set l' mid 46) (mid + 1)
  unfolding pointed
  point-put e p = rw e (written-more p (written_one l' mid 46))

pub digit-put : {l l' : List ℕ} {at mid : ℕ} (k n : ℕ) → (k ≡ 0 → ⊥) → Written l at (pointed (k - 1) (n / 10)) l' mid → Written l at (pointed k n) (set l' mid (48 + n % 10)) (mid + 1)
unfolding pointed
digit-put zero n h p = absurd (omega arith)
digit-put {l' = l'} {mid = mid} (suc k) n h p =
    let e : suc k - 1 ≡ k = omega arith in
    written-more (rw e at p) (written_one l' mid (48 + n % 10))

pub decimal-whole : (k n : ℕ) → k ≡ 0 → decimal k n ≡ dec n
unfolding decimal
decimal-whole k n e = rw e

pub decimal-pointed : (k n : ℕ) → (k ≡ 0 → ⊥) → decimal k n ≡ pointed k n
unfolding decimal
decimal-pointed zero n h = absurd (omega arith)
decimal-pointed (suc k) n h = refl

pointed-room : (k n : ℕ) → length (pointed k n) ≤ k + 21
unfolding pointed
pointed-room zero n = omega (arith, length-append (dec n) (46 ∷ []), dec-room n)
pointed-room (suc k) n = omega (arith, length-append (pointed k (n / 10)) ((48 + n % 10) ∷ []), pointed-room k (n / 10))

pub decimal-room : (k n : ℕ) → length (decimal k n) ≤ k + 21
unfolding decimal
decimal-room zero n = omega (arith, dec-room n)
decimal-room (suc k) n = pointed-room (suc k) n

-- room for a decimal, whichever it is, and where it ends
pub decimal_fits : (at k n m : ℕ) → at + (k + 21) ≤ m → at + length (decimal k n) ≤ m
decimal_fits at k n m h = omega (arith, decimal-room k n)

pub decimal-ends : (l l' : List ℕ) (at k n r : ℕ) → Written l at (decimal k n) l' r → r ≤ at + (k + 21)
decimal-ends l l' at k n r p = omega (arith, p.next, decimal-room k n)
