-- Reading as a function of the bytes, which the loops are tied to, and what it means: the print of a number is read as that number, and nothing else is read.
-- Assumes nothing.
use mathlib.Core.Path.{◌≡◌, refl, sym, ap, ap₂, ◌∙◌, subst}
use mathlib.Core.Bool.{Bool, true, false, cond}
use mathlib.Core.List.{List, [], ◌∷◌, ◌++◌, append_assoc, append-nil}
use Prim.Native.Nat.{ℕ, zero, suc, ◌+◌, ◌-◌, ◌*◌, ◌/◌, ◌%◌, ◌^◌, ◌≤◌, ◌<◌}
use native.Mathlib.Nat.{pow-suc}
use native.Mathlib.Omega.{arith}
use lib.Dec.{eqb, ltb}
use lib.IntN.{ℤ, pos, negsuc}
use borrow.Author.Tests.{lt-ltb, le-ltb, ne_eqb, ltb-true, ltb-false, eqb-true, eqb-false}
use mir.Syntax.{w64}
use mir.Val.{SFits}
use Rattle.std.specs.Prelude.{Option, Some, None}
use Rattle.laws.specs.Ints.{size_of}
use Rattle.lines.specs.Numbers.{digits, dec}
use Rattle.lines.proofs.Decimals.{dec-small, dec_large}
use Rattle.decimals.specs.Decimals.{sign_of, signed_dec}
use Rattle.decimals.specs.Readers.{NaturalOf, SignedOf, is, none}

-- ---- reading

-- n is read, and l is to come
unfoldable pub read_more : ℕ → List ℕ → Option ℕ
read_more n [] = Some n
read_more n (b ∷ l) =
    cond (ltb b 48) None
    (cond (ltb 57 b) None
    (cond (eqb n 0) None
    (cond (ltb 18446744073709551615 (n * 10 + (b - 48))) None (read_more (n * 10 + (b - 48)) l))))

unfoldable pub read_dec : List ℕ → Option ℕ
read_dec [] = None
read_dec (b ∷ l) = cond (ltb b 48) None (cond (ltb 57 b) None (read_more (b - 48) l))

-- above 0 the limit is 2^63 - 1, below it 2^63
unfoldable pub upward : Option ℕ → Option ℤ
upward None = None
upward (Some n) = cond (ltb 9223372036854775807 n) None (Some (pos n))

unfoldable pub downward : Option ℕ → Option ℤ
downward None = None
downward (Some n) = cond (eqb n 0) None (cond (ltb 9223372036854775808 n) None (Some (negsuc (n - 1))))

unfoldable pub read_signed : List ℕ → Option ℤ
read_signed [] = None
read_signed (b ∷ l) = cond (eqb b 45) (downward (read_dec l)) (upward (read_dec (b ∷ l)))

record Printed (l : List ℕ) (n : ℕ) : Type 0 where
  pub is : l ≡ dec n
  pub fits : n < 2 ^ 64

not_is : (n : ℕ) → None ≡ Some n → ⊥
not_is n e = let z : ◌≡◌ {A = ℕ} 0 1 = cc in omega arith

is_same : (n m : ℕ) → Some n ≡ Some m → n ≡ m
is_same n m e = cc

-- ---- what is read is the print of the answer

one_more : (n b : ℕ) → 48 ≤ b → b ≤ 57 → (n ≡ 0 → ⊥) → n * 10 + (b - 48) ≤ 18446744073709551615 → dec (n * 10 + (b - 48)) ≡ dec n ++ (b ∷ [])
one_more n b p q z h =
    let k = n * 10 + (b - 48) in
    let some : 0 < n = some_of n z in
    let d : k / 10 ≡ n = omega arith in
    let r : 48 + k % 10 ≡ b = omega arith in
    dec_large k (omega arith) (omega arith) ∙ ap₂ (λ (x y : ℕ). dec x ++ (y ∷ [])) d r
  where
    some_of : (n : ℕ) → (n ≡ 0 → ⊥) → 0 < n
    some_of n z = omega arith

more_sound : (n m : ℕ) (l : List ℕ) → n < 2 ^ 64 → read_more n l ≡ Some m → Printed (dec n ++ l) m
unfolding read_more
more_sound n m [] h e = let q : n ≡ m = is_same n m e in record { is = append-nil (dec n) ∙ ap dec q; fits = omega arith }
more_sound n m (b ∷ l) h e =
    go (ltb b 48) (ltb 57 b) (eqb n 0) (ltb 18446744073709551615 (n * 10 + (b - 48))) refl refl refl refl e (more_sound (n * 10 + (b - 48)) m l)
  where
    go : (p q r t : Bool) → ltb b 48 ≡ p → ltb 57 b ≡ q → eqb n 0 ≡ r → ltb 18446744073709551615 (n * 10 + (b - 48)) ≡ t
        → cond p None (cond q None (cond r None (cond t None (read_more (n * 10 + (b - 48)) l)))) ≡ Some m
        → (n * 10 + (b - 48) < 2 ^ 64 → read_more (n * 10 + (b - 48)) l ≡ Some m → Printed (dec (n * 10 + (b - 48)) ++ l) m) → Printed (dec n ++ b ∷ l) m
    go true q r t P Q R S e k = absurd (not_is m e)
    go false true r t P Q R S e k = absurd (not_is m e)
    go false false true t P Q R S e k = absurd (not_is m e)
    go false false false true P Q R S e k = absurd (not_is m e)
    go false false false false P Q R S e k =
        let g : n * 10 + (b - 48) ≤ 18446744073709551615 = ltb-false 18446744073709551615 (n * 10 + (b - 48)) S in
        let i = k (omega arith) e in
        record {
          is = sym (append_assoc (dec n) (b ∷ []) l) ∙ ap (λ (x : List ℕ). x ++ l) (sym (one_more n b (ltb-false b 48 P) (ltb-false 57 b Q) (eqb-false n 0 R) g)) ∙ i.is;
          fits = i.fits;
        }

dec_sound : (l : List ℕ) (m : ℕ) → read_dec l ≡ Some m → Printed l m
unfolding read_dec
dec_sound [] m e = absurd (not_is m e)
dec_sound (b ∷ l) m e = go (ltb b 48) (ltb 57 b) refl refl e
  where
    go : (p q : Bool) → ltb b 48 ≡ p → ltb 57 b ≡ q → cond p None (cond q None (read_more (b - 48) l)) ≡ Some m → Printed (b ∷ l) m
    go true q P Q e = absurd (not_is m e)
    go false true P Q e = absurd (not_is m e)
    go false false P Q e =
        let low : 48 ≤ b = ltb-false b 48 P in
        let high : b ≤ 57 = ltb-false 57 b Q in
        let i = more_sound (b - 48) m l (omega arith) e in
        let f : 48 + (b - 48) ≡ b = omega arith in
        record { is = sym (ap (λ (x : List ℕ). x ++ l) (dec-small (b - 48) (omega arith) ∙ ap (λ (x : ℕ). x ∷ []) f)) ∙ i.is; fits = i.fits }

-- ---- the print of a number is read

more-append : (n k b : ℕ) (l : List ℕ) → read_more n l ≡ Some k → read_more n (l ++ (b ∷ [])) ≡ read_more k (b ∷ [])
unfolding read_more
more-append n k b [] e = ap (λ (j : ℕ). read_more j (b ∷ [])) (is_same n k e)
more-append n k b (c ∷ l) e = go (ltb c 48) (ltb 57 c) (eqb n 0) (ltb 18446744073709551615 (n * 10 + (c - 48))) e (more-append (n * 10 + (c - 48)) k b l)
  where
    go : (p q r t : Bool)
        → cond p None (cond q None (cond r None (cond t None (read_more (n * 10 + (c - 48)) l)))) ≡ Some k
        → (read_more (n * 10 + (c - 48)) l ≡ Some k → read_more (n * 10 + (c - 48)) (l ++ (b ∷ [])) ≡ read_more k (b ∷ []))
        → cond p None (cond q None (cond r None (cond t None (read_more (n * 10 + (c - 48)) (l ++ (b ∷ [])))))) ≡ read_more k (b ∷ [])
    go true q r t e f = absurd (not_is k e)
    go false true r t e f = absurd (not_is k e)
    go false false true t e f = absurd (not_is k e)
    go false false false true e f = absurd (not_is k e)
    go false false false false e f = f e

dec-append : (k b : ℕ) (l : List ℕ) → read_dec l ≡ Some k → read_dec (l ++ (b ∷ [])) ≡ read_more k (b ∷ [])
unfolding read_dec
dec-append k b [] e = absurd (not_is k e)
dec-append k b (c ∷ l) e = go (ltb c 48) (ltb 57 c) e
  where
    go : (p q : Bool) → cond p None (cond q None (read_more (c - 48) l)) ≡ Some k → cond p None (cond q None (read_more (c - 48) (l ++ (b ∷ [])))) ≡ read_more k (b ∷ [])
    go true q e = absurd (not_is k e)
    go false true e = absurd (not_is k e)
    go false false e = more-append (c - 48) k b l e

one-read : (n : ℕ) → n < 10 → read_dec ((48 + n) ∷ []) ≡ Some n
unfolding read_dec read_more
one-read n h = let e : 48 + n - 48 ≡ n = omega arith in rw (le-ltb (48 + n) 48 (omega arith), le-ltb 57 (48 + n) (omega arith), e)

last_read : (n : ℕ) → 10 ≤ n → n < 2 ^ 64 → read_more (n / 10) ((48 + n % 10) ∷ []) ≡ Some n
unfolding read_more
last_read n h w =
    let e : n / 10 * 10 + (48 + n % 10 - 48) ≡ n = omega arith in
    let z : (n / 10 ≡ 0 → ⊥) = λ (q : n / 10 ≡ 0). omega arith in
    rw (le-ltb (48 + n % 10) 48 (omega arith), le-ltb 57 (48 + n % 10) (omega arith), ne_eqb (n / 10) 0 z, e, le-ltb 18446744073709551615 n (omega arith))

digits-read : (k n : ℕ) → n < 10 ^ suc k → n < 2 ^ 64 → read_dec (digits k n) ≡ Some n
unfolding digits
digits-read zero n h w = one-read n (omega arith)
digits-read (suc k) n h w = go (ltb n 10) refl (digits-read k (n / 10))
  where
    go : (c : Bool) → ltb n 10 ≡ c → (n / 10 < 10 ^ suc k → n / 10 < 2 ^ 64 → read_dec (digits k (n / 10)) ≡ Some (n / 10))
        → read_dec (cond c ((48 + n) ∷ []) (digits k (n / 10) ++ ((48 + n % 10) ∷ []))) ≡ Some n
    go true e r = one-read n (ltb-true n 10 e)
    go false e r =
        let p : 10 ^ suc (suc k) ≡ 10 ^ suc k * 10 = pow-suc 10 (suc k) in
        dec-append (n / 10) (48 + n % 10) (digits k (n / 10)) (r (omega (arith, p)) (omega arith)) ∙ last_read n (ltb-false n 10 e) w

dec-read : (n : ℕ) → n < 2 ^ 64 → read_dec (dec n) ≡ Some n
unfolding dec
dec-read n h = digits-read 19 n (omega arith) h

-- ---- with a sign

not-number : (z : ℤ) → None ≡ Some z → ⊥
not-number z e = let q : ◌≡◌ {A = ℕ} 0 1 = cc in omega arith

number_same : (x y : ℤ) → Some x ≡ Some y → x ≡ y
number_same x y e = cc

pub record Up (r : Option ℕ) (z : ℤ) : Type 0 where
  pub n : ℕ
  pub is_n : r ≡ Some n
  pub is_z : z ≡ pos n
  pub low : n < 2 ^ 63

up_sound : (r : Option ℕ) (z : ℤ) → upward r ≡ Some z → Up r z
unfolding upward
up_sound None z e = absurd (not-number z e)
up_sound (Some n) z e = go (ltb 9223372036854775807 n) refl e
  where
    go : (c : Bool) → ltb 9223372036854775807 n ≡ c → cond c None (Some (pos n)) ≡ Some z → Up (Some n) z
    go true h e = absurd (not-number z e)
    go false h e = record { n = n; is_n = refl; is_z = sym (number_same (pos n) z e); low = omega (arith, ltb-false 9223372036854775807 n h) }

pub record Down (r : Option ℕ) (z : ℤ) : Type 0 where
  pub n : ℕ
  pub is_n : r ≡ Some (suc n)
  pub is_z : z ≡ negsuc n
  pub low : n < 2 ^ 63

down_sound : (r : Option ℕ) (z : ℤ) → downward r ≡ Some z → Down r z
unfolding downward
down_sound None z e = absurd (not-number z e)
down_sound (Some zero) z e = absurd (not-number z e)
down_sound (Some (suc n)) z e = go (eqb (suc n) 0) (ltb 9223372036854775808 (suc n)) refl e
  where
    s : suc n - 1 ≡ n
    s = omega arith

    go : (b c : Bool) → ltb 9223372036854775808 (suc n) ≡ c → cond b None (cond c None (Some (negsuc (suc n - 1)))) ≡ Some z → Down (Some (suc n)) z
    go true c h e = absurd (not-number z e)
    go false true h e = absurd (not-number z e)
    go false false h e = record {
      n = n;
      is_n = refl;
      is_z = sym (number_same (negsuc (suc n - 1)) z e) ∙ ap negsuc s;
      low = omega (arith, ltb-false 9223372036854775808 (suc n) h);
    }

pub record SignedPrint (l : List ℕ) (z : ℤ) : Type 0 where
  pub is : l ≡ signed_dec z
  pub fits : SFits w64 z

-- what is read is the print of the answer
signed_sound : (l : List ℕ) (z : ℤ) → read_signed l ≡ Some z → SignedPrint l z
unfolding read_signed signed_dec sign_of size_of
signed_sound [] z e = absurd (not-number z e)
signed_sound (b ∷ l) z e = go (eqb b 45) refl e
  where
    go : (c : Bool) → eqb b 45 ≡ c → cond c (downward (read_dec l)) (upward (read_dec (b ∷ l))) ≡ Some z → SignedPrint (b ∷ l) z
    go true q e =
        let r = down_sound (read_dec l) z e in
        record {
          is = ap₂ (λ (x : ℕ) (y : List ℕ). x ∷ y) (eqb-true b 45 q) (dec_sound l (suc r.n) r.is_n).is ∙ ap signed_dec (sym r.is_z);
          fits = subst (SFits w64) (sym r.is_z) (record { sfits = r.low });
        }
    go false q e =
        let r = up_sound (read_dec (b ∷ l)) z e in
        record { is = (dec_sound (b ∷ l) r.n r.is_n).is ∙ ap signed_dec (sym r.is_z); fits = subst (SFits w64) (sym r.is_z) (record { sfits = r.low }) }

-- a print does not begin with a minus
up-read : (l : List ℕ) (n : ℕ) → read_dec l ≡ Some n → read_signed l ≡ upward (read_dec l)
unfolding read_signed read_dec
up-read [] n e = absurd (not_is n e)
up-read (b ∷ l) n e = go (eqb b 45) refl
  where
    go : (c : Bool) → eqb b 45 ≡ c → cond c (downward (read_dec l)) (upward (read_dec (b ∷ l))) ≡ upward (read_dec (b ∷ l))
    go true q = let w : b ≡ 45 = eqb-true b 45 q in absurd (not_is n (sym (ap (λ (t : Bool). cond t None (cond (ltb 57 b) None (read_more (b - 48) l))) (lt-ltb b 48 (omega arith))) ∙ e))
    go false q = refl

-- every i64 is read from its print
signed-read : (z : ℤ) → SFits w64 z → read_signed (signed_dec z) ≡ Some z
unfolding signed_dec sign_of size_of read_signed upward downward
signed-read (pos n) f =
    let h : n < 2 ^ 63 = f.sfits in
    let r = dec-read n (omega arith) in
    up-read (dec n) n r ∙ ap upward r ∙ rw (le-ltb 9223372036854775807 n (omega arith))
signed-read (negsuc n) f =
    let h : n < 2 ^ 63 = f.sfits in
    let s : suc n - 1 ≡ n = omega arith in
    let z : (suc n ≡ 0 → ⊥) = λ (q : suc n ≡ 0). omega arith in
    ap downward (dec-read (suc n) (omega arith)) ∙ rw (ne_eqb (suc n) 0 z, le-ltb 9223372036854775808 (suc n) (omega arith), s)

-- ---- the promises

pub natural_of : (l : List ℕ) (r : Option ℕ) → r ≡ read_dec l → NaturalOf l r
natural_of l (Some n) e = let p = dec_sound l n (sym e) in is n p.fits p.is
natural_of l None e = none (λ n h q. not_is n (e ∙ ap read_dec q ∙ dec-read n h))

pub of_natural : (l : List ℕ) {r : Option ℕ} → NaturalOf l r → r ≡ read_dec l
of_natural l (is n h q) = sym (ap read_dec q ∙ dec-read n h)
of_natural l (none z) = go (read_dec l) refl
  where
    go : (r : Option ℕ) → read_dec l ≡ r → None ≡ r
    go (Some n) e = let p = dec_sound l n e in absurd (z n p.fits p.is)
    go None e = refl

pub signed_of : (l : List ℕ) (r : Option ℤ) → r ≡ read_signed l → SignedOf l r
signed_of l (Some z) e = let p = signed_sound l z (sym e) in is z p.fits p.is
signed_of l None e = none (λ z h q. not-number z (e ∙ ap read_signed q ∙ signed-read z h))

of_signed : (l : List ℕ) {r : Option ℤ} → SignedOf l r → r ≡ read_signed l
of_signed l (is z h q) = sym (ap read_signed q ∙ signed-read z h)
of_signed l (none y) = go (read_signed l) refl
  where
    go : (r : Option ℤ) → read_signed l ≡ r → None ≡ r
    go (Some z) e = let p = signed_sound l z e in absurd (y z p.fits p.is)
    go None e = refl

-- ANY TWO CONFORMING ANSWERS ARE EQUAL
pub natural_unique : {l : List ℕ} {r q : Option ℕ} → NaturalOf l r → NaturalOf l q → r ≡ q
natural_unique {l} a b = of_natural l a ∙ sym (of_natural l b)

pub signed_unique : {l : List ℕ} {r q : Option ℤ} → SignedOf l r → SignedOf l q → r ≡ q
signed_unique {l} a b = of_signed l a ∙ sym (of_signed l b)
