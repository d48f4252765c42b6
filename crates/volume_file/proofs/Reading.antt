-- The words: each way out of the reader, and that what it answers is determined. Assumes nothing.
use mathlib.Core.Path.{◌≡◌, refl, sym, ap, ◌∙◌, subst}
use mathlib.Core.List.{List}
use Prim.Native.Nat.{ℕ, ◌≤◌, ◌<◌}
use native.Mathlib.Omega.{arith}
use lib.IntN.{ℤ}
use mir.Syntax.{w64}
use mir.Val.{SFits}
use mir.ValLaws.{to_z-of_z}
use Rattle.std.specs.Prelude.{Option, Some, None}
use Rattle.laws.proofs.Sizes.{rd}
use Rattle.lines.specs.Numbers.{dec}
use Rattle.lines.specs.Lines.{Word}
use Rattle.lines.proofs.Decimals.{dec-same}
use Rattle.decimals.specs.Decimals.{signed_dec}
use Rattle.decimals.specs.Readers as read
use Rattle.decimals.specs.Readers.{NaturalOf, SignedOf}
use Rattle.decimals.proofs.Meaning.{signed_unique}
use Rattle.volume_file.specs.declared.Words.{Words}
use Rattle.volume_file.specs.Words.{WordsOf, right, wrong, words}

-- ---- one word

record NaturalIs (s : List ℕ) (n : ℕ) : Type 0 where
  pub is : s ≡ dec n
  pub fits : Word n

natural_is : {s : List ℕ} {r : Option ℕ} (n : ℕ) → NaturalOf s r → r ≡ Some n → NaturalIs s n
natural_is n (read.is m h q) e = let k : m ≡ n = cc in record { is = q ∙ ap dec k; fits = subst Word k h }
natural_is n (read.none z) e = let k : ◌≡◌ {A = ℕ} 0 1 = cc in absurd (omega arith)

natural_none : {s : List ℕ} {r : Option ℕ} → NaturalOf s r → r ≡ None → (n : ℕ) → Word n → s ≡ dec n → ⊥
natural_none (read.is m h q) e = let k : ◌≡◌ {A = ℕ} 0 1 = cc in absurd (omega arith)
natural_none (read.none z) e = z

record SignedIs (s : List ℕ) (z : ℤ) : Type 0 where
  pub is : s ≡ signed_dec z
  pub fits : SFits w64 z

signed_is : {s : List ℕ} {r : Option ℤ} (z : ℤ) → SignedOf s r → r ≡ Some z → SignedIs s z
signed_is z (read.is y h q) e = let k : y ≡ z = cc in record { is = q ∙ ap signed_dec k; fits = subst (SFits w64) k h }
signed_is z (read.none n) e = let k : ◌≡◌ {A = ℕ} 0 1 = cc in absurd (omega arith)

signed-none : {s : List ℕ} {r : Option ℤ} → SignedOf s r → r ≡ None → (z : ℤ) → SFits w64 z → s ≡ signed_dec z → ⊥
signed-none (read.is m h q) e = let k : ◌≡◌ {A = ℕ} 0 1 = cc in absurd (omega arith)
signed-none (read.none z) e = z

-- ---- the ways out

module _ (wd wx wy wz : List ℕ) where
  pub no_digits : {r : Option ℕ} → NaturalOf wd r → r ≡ None → WordsOf wd wx wy wz None
  no_digits a e = wrong (λ d x y z s. natural_none a e d (omega (arith, s.few)) s.digits)

  pub many_digits : {r : Option ℕ} (n : ℕ) → NaturalOf wd r → r ≡ Some n → 6 < n → WordsOf wd wx wy wz None
  many_digits n a e h = wrong (λ d x y z s. let k = same-dec n d (natural_is n a e) s.digits s.few in omega (arith, k, s.few))
    where
      same-dec : (n d : ℕ) → NaturalIs wd n → wd ≡ dec d → d < 7 → n ≡ d
      same-dec n d i q f = dec-same n d i.fits (omega arith) (sym i.is ∙ q)

  pub no_x : {r : Option ℤ} → SignedOf wx r → r ≡ None → WordsOf wd wx wy wz None
  no_x a e = wrong (λ d x y z s. signed-none a e x s.fits_x s.is_x)

  pub no_y : {r : Option ℤ} → SignedOf wy r → r ≡ None → WordsOf wd wx wy wz None
  no_y a e = wrong (λ d x y z s. signed-none a e y s.fits_y s.is_y)

  pub no_z : {r : Option ℤ} → SignedOf wz r → r ≡ None → WordsOf wd wx wy wz None
  no_z a e = wrong (λ d x y z s. signed-none a e z s.fits_z s.is_z)

  pub all_read : {r : Option ℕ} {p q t : Option ℤ} (n : ℕ) (x y z : ℤ) → NaturalOf wd r → r ≡ Some n → n ≤ 6 → SignedOf wx p → p ≡ Some x → SignedOf wy q → q ≡ Some y → SignedOf wz t → t ≡ Some z
      → WordsOf wd wx wy wz (Some (words n (rd x) (rd y) (rd z)))
  all_read n x y z a e h b f c g d k =
      let i = signed_is x b f in
      let j = signed_is y c g in
      let l = signed_is z d k in
      subst (λ (w : Option Words). WordsOf wd wx wy wz w) (λ o. Some (words n (sym (to_z-of_z w64 x i.fits) o) (sym (to_z-of_z w64 y j.fits) o) (sym (to_z-of_z w64 z l.fits) o)))
      (right n x y z (record {
        digits = (natural_is n a e).is;
        few = omega arith;
        is_x = i.is;
        is_y = j.is;
        is_z = l.is;
        fits_x = i.fits;
        fits_y = j.fits;
        fits_z = l.fits;
      }))

  -- ANY TWO CONFORMING ANSWERS ARE EQUAL
  pub words_unique : {r q : Option Words} → WordsOf wd wx wy wz r → WordsOf wd wx wy wz q → r ≡ q
  words_unique (right d x y z s) (right e u v w t) =
      λ i. Some (words (dec-same d e (omega (arith, s.few)) (omega (arith, t.few)) (sym s.digits ∙ t.digits) i) (one s.fits_x s.is_x t.fits_x t.is_x i)
      (one s.fits_y s.is_y t.fits_y t.is_y i) (one s.fits_z s.is_z t.fits_z t.is_z i))
    where
      one : {l : List ℕ} {a b : ℤ} → SFits w64 a → l ≡ signed_dec a → SFits w64 b → l ≡ signed_dec b → a ≡ b
      one {l} {a} {b} f p g q = let e : Some a ≡ Some b = signed_unique (read.is a f p) (read.is b g q) in cc
  words_unique (right d x y z s) (wrong n) = absurd (n d x y z s)
  words_unique (wrong n) (right d x y z s) = absurd (n d x y z s)
  words_unique (wrong n) (wrong m) = refl
