-- Equal values compare alike, so values on different sides of a threshold are not equal. Assumes nothing.
use Prim.Native.Nat.{◌*◌}
use mathlib.Core.Path.{◌≡◌, refl, sym, ap, ◌∙◌}
use mathlib.Core.Bool.{Bool, true, false, beq, true≢false, false≢true}
use lib.Ieee.{Float, nan, inf, fin, up, down, neg, lt, eq}
use lib.Ieee.Fits.{down_pos}
use Rattle.laws.proofs.Bools.{T_true, true_T, bool_ext}
use Rattle.laws.proofs.Floats.{lt-less, less-lt, eq-most, most-less}
use Rattle.samples.specs.Sides.{finite, inside}

pub eq-lt : (p q z : Float) → eq p q ≡ true → finite p ≡ true → finite q ≡ true → lt p z ≡ lt q z
unfolding lt finite
eq-lt nan q z h a b = absurd (false≢true a)
eq-lt (inf s) q z h a b = absurd (false≢true a)
eq-lt (fin s m e) nan z h a b = absurd (false≢true b)
eq-lt (fin s m e) (inf t) z h a b = absurd (false≢true b)
eq-lt (fin s m e) (fin t n d) nan h a b = refl
eq-lt (fin s m e) (fin t n d) (inf u) h a b = refl
eq-lt (fin s m e) (fin t n d) (fin u k g) h a b =
    let l = eq-most s m e t n d (true_T _ h) in
    bool_ext (lt (fin s m e) (fin u k g)) (lt (fin t n d) (fin u k g))
    (λ i. T_true _ (less-lt t n d u k g (most-less t (n * up d) (down d) s (m * up e) (down e) u (k * up g) (down g) (down_pos d) l.1 (lt-less s m e u k g (true_T _ i)))))
    (λ i. T_true _ (less-lt s m e u k g (most-less s (m * up e) (down e) t (n * up d) (down d) u (k * up g) (down g) (down_pos e) l.0 (lt-less t n d u k g (true_T _ i)))))

-- on different sides of the threshold h, so different
pub sides_differ : (p q h : Float) → finite p ≡ true → finite q ≡ true → beq (inside p h) (inside q h) ≡ false → eq p q ≡ false
unfolding inside
sides_differ p q h a b d = go (eq p q) refl
  where
    beq_refl : (x : Bool) → beq x x ≡ true
    beq_refl true = refl
    beq_refl false = refl

    go : (t : Bool) → eq p q ≡ t → eq p q ≡ false
    go false e = e
    go true e = absurd (true≢false (sym (beq_refl (lt q (neg h))) ∙ sym (ap (λ x. beq x (lt q (neg h))) (eq-lt p q (neg h) e a b)) ∙ d))
