-- The sign goes through rounding, and rounding without a sign gives nothing negative. Assumes nothing.
use Prim.Native.Nat.{ℕ, zero, suc, ◌+◌, ◌*◌, ◌^◌}
use mathlib.Core.Path.{◌≡◌, refl}
use mathlib.Core.Bool.{Bool, true, false, not, cond}
use lib.Dec.{T, ltb}
use lib.Ieee.{Float, nan, inf, fin, Format, prec, emax, low, odd, units, round, neg}

neg_odd : (d : ℕ) (s : Bool) (q k l : ℕ) → neg (odd d s q k l) ≡ odd d (not s) q k l
unfolding neg odd
neg_odd d s zero k l = refl
neg_odd d s (suc q) k l = refl

neg_cond : (b : Bool) (x y x' y' : Float) → neg x ≡ x' → neg y ≡ y' → neg (cond b x y) ≡ cond b x' y'
neg_cond true x y x' y' p q = p
neg_cond false x y x' y' p q = q

neg_units : (f : Format) (s : Bool) (q k : ℕ) → neg (units f s q k) ≡ units f (not s) q k
unfolding units neg
neg_units f s q k = neg_cond (ltb (q * 2 ^ k) (2 ^ (low f + suc (emax f)))) _ _ _ _ (neg_odd (suc (prec f)) s q k (low f)) refl

pub neg_round : (f : Format) (s : Bool) (a c : ℕ) → neg (round f s a c) ≡ round f (not s) a c
unfolding round
neg_round f s a c = neg_units f s _ _

-- ---- `round` without a sign is not negative

abbrev pub plus : Float → Bool
plus nan = false
plus (inf s) = not s
plus (fin s m e) = not s

plus_odd : (d q k l : ℕ) → T (plus (odd d false q k l))
unfolding odd
plus_odd d zero k l = tt
plus_odd d (suc q) k l = tt

plus-cond : (b : Bool) (x y : Float) → T (plus x) → T (plus y) → T (plus (cond b x y))
plus-cond true x y p q = p
plus-cond false x y p q = q

plus_units : (f : Format) (q k : ℕ) → T (plus (units f false q k))
unfolding units
plus_units f q k = plus-cond (ltb (q * 2 ^ k) (2 ^ (low f + suc (emax f)))) (odd (suc (prec f)) false q k (low f)) (inf false) (plus_odd (suc (prec f)) q k (low f)) tt

pub plus_round : (f : Format) (a c : ℕ) → T (plus (round f false a c))
unfolding round
plus_round f a c = plus_units f _ _
