-- Determinants of numbers of at most 10,000: how large they and their parts are, and that the machine's sums and products are theirs. Assumes nothing.
use mathlib.Core.Path.{◌≡◌, sym, ◌∙◌, subst}
use Prim.Native.Nat.{ℕ, ◌*◌, ◌≤◌}
use native.Mathlib.Omega.{arith}
use lib.IntN.{ℤ, ◌+ℤ◌, ◌-ℤ◌, ◌*ℤ◌}
use mir.Syntax.{w64}
use mir.Val.{SFits}
use Rattle.laws.specs.Ints.{size_of}
use Rattle.volume.specs.Volume.{det9}
use Rattle.volume.specs.Parts.{Sized}
use Rattle.laws.proofs.Sizes.{size-add, size-sub, size_fits, mul_most, rd, rd-small, mul_is, add_is}

pub minor-most : (a b c d : ℤ) → size_of a ≤ 10000 → size_of b ≤ 10000 → size_of c ≤ 10000 → size_of d ≤ 10000 → size_of (a *ℤ d -ℤ b *ℤ c) ≤ 200000000
minor-most a b c d p q r s = omega (arith, size-sub (a *ℤ d) (b *ℤ c), mul_most a d 10000 10000 p s, mul_most b c 10000 10000 q r)

pub det9-most : (ax ay az bx by bz cx cy cz : ℤ) → size_of ax ≤ 10000 → size_of ay ≤ 10000 → size_of az ≤ 10000 → size_of bx ≤ 10000 → size_of by ≤ 10000 → size_of bz ≤ 10000
    → size_of cx ≤ 10000 → size_of cy ≤ 10000 → size_of cz ≤ 10000 → size_of (det9 ax ay az bx by bz cx cy cz) ≤ 6000000000000
det9-most ax ay az bx by bz cx cy cz hax hay haz hbx hby hbz hcx hcy hcz =
    let p = ax *ℤ (by *ℤ cz -ℤ bz *ℤ cy) in
    let q = bx *ℤ (cy *ℤ az -ℤ cz *ℤ ay) in
    let r = cx *ℤ (ay *ℤ bz -ℤ az *ℤ by) in
    let hp : size_of p ≤ 10000 * 200000000 = mul_most ax (by *ℤ cz -ℤ bz *ℤ cy) 10000 200000000 hax (minor-most by bz cy cz hby hbz hcy hcz) in
    let hq : size_of q ≤ 10000 * 200000000 = mul_most bx (cy *ℤ az -ℤ cz *ℤ ay) 10000 200000000 hbx (minor-most cy cz ay az hcy hcz hay haz) in
    let hr : size_of r ≤ 10000 * 200000000 = mul_most cx (ay *ℤ bz -ℤ az *ℤ by) 10000 200000000 hcx (minor-most ay az by bz hay haz hby hbz) in
    omega (arith, hp, hq, hr, size-add (p +ℤ q) r, size-add p q)

module _ (a b c d : ℤ) (p : size_of a ≤ 10000) (q : size_of b ≤ 10000) (r : size_of c ≤ 10000) (s : size_of d ≤ 10000) where
  ad : rd (rd a *ℤ rd d) ≡ a *ℤ d
  ad = mul_is a d 10000 10000 p s (omega arith) (omega arith) (omega arith)

  bc : rd (rd b *ℤ rd c) ≡ b *ℤ c
  bc = mul_is b c 10000 10000 q r (omega arith) (omega arith) (omega arith)

  pub minor_ok : SFits w64 (rd (rd a *ℤ rd d) -ℤ rd (rd b *ℤ rd c))
  minor_ok = rw (ad, bc) (size_fits (a *ℤ d -ℤ b *ℤ c) (omega (arith, minor-most a b c d p q r s)))

  pub minor-is : rd (rd (rd a *ℤ rd d) -ℤ rd (rd b *ℤ rd c)) ≡ a *ℤ d -ℤ b *ℤ c
  minor-is = rw (ad, bc) (rd-small (a *ℤ d -ℤ b *ℤ c) (omega (arith, minor-most a b c d p q r s)))

module _ (p q r : ℤ) (h : size_of p ≤ 2000000000000) (k : size_of q ≤ 2000000000000) (l : size_of r ≤ 2000000000000) where
  pq : rd (rd p +ℤ rd q) ≡ p +ℤ q
  pq = add_is p q 2000000000000 2000000000000 h k (omega arith) (omega arith) (omega arith)

  pub sum_ok : SFits w64 (rd (rd p +ℤ rd q) +ℤ rd r)
  sum_ok = rw (pq, rd-small r (omega arith)) (size_fits (p +ℤ q +ℤ r) (omega (arith, size-add (p +ℤ q) r, size-add p q)))

  pub sum_is : rd (rd (rd p +ℤ rd q) +ℤ rd r) ≡ p +ℤ q +ℤ r
  sum_is = rw (pq, rd-small r (omega arith)) (rd-small (p +ℤ q +ℤ r) (omega (arith, size-add (p +ℤ q) r, size-add p q)))

-- ---- what the functions answer, and what their caller knows of it

sized : (z : ℤ) (m : ℕ) (r : ℤ) → r ≡ z → size_of z ≤ m → Sized z m r
sized z m r e h = record { is = e; most = subst (λ (y : ℤ). size_of y ≤ m) (sym e) h }

pub minor_sized : (a b c d : ℤ) → size_of a ≤ 10000 → size_of b ≤ 10000 → size_of c ≤ 10000 → size_of d ≤ 10000 → Sized (a *ℤ d -ℤ b *ℤ c) 200000000 (rd (rd (rd a *ℤ rd d) -ℤ rd (rd b *ℤ rd c)))
minor_sized a b c d p q r s = sized (a *ℤ d -ℤ b *ℤ c) 200000000 _ (minor-is a b c d p q r s) (minor-most a b c d p q r s)

pub times_sized : (a m : ℤ) → size_of a ≤ 10000 → size_of m ≤ 200000000 → Sized (a *ℤ m) 2000000000000 (rd (rd a *ℤ rd m))
times_sized a m p q = sized (a *ℤ m) 2000000000000 _ (mul_is a m 10000 200000000 p q (omega arith) (omega arith) (omega arith)) (mul_most a m 10000 200000000 p q)

module _ (a b c d e : ℤ) (o : size_of a ≤ 10000) (p : size_of b ≤ 10000) (q : size_of c ≤ 10000) (r : size_of d ≤ 10000) (s : size_of e ≤ 10000) where
  pub product : (m t : ℤ) → Sized (rd b *ℤ rd e -ℤ rd c *ℤ rd d) 200000000 m → Sized (rd a *ℤ rd m) 2000000000000 t → t ≡ a *ℤ (b *ℤ e -ℤ c *ℤ d)
  product m t h k =
      let i : m ≡ b *ℤ e -ℤ c *ℤ d = h.is ∙ rw (rd-small b (omega arith), rd-small e (omega arith), rd-small c (omega arith), rd-small d (omega arith)) in
      k.is ∙ rw (rd-small a (omega arith), rd-small m (omega (arith, h.most)), i)

pub total : (t p q r : ℤ) → size_of p ≤ 2000000000000 → size_of q ≤ 2000000000000 → size_of r ≤ 2000000000000 → t ≡ rd p +ℤ rd q +ℤ rd r → rd t ≡ p +ℤ q +ℤ r
total t p q r h k l e =
    let f : t ≡ p +ℤ q +ℤ r = e ∙ rw (rd-small p (omega arith), rd-small q (omega arith), rd-small r (omega arith)) in
    let m : size_of t ≤ 6000000000000 = subst (λ (y : ℤ). size_of y ≤ 6000000000000) (sym f) (omega (arith, size-add (p +ℤ q) r, size-add p q)) in
    rd-small t (omega arith) ∙ f
