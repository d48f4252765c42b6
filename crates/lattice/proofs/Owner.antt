-- The owner of an edge: gaps without overflow, labels by gaps, and that in the box it is the owner by `across`. Assumes nothing.
use mathlib.Core.Path.{◌≡◌, refl, sym, ap, ap₂, ◌∙◌, subst}
use mathlib.Core.Bool.{Bool, true, false, ◌&&◌, cond}
use mathlib.Core.Logic.{◌⊎◌, inl, inr, ⊎_elim}
use mathlib.Core.List.{List, [], ◌∷◌}
use Prim.Native.Nat.{ℕ, zero, suc, ◌+◌, ◌-◌, ◌^◌, ◌≤◌, ◌<◌}
use native.Mathlib.Nat.{not-suc-le-zero, le_of_suc-le-suc}
use native.Mathlib.Omega.{arith}
use borrow.Author.Tests.{eq-eqb, eqb-true, lt-ltb, le-ltb}
use lib.Dec.{T, eqb, eqb_refl, ltb, ltb→lt}
use lib.IntN.{ℤ, pos, negsuc, ◌-ℤ◌, neg_ℤ}
use lib.Signed.{mag, lt_z}
use lib.ListN.{length, get_or}
use mir.Syntax.{w64}
use mir.Val.{SFits, to_z, of_z}
use mir.Facts.{to_z-of_z}
use Rattle.laws.specs.Ranges.{all}
use Rattle.laws.proofs.Bools.{bool_ext, and_left, and_right, T_true, true_T}
use Rattle.laws.proofs.Ranges.{same_at}
use Rattle.laws.proofs.Ints.{above, under, same_parts, diff_parts, less_parts, not-less_parts, ‹◌›, nat, neg, ◌⊞◌}
use Rattle.tables.specs.declared.Delta.{Delta}
use Rattle.tables.specs.Edges.{offset, same_z, same, deltas, delta}
use Rattle.tables.proofs.Edges.{same_z→eq, same→eq}
use Rattle.lattice.specs.declared.Ijk.{Ijk}
use Rattle.std.specs.Prelude.{None, Some}
use Rattle.lattice.specs.Owner.{from_to, place, label_of, of_owner, owned, owner_of, gap, gap_place, gap_label}

-- ---- a signed number by its parts

part-or : (z : ℤ) → (above z ≡ 0) ⊎ (under z ≡ 0)
unfolding above under
part-or (pos n) = inr refl
part-or (negsuc n) = inl refl

parts_fit : (z : ℤ) → SFits w64 z → (above z < 2 ^ 63) × (under z ≤ 2 ^ 63)
unfolding above under
parts_fit (pos n) f = (f.sfits, omega arith)
parts_fit (negsuc n) f = (omega arith, f.sfits)

fit_parts : (z : ℤ) → above z < 2 ^ 63 → under z ≤ 2 ^ 63 → SFits w64 z
unfolding above under
fit_parts (pos n) p q = record { sfits = p }
fit_parts (negsuc n) p q = record { sfits = q }

-- a small difference fits, and a small number reads as itself
pub small_fits : (a b : ℕ) → a < 64 → b < 64 → SFits w64 (pos a -ℤ pos b)
small_fits a b p q =
    let e = (nat a ⊞ neg (nat b)).is in
    let z = pos a -ℤ pos b in
    ⊎_elim (λ r. fit_parts z (omega arith) (omega (arith, e))) (λ r. fit_parts z (omega (arith, e)) (omega arith)) (part-or z)

pub small-read : (a : ℕ) → a < 64 → to_z w64 a ≡ pos a
small-read a p = to_z-of_z {w = w64} {z = pos a} (record { sfits = omega arith })

-- a is below b
abbrev pub Below : ℤ → ℤ → Type 0
Below a b = above a + under b < above b + under a

diff_is : (a b z : ℤ) → above z + (under b + above a) ≡ under z + (above b + under a) → b -ℤ a ≡ z
diff_is a b z e = same_parts (b -ℤ a) z (omega (arith, (‹ b › ⊞ neg ‹ a ›).is))

one_less : (b : ℤ) → above (b -ℤ pos 1) + (under b + 1) ≡ under (b -ℤ pos 1) + above b
unfolding above under
one_less b = omega (arith, diff_parts (pos 1) b (b -ℤ pos 1) refl)

-- ---- one less, where something is below

pub less_fits : (a b : ℤ) → Below a b → SFits w64 a → SFits w64 b → SFits w64 (b -ℤ pos 1)
less_fits a b l fa fb =
    let x = parts_fit a fa in
    let y = parts_fit b fb in
    let z = b -ℤ pos 1 in
    ⊎_elim
    (λ p. fit_parts z (omega arith) (⊎_elim (λ q. omega (arith, one_less b)) (λ q. omega (arith, one_less b)) (part-or b)))
    (λ p. fit_parts z (omega (arith, one_less b)) (omega arith)) (part-or z)

pub less-below : (a b : ℤ) → Below a b → (a ≡ b -ℤ pos 1 → ⊥) → Below a (b -ℤ pos 1)
less-below a b l n =
    let d : (above a + under (b -ℤ pos 1) ≡ above (b -ℤ pos 1) + under a → ⊥) = λ e. n (same_parts a (b -ℤ pos 1) e) in
    omega (arith, d, one_less b)

-- a is one, and two, less than b
by_one : (a b : ℤ) → a ≡ b -ℤ pos 1 → b -ℤ a ≡ pos 1
unfolding above under
by_one a b e = diff_is a b (pos 1) (omega (arith, ap above e, ap under e, one_less b))

by_two : (a b : ℤ) → a ≡ (b -ℤ pos 1) -ℤ pos 1 → b -ℤ a ≡ pos 2
unfolding above under
by_two a b e = diff_is a b (pos 2) (omega (arith, ap above e, ap under e, one_less b, one_less (b -ℤ pos 1)))

back_one : (a b : ℤ) → b -ℤ a ≡ pos 1 → a ≡ b -ℤ pos 1
unfolding above under
back_one a b e = same_parts a (b -ℤ pos 1) (omega (arith, diff_parts a b (pos 1) e, one_less b))

back_two : (a b : ℤ) → b -ℤ a ≡ pos 2 → a ≡ (b -ℤ pos 1) -ℤ pos 1
unfolding above under
back_two a b e = same_parts a ((b -ℤ pos 1) -ℤ pos 1) (omega (arith, diff_parts a b (pos 2) e, one_less b, one_less (b -ℤ pos 1)))

turned : (a b z : ℤ) → b -ℤ a ≡ z → a -ℤ b ≡ neg_ℤ z
turned a b z e = diff_is b a (neg_ℤ z) (omega (arith, diff_parts a b z e, (neg ‹ z ›).is))

-- ---- what the machine reads back of its bits

abbrev pub rd : ℤ → ℤ
rd z = to_z w64 (of_z w64 z)

pub read_back : (z : ℤ) → mag z < 2 ^ 63 → rd z ≡ z
read_back z h = to_z-of_z {w = w64} {z = z} (record { sfits = h })

pub bits-eq : (a b : ℤ) → SFits w64 a → SFits w64 b → of_z w64 a ≡ of_z w64 b → a ≡ b
bits-eq a b fa fb e = sym (to_z-of_z fa) ∙ ap (to_z w64) e ∙ to_z-of_z fb

module _ (a b : ℤ) (fa : SFits w64 a) (fb : SFits w64 b) where
  pub read-less : lt_z (rd a) (rd b) ≡ true → Below a b
  read-less e = less_parts a b (ap₂ lt_z (sym (to_z-of_z fa)) (sym (to_z-of_z fb)) ∙ e)

  pub read-not-less : lt_z (rd a) (rd b) ≡ false → (of_z w64 a ≡ of_z w64 b → ⊥) → Below b a
  read-not-less e n =
      let le = not-less_parts a b (ap₂ lt_z (sym (to_z-of_z fa)) (sym (to_z-of_z fb)) ∙ e) in
      let d : (above a + under b ≡ above b + under a → ⊥) = λ q. n (ap (of_z w64) (same_parts a b q)) in
      omega (arith, le, d)

  module _ (l : Below a b) where
    one-is : rd b -ℤ pos 1 ≡ b -ℤ pos 1
    one-is = ap (λ (x : ℤ). x -ℤ pos 1) (to_z-of_z fb)

    pub read-one_fits : SFits w64 (rd b -ℤ pos 1)
    read-one_fits = subst (SFits w64) (sym one-is) (less_fits a b l fa fb)

    pub read_one : of_z w64 a ≡ of_z w64 (rd b -ℤ pos 1) → a ≡ b -ℤ pos 1
    read_one e = bits-eq a (rd b -ℤ pos 1) fa read-one_fits e ∙ one-is

    module _ (n : of_z w64 a ≡ of_z w64 (rd b -ℤ pos 1) → ⊥) where
      pub not-one : a ≡ b -ℤ pos 1 → ⊥
      not-one e = n (ap (of_z w64) (e ∙ sym one-is))

      two_is : rd (rd b -ℤ pos 1) -ℤ pos 1 ≡ (b -ℤ pos 1) -ℤ pos 1
      two_is = ap (λ (x : ℤ). x -ℤ pos 1) (to_z-of_z read-one_fits ∙ one-is)

      pub read-two_fits : SFits w64 (rd (rd b -ℤ pos 1) -ℤ pos 1)
      read-two_fits = subst (SFits w64) (sym two_is) (less_fits a (b -ℤ pos 1) (less-below a b l not-one) fa (less_fits a b l fa fb))

      pub read-two : of_z w64 a ≡ of_z w64 (rd (rd b -ℤ pos 1) -ℤ pos 1) → a ≡ (b -ℤ pos 1) -ℤ pos 1
      read-two e = bits-eq a (rd (rd b -ℤ pos 1) -ℤ pos 1) fa read-two_fits e ∙ two_is

      pub not-two : (of_z w64 a ≡ of_z w64 (rd (rd b -ℤ pos 1) -ℤ pos 1) → ⊥) → a ≡ (b -ℤ pos 1) -ℤ pos 1 → ⊥
      not-two m e = m (ap (of_z w64) (e ∙ sym two_is))

-- ---- gaps

pub gap-none : (a b : ℤ) → a ≡ b → 2 ≡ gap (b -ℤ a)
unfolding above under gap
gap-none a b e = ap gap (sym (diff_is a b (pos 0) (omega (arith, ap above e, ap under e))))

module _ (a b : ℤ) (l : Below a b) where
  pub gap-one : a ≡ b -ℤ pos 1 → (3 ≡ gap (b -ℤ a)) × (1 ≡ gap (a -ℤ b))
  unfolding gap
  gap-one e = (ap gap (sym (by_one a b e)), ap gap (sym (turned a b (pos 1) (by_one a b e))))

  pub gap-two : a ≡ (b -ℤ pos 1) -ℤ pos 1 → (4 ≡ gap (b -ℤ a)) × (0 ≡ gap (a -ℤ b))
  unfolding gap
  gap-two e = (ap gap (sym (by_two a b e)), ap gap (sym (turned a b (pos 2) (by_two a b e))))

  pub gap_far : (a ≡ b -ℤ pos 1 → ⊥) → (a ≡ (b -ℤ pos 1) -ℤ pos 1 → ⊥) → (5 ≡ gap (b -ℤ a)) × (5 ≡ gap (a -ℤ b))
  unfolding gap above under
  gap_far p q = go (b -ℤ a) refl
    where
      go : (z : ℤ) → b -ℤ a ≡ z → (5 ≡ gap (b -ℤ a)) × (5 ≡ gap (a -ℤ b))
      go (pos zero) e = absurd (omega (arith, l, diff_parts a b (pos 0) e))
      go (pos (suc zero)) e = absurd (p (back_one a b e))
      go (pos (suc (suc zero))) e = absurd (q (back_two a b e))
      go (pos (suc (suc (suc n)))) e = (ap gap (sym e), ap gap (sym (turned a b (pos (suc (suc (suc n)))) e)))
      go (negsuc n) e = absurd (omega (arith, l, diff_parts a b (negsuc n) e))

pub gap-lt : (z : ℤ) → gap z < 6
unfolding gap
gap-lt (pos zero) = omega arith
gap-lt (pos (suc zero)) = omega arith
gap-lt (pos (suc (suc zero))) = omega arith
gap-lt (pos (suc (suc (suc n)))) = omega arith
gap-lt (negsuc zero) = omega arith
gap-lt (negsuc (suc zero)) = omega arith
gap-lt (negsuc (suc (suc n))) = omega arith

-- ---- the label by gaps

ungap : ℕ → ℤ
ungap zero = negsuc 1
ungap (suc zero) = negsuc 0
ungap (suc (suc n)) = pos n

gap_back : (z : ℤ) → gap z < 5 → ungap (gap z) ≡ z
unfolding gap ungap
gap_back (pos zero) h = refl
gap_back (pos (suc zero)) h = refl
gap_back (pos (suc (suc zero))) h = refl
gap_back (pos (suc (suc (suc n)))) h = absurd (omega arith)
gap_back (negsuc zero) h = refl
gap_back (negsuc (suc zero)) h = refl
gap_back (negsuc (suc (suc n))) h = absurd (omega arith)

same_z_refl : (z : ℤ) → same_z z z ≡ true
same_z_refl (pos n) = T_true (eqb n n) (eqb_refl n)
same_z_refl (negsuc n) = T_true (eqb n n) (eqb_refl n)

-- a number equals one that is near exactly if their gaps are equal
gap_same : (z w : ℤ) → gap w < 5 → same_z z w ≡ eqb (gap z) (gap w)
gap_same z w h =
    bool_ext (same_z z w) (eqb (gap z) (gap w)) (λ e. eq-eqb (gap z) (gap w) (ap gap (same_z→eq z w (true_T (same_z z w) e))))
    (λ e.
    let g : gap z ≡ gap w = eqb-true (gap z) (gap w) e in
    let q : z ≡ w = sym (gap_back z (omega arith)) ∙ ap ungap g ∙ gap_back w h in
    ap (λ (x : ℤ). same_z z x) (sym q) ∙ same_z_refl z)

near : Delta → Bool
near e = ltb (gap e.i) 5 && ltb (gap e.j) 5 && ltb (gap e.k) 5

nears : List Delta → Bool
nears [] = true
nears (e ∷ es) = near e && nears es

place_gaps : (d : Delta) (l : List Delta) → T (nears l) → place d l ≡ gap_place (gap d.i) (gap d.j) (gap d.k) l
unfolding place gap_place nears near
place_gaps d [] t = refl
place_gaps d (e ∷ es) t =
    let x = ltb (gap e.i) 5 in
    let y = ltb (gap e.j) 5 in
    let z = ltb (gap e.k) 5 in
    let s : T (x && y && z) = and_left (x && y && z) (nears es) t in
    let p = gap_same d.i e.i (ltb→lt _ _ (and_left x y (and_left (x && y) z s))) in
    let q = gap_same d.j e.j (ltb→lt _ _ (and_right x y (and_left (x && y) z s))) in
    let r = gap_same d.k e.k (ltb→lt _ _ (and_right (x && y) z s)) in
    let ih = place_gaps d es (and_right (x && y && z) (nears es) t) in
    λ i. cond (p i && q i && r i) 0 (suc (ih i))

pub label_gaps : (d : Delta) → label_of d ≡ gap_label (gap d.i) (gap d.j) (gap d.k)
unfolding label_of gap_label deltas nears near gap
label_gaps d = place_gaps d deltas tt

-- ---- labels and deltas

place-le : (d : Delta) (l : List Delta) → place d l ≤ length l
unfolding place
place-le d [] = omega arith
place-le d (e ∷ es) = go (same d e) (place-le d es)
  where
    go : (b : Bool) → place d es ≤ length es → cond b 0 (suc (place d es)) ≤ suc (length es)
    go true h = omega arith
    go false h = omega arith

place_hit : (d : Delta) (l : List Delta) (o : Delta) → place d l < length l → d ≡ get_or l (place d l) o
unfolding place
place_hit d [] o h = absurd (not-suc-le-zero h)
place_hit d (e ∷ es) o h = go (same d e) (λ t. same→eq d e t) (place_hit d es o) h
  where
    go : (b : Bool) → (T b → d ≡ e) → (place d es < length es → d ≡ get_or es (place d es) o) → cond b 0 (suc (place d es)) < suc (length es)
        → d ≡ get_or (e ∷ es) (cond b 0 (suc (place d es))) o
    go true f ih h = f tt
    go false f ih h = ih (le_of_suc-le-suc h)

pub label_le : (d : Delta) → label_of d ≤ 14
unfolding label_of deltas
label_le d = place-le d deltas

-- an offset with a label below 14 is that label's delta, and each delta has its own label
pub label_offset : (d : Delta) → label_of d < 14 → d ≡ delta (label_of d)
unfolding label_of delta deltas
label_offset d h = place_hit d deltas (offset (pos 0) (pos 0) (pos 0)) h

pub delta_label : (e : ℕ) → e < 14 → label_of (delta e) ≡ e
unfolding all label_of place delta deltas
delta_label e h = same_at 14 (λ e. label_of (delta e)) (λ e. e) tt e h

-- ---- the code's ways out, from the gaps of the numbers as the machine reads them

pub owner_label : (u v : Ijk) (x y z e : ℕ) → mag u.i < 2 ^ 63 → mag u.j < 2 ^ 63 → mag u.k < 2 ^ 63
    → mag v.i < 2 ^ 63 → mag v.j < 2 ^ 63 → mag v.k < 2 ^ 63
    → x ≡ gap (rd v.i -ℤ rd u.i) → y ≡ gap (rd v.j -ℤ rd u.j) → z ≡ gap (rd v.k -ℤ rd u.k)
    → e ≡ gap_label x y z → e ≡ label_of (from_to u v)
owner_label u v x y z e ui uj uk vi vj vk p q r s =
    let a : gap (rd v.i -ℤ rd u.i) ≡ gap (v.i -ℤ u.i) = λ i. gap (read_back v.i vi i -ℤ read_back u.i ui i) in
    let b : gap (rd v.j -ℤ rd u.j) ≡ gap (v.j -ℤ u.j) = λ i. gap (read_back v.j vj i -ℤ read_back u.j uj i) in
    let c : gap (rd v.k -ℤ rd u.k) ≡ gap (v.k -ℤ u.k) = λ i. gap (read_back v.k vk i -ℤ read_back u.k uk i) in
    s ∙ (λ i. gap_label ((p ∙ a) i) ((q ∙ b) i) ((r ∙ c) i)) ∙ sym (label_gaps (from_to u v))

module _ (u v : Ijk) (e : ℕ) (is : e ≡ label_of (from_to u v)) where
  pub own_first : e < 7 → Some (of_owner u v e) ≡ owner_of u v
  unfolding owner_of owned
  own_first h = rw (sym is, lt-ltb e 7 h)

  pub own_other : 7 ≤ e → e < 14 → Some (of_owner v u (e - 7)) ≡ owner_of u v
  unfolding owner_of owned
  own_other l h = rw (sym is, le-ltb e 7 l, lt-ltb e 14 h)

  pub own-none : 14 ≤ e → None ≡ owner_of u v
  unfolding owner_of owned
  own-none h = rw (sym is, le-ltb e 7 (omega arith), le-ltb e 14 h)
