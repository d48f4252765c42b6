-- The order of the triangles, their corners' turn and their direction: what each does to the status and to the sum. Assumes nothing.
use mathlib.Core.Path.{◌≡◌, refl, sym, ap, ap₂, ◌∙◌}
use mathlib.Core.Bool.{Bool, true, false, ◌&&◌, cond, and_assoc, and_comm, and-true}
use mathlib.Core.List.{List, [], ◌∷◌, map}
use Prim.Native.Nat.{ℕ, zero, suc, ◌+◌, ◌/◌, ◌%◌}
use native.Mathlib.Nat.{add_assoc, add_comm, mul_comm, mul-div_cancel, mul-mod_left}
use native.Mathlib.Omega.{arith}
use lib.Dec.{eqb, leb, ltb}
use borrow.Author.Tests.{eqb-true, eq-eqb}
use lib.ListN.{length, length-map}
use lib.IntN.{ℤ, pos, neg_ℤ, ◌+ℤ◌, ◌-ℤ◌, ◌*ℤ◌, +ℤ_assoc, +ℤ_comm, neg_ℤ-+ℤ}
use lib.Ieee.{Float}
use Rattle.laws.specs.Lists.{every, weigh}
use Rattle.laws.specs.Triangles.{Tri, flat}
use Rattle.laws.proofs.Bools.{and-apart, and_yes}
use Rattle.laws.proofs.Ints.{‹◌›, ◌⊞◌, ◌⊠◌, neg, rep_eq}
use Rattle.laws.proofs.Triangles.{flat-length, tris_flat}
use Rattle.laws.proofs.Weighing.{weigh-same}
use Rattle.volume.specs.Volume.{Volume, det, six_volume, axis_x, axis_y, axis_z, corner_ok, tri_ok, lists_ok, scale_ok, refused, summed, volume_of}
use Rattle.volume.specs.Triangles.{reversed, negated, turn_by, turned_by, is_tri, SameTris}
use Rattle.volume.specs.declared.Whole.{Whole}

-- ---- the answer by four things that it takes from the triangles: how many there are, whether all are named, whether all are accepted, and the sum

unfoldable pub named_tri : ℕ → Tri → Bool
named_tri n t = ltb t.0 n && ltb t.1 n && ltb t.2 n

named_flat : (n : ℕ) (ts : List Tri) → every (λ v. ltb v n) (flat ts) ≡ every (named_tri n) ts
unfolding flat every named_tri
named_flat n [] = refl
named_flat n (t ∷ ts) =
    ap (λ (b : Bool). ltb t.0 n && (ltb t.1 n && (ltb t.2 n && b))) (named_flat n ts) ∙ go (ltb t.0 n) (ltb t.1 n) (ltb t.2 n) (every (named_tri n) ts)
  where
    go : (a b c d : Bool) → a && (b && (c && d)) ≡ (a && b && c) && d
    go true true c d = refl
    go true false c d = refl
    go false b c d = refl

threes : (ts : List Tri) → length (flat ts) % 3 ≡ 0
threes ts = ap (λ (n : ℕ). n % 3) (flat-length ts ∙ mul_comm 3 (length ts)) ∙ mul-mod_left (length ts) 3

third : (ts : List Tri) → length (flat ts) / 3 ≡ length ts
third ts = ap (λ (n : ℕ). n / 3) (flat-length ts ∙ mul_comm 3 (length ts)) ∙ mul-div_cancel (length ts) (omega arith)

by_four : List Float → Float → ℕ → Bool → Bool → ℤ → Volume
by_four P s n all fine six = cond (eqb (length P % 3) 0 && leb n 357492 && all) (cond (scale_ok s) (cond fine (record { status = 0; six = six }) (refused 13)) (refused 12)) (refused 10)

four_is : (P : List Float) (s : Float) (o : Whole) (ts : List Tri)
    → volume_of P (flat ts) s o ≡ by_four P s (length ts) (every (named_tri (length P / 3)) ts) (every (tri_ok P s o) ts) (six_volume (axis_x P s o) (axis_y P s o) (axis_z P s o) ts)
unfolding volume_of lists_ok summed by_four
four_is P s o ts =
    (λ i. cond (eqb (length P % 3) 0 && eqb (threes ts i) 0 && leb (third ts i) 357492 && named_flat (length P / 3) ts i) (cond (scale_ok s) (summed P s o (tris_flat ts i)) (refused 12)) (refused 10))
    ∙ ap (λ (b : Bool). cond (b && leb (length ts) 357492 && every (named_tri (length P / 3)) ts) (cond (scale_ok s) (summed P s o ts) (refused 12)) (refused 10)) (and-true (eqb (length P % 3) 0))

-- two lists that agree in the four things have the same answer
module _ (P : List Float) (s : Float) (o : Whole) (ts us : List Tri) where
  pub four_same : length ts ≡ length us → every (named_tri (length P / 3)) ts ≡ every (named_tri (length P / 3)) us → every (tri_ok P s o) ts ≡ every (tri_ok P s o) us
      → six_volume (axis_x P s o) (axis_y P s o) (axis_z P s o) ts ≡ six_volume (axis_x P s o) (axis_y P s o) (axis_z P s o) us → volume_of P (flat ts) s o ≡ volume_of P (flat us) s o
  four_same n a b v = four_is P s o ts ∙ (λ i. by_four P s (n i) (a i) (b i) (v i)) ∙ sym (four_is P s o us)

-- the first three are sums too
length-weigh : (ts : List Tri) → length ts ≡ weigh ◌+◌ 0 (λ t. 1) ts
unfolding weigh
length-weigh [] = refl
length-weigh (t ∷ ts) = omega (arith, length-weigh ts)

every-weigh : (p : Tri → Bool) (ts : List Tri) → every p ts ≡ weigh ◌&&◌ true p ts
unfolding weigh every
every-weigh p [] = refl
every-weigh p (t ∷ ts) = ap (λ (b : Bool). p t && b) (every-weigh p ts)

-- and none of the four changes where a triangle's corners are turned
and-turn : (a b c : Bool) → b && c && a ≡ a && b && c
and-turn true b c = and_comm (b && c) true
and-turn false b c = and_comm (b && c) false

det_turned : (X Y Z : ℕ → ℤ) (t : Tri) → det X Y Z (t.1, t.2, t.0) ≡ det X Y Z t
unfolding det
det_turned X Y Z t =
    go (X t.1 *ℤ (Y t.2 *ℤ Z t.0 -ℤ Z t.2 *ℤ Y t.0)) (X t.2 *ℤ (Y t.0 *ℤ Z t.1 -ℤ Z t.0 *ℤ Y t.1)) (X t.0 *ℤ (Y t.1 *ℤ Z t.2 -ℤ Z t.1 *ℤ Y t.2))
  where
    go : (a b c : ℤ) → a +ℤ b +ℤ c ≡ c +ℤ a +ℤ b
    go a b c = rep_eq (‹ a › ⊞ ‹ b › ⊞ ‹ c ›) (‹ c › ⊞ ‹ a › ⊞ ‹ b ›) (omega arith)

-- so what leaves every such sum as it is leaves the answer as it is
module _ (P : List Float) (s : Float) (o : Whole) (ts us : List Tri)
    (same : (A : Type 0) (add : A → A → A) (nought : A) → ((a b c : A) → add (add a b) c ≡ add a (add b c)) → ((a b : A) → add a b ≡ add b a) → (f : Tri → A)
    → ((t : Tri) → f (t.1, t.2, t.0) ≡ f t) → weigh add nought f ts ≡ weigh add nought f us) where
  named_turned : (n : ℕ) (t : Tri) → named_tri n (t.1, t.2, t.0) ≡ named_tri n t
  unfolding named_tri
  named_turned n t = and-turn (ltb t.0 n) (ltb t.1 n) (ltb t.2 n)

  ok_turned : (t : Tri) → tri_ok P s o (t.1, t.2, t.0) ≡ tri_ok P s o t
  unfolding tri_ok
  ok_turned t = and-turn (corner_ok P s o t.0) (corner_ok P s o t.1) (corner_ok P s o t.2)

  every-same : (p : Tri → Bool) → ((t : Tri) → p (t.1, t.2, t.0) ≡ p t) → every p ts ≡ every p us
  every-same p h = every-weigh p ts ∙ same Bool ◌&&◌ true and_assoc and_comm p h ∙ sym (every-weigh p us)

  sums_same : volume_of P (flat ts) s o ≡ volume_of P (flat us) s o
  sums_same =
      four_same P s o ts us
      (length-weigh ts ∙ same ℕ ◌+◌ 0 add_assoc add_comm (λ t. 1) (λ t. refl) ∙ sym (length-weigh us))
      (every-same (named_tri (length P / 3)) (named_turned (length P / 3)))
      (every-same (tri_ok P s o) ok_turned)
      (same ℤ ◌+ℤ◌ (pos 0) +ℤ_assoc +ℤ_comm (det (axis_x P s o) (axis_y P s o) (axis_z P s o)) (det_turned (axis_x P s o) (axis_y P s o) (axis_z P s o)))

-- ---- another order

tri_eq : (t u : Tri) → is_tri t u ≡ true → u ≡ t
unfolding is_tri
tri_eq t u e =
    let x = and-apart (eqb t.0 u.0 && eqb t.1 u.1) (eqb t.2 u.2) e in
    let y = and-apart (eqb t.0 u.0) (eqb t.1 u.1) x.0 in
    let a = eqb-true t.0 u.0 y.0 in
    let b = eqb-true t.1 u.1 y.1 in
    let c = eqb-true t.2 u.2 x.1 in
    λ i. (sym a i, sym b i, sym c i)

tri_self : (t : Tri) → is_tri t t ≡ true
unfolding is_tri
tri_self t = (and_yes (and_yes (eq-eqb t.0 t.0 refl) (eq-eqb t.1 t.1 refl)) (eq-eqb t.2 t.2 refl))

-- THE ORDER OF THE TRIANGLES DOES NOT MATTER
pub volume_order : (P : List Float) (s : Float) (o : Whole) (ts us : List Tri) → SameTris ts us → volume_of P (flat ts) s o ≡ volume_of P (flat us) s o
volume_order P s o ts us S = sums_same P s o ts us (λ A add nought assoc comm f h. weigh-same is_tri tri_eq tri_self add nought assoc comm f ts us S.same)

-- ---- corners turned

module _ {A : Type 0} (add : A → A → A) (nought : A) (f : Tri → A) (h : (t : Tri) → f (t.1, t.2, t.0) ≡ f t) where
  turn-same : (n : ℕ) (t : Tri) → f (turn_by n t) ≡ f t
  unfolding turn_by
  turn-same zero t = refl
  turn-same (suc n) t = turn-same n (t.1, t.2, t.0) ∙ h t

  turned_weigh : (ns : List ℕ) (ts : List Tri) → weigh add nought f (turned_by ns ts) ≡ weigh add nought f ts
  unfolding weigh turned_by
  turned_weigh [] ts = refl
  turned_weigh (n ∷ ns) [] = refl
  turned_weigh (n ∷ ns) (t ∷ ts) = ap₂ add (turn-same n t) (turned_weigh ns ts)

-- CORNERS OF TRIANGLES TURNED: NOTHING CHANGES
pub volume_turned : (P : List Float) (s : Float) (o : Whole) (ns : List ℕ) (ts : List Tri) → volume_of P (flat (turned_by ns ts)) s o ≡ volume_of P (flat ts) s o
volume_turned P s o ns ts = sums_same P s o (turned_by ns ts) ts (λ A add nought assoc comm f h. turned_weigh add nought f h ns ts)

-- ---- reversed

det-reversed : (X Y Z : ℕ → ℤ) (t : Tri) → det X Y Z (reversed t) ≡ neg_ℤ (det X Y Z t)
unfolding det reversed
det-reversed X Y Z t = go (X t.0) (X t.1) (X t.2) (Y t.0) (Y t.1) (Y t.2) (Z t.0) (Z t.1) (Z t.2)
  where
    minus : (y z u v : ℤ) → y *ℤ z -ℤ u *ℤ v ≡ neg_ℤ (u *ℤ v -ℤ y *ℤ z)
    minus y z u v = rep_eq (‹ y › ⊠ ‹ z › ⊞ neg (‹ u › ⊠ ‹ v ›)) (neg (‹ u › ⊠ ‹ v › ⊞ neg (‹ y › ⊠ ‹ z ›))) (omega arith)

    times : (x p : ℤ) → x *ℤ neg_ℤ p ≡ neg_ℤ (x *ℤ p)
    times x p = rep_eq (‹ x › ⊠ neg ‹ p ›) (neg (‹ x › ⊠ ‹ p ›)) (omega arith)

    comm : (u v : ℤ) → u *ℤ v ≡ v *ℤ u
    comm u v = rep_eq (‹ u › ⊠ ‹ v ›) (‹ v › ⊠ ‹ u ›) (omega arith)

    sort : (a b c : ℤ) → neg_ℤ a +ℤ neg_ℤ b +ℤ neg_ℤ c ≡ neg_ℤ (a +ℤ c +ℤ b)
    sort a b c = rep_eq (neg ‹ a › ⊞ neg ‹ b › ⊞ neg ‹ c ›) (neg (‹ a › ⊞ ‹ c › ⊞ ‹ b ›)) (omega arith)

    -- the plane of a side the other way
    back : (x y z u v : ℤ) → x *ℤ (y *ℤ z -ℤ u *ℤ v) ≡ neg_ℤ (x *ℤ (v *ℤ u -ℤ z *ℤ y))
    back x y z u v = ap (◌*ℤ◌ x) (minus y z u v ∙ ap₂ (λ (p q : ℤ). neg_ℤ (p -ℤ q)) (comm u v) (comm y z)) ∙ times x (v *ℤ u -ℤ z *ℤ y)

    go : (a b c d e f g h i : ℤ)
        → a *ℤ (f *ℤ h -ℤ i *ℤ e) +ℤ c *ℤ (e *ℤ g -ℤ h *ℤ d) +ℤ b *ℤ (d *ℤ i -ℤ g *ℤ f)
        ≡ neg_ℤ (a *ℤ (e *ℤ i -ℤ h *ℤ f) +ℤ b *ℤ (f *ℤ g -ℤ i *ℤ d) +ℤ c *ℤ (d *ℤ h -ℤ g *ℤ e))
    go a b c d e f g h i =
        (λ j. back a f h i e j +ℤ back c e g h d j +ℤ back b d i g f j)
        ∙ sort (a *ℤ (e *ℤ i -ℤ h *ℤ f)) (c *ℤ (d *ℤ h -ℤ g *ℤ e)) (b *ℤ (f *ℤ g -ℤ i *ℤ d))

module _ (X Y Z : ℕ → ℤ) where
  sum-reversed : (ts : List Tri) → six_volume X Y Z (map reversed ts) ≡ neg_ℤ (six_volume X Y Z ts)
  unfolding weigh
  sum-reversed [] = refl
  sum-reversed (t ∷ ts) = ap₂ ◌+ℤ◌ (det-reversed X Y Z t) (sum-reversed ts) ∙ sym (neg_ℤ-+ℤ (det X Y Z t) (six_volume X Y Z ts))

every-reversed : (p : Tri → Bool) → ((t : Tri) → p (reversed t) ≡ p t) → (ts : List Tri) → every p (map reversed ts) ≡ every p ts
unfolding every
every-reversed p h [] = refl
every-reversed p h (t ∷ ts) = ap₂ ◌&&◌ (h t) (every-reversed p h ts)

and-swap : (a b c : Bool) → a && c && b ≡ a && b && c
and-swap true b c = and_comm c b
and-swap false b c = refl

named-reversed : (n : ℕ) (t : Tri) → named_tri n (reversed t) ≡ named_tri n t
unfolding named_tri reversed
named-reversed n t = and-swap (ltb t.0 n) (ltb t.1 n) (ltb t.2 n)

ok_reversed : (P : List Float) (s : Float) (o : Whole) (t : Tri) → tri_ok P s o (reversed t) ≡ tri_ok P s o t
unfolding tri_ok reversed
ok_reversed P s o t = and-swap (corner_ok P s o t.0) (corner_ok P s o t.1) (corner_ok P s o t.2)

-- a refusal's sum is 0, which is its own negation
four-negated : (P : List Float) (s : Float) (n : ℕ) (all fine : Bool) (six : ℤ) → by_four P s n all fine (neg_ℤ six) ≡ negated (by_four P s n all fine six)
unfolding by_four negated refused
four-negated P s n all fine six = go (eqb (length P % 3) 0 && leb n 357492 && all) (scale_ok s) fine
  where
    go : (a b c : Bool)
        → cond a (cond b (cond c (record { status = 0; six = neg_ℤ six }) (refused 13)) (refused 12)) (refused 10)
        ≡ negated (cond a (cond b (cond c (record { status = 0; six = six }) (refused 13)) (refused 12)) (refused 10))
    go true true true = refl
    go true true false = refl
    go true false c = refl
    go false b c = refl

-- EVERY TRIANGLE REVERSED: THE SAME STATUS, THE SUM WITH THE OTHER SIGN
pub volume_reversed : (P : List Float) (s : Float) (o : Whole) (ts : List Tri) → volume_of P (flat (map reversed ts)) s o ≡ negated (volume_of P (flat ts) s o)
volume_reversed P s o ts =
    let n = length P / 3 in
    four_is P s o (map reversed ts)
    ∙ (λ i. by_four P s (length-map ts reversed i) (every-reversed (named_tri n) (named-reversed n) ts i) (every-reversed (tri_ok P s o) (ok_reversed P s o) ts i)
    (sum-reversed (axis_x P s o) (axis_y P s o) (axis_z P s o) ts i))
    ∙ four-negated P s (length ts) (every (named_tri n) ts) (every (tri_ok P s o) ts) (six_volume (axis_x P s o) (axis_y P s o) (axis_z P s o) ts)
    ∙ ap negated (sym (four_is P s o ts))
