-- Of a list whose sides balance the sum is the same from every whole origin that is accepted. Assumes nothing.
use mathlib.Core.Path.{◌≡◌, refl, sym, ap, ap₂, ◌∙◌}
use mathlib.Core.List.{List, [], ◌∷◌, map}
use mathlib.Core.Option.{Option, none, some}
use Prim.Native.Nat.{ℕ, ◌+◌, ◌*◌}
use native.Mathlib.Omega.{arith}
use lib.IntN.{ℤ, pos, neg_ℤ, ◌+ℤ◌, ◌-ℤ◌, ◌*ℤ◌, +ℤ_assoc, +ℤ_comm, +ℤ_idl, +ℤ_idr, *ℤ-zero, neg_ℤ-+ℤ}
use lib.Ieee.{Float}
use Rattle.laws.specs.Lists.{weigh}
use Rattle.laws.specs.Couples.{Pair, turn}
use Rattle.laws.specs.Triangles.{Tri, tris_of, sides_of, Balanced}
use Rattle.laws.proofs.Couples.{turn-count, same-weigh}
use Rattle.laws.proofs.Ints.{nat, ‹◌›, ◌⊞◌, ◌⊠◌, neg, rep_eq, mul_addℤ, add_mulℤ, self_neg}
use Rattle.units.specs.Coordinates.{less}
use Rattle.volume.specs.Volume.{det, six_volume, scaled, axis_x, axis_y, axis_z, volume_of}
use Rattle.volume.specs.declared.Whole.{Whole}
use Rattle.volume.proofs.Answers.{status-zero}

-- ---- the planes of all sides of a balanced list cancel

-- what the sides add up to in the plane of two axes
plane : (Y Z : ℕ → ℤ) → Pair → ℤ
plane Y Z e = Y e.0 *ℤ Z e.1 -ℤ Z e.0 *ℤ Y e.1

plane_turn : (Y Z : ℕ → ℤ) (x : Pair) → plane Y Z (turn x) ≡ neg_ℤ (plane Y Z x)
unfolding plane turn
plane_turn Y Z x =
    let a = ‹ Y x.0 › in
    let b = ‹ Y x.1 › in
    let c = ‹ Z x.0 › in
    let d = ‹ Z x.1 › in
    rep_eq (b ⊠ c ⊞ neg (d ⊠ a)) (neg (a ⊠ d ⊞ neg (c ⊠ b))) (omega arith)

total : (Pair → ℤ) → List Pair → ℤ
total f = weigh ◌+ℤ◌ (pos 0) f

total-turn : (f : Pair → ℤ) → ((x : Pair) → f (turn x) ≡ neg_ℤ (f x)) → (L : List Pair) → total f (map turn L) ≡ neg_ℤ (total f L)
unfolding total weigh
total-turn f h [] = refl
total-turn f h (x ∷ L) = ap₂ ◌+ℤ◌ (h x) (total-turn f h L) ∙ sym (neg_ℤ-+ℤ (f x) (total f L))

planes_zero : (ts : List Tri) → Balanced ts → (Y Z : ℕ → ℤ) → total (plane Y Z) (sides_of ts) ≡ pos 0
unfolding total
planes_zero ts B Y Z =
    self_neg (total (plane Y Z) (sides_of ts))
    (same-weigh ◌+ℤ◌ (pos 0) +ℤ_assoc +ℤ_comm (plane Y Z) (sides_of ts) (map turn (sides_of ts)) (λ p q. B.even p q ∙ sym (turn-count p q (sides_of ts)))
    ∙ total-turn (plane Y Z) (plane_turn Y Z) (sides_of ts))

-- ---- a move along the first axis adds d times the planes of the triangle's sides

regroup : (a b c d e g s h : ℤ) → (a +ℤ d) +ℤ (b +ℤ e) +ℤ (c +ℤ g) +ℤ (s +ℤ h) ≡ (a +ℤ b +ℤ c) +ℤ s +ℤ (g +ℤ (d +ℤ (e +ℤ h)))
regroup a b c d e g s h =
    rep_eq
    ((‹ a › ⊞ ‹ d ›) ⊞ (‹ b › ⊞ ‹ e ›) ⊞ (‹ c › ⊞ ‹ g ›) ⊞ (‹ s › ⊞ ‹ h ›))
    (‹ a › ⊞ ‹ b › ⊞ ‹ c › ⊞ ‹ s › ⊞ (‹ g › ⊞ (‹ d › ⊞ (‹ e › ⊞ ‹ h ›))))
    (omega arith)

shift_one : (x y z d p q r s t : ℤ)
    → ((x +ℤ d) *ℤ p +ℤ (y +ℤ d) *ℤ q +ℤ (z +ℤ d) *ℤ r) +ℤ (s +ℤ d *ℤ t) ≡ ((x *ℤ p +ℤ y *ℤ q +ℤ z *ℤ r) +ℤ s) +ℤ d *ℤ (r +ℤ (p +ℤ (q +ℤ t)))
shift_one x y z d p q r s t = simp (add_mulℤ, mul_addℤ) (regroup (x *ℤ p) (y *ℤ q) (z *ℤ r) (d *ℤ p) (d *ℤ q) (d *ℤ r) s (d *ℤ t))

sum_shift : (X Y Z : ℕ → ℤ) (d : ℤ) (ts : List Tri) → six_volume (λ p. X p +ℤ d) Y Z ts ≡ six_volume X Y Z ts +ℤ d *ℤ total (plane Y Z) (sides_of ts)
unfolding det plane total weigh sides_of
sum_shift X Y Z d [] = sym (+ℤ_idl (d *ℤ pos 0) ∙ *ℤ-zero d)
sum_shift X Y Z d (t ∷ ts) =
    ap (◌+ℤ◌ (det (λ p. X p +ℤ d) Y Z t)) (sum_shift X Y Z d ts)
    ∙ shift_one (X t.0) (X t.1) (X t.2) d (plane Y Z (t.1, t.2)) (plane Y Z (t.2, t.0)) (plane Y Z (t.0, t.1)) (six_volume X Y Z ts) (total (plane Y Z) (sides_of ts))

-- ---- the axes in turn

mul_subℤ : (x y z : ℤ) → x *ℤ (y -ℤ z) ≡ x *ℤ y -ℤ x *ℤ z
mul_subℤ x y z = rep_eq (‹ x › ⊠ (‹ y › ⊞ neg ‹ z ›)) (‹ x › ⊠ ‹ y › ⊞ neg (‹ x › ⊠ ‹ z ›)) (omega arith)

rotate : (x y z : ℤ) → x *ℤ (y *ℤ z) ≡ y *ℤ (z *ℤ x)
rotate x y z = rep_eq (‹ x › ⊠ (‹ y › ⊠ ‹ z ›)) (‹ y › ⊠ (‹ z › ⊠ ‹ x ›)) (omega arith)

resort : (a b c d e g : ℤ) → (a -ℤ b) +ℤ (c -ℤ d) +ℤ (e -ℤ g) ≡ (e -ℤ d) +ℤ (a -ℤ g) +ℤ (c -ℤ b)
resort a b c d e g =
    rep_eq ((‹ a › ⊞ neg ‹ b ›) ⊞ (‹ c › ⊞ neg ‹ d ›) ⊞ (‹ e › ⊞ neg ‹ g ›)) ((‹ e › ⊞ neg ‹ d ›) ⊞ (‹ a › ⊞ neg ‹ g ›) ⊞ (‹ c › ⊞ neg ‹ b ›)) (omega arith)

cycle : (a b c e f g h i j : ℤ)
    → a *ℤ (f *ℤ j -ℤ i *ℤ g) +ℤ b *ℤ (g *ℤ h -ℤ j *ℤ e) +ℤ c *ℤ (e *ℤ i -ℤ h *ℤ f)
    ≡ e *ℤ (i *ℤ c -ℤ b *ℤ j) +ℤ f *ℤ (j *ℤ a -ℤ c *ℤ h) +ℤ g *ℤ (h *ℤ b -ℤ a *ℤ i)
cycle a b c e f g h i j =
    simp mul_subℤ
    (rw (rotate a f j, rotate b g h, rotate c e i, rotate e b j, rotate f c h, rotate g a i)
    (resort (f *ℤ (j *ℤ a)) (a *ℤ (i *ℤ g)) (g *ℤ (h *ℤ b)) (b *ℤ (j *ℤ e)) (e *ℤ (i *ℤ c)) (c *ℤ (h *ℤ f))))

det_cycle : (X Y Z : ℕ → ℤ) (t : Tri) → det X Y Z t ≡ det Y Z X t
unfolding det
det_cycle X Y Z t = cycle (X t.0) (X t.1) (X t.2) (Y t.0) (Y t.1) (Y t.2) (Z t.0) (Z t.1) (Z t.2)

sum_cycle : (X Y Z : ℕ → ℤ) (ts : List Tri) → six_volume X Y Z ts ≡ six_volume Y Z X ts
unfolding weigh
sum_cycle X Y Z [] = refl
sum_cycle X Y Z (t ∷ ts) = ap₂ ◌+ℤ◌ (det_cycle X Y Z t) (sum_cycle X Y Z ts)

-- ---- the origin moved

module _ (ts : List Tri) (B : Balanced ts) where
  move_first : (X Y Z : ℕ → ℤ) (d : ℤ) → six_volume (λ p. X p +ℤ d) Y Z ts ≡ six_volume X Y Z ts
  move_first X Y Z d =
      sum_shift X Y Z d ts
      ∙ ap (λ (k : ℤ). six_volume X Y Z ts +ℤ d *ℤ k) (planes_zero ts B Y Z)
      ∙ ap (λ (k : ℤ). six_volume X Y Z ts +ℤ k) (*ℤ-zero d) ∙ +ℤ_idr (six_volume X Y Z ts)

  pub plain_moved : (X Y Z : ℕ → ℤ) (a b c : ℤ) → six_volume (λ p. X p +ℤ a) (λ p. Y p +ℤ b) (λ p. Z p +ℤ c) ts ≡ six_volume X Y Z ts
  plain_moved X Y Z a b c =
      move_first X (λ p. Y p +ℤ b) (λ p. Z p +ℤ c) a
      ∙ sum_cycle X (λ p. Y p +ℤ b) (λ p. Z p +ℤ c) ts ∙ move_first Y (λ p. Z p +ℤ c) X b
      ∙ sum_cycle Y (λ p. Z p +ℤ c) X ts ∙ move_first Z X Y c ∙ sum_cycle Z X Y ts

less_moved : (w : Option ℤ) (o q : ℤ) → less w q ≡ less w o +ℤ (o -ℤ q)
unfolding less
less_moved none o q = rep_eq (nat 0 ⊞ neg ‹ q ›) (nat 0 ⊞ neg ‹ o › ⊞ (‹ o › ⊞ neg ‹ q ›)) (omega arith)
less_moved (some z) o q = rep_eq (‹ z › ⊞ neg ‹ q ›) (‹ z › ⊞ neg ‹ o › ⊞ (‹ o › ⊞ neg ‹ q ›)) (omega arith)

module _ (P : List Float) (s : Float) (o q : Whole) where
  sum_moved : (ts : List Tri) → Balanced ts
      → six_volume (axis_x P s o) (axis_y P s o) (axis_z P s o) ts ≡ six_volume (axis_x P s q) (axis_y P s q) (axis_z P s q) ts
  unfolding axis_x axis_y axis_z
  sum_moved ts B =
      sym (plain_moved ts B (axis_x P s o) (axis_y P s o) (axis_z P s o) (o.x -ℤ q.x) (o.y -ℤ q.y) (o.z -ℤ q.z))
      ∙ (λ i. six_volume (λ v. sym (less_moved (scaled P s (3 * v)) o.x q.x) i) (λ v. sym (less_moved (scaled P s (3 * v + 1)) o.y q.y) i) (λ v. sym (less_moved (scaled P s (3 * v + 2)) o.z q.z) i) ts)

  -- MOVING THE WHOLE ORIGIN
  pub volume_moved : (T : List ℕ) → Balanced (tris_of T) → (volume_of P T s o).status ≡ 0 → (volume_of P T s q).status ≡ 0 → volume_of P T s o ≡ volume_of P T s q
  volume_moved T B a b = (status-zero P s o T a).is ∙ (λ i. record { status = 0; six = sum_moved (tris_of T) B i }) ∙ sym (status-zero P s q T b).is
