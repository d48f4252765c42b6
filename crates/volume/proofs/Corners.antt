-- Corners and triangles by what the coordinates answer: one law for each way out of the code. Assumes nothing.
use mathlib.Core.Path.{◌≡◌, refl, sym, ap, ◌∙◌, subst}
use mathlib.Core.Bool.{Bool, true, false, ◌&&◌, cond, false≢true}
use mathlib.Core.List.{List}
use mathlib.Core.Option.{Option as Maybe, none, some}
use Prim.Native.Nat.{ℕ, ◌+◌, ◌*◌, ◌≤◌}
use native.Mathlib.Omega.{arith}
use borrow.Author.Tests.{leb-true}
use lib.IntN.{ℤ, ◌-ℤ◌}
use lib.Ieee.{Float}
use mir.Syntax.{w64}
use mir.Val.{SFits}
use mir.ValLaws.{to_z-of_z}
use Rattle.std.specs.Prelude.{Some, None}
use Rattle.laws.specs.Ints.{size_of}
use Rattle.laws.proofs.Bools.{and-apart}
use Rattle.laws.proofs.Sizes.{rd, rd-small}
use Rattle.units.specs.Coordinates.{within, less, coordinate_of}
use Rattle.volume.specs.Volume.{det9, det, scaled, axis_x, axis_y, axis_z, corner_ok, tri_ok}
use Rattle.volume.specs.Parts.{whole3, Near, corner_of, term_of}
use Rattle.volume.proofs.Determinants.{det9-most}
use Rattle.volume.specs.declared.Whole.{Whole}

-- ---- a coordinate

small : (w : Maybe ℤ) (o : ℤ) → within w o ≡ true → size_of (less w o) ≤ 10000
unfolding within less
small none o e = absurd (false≢true e)
small (some z) o e = leb-true (size_of (z -ℤ o)) 10000 e

pub record Got (w : Maybe ℤ) (o x : ℤ) : Type 0 where
  pub ok : within w o ≡ true
  pub is : x ≡ less w o
  pub most : size_of x ≤ 10000

module _ (w : Maybe ℤ) (o : ℤ) (f : SFits w64 o) where
  plain : coordinate_of w (rd o) ≡ coordinate_of w o
  plain = ap (coordinate_of w) (to_z-of_z w64 o f)

  not_ok : None ≡ coordinate_of w (rd o) → within w o ≡ false
  unfolding coordinate_of
  not_ok e = go (within w o) refl (e ∙ plain)
    where
      go : (b : Bool) → within w o ≡ b → None ≡ cond b (Some (less w o)) None → within w o ≡ false
      go true h k = let z : ◌≡◌ {A = ℕ} 0 1 = cc in absurd (omega arith)
      go false h k = h

  pub got : (x : ℤ) → Some x ≡ coordinate_of w (rd o) → Got w o x
  unfolding coordinate_of
  got x e = go (within w o) refl (e ∙ plain)
    where
      go : (b : Bool) → within w o ≡ b → Some x ≡ cond b (Some (less w o)) None → Got w o x
      go true h k =
          let i : x ≡ less w o = cc in
          record { ok = h; is = i; most = subst (λ (y : ℤ). size_of y ≤ 10000) (sym i) (small w o h) }
      go false h k = let z : ◌≡◌ {A = ℕ} 0 1 = cc in absurd (omega arith)

-- ---- a corner

module _ (P : List Float) (s : Float) (v : ℕ) (o : Whole) where
  abbrev wx : Maybe ℤ
  wx = scaled P s (3 * v)

  abbrev wy : Maybe ℤ
  wy = scaled P s (3 * v + 1)

  abbrev wz : Maybe ℤ
  wz = scaled P s (3 * v + 2)

  pub corner-one : SFits w64 o.x → None ≡ coordinate_of wx (rd o.x) → None ≡ corner_of P s o v
  unfolding corner_of corner_ok
  corner-one f e = rw (not_ok wx o.x f e)

  pub corner-two : {x : ℤ} → Got wx o.x x → SFits w64 o.y → None ≡ coordinate_of wy (rd o.y) → None ≡ corner_of P s o v
  unfolding corner_of corner_ok
  corner-two a f e = rw (a.ok, not_ok wy o.y f e)

  pub corner-three : {x y : ℤ} → Got wx o.x x → Got wy o.y y → SFits w64 o.z → None ≡ coordinate_of wz (rd o.z) → None ≡ corner_of P s o v
  unfolding corner_of corner_ok
  corner-three a b f e = rw (a.ok, b.ok, not_ok wz o.z f e)

  pub corner_in : {x y z : ℤ} → Got wx o.x x → Got wy o.y y → Got wz o.z z → Some (whole3 (rd x) (rd y) (rd z)) ≡ corner_of P s o v
  unfolding corner_of corner_ok axis_x axis_y axis_z
  corner_in {x} {y} {z} a b c =
      (λ i. Some (whole3 ((rd-small x (omega (arith, a.most)) ∙ a.is) i) ((rd-small y (omega (arith, b.most)) ∙ b.is) i) ((rd-small z (omega (arith, c.most)) ∙ c.is) i)))
      ∙ rw (a.ok, b.ok, c.ok)

-- ---- a triangle

pub record Has (P : List Float) (s : Float) (o : Whole) (v : ℕ) (p : Whole) : Type 0 where
  pub ok : corner_ok P s o v ≡ true
  pub is : p ≡ whole3 (axis_x P s o v) (axis_y P s o v) (axis_z P s o v)
  pub near : Near p

module _ (P : List Float) (s : Float) (o : Whole) (v : ℕ) where
  pub corner-low : corner_ok P s o v ≡ true → Near (whole3 (axis_x P s o v) (axis_y P s o v) (axis_z P s o v))
  unfolding corner_ok axis_x axis_y axis_z
  corner-low e =
      let a = and-apart (within (scaled P s (3 * v)) o.x && within (scaled P s (3 * v + 1)) o.y) (within (scaled P s (3 * v + 2)) o.z) e in
      let b = and-apart (within (scaled P s (3 * v)) o.x) (within (scaled P s (3 * v + 1)) o.y) a.0 in
      (small (scaled P s (3 * v)) o.x b.0, small (scaled P s (3 * v + 1)) o.y b.1, small (scaled P s (3 * v + 2)) o.z a.1)

  pub lacks : None ≡ corner_of P s o v → corner_ok P s o v ≡ false
  unfolding corner_of
  lacks e = go (corner_ok P s o v) refl e
    where
      go : (b : Bool) → corner_ok P s o v ≡ b → None ≡ cond b (Some (whole3 (axis_x P s o v) (axis_y P s o v) (axis_z P s o v))) None → corner_ok P s o v ≡ false
      go true h k = let z : ◌≡◌ {A = ℕ} 0 1 = cc in absurd (omega arith)
      go false h k = h

  pub has : (p : Whole) → Some p ≡ corner_of P s o v → Has P s o v p
  unfolding corner_of
  has p e = go (corner_ok P s o v) refl e
    where
      go : (b : Bool) → corner_ok P s o v ≡ b → Some p ≡ cond b (Some (whole3 (axis_x P s o v) (axis_y P s o v) (axis_z P s o v))) None → Has P s o v p
      go true h k =
          let i : p ≡ whole3 (axis_x P s o v) (axis_y P s o v) (axis_z P s o v) = cc in
          record { ok = h; is = i; near = subst Near (sym i) (corner-low h) }
      go false h k = let z : ◌≡◌ {A = ℕ} 0 1 = cc in absurd (omega arith)

module _ (P : List Float) (s : Float) (o : Whole) (a b c : ℕ) where
  pub tri_one : corner_ok P s o a ≡ false → None ≡ term_of P s o (a, b, c)
  unfolding term_of tri_ok
  tri_one e = rw e

  pub tri_two : corner_ok P s o a ≡ true → corner_ok P s o b ≡ false → None ≡ term_of P s o (a, b, c)
  unfolding term_of tri_ok
  tri_two e f = rw (e, f)

  pub tri_three : corner_ok P s o a ≡ true → corner_ok P s o b ≡ true → corner_ok P s o c ≡ false → None ≡ term_of P s o (a, b, c)
  unfolding term_of tri_ok
  tri_three e f g = rw (e, f, g)

  pub tri_six : {p q r : Whole} → Has P s o a p → Has P s o b q → Has P s o c r → (d : ℤ) → d ≡ det9 p.x p.y p.z q.x q.y q.z r.x r.y r.z → Some (rd d) ≡ term_of P s o (a, b, c)
  unfolding term_of tri_ok det
  tri_six {p} {q} {r} A B C d e =
      let m : size_of d ≤ 6000000000000 =
      subst (λ (y : ℤ). size_of y ≤ 6000000000000) (sym e)
      (det9-most p.x p.y p.z q.x q.y q.z r.x r.y r.z A.near.0 A.near.1 A.near.2 B.near.0 B.near.1 B.near.2 C.near.0 C.near.1 C.near.2) in
      ap Some
      (rd-small d (omega arith) ∙ e
      ∙ (λ i. det9 (A.is i).x (A.is i).y (A.is i).z (B.is i).x (B.is i).y (B.is i).z (C.is i).x (C.is i).y (C.is i).z))
      ∙ rw (A.ok, B.ok, C.ok)
