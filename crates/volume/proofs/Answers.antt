-- The answer by its tests: what the lists that are taken are, each refusal, what status 0 says, and that the sum fits an i64. Assumes nothing.
use mathlib.Core.Path.{◌≡◌, refl, sym, ◌∙◌, subst}
use mathlib.Core.Bool.{Bool, true, false, ◌&&◌, cond}
use mathlib.Core.List.{List, [], ◌∷◌}
use Prim.Native.Nat.{ℕ, ◌*◌, ◌/◌, ◌%◌, ◌≤◌}
use native.Mathlib.Omega.{arith}
use lib.Dec.{eqb, leb, ltb}
use borrow.Author.Tests.{eqb-true, eq-eqb, leb-true, le-leb}
use lib.ListN.{length}
use lib.Ieee.{Float}
use mir.Syntax.{w64}
use mir.Val.{SFits}
use Rattle.laws.specs.Ints.{size_of}
use Rattle.laws.specs.Lists.{every, weigh}
use Rattle.laws.specs.Triangles.{Tri, tris_of}
use Rattle.laws.proofs.Bools.{and-apart, and_yes}
use Rattle.laws.proofs.Sizes.{size-add, size_fits}
use Rattle.laws.proofs.Triangles.{tris_length}
use Rattle.volume.specs.Volume.{Volume, det, six_volume, axis_x, axis_y, axis_z, tri_ok, lists_ok, scale_ok, refused, summed, volume_of}
use Rattle.volume.specs.declared.Whole.{Whole}
use Rattle.volume.proofs.Sums.{det-most}

-- ---- the lists

pub record Fits (P : List Float) (T : List ℕ) : Type 0 where
  pub positions : length P % 3 ≡ 0
  pub triangles : length T % 3 ≡ 0
  pub few : length T / 3 ≤ 357492
  pub named : every (λ v. ltb v (length P / 3)) T ≡ true

module _ (P : List Float) (T : List ℕ) where
  pub lists-fit : lists_ok P T ≡ true → Fits P T
  unfolding lists_ok
  lists-fit e =
      let a = eqb (length P % 3) 0 in
      let b = eqb (length T % 3) 0 in
      let c = leb (length T / 3) 357492 in
      let x = and-apart (a && b && c) (every (λ v. ltb v (length P / 3)) T) e in
      let y = and-apart (a && b) c x.0 in
      let z = and-apart a b y.0 in
      record { positions = eqb-true (length P % 3) 0 z.0; triangles = eqb-true (length T % 3) 0 z.1; few = leb-true (length T / 3) 357492 y.1; named = x.1 }

  pub fit-lists : Fits P T → lists_ok P T ≡ true
  unfolding lists_ok
  fit-lists f = and_yes (and_yes (and_yes (eq-eqb (length P % 3) 0 f.positions) (eq-eqb (length T % 3) 0 f.triangles)) (le-leb (length T / 3) 357492 f.few)) f.named

-- ---- each refusal, and the sum

module _ (P : List Float) (T : List ℕ) (s : Float) (o : Whole) (r : Volume) where
  pub answer_ten : lists_ok P T ≡ false → r ≡ refused 10 → r ≡ volume_of P T s o
  unfolding volume_of
  answer_ten a g = g ∙ rw a

  pub answer_twelve : lists_ok P T ≡ true → scale_ok s ≡ false → r ≡ refused 12 → r ≡ volume_of P T s o
  unfolding volume_of
  answer_twelve a b g = g ∙ rw (a, b)

  pub answer-sum : lists_ok P T ≡ true → scale_ok s ≡ true → r ≡ summed P s o (tris_of T) → r ≡ volume_of P T s o
  unfolding volume_of
  answer-sum a b g = g ∙ rw (a, b)

-- ---- what status 0 says

pub record Taken (P : List Float) (s : Float) (o : Whole) (T : List ℕ) : Type 0 where
  pub lists : lists_ok P T ≡ true
  pub scale : scale_ok s ≡ true
  pub fine : every (tri_ok P s o) (tris_of T) ≡ true
  pub is : volume_of P T s o ≡ record { status = 0; six = six_volume (axis_x P s o) (axis_y P s o) (axis_z P s o) (tris_of T) }

pub status-zero : (P : List Float) (s : Float) (o : Whole) (T : List ℕ) → (volume_of P T s o).status ≡ 0 → Taken P s o T
unfolding volume_of summed refused
status-zero P s o T e = go (lists_ok P T) (scale_ok s) (every (tri_ok P s o) (tris_of T)) refl refl refl e
  where
    answer : Bool → Bool → Bool → Volume
    answer a b c = cond a (cond b (cond c (record { status = 0; six = six_volume (axis_x P s o) (axis_y P s o) (axis_z P s o) (tris_of T) }) (refused 13)) (refused 12)) (refused 10)

    go : (a b c : Bool) → lists_ok P T ≡ a → scale_ok s ≡ b → every (tri_ok P s o) (tris_of T) ≡ c → (answer a b c).status ≡ 0 → Taken P s o T
    go true true true f g h z = record { lists = f; scale = g; fine = h; is = λ i. answer (f i) (g i) (h i) }
    go true true false f g h z = absurd (omega arith)
    go true false c f g h z = absurd (omega arith)
    go false b c f g h z = absurd (omega arith)

-- ---- the sum fits

module _ (P : List Float) (s : Float) (o : Whole) where
  sum-most : (ts : List Tri) → every (tri_ok P s o) ts ≡ true → size_of (six_volume (axis_x P s o) (axis_y P s o) (axis_z P s o) ts) ≤ length ts * 6000000000000
  unfolding every weigh size_of
  sum-most [] e = omega arith
  sum-most (t ∷ ts) e =
      let a = and-apart (tri_ok P s o t) (every (tri_ok P s o) ts) e in
      let d = det (axis_x P s o) (axis_y P s o) (axis_z P s o) t in
      let v = six_volume (axis_x P s o) (axis_y P s o) (axis_z P s o) ts in
      omega (arith, size-add d v, det-most P s o t a.0, sum-most ts a.1)

  -- THE EXACT SUM FITS AN i64
  pub sum-size : (T : List ℕ) → (volume_of P T s o).status ≡ 0 → size_of (volume_of P T s o).six ≤ 357492 * 6000000000000
  sum-size T e =
      let t = status-zero P s o T e in
      subst (λ (v : Volume). size_of v.six ≤ 357492 * 6000000000000) (sym t.is) (omega (arith, sum-most (tris_of T) t.fine, tris_length T, (lists-fit P T t.lists).few))

  pub sum_fits : (T : List ℕ) → (volume_of P T s o).status ≡ 0 → SFits w64 (volume_of P T s o).six
  sum_fits T e = size_fits (volume_of P T s o).six (omega (arith, sum-size T e))
