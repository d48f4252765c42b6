-- The sum's loop: what is added up after k triangles, how large it is, and each way out. Assumes nothing.
use mathlib.Core.Path.{◌≡◌, refl, sym, ap, ap₂, ◌∙◌, subst}
use mathlib.Core.Bool.{Bool, true, false, ◌&&◌, cond}
use mathlib.Core.List.{List, [], ◌∷◌, ◌++◌}
use Prim.Native.Nat.{ℕ, ◌+◌, ◌*◌, ◌/◌, ◌≤◌, ◌<◌}
use native.Mathlib.Omega.{arith}
use lib.Dec.{ltb}
use borrow.Author.Tests.{ltb-true}
use lib.IntN.{ℤ, pos, ◌+ℤ◌, +ℤ_assoc, +ℤ_idl, +ℤ_idr}
use lib.ListN.{length, get_or, drop, length-append, length-drop, get_or-append}
use lib.Seq.{drop-append_seam, drop-drop}
use Rattle.std.proofs.lemmas.List.{get_or-drop}
use lib.Ieee.{Float}
use mir.Syntax.{w64}
use mir.Val.{SFits}
use mir.ValLaws.{to_z-of_z}
use Rattle.std.specs.Prelude.{Option, Some, None, Result, Ok, Err}
use Rattle.laws.specs.Ints.{size_of}
use Rattle.laws.specs.Lists.{every, weigh, All}
use Rattle.laws.specs.Ranges.{each}
use Rattle.laws.specs.Triangles.{Tri, tris_of}
use Rattle.laws.proofs.Bools.{and-apart, true_T}
use Rattle.laws.proofs.Lists.{all_member, every-all, every_false, every_append}
use Rattle.laws.proofs.Ranges.{each_more, each-one-length, each-one-at}
use Rattle.laws.proofs.Sizes.{rd, rd-small, size-add, size_fits}
use Rattle.laws.proofs.Triangles.{tri_at, tris_each}
use Rattle.laws.proofs.Weighing.{weigh-append}
use Rattle.volume.specs.Volume.{det, six_volume, axis_x, axis_y, axis_z, corner_ok, tri_ok, told, summed}
use Rattle.volume.specs.Parts.{term_of}
use Rattle.volume.specs.declared.Whole.{Whole}
use Rattle.std.specs.Option.{ok_or}
use Rattle.volume.specs.declared.Refusal.{Refusal}
use Rattle.volume.specs.declared.Refusal.TheVariants.{Corner}
use Rattle.volume.proofs.Determinants.{det9-most}
use Rattle.volume.proofs.Corners.{corner-low}

-- ---- a vertex that a triangle names

pub named : (P : List Float) (T : List ℕ) (i v : ℕ) → every (λ v. ltb v (length P / 3)) T ≡ true → i < length T → v ≡ get_or T i 0 → 3 * v + 2 < length P
named P T i v r h e =
    let a : All (λ v. ltb v (length P / 3) ≡ true) T = every-all (λ v. ltb v (length P / 3)) T (true_T (every (λ v. ltb v (length P / 3)) T) r) in
    let l : get_or T i 0 < length P / 3 = ltb-true (get_or T i 0) (length P / 3) (all_member 0 (λ v. ltb v (length P / 3) ≡ true) T a i h) in
    omega arith

-- ---- the size of a determinant

module _ (P : List Float) (s : Float) (o : Whole) where
  abbrev X : ℕ → ℤ
  X = axis_x P s o

  abbrev Y : ℕ → ℤ
  Y = axis_y P s o

  abbrev Z : ℕ → ℤ
  Z = axis_z P s o

  pub det-most : (t : Tri) → tri_ok P s o t ≡ true → size_of (det X Y Z t) ≤ 6000000000000
  unfolding det tri_ok
  det-most t e =
      let u = and-apart (corner_ok P s o t.0 && corner_ok P s o t.1) (corner_ok P s o t.2) e in
      let w = and-apart (corner_ok P s o t.0) (corner_ok P s o t.1) u.0 in
      let A = corner-low P s o t.0 w.0 in
      let B = corner-low P s o t.1 w.1 in
      let C = corner-low P s o t.2 u.1 in
      det9-most (X t.0) (Y t.0) (Z t.0) (X t.1) (Y t.1) (Z t.1) (X t.2) (Y t.2) (Z t.2) A.0 A.1 A.2 B.0 B.1 B.2 C.0 C.1 C.2

  -- ---- the sum over the first triangles

  module _ (T : List ℕ) where
    abbrev pub first_tris : ℕ → List Tri
    first_tris k = each k (λ j. tri_at T j ∷ [])

    -- k triangles are added up
    pub record Summed (k : ℕ) (six : ℤ) : Type 0 where
      pub fine : every (tri_ok P s o) (first_tris k) ≡ true
      pub is : six ≡ six_volume X Y Z (first_tris k)
      pub most : size_of six ≤ k * 6000000000000

    pub summed-none : Summed 0 (pos 0)
    unfolding each every weigh size_of
    summed-none = record { fine = refl; is = refl; most = omega arith }

    pub record Next (k : ℕ) (d : ℤ) : Type 0 where
      pub ok : tri_ok P s o (tri_at T k) ≡ true
      pub is : d ≡ det X Y Z (tri_at T k)
      pub most : size_of d ≤ 6000000000000

    module _ (n k : ℕ) (z d : ℤ) (h : n ≤ 357492) (l : k < n) (m : Summed k z) (x : Next k d) where
      term_is : rd d ≡ d
      term_is = rd-small d (omega (arith, x.most))

      more-most : size_of (z +ℤ d) ≤ (k + 1) * 6000000000000
      more-most = omega (arith, size-add z d, m.most, x.most)

      pub sum_room : SFits w64 (z +ℤ rd d)
      sum_room = rw term_is (size_fits (z +ℤ d) (omega (arith, more-most)))

      more-is : z +ℤ d ≡ six_volume X Y Z (first_tris (k + 1))
      unfolding weigh
      more-is =
          ap₂ ◌+ℤ◌ m.is (x.is ∙ sym (+ℤ_idr (det X Y Z (tri_at T k))))
          ∙ sym (weigh-append ◌+ℤ◌ (pos 0) +ℤ_assoc +ℤ_idl (det X Y Z) (first_tris k) (tri_at T k ∷ []))
          ∙ ap (six_volume X Y Z) (sym (each_more k (λ j. tri_at T j ∷ [])))

      pub sum-turn : Summed (k + 1) (rd (z +ℤ rd d))
      unfolding every
      sum-turn =
          let e : rd (z +ℤ rd d) ≡ z +ℤ d = to_z-of_z w64 (z +ℤ rd d) sum_room ∙ ap (λ (y : ℤ). z +ℤ y) term_is in
          record {
            fine = rw (each_more k (λ j. tri_at T j ∷ []), every_append (tri_ok P s o) (first_tris k) (tri_at T k ∷ []), m.fine, x.ok);
            is = e ∙ more-is;
            most = subst (λ (y : ℤ). size_of y ≤ (k + 1) * 6000000000000) (sym e) more-most;
          }

    pub sum_done : (k : ℕ) (six : ℤ) → k ≡ length T / 3 → Summed k six → told (Ok six) ≡ summed P s o (tris_of T)
    unfolding told summed
    sum_done k six e m =
        let q : first_tris k ≡ tris_of T = ap first_tris e ∙ sym (tris_each T) in
        let r : six ≡ six_volume X Y Z (tris_of T) = m.is ∙ ap (six_volume X Y Z) q in
        let b : every (tri_ok P s o) (tris_of T) ≡ true = ap (every (tri_ok P s o)) (sym q) ∙ m.fine in
        rw b (λ i. record { status = 0; six = r i })

    pub sum-stop : (k : ℕ) → k < length T / 3 → tri_ok P s o (tri_at T k) ≡ false → told (Err Corner) ≡ summed P s o (tris_of T)
    unfolding told summed
    sum-stop k h b = rw (tris_each T, no)
      where
        m : ℕ
        m = length T / 3

        no : every (tri_ok P s o) (first_tris m) ≡ false
        no =
            every_false (0, 0, 0) (tri_ok P s o) (first_tris m) k (omega (arith, each-one-length m (tri_at T)))
            (ap (tri_ok P s o) (each-one-at (0, 0, 0) m (tri_at T) k (omega arith)) ∙ b)

-- where a determinant is missing, the refusal is a corner's
pub stopped : (r : Result ℤ Refusal) (e f : Refusal) (t : Option ℤ) → r ≡ Err e → e ≡ f → ◌≡◌ {A = Result ℤ Refusal} (Err f) (ok_or t Corner) → t ≡ None → r ≡ Err Corner
stopped r e f t g h v z = g ∙ ap Err h ∙ v ∙ ap (λ (t : Option ℤ). ok_or t Corner) z

-- ---- the chunk of three entries that stands at the front of what is to come, after k of them

module _ (T : List ℕ) (k : ℕ) (rest more t : List ℕ) (e : rest ≡ drop (3 * k) T) (g : rest ≡ t ++ more) (h : length t ≡ 3) where
  pub chunk-room : 3 * k + 2 < length T
  chunk-room = omega (arith, length-drop (3 * k) T, ap length e, ap length g, length-append t more)

  pub chunk-entry : (j : ℕ) → j < 3 → get_or t j 0 ≡ get_or T (3 * k + j) 0
  chunk-entry j l = sym (get_or-append t more 0 j (omega arith)) ∙ ap (λ (x : List ℕ). get_or x j 0) (sym g ∙ e) ∙ get_or-drop (3 * k) T j 0

  pub chunk-next : more ≡ drop (3 * (k + 1)) T
  chunk-next =
      sym (drop-append_seam t more) ∙ ap (λ (n : ℕ). drop n (t ++ more)) h ∙ ap (drop 3) (sym g ∙ e) ∙ drop-drop 3 (3 * k) T
      ∙ ap (λ (n : ℕ). drop n T) (omega arith)

-- its entries are the corners of triangle k
pub record Names (T : List ℕ) (k a b c : ℕ) : Type 0 where
  pub inside : k < length T / 3
  pub is_a : a ≡ get_or T (3 * k) 0
  pub is_b : b ≡ get_or T (3 * k + 1) 0
  pub is_c : c ≡ get_or T (3 * k + 2) 0

pub chunk_names : (T : List ℕ) (k : ℕ) {a b c : ℕ} (rest more t : List ℕ) → rest ≡ drop (3 * k) T → rest ≡ t ++ more → length t ≡ 3 → a ≡ get_or t 0 0 → b ≡ get_or t 1 0 → c ≡ get_or t 2 0 → Names T k a b c
chunk_names T k rest more t e g h ea eb ec = record {
  inside = omega (arith, chunk-room T k rest more t e g h);
  is_a = ea ∙ chunk-entry T k rest more t e g h 0 (omega arith) ∙ ap (λ (n : ℕ). get_or T n 0) (omega arith);
  is_b = eb ∙ chunk-entry T k rest more t e g h 1 (omega arith);
  is_c = ec ∙ chunk-entry T k rest more t e g h 2 (omega arith);
}

pub chunks-all : (T rest : List ℕ) (k : ℕ) → rest ≡ drop (3 * k) T → 3 * k ≤ length T → length rest < 3 → k ≡ length T / 3
chunks-all T rest k e l h = omega (arith, length-drop (3 * k) T, ap length e)

-- ---- what the callee answers of a triangle

module _ (P : List Float) (s : Float) (o : Whole) (T : List ℕ) (k a b c : ℕ) (ea : a ≡ get_or T (3 * k) 0) (eb : b ≡ get_or T (3 * k + 1) 0) (ec : c ≡ get_or T (3 * k + 2) 0) where
  plain_term : term_of P s o (a, b, c) ≡ term_of P s o (tri_at T k)
  plain_term = λ i. term_of P s o (ea i, eb i, ec i)

  pub term_missing : None ≡ term_of P s o (a, b, c) → tri_ok P s o (tri_at T k) ≡ false
  unfolding term_of
  term_missing e = go (tri_ok P s o (tri_at T k)) refl (e ∙ plain_term)
    where
      go : (q : Bool) → tri_ok P s o (tri_at T k) ≡ q → None ≡ cond q (Some (det (axis_x P s o) (axis_y P s o) (axis_z P s o) (tri_at T k))) None → tri_ok P s o (tri_at T k) ≡ false
      go true h e = let z : ◌≡◌ {A = ℕ} 0 1 = cc in absurd (omega arith)
      go false h e = h

  pub term_six : (d : ℤ) → Some d ≡ term_of P s o (a, b, c) → Next P s o T k d
  unfolding term_of
  term_six d e = go (tri_ok P s o (tri_at T k)) refl (e ∙ plain_term)
    where
      go : (q : Bool) → tri_ok P s o (tri_at T k) ≡ q → Some d ≡ cond q (Some (det (axis_x P s o) (axis_y P s o) (axis_z P s o) (tri_at T k))) None → Next P s o T k d
      go true h e =
          let i : d ≡ det (axis_x P s o) (axis_y P s o) (axis_z P s o) (tri_at T k) = cc in
          record { ok = h; is = i; most = subst (λ (y : ℤ). size_of y ≤ 6000000000000) (sym i) (det-most P s o (tri_at T k) h) }
      go false h e = let z : ◌≡◌ {A = ℕ} 0 1 = cc in absurd (omega arith)
