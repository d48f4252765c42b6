-- The ways out of `volume_text`, over what `build_file` and `volume_of` promise; what is printed is determined by the input. Assumes nothing.
use mathlib.Core.Path.{◌≡◌, sym, ap, ◌∙◌, subst}
use mathlib.Core.Bool.{false, false≢true}
use mathlib.Core.List.{List}
use mathlib.Core.Logic.{◌⊎◌, inl, inr}
use Prim.Native.Nat.{ℕ, ◌*◌, ◌≤◌, ◌<◌}
use native.Mathlib.Omega.{arith}
use borrow.Author.Tests.{eq-eqb, ne_eqb, le-ltb}
use lib.Ieee.{Float, lt}
use lib.ListN.{length, take}
use Rattle.laws.specs.Written.{Written}
use Rattle.laws.proofs.Ranges.{lt-or}
use Rattle.lines.specs.Status.{refusal_text}
use Rattle.lines.proofs.Printing.{refusal-length}
use Rattle.stages.specs.Meshes.{mesh_of}
use Rattle.build.specs.Answer.{Order, status, order_box, order_vertices, order_positions, order_triangles, Lists, lengths_of}
use Rattle.file_build.specs.declared.Built.{Built}
use Rattle.file_build.specs.Asked.{work_space, BuiltOf}
use Rattle.file_build.proofs.Told.{told_unique, told-at_unique, told_at, Meant, meant, told-refused}
use Rattle.volume.specs.declared.Whole.{Whole}
use Rattle.volume.specs.Volume.{Volume, scale_ok, volume_of}
use Rattle.volume.proofs.Answers.{status-zero}
use Rattle.volume_file.specs.Text.{answer_text, scale_of, measure_of, Measured, MeasuredAt}
use Rattle.volume_file.proofs.Printing.{answer-room}

-- ---- the scale

no_scale : (d : ℕ) → 7 ≤ d → scale_ok (scale_of d) ≡ false
unfolding scale_of scale_ok lt
no_scale d h = rw (le-ltb d 7 h)

-- a volume that is found has at most 6 digits
few_digits : (P : List Float) (T : List ℕ) (s : Float) (c : Whole) (v : Volume) (d : ℕ) → s ≡ scale_of d → v ≡ volume_of P T s c → v.status ≡ 0 → d < 7
few_digits P T s c v d e g z = go (lt-or d 7)
  where
    go : (d < 7) ⊎ (7 ≤ d) → d < 7
    go (inl h) = h
    go (inr h) = absurd (false≢true (sym (no_scale d h) ∙ ap scale_ok (sym e) ∙ (status-zero P s c T (ap (λ (x : Volume). x.status) (sym g) ∙ z)).scale))

-- ---- the text of an order

module _ (d : ℕ) (c : Whole) (o : Order) where
  text-refused : (status o ≡ 0 → ⊥) → measure_of d c o ≡ refusal_text (status o)
  unfolding measure_of
  text-refused z = rw (ne_eqb (status o) 0 z)

  pub text-done : status o ≡ 0
      → measure_of d c o ≡ answer_text d (length (mesh_of (order_box o) (order_vertices o))) (volume_of (order_positions o) (order_triangles o) (scale_of d) c)
  unfolding measure_of
  text-done z = rw (eq-eqb (status o) 0 z)

-- ---- the ways out

module _ (d : ℕ) (c : Whole) (s : List ℕ) (l l' : Lists) (r : Built) (w : lengths_of l ≡ work_space) (b : BuiltOf s l l' r) where
  pub measured_refused : (r.answer.status ≡ 0 → ⊥) → (m m' : List ℕ) (k : ℕ) → length m ≡ 161 → Written m 0 (refusal_text r.answer.status) m' k → MeasuredAt d c s m m' k
  measured_refused z m m' k h p =
      told_at (told-refused (measure_of d c) s l l' r w (text-refused d c) b z) p (omega (arith, refusal-length r.answer.status))

  module _ (z : r.answer.status ≡ 0) where
    pub mesh : Meant (measure_of d c) s l' r.answer
    mesh = meant (measure_of d c) s l l' r w b z

    -- what the volume is found of is the order's mesh
    found-is : (x : Float) (v : Volume) → x ≡ scale_of d → v ≡ volume_of (take (r.answer.vertices * 3) l'.positions) (take (r.answer.triangles * 3) l'.triangles) x c
        → measure_of d c mesh.order ≡ answer_text d r.answer.triangles v
    found-is x v e g =
        text-done d c mesh.order mesh.granted
        ∙ (λ i. answer_text d (sym mesh.triangles i) (sym (g ∙ (λ j. volume_of (mesh.is_positions j) (mesh.is_triangles j) (e j) c)) i))

    pub found_few : (x : Float) (v : Volume) → x ≡ scale_of d → v ≡ volume_of (take (r.answer.vertices * 3) l'.positions) (take (r.answer.triangles * 3) l'.triangles) x c
        → v.status ≡ 0 → d < 7
    found_few x v e g = few_digits (take (r.answer.vertices * 3) l'.positions) (take (r.answer.triangles * 3) l'.triangles) x c v d e g

    pub measured_done : (x : Float) (v : Volume) (m m' : List ℕ) (k : ℕ) → x ≡ scale_of d
        → v ≡ volume_of (take (r.answer.vertices * 3) l'.positions) (take (r.answer.triangles * 3) l'.triangles) x c
        → length m ≡ 161 → Written m 0 (answer_text d r.answer.triangles v) m' k → MeasuredAt d c s m m' k
    measured_done x v m m' k e g h p =
        told_at (subst (Measured d c s) (found-is x v e g) mesh.told) p
        (omega (arith, answer-room d r.answer.triangles v (found_few x v e g)))

-- ---- ANY TWO CONFORMING ANSWERS ARE EQUAL

module _ (d : ℕ) (c : Whole) where
  pub measured_unique : {s t u : List ℕ} → Measured d c s t → Measured d c s u → t ≡ u
  measured_unique a b = told_unique a b

  pub measured_at_unique : {s l l' l'' : List ℕ} {r q : ℕ} → MeasuredAt d c s l l' r → MeasuredAt d c s l l'' q → (l' ≡ l'') × (r ≡ q)
  measured_at_unique a b = told-at_unique a b
