-- The table of examples holds: its lines are computed, the limit of triangles is counted. Assumes nothing.
use mathlib.Core.Path.{◌≡◌, refl, sym, ap, ◌∙◌}
use mathlib.Core.Bool.{Bool, true, false}
use mathlib.Core.List.{List, ◌∷◌, map}
use Prim.Native.Nat.{ℕ, zero, suc, ◌*◌, ◌≤◌, ◌<◌}
use native.Mathlib.Omega.{arith}
use lib.Dec.{ltb}
use lib.IntN.{pos, ◌+ℤ◌}
use lib.ListN.{length, replicate, length-replicate}
use lib.Ieee.{lt, mul, of_bits}
use Rattle.laws.specs.Ints.{size_of, signed}
use Rattle.laws.specs.Lists.{every, weigh}
use Rattle.laws.specs.Triangles.{Tri, tris_of}
use Rattle.units.specs.Whole.{whole_of}
use Rattle.units.specs.Coordinates.{within, less}
use Rattle.volume.specs.declared.Whole.{Whole}
use Rattle.volume.specs.Volume.{det, six_volume, scaled, axis_x, axis_y, axis_z, corner_ok, tri_ok, lists_ok, scale_ok, refused, summed, volume_of}
use Rattle.volume.specs.Examples.{table, answered, said, float, one, corners, Examples}
use Rattle.volume.proofs.Answers.{Fits, lists-fit, fit-lists, answer-sum, answer_ten}

-- `unfolding volume_key` opens the definition, so that a volume computes
unfoldable pub volume_key : Unit {0}
unfolding lt mul of_bits every weigh tris_of size_of signed whole_of within less det scaled axis_x axis_y axis_z corner_ok tri_ok lists_ok scale_ok refused summed volume_of
volume_key = tt

-- ---- copies of one triangle

copies : ℕ → List ℕ
copies n = replicate (3 * n) 0

module _ {A : Type 0} (p : A → Bool) (x : A) (e : p x ≡ true) where
  every_copies : (n : ℕ) → every p (replicate n x) ≡ true
  unfolding every
  every_copies zero = refl
  every_copies (suc n) = rw e (every_copies n)

tris_copies : (n : ℕ) → tris_of (copies n) ≡ replicate n (0, 0, 0)
unfolding tris_of copies
tris_copies zero = refl
tris_copies (suc n) = ap (λ (m : ℕ). tris_of (replicate m 0)) (next n) ∙ ap (λ (l : List Tri). (0, 0, 0) ∷ l) (tris_copies n)
  where
    next : (n : ℕ) → 3 * suc n ≡ suc (suc (suc (3 * n)))
    next n = omega arith

abbrev here : Whole
here = record { x = pos 0; y = pos 0; z = pos 0 }

sum_copies : (n : ℕ) → six_volume (axis_x corners (float one) here) (axis_y corners (float one) here) (axis_z corners (float one) here) (replicate n (0, 0, 0)) ≡ pos 0
unfolding volume_key
sum_copies zero = refl
sum_copies (suc n) = ap (◌+ℤ◌ (pos 0)) (sum_copies n)

first_fine : tri_ok corners (float one) here (0, 0, 0) ≡ true
unfolding volume_key
first_fine = refl

fine_copies : (n : ℕ) → every (tri_ok corners (float one) here) (replicate n (0, 0, 0)) ≡ true
fine_copies n = every_copies (tri_ok corners (float one) here) (0, 0, 0) first_fine n

length_copies : (n : ℕ) → length (copies n) ≡ 3 * n
unfolding copies
length_copies n = length-replicate (3 * n) 0

-- as many as are taken
module _ (n : ℕ) (h : n ≤ 357492) where
  copies_fit : Fits corners (copies n)
  unfolding copies
  copies_fit = record {
    positions = refl;
    triangles = rw length_copies (omega arith);
    few = rw length_copies (omega arith);
    named = every_copies (λ v. ltb v 5) 0 refl (3 * n);
  }

  unit_scale : scale_ok (float one) ≡ true
  unfolding volume_key
  unit_scale = refl

  taken : volume_of corners (copies n) (float one) here ≡ record { status = 0; six = pos 0 }
  unfolding summed
  taken =
      sym (answer-sum corners (copies n) (float one) here (record { status = 0; six = pos 0 }) (fit-lists corners (copies n) copies_fit) unit_scale
      (sym (ap (summed corners (float one) here) (tris_copies n) ∙ rw (fine_copies n, sum_copies n))))

-- one more
refused-more : (n : ℕ) → 357492 < n → volume_of corners (copies n) (float one) here ≡ refused 10
refused-more n h = sym (answer_ten corners (copies n) (float one) here (refused 10) (no_lists (lists_ok corners (copies n)) refl) refl)
  where
    no_lists : (b : Bool) → lists_ok corners (copies n) ≡ b → lists_ok corners (copies n) ≡ false
    no_lists true e = absurd (omega (arith, (lists-fit corners (copies n) e).few, length_copies n))
    no_lists false e = e

computed : map answered table ≡ map said table
unfolding volume_key table
computed = refl

pub examples : Examples
unfolding copies refused
examples = record { lines = computed; most_taken = taken 357492 (omega arith); one_more = refused-more 357493 (omega arith) }
