-- Laws of filling an array front to back with a list that fits. Assumes nothing.
use mathlib.Core.Path.{◌≡◌, refl, sym, ap, ap₂, ◌∙◌}
use mathlib.Core.List.{List, [], ◌∷◌, ◌++◌, append_assoc, append-nil}
use Prim.Native.Nat.{ℕ, zero, suc, ◌+◌, ◌-◌, ◌<◌, ◌≤◌}
use native.Mathlib.Omega.{arith}
use lib.ListN.{length, replicate, set, length-append}
use lib.Seq.{set_at}
use Rattle.laws.specs.Filling.{padded, Filling}

module _ {A : Type 0} where
  pub fill_start : (n : ℕ) (d : A) (whole : List A) → Filling n d whole whole (replicate n d) 0
  fill_start n d whole = record { done = []; room = n; is_count = refl; is_room = omega arith; is_array = refl; ends = refl }

  -- there is room for the next
  pub fill-room : {n : ℕ} {d : A} {whole rest array : List A} {k : ℕ} → Filling n d whole rest array k → length whole ≤ n → 0 < length rest → k < n
  fill-room {n} {d} {whole} {rest} {array} {k} f l p = omega (arith, l, p, ap length f.ends ∙ length-append f.done rest, f.is_count)

  pub fill-turn : {n : ℕ} {d : A} {whole : List A} {x : A} {xs array : List A} {k : ℕ} → k < n → Filling n d whole (x ∷ xs) array k → Filling n d whole xs (set array k x) (k + 1)
  fill-turn {n} {d} {whole} {x} {xs} {array} {k} l f = go f.room f.is_room f.is_array
    where
      go : (room : ℕ) → k + room ≡ n → array ≡ f.done ++ replicate room d → Filling n d whole xs (set array k x) (k + 1)
      go zero b e = absurd (omega arith)
      go (suc r) b e = record {
        done = f.done ++ (x ∷ []);
        room = r;
        is_count = length-append f.done (x ∷ []) ∙ ap (λ (j : ℕ). j + 1) f.is_count;
        is_room = omega arith;
        is_array =
            ap (λ (y : List A). set y k x) e ∙ set_at f.done d (replicate r d) x k f.is_count
            ∙ sym (append_assoc f.done (x ∷ []) (replicate r d));
        ends = f.ends ∙ sym (append_assoc f.done (x ∷ []) xs);
      }

  -- nothing is to come: the array is the list, padded, and the count its length
  pub fill_end : {n : ℕ} {d : A} {whole array : List A} {k : ℕ} → Filling n d whole [] array k → (k ≡ length whole) × (array ≡ padded n d whole)
  fill_end {n} {d} {whole} {array} {k} f =
      let all : whole ≡ f.done = f.ends ∙ append-nil f.done in
      let size : length whole ≡ k = ap length all ∙ f.is_count in
      let left : f.room ≡ n - length whole = omega (arith, f.is_room) in
      (sym size, f.is_array ∙ ap₂ (λ (x : List A) (y : ℕ). x ++ replicate y d) (sym all) left)
