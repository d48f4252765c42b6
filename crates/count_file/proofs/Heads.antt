-- Laws of the count file's header: each way out of its reader, and that the bytes say its values. Assumes nothing.
use mathlib.Core.Path.{◌≡◌, refl, sym, ap}
use mathlib.Core.Bool.{Bool, true, false, true≢false}
use mathlib.Core.List.{List, [], ◌∷◌, ◌++◌}
use Prim.Native.Nat.{ℕ, ◌≤◌}
use native.Mathlib.Nat.{le_trans, le_of_eq}
use lib.ListN.{length, get_or}
use Rattle.lines.specs.Lines.{lines, Fine}
use Rattle.lines.specs.Parts.{Part, Must, Run, Left, This, That, PartsFine}
use Rattle.lines.specs.Inner.Readers.{Reads, Absent, Have, Miss}
use Rattle.lines.proofs.Lines.{key_of, Two}
use Rattle.lines.proofs.Parts.{splits, apart, clear, told, run_at, parts_same, have_done, have_left, have_must, have_given, miss_must, miss_after, miss_given, miss_left}
use Rattle.count_file.specs.declared.Head.{Head}
use Rattle.count_file.specs.declared.Threshold.{Threshold}
use Rattle.count_file.specs.CountFile.{sizes_form, inside_form, origin_form, steps_form, head_parts, inside_base, Says, said, unsaid, head_runs, head_text}
use Rattle.count_file.specs.Inner.Heads.{ThresholdOf, there, left_out, FoundHead}

-- ---- the bytes say the values

head_told : told head_parts ≡ true
unfolding told clear apart splits key_of
head_told = refl

abbrev is_left : Run → Bool
is_left Left = true
is_left (This vs) = false
is_left (That vs) = false

-- what stands for the line says one threshold
says_same : {l m : Run} {a b : ℕ} → Says l a → Says m b → l ≡ m → a ≡ b
says_same (said a) (said b) e = ap (λ (r : Run). get_or (run_at 0 (r ∷ [])) 0 0) e
says_same (said a) unsaid e = absurd (true≢false (sym (ap is_left e)))
says_same unsaid (said b) e = absurd (true≢false (ap is_left e))
says_same unsaid unsaid e = refl

-- where there is none, that of 1.0e-9
pub says-left : {l : Run} {a : ℕ} → Says l a → l ≡ Left → a ≡ inside_base
says-left y e = says_same y unsaid e

runs-line : (l m : Run) (h k : Head) → head_runs l h ≡ head_runs m k → l ≡ m
runs-line l m h k e = ap (λ (rs : List Run). get_or rs 1 Left) e

runs_head : (l m : Run) (h k : Head) → Says l h.inside → Says m k.inside → head_runs l h ≡ head_runs m k → h ≡ k
runs_head l m h k y z e =
    let x : h.sizes ≡ k.sizes = ap (run_at 0) e in
    let t : h.inside ≡ k.inside = says_same y z (runs-line l m h k e) in
    let o : h.origin ≡ k.origin = ap (run_at 2) e in
    let d : h.steps ≡ k.steps = ap (run_at 3) e in
    λ i. record { sizes = x i; inside = t i; origin = o i; steps = d i }

module _ (l m : Run) (h k : Head) (r t : List ℕ) (p : PartsFine head_parts (head_runs l h)) (q : PartsFine head_parts (head_runs m k)) (e : head_text l h ++ r ≡ head_text m k ++ t) where
  runs : Two (head_runs l h) (head_runs m k) r t
  runs = parts_same head_parts (head_runs l h) (head_runs m k) r t head_told p q e

  pub head_same : Says l h.inside → Says m k.inside → Two h k r t
  head_same y z = record { first = runs_head l m h k y z runs.first; rest = runs.rest }

  pub line_same : l ≡ m
  line_same = runs-line l m h k runs.first

-- ---- part by part

abbrev frame_parts : List Part
frame_parts = Must origin_form ∷ Must steps_form ∷ []

inside-clear : clear inside_form frame_parts ≡ true
unfolding clear apart splits key_of
inside-clear = refl

-- the place after the line is within the bytes
pub next-within : {s : List ℕ} {at : ℕ} {t : Threshold} → ThresholdOf s at t → at ≤ length s → t.next ≤ length s
next-within (there q) h = q.within
next-within {s} (left_out q e) h = le_trans (le_of_eq (ap (λ (x : Threshold). x.next) e)) h

pub no_sizes : (s : List ℕ) → Absent (lines sizes_form) (Fine sizes_form) s 0 → Miss head_parts s 0
no_sizes s p = miss_must _ s 0 sizes_form p

module _ (s vs : List ℕ) (mid : ℕ) (p : Reads (lines sizes_form) (Fine sizes_form) s 0 vs mid) (t : Threshold) where
  -- what follows the line, or stands in its place, is not there
  frame_miss : ThresholdOf s mid t → Miss frame_parts s t.next → Miss head_parts s 0
  frame_miss (there q) r = miss_after _ s 0 sizes_form vs mid p (miss_given frame_parts s mid inside_form (t.bits ∷ []) t.next q inside-clear r)
  frame_miss (left_out q e) r =
      let w : t.next ≡ mid = ap (λ (x : Threshold). x.next) e in
      miss_after _ s 0 sizes_form vs mid p (miss_left frame_parts s mid inside_form q (rw w at r))

  -- or is there
  frame_have : ThresholdOf s mid t → (os ts : List ℕ) (next : ℕ) → Have frame_parts s t.next (This os ∷ This ts ∷ []) next
      → FoundHead s (record { sizes = vs; inside = t.bits; origin = os; steps = ts }) next
  frame_have (there q) os ts next r = record {
    run = This (t.bits ∷ []);
    says = said t.bits;
    have = have_must _ s 0 sizes_form vs mid p _ next (have_given frame_parts s mid inside_form (t.bits ∷ []) t.next q _ next r);
  }
  frame_have (left_out q e) os ts next r =
      let w : t.next ≡ mid = ap (λ (x : Threshold). x.next) e in
      let b : t.bits ≡ inside_base = ap (λ (x : Threshold). x.bits) e in
      record {
        run = Left;
        says = rw b unsaid;
        have = have_must _ s 0 sizes_form vs mid p _ next (have_left frame_parts s mid inside_form _ next (rw w at r));
      }

  module _ (q : ThresholdOf s mid t) where
    pub no_origin : Absent (lines origin_form) (Fine origin_form) s t.next → Miss head_parts s 0
    no_origin r = frame_miss q (miss_must (Must steps_form ∷ []) s t.next origin_form r)

    module _ (os : List ℕ) (end : ℕ) (r : Reads (lines origin_form) (Fine origin_form) s t.next os end) where
      pub no_steps : Absent (lines steps_form) (Fine steps_form) s end → Miss head_parts s 0
      no_steps z = frame_miss q (miss_after (Must steps_form ∷ []) s t.next origin_form os end r (miss_must [] s end steps_form z))

      pub whole : (ts : List ℕ) (next : ℕ) → Reads (lines steps_form) (Fine steps_form) s end ts next → FoundHead s (record { sizes = vs; inside = t.bits; origin = os; steps = ts }) next
      whole ts next z =
          frame_have q os ts next
          (have_must (Must steps_form ∷ []) s t.next origin_form os end r (This ts ∷ []) next (have_must [] s end steps_form ts next z [] next (have_done s next z.within)))
