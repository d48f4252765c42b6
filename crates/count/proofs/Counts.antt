-- What the count program prints is determined by its input. Assumes nothing.
use mathlib.Core.Path.{◌≡◌, refl, sym, ap₂, ◌∙◌}
use mathlib.Core.List.{List, [], ◌∷◌}
use Prim.Native.Nat.{ℕ, ◌<◌}
use native.Mathlib.Omega.{arith}
use lib.ListN.{length}
use Rattle.laws.proofs.Written.{written_unique}
use Rattle.count_file.specs.declared.Head.{Head}
use Rattle.lines.specs.Parts.{Left, This}
use Rattle.count_file.specs.CountFile.{inside_base, file_text, CountFile}
use Rattle.lines.specs.Status.{refusal_text}
use Rattle.count_file.proofs.Files.{file_unique, file_longest, old_said}
use Rattle.count.specs.Count.{file_answer, Counted, file, none, Answered}

pub counted_unique : {s t u : List ℕ} → Counted s t → Counted s u → t ≡ u
counted_unique {s} (file {h = h} {ss = ss} f) (file {h = k} {ss = rs} g) =
    let u = file_unique s h ss k rs f g in
    ap₂ file_answer u.0 u.1
counted_unique (file f) (none z) = absurd (z _ _ f)
counted_unique (none z) (file f) = absurd (z _ _ f)
counted_unique (none z) (none y) = refl

pub answered_unique : (s l l' l'' : List ℕ) (r q : ℕ) → Answered s l l' r → Answered s l l'' q → (l' ≡ l'') × (r ≡ q)
answered_unique s l l' l'' r q a b = written_unique (rw (counted_unique a.counted b.counted) at a.put) b.put

-- what is printed for a file is what its values give, and for anything else `status=8`
pub counted-file : {s t : List ℕ} (h : Head) (ss : List ℕ) → CountFile s h ss → Counted s t → t ≡ file_answer h ss
counted-file h ss f c = counted_unique c (file f)

pub counted_none : {s t : List ℕ} → ((h : Head) (ss : List ℕ) → CountFile s h ss → ⊥) → Counted s t → t ≡ refusal_text 8
counted_none z c = counted_unique c (none z)

-- A FILE WITHOUT THE LINE inside= IS ANSWERED AS THE SAME FILE WITH inside=3e112e0be826d695 AFTER rounds=
pub old_same : {s t u : List ℕ} (h : Head) (ss : List ℕ) (f : CountFile s h ss) → f.run ≡ Left → Counted s t → Counted (file_text (This (inside_base ∷ [])) h ss) u → t ≡ u
old_same {s} h ss f e c d = counted-file h ss f c ∙ sym (counted-file h ss (old_said s h ss f e) d)

-- no count file is longer than 4,345 bytes
pub counted_long : {s t : List ℕ} → 4345 < length s → Counted s t → t ≡ refusal_text 8
counted_long {s} h c = counted_none (λ k ss f. let l = file_longest s k ss f in omega arith) c
