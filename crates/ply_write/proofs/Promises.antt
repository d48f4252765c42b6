-- What the writers' promise comes to: any two answers are equal, and what is written is the file. Assumes nothing.
use mathlib.Core.Path.{◌≡◌, sym, ap, ◌∙◌}
use mathlib.Core.List.{List}
use Prim.Native.Nat.{ℕ, ◌≤◌}
use native.Mathlib.Omega.{arith}
use lib.ListN.{length, take}
use lib.Seq.{sets}
use Rattle.laws.proofs.Written.{front_take}
use Rattle.std.specs.Prelude.{Result, Ok}
use Rattle.ply_write.specs.declared.Refusal.{Refusal}
use Rattle.ply_write.specs.Form.{ply_text, PlyFile, OfKind}
use Rattle.ply_write.specs.Answers.{WriteOf, done, unfit, no_room}

-- ---- ANY TWO CONFORMING ANSWERS ARE EQUAL

pub write_unique : {ws ts l a b : List ℕ} {r q : Result ℕ Refusal} → WriteOf ws ts l a r → WriteOf ws ts l b q → (a ≡ b) × (r ≡ q)
write_unique (done f h x e) (done g i y d) = (x ∙ sym y, e ∙ sym d)
write_unique (done f h x e) (unfit z y d) = absurd (z f.fit)
write_unique (done f h x e) (no_room g i y d) = absurd (omega (arith, h, i))
write_unique (unfit z x e) (done g i y d) = absurd (z g.fit)
write_unique (unfit z x e) (unfit k y d) = (x ∙ sym y, e ∙ sym d)
write_unique (unfit z x e) (no_room g i y d) = absurd (z g)
write_unique (no_room f h x e) (done g i y d) = absurd (omega (arith, h, i))
write_unique (no_room f h x e) (unfit z y d) = absurd (z f)
write_unique (no_room f h x e) (no_room g i y d) = (x ∙ sym y, e ∙ sym d)

-- ---- what is written

-- what was written is the file
pub written-file : {ws ts l l' : List ℕ} {n : ℕ} → WriteOf ws ts l l' (Ok n) → PlyFile (take n l') ws ts
written-file {ws} {ts} {l} {l'} {n} (done f h x e) =
    let m : n ≡ length (ply_text ws ts) = cc in
    let t : take n l' ≡ ply_text ws ts = front_take (ply_text ws ts) l' l n x h m in
    rw t f
written-file (unfit k x e) = absurd (cc)
written-file (no_room k i x e) = absurd (cc)

-- the bytes s stand at the front of the list
pub record WrittenBack (s out out' : List ℕ) (w : Result ℕ Refusal) : Type 0 where
  pub bytes : out' ≡ sets out 0 s
  pub answer : w ≡ Ok (length s)

pub write-file : {s out out' : List ℕ} {w : Result ℕ Refusal} (k : OfKind s) → length s ≤ length out → WriteOf k.words k.triangles out out' w → WrittenBack s out out' w
write-file {out = out} k h (done f i x e) = record { bytes = x ∙ ap (sets out 0) (sym k.file.is); answer = e ∙ ap (λ (t : List ℕ). Ok (length t)) (sym k.file.is) }
write-file k h (unfit z x e) = absurd (z k.file.fit)
write-file k h (no_room z i x e) = absurd (omega (arith, h, i, ap length k.file.is))
