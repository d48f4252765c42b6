-- The readers' ways out. Assumes nothing.
use mathlib.Core.Path.{◌≡◌, refl, ap, ap₂}
use mathlib.Core.List.{List}
use Prim.Native.Nat.{ℕ, ◌+◌, ◌*◌, ◌<◌}
use native.Mathlib.Omega.{arith}
use lib.ListN.{length}
use Rattle.std.specs.Prelude.{Ok}
use Rattle.laws.specs.Written.{Written}
use Rattle.ply.specs.declared.Refusal.TheVariants.{NoRoom}
use Rattle.ply_write.specs.Form.{count_of, OfKind}
use Rattle.ply.specs.Inner.Parts.{words_in, faces_in, Whole, Placed}
use Rattle.ply.specs.Answers.{counted, counts_of, SizesOf, known, Unstored, no_place, ReadOf, stored}
use Rattle.ply.proofs.Reading.{words_in-length, faces_in-length}

module _ (s : List ℕ) (v f next : ℕ) (w : Whole s v f next) where
  abbrev found : OfKind s
  found = record { words = words_in s next (v * 3); triangles = faces_in s (next + v * 24) f; file = w.file }

  words_long : length (words_in s next (v * 3)) ≡ v * 3
  words_long = words_in-length s next (v * 3)

  faces_long : length (faces_in s (next + v * 24) f) ≡ f * 3
  faces_long = faces_in-length s (next + v * 24) f

  counts : counted v f ≡ counts_of found
  counts =
      let a : v ≡ count_of (words_in s next (v * 3)) = omega (arith, words_long) in
      let b : f ≡ count_of (faces_in s (next + v * 24) f) = omega (arith, faces_long) in
      ap₂ counted a b

  pub sizes-known : SizesOf s (Ok (counted v f))
  sizes-known = known found (ap Ok counts)

  pub short-words : (a b : ℕ) → a < v * 3 → Unstored s a b NoRoom
  short-words a b h = no_place found (λ r. omega (arith, h, r.words, words_long)) refl

  pub short_triangles : (a b : ℕ) → b < f * 3 → Unstored s a b NoRoom
  short_triangles a b h = no_place found (λ r. omega (arith, h, r.triangles, faces_long)) refl

pub read_done : (s l m : List ℕ) (v f next : ℕ) → Placed s (length l) (length m) v f next → (l' m' : List ℕ) (a b : ℕ) → Written l 0 (words_in s next (v * 3)) l' a
    → Written m 0 (faces_in s (next + v * 24) f) m' b → ReadOf s l m l' m' (Ok (counted v f))
read_done s l m v f next p l' m' a b q r =
    let w = p.whole in
    stored (found s v f next w) (record { words = rw (words_long s v f next w) p.words; triangles = rw (faces_long s v f next w) p.triangles }) q.buf r.buf (ap Ok (counts s v f next w))
