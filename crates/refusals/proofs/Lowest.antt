-- The first test that fails gives the number: a request has the number at place i of the table exactly if test i fails and every test before it passes. Assumes nothing.
use mathlib.Core.Path.{◌≡◌, refl, sym, ap, ◌∙◌}
use mathlib.Core.Bool.{Bool, true, false, not, cond, true≢false, false≢true}
use mathlib.Core.List.{List, [], ◌∷◌}
use Prim.Native.Nat.{ℕ, zero, suc, ◌-◌, ◌<◌}
use native.Mathlib.Omega.{arith}
use lib.Dec.{eqb, leb}
use lib.Ieee.{Float}
use lib.ListN.{length, get_or}
use Rattle.lattice.specs.declared.Sides.{Sides}
use Rattle.lattice.specs.Sites.{sides_ok, sites, cells}
use Rattle.points.specs.declared.Frame.{Frame}
use Rattle.points.specs.Limits.{frame_ok}
use Rattle.refusals.specs.declared.Lengths.{Lengths}
use Rattle.refusals.specs.Refusals.{settings_ok, inside_ok, site_room, vertex_room, cell_room, most, status_of}

-- the numbers of the table, in its order
abbrev pub numbers : List ℕ
numbers = 1 ∷ 2 ∷ 3 ∷ 4 ∷ 14 ∷ 5 ∷ 6 ∷ 7 ∷ []

-- the number of the first test that fails; 0 where none does
unfoldable lowest : List ℕ → List Bool → ℕ
lowest [] bs = 0
lowest (k ∷ ks) [] = 0
lowest (k ∷ ks) (b ∷ bs) = cond (not b) k (lowest ks bs)

-- of a list of tests, the one at place i is the first to fail
pub record FirstAt (l : List Bool) (i : ℕ) : Type 0 where
  pub fails : get_or l i true ≡ false
  pub before : (j : ℕ) → j < i → get_or l j true ≡ true

-- that has the number k
record Placed (ks : List ℕ) (l : List Bool) (k : ℕ) : Type 0 where
  place : ℕ
  within : place < length ks
  number : get_or ks place 0 ≡ k
  first : FirstAt l place

first_next : {b : Bool} {l : List Bool} {i : ℕ} → b ≡ true → FirstAt l i → FirstAt (b ∷ l) (suc i)
first_next {b} {l} {i} e f = record { fails = f.fails; before = passes }
  where
    passes : (j : ℕ) → j < suc i → get_or (b ∷ l) j true ≡ true
    passes zero h = e
    passes (suc j) h = f.before j (omega arith)

lowest_placed : (ks : List ℕ) (l : List Bool) (k : ℕ) → lowest ks l ≡ suc k → Placed ks l (suc k)
unfolding lowest
lowest_placed [] l k e = absurd (omega arith)
lowest_placed (n ∷ ks) [] k e = absurd (omega arith)
lowest_placed (n ∷ ks) (false ∷ l) k e = record { place = 0; within = omega arith; number = e; first = record { fails = refl; before = λ j h. absurd (omega arith) } }
lowest_placed (n ∷ ks) (true ∷ l) k e =
    let p = lowest_placed ks l k e in
    record { place = suc p.place; within = omega (arith, p.within); number = p.number; first = first_next refl p.first }

first-lowest : (ks : List ℕ) (l : List Bool) (i : ℕ) → length l ≡ length ks → FirstAt l i → lowest ks l ≡ get_or ks i 0
unfolding lowest
first-lowest ks [] i h f = absurd (true≢false f.fails)
first-lowest [] (b ∷ l) i h f = absurd (omega arith)
first-lowest (k ∷ ks) (false ∷ l) zero h f = refl
first-lowest (k ∷ ks) (false ∷ l) (suc i) h f = absurd (false≢true (f.before 0 (omega arith)))
first-lowest (k ∷ ks) (true ∷ l) zero h f = absurd (true≢false f.fails)
first-lowest (k ∷ ks) (true ∷ l) (suc i) h f = first-lowest ks l i (omega arith) (record { fails = f.fails; before = λ j g. f.before (suc j) (omega arith) })

-- no number stands twice in the table, and none is 0
abbrev place_of : ℕ → ℕ
place_of k = cond (eqb k 14) 4 (cond (leb 5 k) k (k - 1))

record Known (i : ℕ) : Type 0 where
  once : place_of (get_or numbers i 0) ≡ i
  some : eqb (get_or numbers i 0) 0 ≡ false

known : (i : ℕ) → i < 8 → Known i
known zero h = record { once = refl; some = refl }
known (suc zero) h = record { once = refl; some = refl }
known (suc (suc zero)) h = record { once = refl; some = refl }
known (suc (suc (suc zero))) h = record { once = refl; some = refl }
known (suc (suc (suc (suc zero)))) h = record { once = refl; some = refl }
known (suc (suc (suc (suc (suc zero))))) h = record { once = refl; some = refl }
known (suc (suc (suc (suc (suc (suc zero)))))) h = record { once = refl; some = refl }
known (suc (suc (suc (suc (suc (suc (suc zero))))))) h = record { once = refl; some = refl }
known (suc (suc (suc (suc (suc (suc (suc (suc i)))))))) h = absurd (omega arith)

module _ (n : Sides) (method R : ℕ) (f : Frame) (S : List Float) (L : Lengths) (h : Float) where
  -- the eight tests of the table, in its order
  abbrev pub tests : List Bool
  tests =
      settings_ok method R ∷ sides_ok n ∷ eqb (length S) (sites n) ∷ frame_ok f ∷ inside_ok h ∷ site_room (sites n) L ∷ vertex_room (most n S h) L ∷ cell_room (cells n) L ∷ []

  status-is : status_of n method R f S L h ≡ lowest numbers tests
  unfolding status_of lowest
  status-is = refl

  pub status-lowest : (i : ℕ) → i < 8 → status_of n method R f S L h ≡ get_or numbers i 0 → FirstAt tests i
  status-lowest i l e = go (get_or numbers i 0) refl (sym status-is ∙ e)
    where
      go : (k : ℕ) → get_or numbers i 0 ≡ k → lowest numbers tests ≡ k → FirstAt tests i
      go zero q r = absurd (true≢false (sym (ap (λ (n : ℕ). eqb n 0) q) ∙ (known i l).some))
      go (suc k) q r =
          let p = lowest_placed numbers tests k r in
          let m : p.place ≡ i = sym (known p.place p.within).once ∙ ap place_of (p.number ∙ sym q) ∙ (known i l).once in
          rw m at p.first

  pub lowest-status : (i : ℕ) → FirstAt tests i → status_of n method R f S L h ≡ get_or numbers i 0
  lowest-status i f = status-is ∙ first-lowest numbers tests i refl f
