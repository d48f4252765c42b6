-- The mask of a vertex's edges: the loop over the marks of its site. Assumes nothing.
use mathlib.Core.Path.{◌≡◌, refl, sym, ap, ◌∙◌}
use mathlib.Core.Bool.{Bool, true, false, ◌&&◌, cond}
use mathlib.Core.List.{List, [], ◌∷◌, ◌++◌}
use Prim.Native.Nat.{ℕ, zero, suc, ◌+◌, ◌*◌, ◌^◌, ◌<◌}
use native.Mathlib.Nat.{pow-succ', one-mul}
use native.Mathlib.Omega.{arith}
use lib.Bits.{bit_or, bit_xor, or_shifted_r}
use lib.Count.{count_trailing_zeros}
use lib.Dec.{eqb}
use lib.ListN.{length, get_or}
use Rattle.laws.specs.Bools.{bit}
use Rattle.laws.specs.Digits.{is_set, mask}
use Rattle.laws.specs.Inner.Visits.{set_places, Visiting}
use Rattle.laws.specs.Ranges.{each}
use Rattle.laws.specs.Lists.{keep}
use Rattle.laws.proofs.Digits.{mask_lt}
use Rattle.laws.proofs.Lists.{keep_append, keep-both}
use Rattle.laws.proofs.Visits.{visit_turn, visit_end}
use Rattle.lattice.specs.declared.Sides.{Sides}
use Rattle.stages.specs.Boxes.{owned}
use Rattle.march.specs.March.{none}
use Rattle.rollback.specs.Inner.Turning.{held_at, held_mask}

-- an entry of a list, whatever is read past its end
pub get_d_any : {A : Type 0} (l : List A) (i : ℕ) (c d : A) → i < length l → get_or l i c ≡ get_or l i d
get_d_any [] i c d h = let z : ⊥ = omega arith in absurd z
get_d_any (x ∷ l) zero c d h = refl
get_d_any (x ∷ l) (suc i) c d h = get_d_any l i c d (omega arith)

-- what is read at an edge's place
pub held-read : (n : Sides) (t : List ℕ) (s e i k : ℕ) → k ≡ owned n s e → k < length t → eqb (get_or t k 0) i ≡ held_at n t s i e
unfolding held_at
held-read n t s e i k o low = ap (λ (x : ℕ). eqb x i) (get_d_any t k 0 none low ∙ ap (λ (x : ℕ). get_or t x none) o)

-- ---- a mask made place by place

-- the digits at the places es set in x, one after the other
unfoldable pub set_all : List ℕ → ℕ → ℕ
set_all [] x = x
set_all (e ∷ es) x = set_all es (bit_or x (2 ^ e))

all_append : (es fs : List ℕ) (x : ℕ) → set_all (es ++ fs) x ≡ set_all fs (set_all es x)
unfolding set_all
all_append [] fs x = refl
all_append (e ∷ es) fs x = all_append es fs (bit_or x (2 ^ e))

-- one digit more, from the lowest
mask-more : (k : ℕ) (p : ℕ → Bool) → mask (suc k) p ≡ mask k p + cond (p k) (2 ^ k) 0
unfolding mask bit
mask-more zero p = go (p 0)
  where
    go : (c : Bool) → bit c + 0 ≡ 0 + cond c 1 0
    go true = refl
    go false = refl
mask-more (suc k) p = ap (λ (x : ℕ). bit (p 0) + 2 * x) (mask-more k (λ e. p (suc e))) ∙ go (p (suc k))
  where
    go : (c : Bool) → bit (p 0) + 2 * (mask k (λ e. p (suc e)) + cond c (2 ^ k) 0) ≡ bit (p 0) + 2 * mask k (λ e. p (suc e)) + cond c (2 ^ suc k) 0
    go true = omega (arith, pow-succ' 2 k)
    go false = omega arith

-- the places that pass a test make the test's mask
all_mask : (k : ℕ) (p : ℕ → Bool) → set_all (keep p (each k (λ e. e ∷ []))) 0 ≡ mask k p
unfolding set_all keep each mask
all_mask zero p = refl
all_mask (suc k) p =
    ap (λ (l : List ℕ). set_all l 0) (keep_append p (each k (λ e. e ∷ [])) (k ∷ []))
    ∙ all_append (keep p (each k (λ e. e ∷ []))) (cond (p k) (k ∷ []) []) 0
    ∙ ap (set_all (cond (p k) (k ∷ []) [])) (all_mask k p) ∙ go (p k) ∙ sym (mask-more k p)
  where
    go : (c : Bool) → set_all (cond c (k ∷ []) []) (mask k p) ≡ mask k p + cond c (2 ^ k) 0
    go true = ap (bit_or (mask k p)) (sym (one-mul (2 ^ k))) ∙ or_shifted_r 1 k (mask k p) (mask_lt k p) ∙ omega arith
    go false = omega arith

-- ---- the loop over the marks m: those of the edges that vertex i holds are set

abbrev pub Holds : Sides → List ℕ → ℕ → ℕ → List ℕ → ℕ → ℕ → Type 0
Holds n t s i es x y = y ≡ set_all (keep (held_at n t s i) es) x

module _ (n : Sides) (t : List ℕ) (s i : ℕ) where
  holds-none : (x : ℕ) → Holds n t s i [] x x
  unfolding set_all keep
  holds-none x = refl

  holds_more : (x y z e : ℕ) (es : List ℕ) → Holds n t s i (e ∷ []) x y → Holds n t s i es y z → Holds n t s i (e ∷ es) x z
  holds_more x y z e es a c =
      c ∙ ap (set_all (keep (held_at n t s i) es)) a
      ∙ sym (ap (λ (l : List ℕ). set_all l x) (keep_append (held_at n t s i) (e ∷ []) es) ∙ all_append (keep (held_at n t s i) (e ∷ [])) (keep (held_at n t s i) es) x)

  module _ (m rest a : ℕ) (v : Visiting (Holds n t s i) 14 m 0 rest a) where
    pub held-turn : 0 < rest → (b : Bool) → b ≡ held_at n t s i (count_trailing_zeros 16 rest)
        → Visiting (Holds n t s i) 14 m 0 (bit_xor rest (2 ^ count_trailing_zeros 16 rest)) (cond b (bit_or a (2 ^ count_trailing_zeros 16 rest)) a)
    unfolding set_all keep
    held-turn p b h = visit_turn (Holds n t s i) 16 holds_more (omega arith) p v (cond b (bit_or a (2 ^ count_trailing_zeros 16 rest)) a) (rw (← h) (go b))
      where
        go : (c : Bool) → cond c (bit_or a (2 ^ count_trailing_zeros 16 rest)) a ≡ set_all (cond c (count_trailing_zeros 16 rest ∷ []) []) a
        go true = refl
        go false = refl

    -- THE MASK IS THE VERTEX'S
    pub held-end : rest ≡ 0 → a ≡ held_mask n t s m i
    unfolding held_mask set_places
    held-end z =
        visit_end (Holds n t s i) (holds-none a) z v
        ∙ ap (λ (l : List ℕ). set_all l 0) (keep-both (is_set m) (held_at n t s i) (each 14 (λ e. e ∷ [])))
        ∙ all_mask 14 (λ e. is_set m e && held_at n t s i e)
