-- Laws of the sides of triangles: each by its number, how often a pair is counted, and what the flags say. Assumes nothing.
use mathlib.Core.Path.{◌≡◌, refl, sym, ap, ap₂, ◌∙◌}
use mathlib.Core.Bool.{true, ◌&&◌, or_comm}
use mathlib.Core.Logic.{◌⊎◌, inl, inr, ⊎_elim}
use mathlib.Core.List.{List, [], ◌∷◌, ◌++◌}
use Prim.Native.Nat.{ℕ, zero, suc, ◌+◌, ◌*◌, ◌/◌, ◌%◌, ◌<◌, min, max}
use native.Mathlib.Omega.{arith}
use native.Mathlib.Decide.{dec_lt}
use lib.Dec.{eqb}
use lib.ListN.{length, get_or}
use borrow.Author.Tests.{eqb-true, ltb-true, lt-ltb}
use Rattle.laws.specs.Bools.{bit}
use Rattle.laws.specs.Lists.{count}
use Rattle.laws.specs.Couples.{Pair, from_to}
use Rattle.laws.specs.Triangles.{Tri, flat, tris_of, sides_of}
use Rattle.laws.proofs.Bools.{and-apart, or_apart, bit_or, bit_T, T_true}
use Rattle.laws.proofs.Lists.{count-append, count_same, count-find}
use Rattle.laws.proofs.Ranges.{each-one-length, each-one-at}
use Rattle.laws.proofs.Triangles.{tris_flat}
use Rattle.pairs.specs.Sides.{directed, dir_count, joins, pair_count, next, crowded, crowded_flags}

-- ---- each side by its number

pub directed-length : (s : List ℕ) → length (directed s) ≡ length s / 3 * 3
unfolding directed
directed-length [] = omega arith
directed-length (u ∷ []) = omega arith
directed-length (u ∷ v ∷ []) = omega arith
directed-length (u ∷ v ∷ w ∷ s) = omega (arith, directed-length s)

next-three : (k : ℕ) → next (suc (suc (suc k))) ≡ suc (suc (suc (next k)))
unfolding next
next-three k = omega arith

pub directed-at : (s : List ℕ) (k : ℕ) → k < length s / 3 * 3 → get_or (directed s) k (0, 0) ≡ (get_or s k 0, get_or s (next k) 0)
unfolding directed next
directed-at [] k h = let z : ⊥ = omega arith in absurd z
directed-at (u ∷ []) k h = let z : ⊥ = omega arith in absurd z
directed-at (u ∷ v ∷ []) k h = let z : ⊥ = omega arith in absurd z
directed-at (u ∷ v ∷ w ∷ s) zero h = refl
directed-at (u ∷ v ∷ w ∷ s) (suc zero) h = refl
directed-at (u ∷ v ∷ w ∷ s) (suc (suc zero)) h = refl
directed-at (u ∷ v ∷ w ∷ s) (suc (suc (suc k))) h =
    directed-at s k (omega arith) ∙ ap (λ (j : ℕ). (get_or s k 0, get_or (u ∷ v ∷ w ∷ s) j 0)) (sym (next-three k))

-- the directed sides are those of the list's triangles
pub directed_tris : (s : List ℕ) → directed s ≡ sides_of (tris_of s)
unfolding directed sides_of tris_of
directed_tris [] = refl
directed_tris (u ∷ []) = refl
directed_tris (u ∷ v ∷ []) = refl
directed_tris (u ∷ v ∷ w ∷ s) = ap (λ (l : List Pair). (u, v) ∷ (v, w) ∷ (w, u) ∷ l) (directed_tris s)

pub flat-directed : (ts : List Tri) → directed (flat ts) ≡ sides_of ts
flat-directed ts = directed_tris (flat ts) ∙ ap sides_of (tris_flat ts)

-- whole triangles, and then more
pub directed-append : (s t : List ℕ) → length s % 3 ≡ 0 → directed (s ++ t) ≡ directed s ++ directed t
unfolding directed
directed-append [] t h = refl
directed-append (u ∷ []) t h = let z : ⊥ = omega arith in absurd z
directed-append (u ∷ v ∷ []) t h = let z : ⊥ = omega arith in absurd z
directed-append (u ∷ v ∷ w ∷ s) t h = ap (λ (l : List Pair). (u, v) ∷ (v, w) ∷ (w, u) ∷ l) (directed-append s t (omega arith))

pub dir_append : (x y : ℕ) (s t : List ℕ) → length s % 3 ≡ 0 → dir_count x y (s ++ t) ≡ dir_count x y s + dir_count x y t
unfolding dir_count
dir_append x y s t h = ap (count (from_to x y)) (directed-append s t h) ∙ count-append (from_to x y) (directed s) (directed t)

pub pair-append : (x y : ℕ) (s t : List ℕ) → length s % 3 ≡ 0 → pair_count x y (s ++ t) ≡ pair_count x y s + pair_count x y t
unfolding pair_count
pair-append x y s t h = ap (count (joins x y)) (directed-append s t h) ∙ count-append (joins x y) (directed s) (directed t)

pub next-within : (s : List ℕ) → length s % 3 ≡ 0 → (k : ℕ) → k < length s → next k < length s
unfolding next
next-within s whole k h = omega (arith, whole)

-- ---- counts

pub pair_turn : (x y : ℕ) (s : List ℕ) → pair_count x y s ≡ pair_count y x s
unfolding pair_count joins
pair_turn x y s = count_same (joins x y) (joins y x) (λ p. or_comm (from_to x y p) (from_to y x p)) (directed s)

-- the count by the lower and the higher end
pub pair_ends : (u v low high : ℕ) (s : List ℕ) → low ≡ min u v → high ≡ max u v → pair_count u v s ≡ pair_count low high s
pair_ends u v low high s e f =
    elim (dec_lt u v) [
      | yes h ↦
          (let a : u ≡ low = omega (arith, h) in
          let b : v ≡ high = omega (arith, h) in
          ap₂ (λ (x y : ℕ). pair_count x y s) a b)
      | no h ↦
          (let a : v ≡ low = omega (arith, h) in
          let b : u ≡ high = omega (arith, h) in
          pair_turn u v s ∙ ap₂ (λ (x y : ℕ). pair_count x y s) a b)
    ]

from-ends : (x y : ℕ) (p : Pair) → from_to x y p ≡ true → (p.0 ≡ x) × (p.1 ≡ y)
unfolding from_to
from-ends x y p e =
    let g = and-apart (eqb p.0 x) (eqb p.1 y) e in
    (eqb-true p.0 x g.0, eqb-true p.1 y g.1)

joins-count : (x y : ℕ) → (x ≡ y → ⊥) → (ps : List Pair) → count (joins x y) ps ≡ count (from_to x y) ps + count (from_to y x) ps
unfolding count joins
joins-count x y n [] = refl
joins-count x y n (p ∷ ps) =
    omega
    (arith, joins-count x y n ps, bit_or (from_to x y p) (from_to y x p) (λ e f. n (sym (from-ends x y p e).0 ∙ (from-ends y x p f).0)))

-- either way is one way and the other
pub pair_dir : (x y : ℕ) → (x ≡ y → ⊥) → (s : List ℕ) → pair_count x y s ≡ dir_count x y s + dir_count y x s
unfolding pair_count dir_count
pair_dir x y n s = joins-count x y n (directed s)

-- ---- the flags

pub flags-length : (s : List ℕ) → length (crowded_flags s) ≡ length s
unfolding crowded_flags
flags-length s = each-one-length (length s) (λ k. bit (crowded s k))

pub crowded_flag_at : (s : List ℕ) (k : ℕ) → k < length s → get_or (crowded_flags s) k 0 ≡ bit (crowded s k)
unfolding crowded_flags
crowded_flag_at s k h = each-one-at 0 (length s) (λ k. bit (crowded s k)) k h

-- a side with flag 1 has a pair that is a side more than twice
pub flag_crowded : (s : List ℕ) (k : ℕ) → k < length s → get_or (crowded_flags s) k 0 ≡ 1 → 2 < pair_count (get_or s k 0) (get_or s (next k) 0) s
unfolding crowded
flag_crowded s k h e =
    ltb-true 2 (pair_count (get_or s k 0) (get_or s (next k) 0) s) (T_true (crowded s k) (bit_T (crowded s k) (sym (crowded_flag_at s k h) ∙ e)))

crowded_flag : (s : List ℕ) (k : ℕ) → k < length s → 2 < pair_count (get_or s k 0) (get_or s (next k) 0) s → get_or (crowded_flags s) k 0 ≡ 1
unfolding crowded bit
crowded_flag s k h g = crowded_flag_at s k h ∙ ap bit (lt-ltb 2 (pair_count (get_or s k 0) (get_or s (next k) 0) s) g)

-- a pair that is a side more than twice has a side with flag 1
pub crowded-side : (s : List ℕ) → length s % 3 ≡ 0 → (x y : ℕ) → 2 < pair_count x y s
    → (k : ℕ) × (k < length s) × (get_or (crowded_flags s) k 0 ≡ 1) × (((get_or s k 0 ≡ x) × (get_or s (next k) 0 ≡ y)) ⊎ ((get_or s k 0 ≡ y) × (get_or s (next k) 0 ≡ x)))
unfolding pair_count joins from_to
crowded-side s whole x y h =
    let f = count-find (0, 0) (joins x y) (directed s) (omega arith) in
    let k : ℕ = f.0 in
    let lt : k < length s = omega (arith, f.1, directed-length s) in
    let e : get_or (directed s) k (0, 0) ≡ (get_or s k 0, get_or s (next k) 0) = directed-at s k (omega (arith, f.1, directed-length s)) in
    let p : joins x y (get_or s k 0, get_or s (next k) 0) ≡ true = sym (ap (joins x y) e) ∙ f.2 in
    let a : ℕ = get_or s k 0 in
    let b : ℕ = get_or s (next k) 0 in
    ⊎_elim
    (λ q. (let g = and-apart (eqb a x) (eqb b y) q in
    let ea : a ≡ x = eqb-true a x g.0 in
    let eb : b ≡ y = eqb-true b y g.1 in
    (k, lt, crowded_flag s k lt (rw (ea, eb) h), inl (ea, eb))))
    (λ q. (let g = and-apart (eqb a y) (eqb b x) q in
    let ea : a ≡ y = eqb-true a y g.0 in
    let eb : b ≡ x = eqb-true b x g.1 in
    (k, lt, crowded_flag s k lt (rw (ea, eb, pair_turn y x s) h), inr (ea, eb))))
    (or_apart (eqb a x && eqb b y) (eqb a y && eqb b x) p)

-- so a vertex is an end of such a pair just where it is an end of a side with flag 1
pub crowded_vertex : (s : List ℕ) → length s % 3 ≡ 0 → (x : ℕ) → ((y : ℕ) × (2 < pair_count x y s))
    → (k : ℕ) × (k < length s) × (get_or (crowded_flags s) k 0 ≡ 1) × ((get_or s k 0 ≡ x) ⊎ (get_or s (next k) 0 ≡ x))
crowded_vertex s whole x h =
    let f = crowded-side s whole x h.0 h.1 in
    (f.0, f.1, f.2, ⊎_elim (λ e. inl e.0) (λ e. inr e.1) f.3)

pub vertex_crowded : (s : List ℕ) (x k : ℕ) → k < length s → get_or (crowded_flags s) k 0 ≡ 1 → ((get_or s k 0 ≡ x) ⊎ (get_or s (next k) 0 ≡ x)) → (y : ℕ) × (2 < pair_count x y s)
vertex_crowded s x k h e o =
    let f = flag_crowded s k h e in
    let a : ℕ = get_or s k 0 in
    let b : ℕ = get_or s (next k) 0 in
    ⊎_elim (λ q. (b, omega (arith, f, ap (λ (z : ℕ). pair_count z b s) q))) (λ q. (a, omega (arith, f, pair_turn a b s, ap (λ (z : ℕ). pair_count z a s) q))) o
