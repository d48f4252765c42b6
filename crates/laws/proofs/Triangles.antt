-- Laws of triangles and of the flat list of their corners. Assumes nothing.
use mathlib.Core.Path.{◌≡◌, refl, sym, ap, ◌∙◌}
use mathlib.Core.List.{List, [], ◌∷◌, ◌++◌}
use Prim.Native.Nat.{ℕ, zero, suc, ◌+◌, ◌*◌, ◌/◌, ◌%◌, ◌<◌}
use native.Mathlib.Nat.{not-suc-le-zero}
use native.Mathlib.Omega.{arith}
use lib.ListN.{length, get_or}
use Rattle.laws.specs.Ranges.{each}
use Rattle.laws.specs.Triangles.{Tri, flat, tris_of}
use Rattle.laws.proofs.Ranges.{each_first, each_same}

pub flat_append : (s t : List Tri) → flat (s ++ t) ≡ flat s ++ flat t
unfolding flat
flat_append [] t = refl
flat_append (x ∷ s) t = ap {B = List ℕ} (λ l. x.0 ∷ x.1 ∷ x.2 ∷ l) (flat_append s t)

pub flat-each : (n : ℕ) (f : ℕ → List Tri) → flat (each n f) ≡ each n (λ i. flat (f i))
unfolding each flat
flat-each zero f = refl
flat-each (suc n) f = flat_append (each n f) (f n) ∙ ap (λ (l : List ℕ). l ++ flat (f n)) (flat-each n f)

pub flat-length : (ts : List Tri) → length (flat ts) ≡ 3 * length ts
unfolding flat
flat-length [] = refl
flat-length (t ∷ ts) = omega (arith, flat-length ts)

-- entries of the next triangle
next_0 : (k : ℕ) → 3 * suc k ≡ suc (suc (suc (3 * k)))
next_0 k = omega arith

next_1 : (k : ℕ) → 3 * suc k + 1 ≡ suc (suc (suc (3 * k + 1)))
next_1 k = omega arith

next_2 : (k : ℕ) → 3 * suc k + 2 ≡ suc (suc (suc (3 * k + 2)))
next_2 k = omega arith

-- the corners of triangle k
pub flat-at : (d : Tri) (ts : List Tri) (k : ℕ) → k < length ts
    → (get_or (flat ts) (3 * k) 0 ≡ (get_or ts k d).0) × (get_or (flat ts) (3 * k + 1) 0 ≡ (get_or ts k d).1) × (get_or (flat ts) (3 * k + 2) 0 ≡ (get_or ts k d).2)
unfolding flat
flat-at d [] k h = absurd (not-suc-le-zero h)
flat-at d (t ∷ ts) zero h = (refl, refl, refl)
flat-at d (t ∷ ts) (suc k) h =
    let r = flat-at d ts k (omega arith) in
    let l = t.0 ∷ t.1 ∷ t.2 ∷ flat ts in
    (ap (λ (j : ℕ). get_or l j 0) (next_0 k) ∙ r.0, ap (λ (j : ℕ). get_or l j 0) (next_1 k) ∙ r.1, ap (λ (j : ℕ). get_or l j 0) (next_2 k) ∙ r.2)

-- ---- the triangles of a flat list

pub tris_flat : (ts : List Tri) → tris_of (flat ts) ≡ ts
unfolding flat tris_of
tris_flat [] = refl
tris_flat (t ∷ ts) = ap (λ (l : List Tri). t ∷ l) (tris_flat ts)

-- a flat list has the triangles that it was made of
pub flat-same : (ts us : List Tri) → flat ts ≡ flat us → ts ≡ us
flat-same ts us e = sym (tris_flat ts) ∙ ap tris_of e ∙ tris_flat us

pub flat_tris : (l : List ℕ) → length l % 3 ≡ 0 → flat (tris_of l) ≡ l
unfolding flat tris_of
flat_tris [] h = refl
flat_tris (a ∷ []) h = absurd (omega arith)
flat_tris (a ∷ b ∷ []) h = absurd (omega arith)
flat_tris (a ∷ b ∷ c ∷ l) h = ap {B = List ℕ} (λ r. a ∷ b ∷ c ∷ r) (flat_tris l (omega arith))

pub tris_length : (l : List ℕ) → length (tris_of l) ≡ length l / 3
unfolding tris_of
tris_length [] = omega arith
tris_length (a ∷ []) = omega arith
tris_length (a ∷ b ∷ []) = omega arith
tris_length (a ∷ b ∷ c ∷ l) = omega (arith, tris_length l)

-- triangle k of a flat list, and all of them one by one, as a loop takes them
abbrev pub tri_at : List ℕ → ℕ → Tri
tri_at l k = (get_or l (3 * k) 0, get_or l (3 * k + 1) 0, get_or l (3 * k + 2) 0)

next_tri : (a b c : ℕ) (l : List ℕ) (k : ℕ) → tri_at (a ∷ b ∷ c ∷ l) (suc k) ≡ tri_at l k
next_tri a b c l k = let m = a ∷ b ∷ c ∷ l in λ i. (get_or m (next_0 k i) 0, get_or m (next_1 k i) 0, get_or m (next_2 k i) 0)

pub tris_each : (l : List ℕ) → tris_of l ≡ each (length l / 3) (λ k. tri_at l k ∷ [])
unfolding tris_of each
tris_each [] = refl
tris_each (a ∷ []) = refl
tris_each (a ∷ b ∷ []) = refl
tris_each (a ∷ b ∷ c ∷ l) =
    let n : suc (suc (suc (length l))) / 3 ≡ suc (length l / 3) = omega arith in
    let m = a ∷ b ∷ c ∷ l in
    ap (λ (r : List Tri). (a, b, c) ∷ r) (tris_each l ∙ each_same (length l / 3) (λ k. tri_at l k ∷ []) (λ k. tri_at m (suc k) ∷ []) (λ k h. ap (λ (t : Tri). t ∷ []) (sym (next_tri a b c l k))))
    ∙ sym (ap (λ (i : ℕ). each i (λ k. tri_at m k ∷ [])) n ∙ each_first (length l / 3) (λ k. tri_at m k ∷ []))
