-- The box of the samples: each marked edge of a site is in exactly one of its clusters, and nothing else is. Assumes nothing.
use Rattle.std.specs.Prelude.{Option}
use mathlib.Core.Path.{◌≡◌, refl, ap, sym, ◌∙◌, subst}
use mathlib.Core.Logic.{⊎_elim}
use mathlib.Core.Bool.{Bool, true, false, cond}
use mathlib.Core.List.{List, [], ◌∷◌, map}
use Prim.Native.Nat.{ℕ, ◌-◌, ◌^◌, ◌<◌, ◌≤◌}
use native.Mathlib.Omega.{arith}
use lib.Dec.{eqb}
use borrow.Author.Tests.{eq-eqb}
use lib.ListN.{length, get_or, replicate, take}
use lib.Seq.{take-append_seam}
use Rattle.lattice.specs.declared.Sides.{Sides}
use lib.Ieee.{Float}
use Rattle.stages.specs.Meshes.{numbers}
use Rattle.stages.specs.Rounds.{is_in}
use Rattle.stages.specs.Samples.{clusters_at, edges_of, ends_of}
use Rattle.stages.specs.Inner.Clustered.{Ascending}
use Rattle.stages.proofs.Readback.{ascending_keep}
use Rattle.laws.specs.Bools.{bit}
use Rattle.laws.specs.Ranges.{each}
use Rattle.laws.specs.Lists.{All, count, joined, keep, total}
use Rattle.laws.specs.Digits.{digit, is_set, mask}
use Rattle.marks.specs.Marks.{marked, mask_at}
use Rattle.topology.specs.Topology.{clusters_in, topology_of}
use Rattle.topology.specs.Walk.{fourteen}
use Rattle.topology.specs.Parts.{Partition, low}
use Rattle.laws.proofs.Ranges.{each_once, each-one-at, each-one-length, lt-or}
use Rattle.laws.proofs.Lists.{count-joined, count-keep, count-key, count-some, total-map, total-same, total-zero}
use Rattle.laws.proofs.Digits.{digit-below, digit_high, digit-is, mask-digit, mask_lt, set-digit}
use Rattle.topology.proofs.Answers.{clusters_partition}
use Rattle.topology.proofs.Cases.{fourteen-own}
use Rattle.topology.specs.Topology.{case_of}

-- ---- the edges of a mask

all-fourteen : Ascending (numbers 14)
unfolding Ascending keep is_in count numbers each bit
all-fourteen = refl

edges_ascend : (m : ℕ) → Ascending (edges_of m)
unfolding edges_of
edges_ascend m = ascending_keep (is_set m) (numbers 14) all-fourteen

edges-all : (ms : List ℕ) → All Ascending (map edges_of ms)
unfolding All
edges-all [] = tt
edges-all (m ∷ ms) = (edges_ascend m, edges-all ms)

number_once : (e n : ℕ) → e < n → count (eqb e) (numbers n) ≡ 1
unfolding numbers
number_once e n h =
    let k : e < length (each n (λ i. i ∷ [])) = omega (arith, each-one-length n (λ (i : ℕ). i)) in
    let z : eqb e (get_or (each n (λ i. i ∷ [])) e 0) ≡ true = eq-eqb e (get_or (each n (λ i. i ∷ [])) e 0) (sym (each-one-at 0 n (λ (i : ℕ). i) e h)) in
    omega (arith, (each_once n e).most, count-some 0 (eqb e) (each n (λ i. i ∷ [])) e k z)

number_past : (e n : ℕ) → n ≤ e → count (eqb e) (numbers n) ≡ 0
unfolding numbers
number_past e n h = (each_once n e).past h

edge-digit : (m e : ℕ) → e < 14 → count (eqb e) (edges_of m) ≡ digit m e
unfolding edges_of bit
edge-digit m e h = count-key (is_set m) e (numbers 14) ∙ go (is_set m e) ∙ sym (digit-is m e)
  where
    go : (c : Bool) → cond c (count (eqb e) (numbers 14)) 0 ≡ bit c
    go true = number_once e 14 h
    go false = refl

edge_past : (m e : ℕ) → 14 ≤ e → count (eqb e) (edges_of m) ≡ 0
unfolding edges_of
edge_past m e h = omega (arith, count-keep (eqb e) (is_set m) (numbers 14), number_past e 14 h)

-- an edge among the edges of some masks
edge-total : (ms : List ℕ) (e : ℕ) → count (eqb e) (joined (map edges_of ms)) ≡ total (λ m. count (eqb e) (edges_of m)) ms
edge-total ms e = count-joined (eqb e) (map edges_of ms) ∙ total-map (count (eqb e)) edges_of ms

module _ (m : ℕ) (cs : List ℕ) (low : m < 2 ^ 14) (P : Partition m cs) where
  edge_cover : (e : ℕ) → count (eqb e) (joined (map edges_of cs)) ≡ bit (is_set m e)
  edge_cover e =
      ⊎_elim
      (λ h. edge-total cs e ∙ total-same (λ c. count (eqb e) (edges_of c)) (λ c. digit c e) (λ c. edge-digit c e h) cs ∙ P.cover e ∙ digit-is m e)
      (λ h.
      edge-total cs e ∙ total-same (λ c. count (eqb e) (edges_of c)) (λ c. 0) (λ c. edge_past c e h) cs ∙ total-zero cs
      ∙ sym (digit_high 14 m e low h) ∙ digit-is m e) (lt-or e 14)

-- ---- the clusters of a site

mask_low : (n : Sides) (S : List Float) (h : Float) (s : ℕ) → mask_at n S h s < 2 ^ 14
unfolding mask_at
mask_low n S h s = mask_lt 14 (marked n S h s)

clusters_are : (m : ℕ) (cluster : Bool) (ends : List (Option Float)) (h : Float) → m < 2 ^ 14
    → (cs : List ℕ) × (take (topology_of m cluster ends h).clusters.count (topology_of m cluster ends h).clusters.masks ≡ cs) × Partition m cs
unfolding topology_of
clusters_are m cluster ends h low =
    let cs = clusters_in (case_of m cluster ends h) (fourteen m) in
    (cs, take-append_seam cs (replicate (14 - length cs) 0), subst (λ (x : ℕ). Partition x cs) (fourteen-own m low) (clusters_partition m cluster ends h))

module _ (n : Sides) (S : List Float) (h : Float) where
  -- the edge e is marked at the site s, by its mask
  unfoldable pub mark_at : ℕ → ℕ → Bool
  mark_at s e = is_set (mask_at n S h s) e

  pub clusters_cover : (cluster : Bool) (s e : ℕ) → count (eqb e) (joined (clusters_at n S h cluster s)) ≡ bit (mark_at s e)
  unfolding clusters_at mark_at
  clusters_cover cluster s e =
      let c = clusters_are (mask_at n S h s) cluster (ends_of n S s) h (mask_low n S h s) in
      ap (λ (l : List ℕ). count (eqb e) (joined (map edges_of l))) c.1 ∙ edge_cover (mask_at n S h s) c.0 (mask_low n S h s) c.2 e

  pub clusters_ascend : (cluster : Bool) (s : ℕ) → All Ascending (clusters_at n S h cluster s)
  unfolding clusters_at
  clusters_ascend cluster s = edges-all (take (topology_of (mask_at n S h s) cluster (ends_of n S s) h).clusters.count (topology_of (mask_at n S h s) cluster (ends_of n S s) h).clusters.masks)

  -- the mask has the marks
  pub mark-is : (s e : ℕ) → e < 14 → bit (mark_at s e) ≡ bit (marked n S h s e)
  unfolding mark_at mask_at
  mark-is s e l = sym (digit-is (mask 14 (marked n S h s)) e) ∙ mask-digit 14 (marked n S h s) e l

  pub mark_label_lem : (s e : ℕ) → mark_at s e ≡ true → e < 14
  unfolding mark_at
  mark_label_lem s e m = digit-below 14 (mask_at n S h s) e (mask_low n S h s) (set-digit (mask_at n S h s) e m)
