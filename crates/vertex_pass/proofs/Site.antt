-- The clusters of one site are its vertices in the definition, and its case is counted. Assumes nothing.
use Rattle.std.specs.Prelude.{Option}
use mathlib.Core.Path.{◌≡◌, refl, sym, ap, ◌∙◌}
use mathlib.Core.Bool.{Bool, true, false, not, ◌&&◌, cond}
use mathlib.Core.List.{List, [], ◌∷◌, ◌++◌, map}
use Prim.Native.Nat.{ℕ, ◌+◌, ◌-◌, ◌≤◌, ◌<◌}
use native.Mathlib.Omega.{arith}
use lib.Dec.{eqb}
use borrow.Author.Tests.{eqb-true, eqb-false, eq-eqb, ne_eqb}
use lib.ListN.{length, get_or, set, take, replicate, length-set, length-append}
use lib.Seq.{ext_get_or, get_or-set_same, get_or-set_other, get_or-take, length-take-le}
use lib.Ieee.{Float}
use Rattle.laws.specs.Bools.{bit}
use Rattle.laws.specs.Ranges.{each}
use Rattle.laws.specs.Lists.{joined, keep}
use Rattle.laws.proofs.Bools.{bit_le}
use Rattle.laws.proofs.Ranges.{each_list, each_none, each-one-at, each-one-length, each_same}
use Rattle.laws.proofs.Sums.{sum-le, sum-turn}
use Rattle.lattice.specs.declared.Sides.{Sides}
use Rattle.marks.specs.Marks.{mask_at}
use Rattle.topology.specs.declared.TopologyCase.{TopologyCase}
use Rattle.topology.specs.declared.TopologyCase.TheVariants.{ClosedSurface, MultiHole, FlatHole, MultiSurface, SimpleSurface, DoNotCluster}
use Rattle.topology.specs.declared.TopologyResult.{TopologyResult}
use Rattle.topology.specs.Topology.{case_number, case_of, clusters_in, kind_of, topology_of}
use Rattle.topology.specs.Walk.{components, fourteen, walks, walks_in}
use Rattle.topology.proofs.Answers.{clusters-le}
use Rattle.stages.specs.Vertices.{Vertex, filled, fresh, site_vertices}
use Rattle.stages.specs.Samples.{box_of, clusters_at, edges_of, ends_of, case_count, is_case}
use Rattle.site_vertices.specs.Inner.Appending.{pointed_of}
use Rattle.vertex_pass.specs.Inner.Passing.{candidate_of, cases_to}

-- ---- the clusters

module _ (n : Sides) (S : List Float) (h : Float) (cluster : Bool) (s : ℕ) where
  abbrev pub found : TopologyResult
  found = topology_of (mask_at n S h s) cluster (ends_of n S s) h

  pub found-is : (m : ℕ) (ends : List (Option Float)) (r : TopologyResult) → m ≡ mask_at n S h s → ends ≡ ends_of n S s → r ≡ topology_of m cluster ends h → r ≡ found
  found-is m ends r a b e = e ∙ (λ i. topology_of (a i) cluster (b i) h)

  -- each cluster's candidate in turn
  one_by_one : (ms : List ℕ) → joined (map (candidate_of n S s) ms) ≡ map (fresh 0 s) (keep filled (map (keep ((box_of n S h cluster).point s)) (map edges_of ms)))
  unfolding joined candidate_of keep pointed_of box_of
  one_by_one [] = refl
  one_by_one (m ∷ ms) = go (filled (pointed_of n S s (edges_of m))) _ _ (one_by_one ms)
    where
      go : (c : Bool) (l : List ℕ) (r : List (List ℕ)) → joined (map (candidate_of n S s) ms) ≡ map (fresh 0 s) r
          → map (fresh 0 s) (cond c (l ∷ []) []) ++ joined (map (candidate_of n S s) ms) ≡ map (fresh 0 s) (cond c (l ∷ r) r)
      go true l r e = ap (λ (v : List Vertex). fresh 0 s l ∷ v) e
      go false l r e = e

  fits : found.clusters.count ≤ length found.clusters.masks
  unfolding topology_of
  fits = let cs = clusters_in (case_of (mask_at n S h s) cluster (ends_of n S s) h) (fourteen (mask_at n S h s)) in omega (arith, length-append cs (replicate (14 - length cs) 0))

  -- THE SITE'S VERTICES ARE THOSE OF ITS CLUSTERS
  pub site-found : (r : TopologyResult) → r ≡ found
      → site_vertices (box_of n S h cluster) s ≡ each r.clusters.count (λ c. candidate_of n S s (get_or r.clusters.masks c 0))
  unfolding site_vertices box_of clusters_at
  site-found r e =
      let k = found.clusters.count in
      let ms = found.clusters.masks in
      let l : length (take k ms) ≡ k = length-take-le k ms fits in
      sym (one_by_one (take k ms))
      ∙ sym (each_list (take k ms) 0 (candidate_of n S s))
      ∙ ap (λ (i : ℕ). each i (λ c. candidate_of n S s (get_or (take k ms) c 0))) l
      ∙ each_same k (λ c. candidate_of n S s (get_or (take k ms) c 0)) (λ c. candidate_of n S s (get_or ms c 0)) (λ c b. ap (candidate_of n S s) (get_or-take k ms c 0 b))
      ∙ ap (λ (x : TopologyResult). each x.clusters.count (λ c. candidate_of n S s (get_or x.clusters.masks c 0))) (sym e)

  pub count_low : (r : TopologyResult) → r ≡ found → r.clusters.count ≤ 14
  count_low r e = rw e (clusters-le (mask_at n S h s) cluster (ends_of n S s) h)

  empty : (topology_of 0 cluster (ends_of n S s) h).clusters.count ≡ 0
  unfolding topology_of case_of kind_of components walks walks_in
  empty = refl

  -- WITHOUT MARKS A SITE HAS NONE
  pub site-none : mask_at n S h s ≡ 0 → site_vertices (box_of n S h cluster) s ≡ []
  site-none z =
      site-found found refl
      ∙ ap (λ (i : ℕ). each i (λ c. candidate_of n S s (get_or found.clusters.masks c 0))) (ap (λ (m : ℕ). (topology_of m cluster (ends_of n S s) h).clusters.count) z ∙ empty)
      ∙ each_none (λ c. candidate_of n S s (get_or found.clusters.masks c 0))

  -- ---- the cases

  count-more : (j : ℕ) → case_count n S h cluster (s + 1) j ≡ case_count n S h cluster s j + bit (is_case n S h cluster j s)
  unfolding case_count
  count-more j = sym (sum-turn (λ i. bit (is_case n S h cluster j i)) s _ _ refl refl)

  -- as many of a case as sites at most
  count_most : (j : ℕ) → case_count n S h cluster s j ≤ s
  unfolding case_count
  count_most j = omega (arith, sum-le s 1 (λ i. bit (is_case n S h cluster j i)) (λ i. bit_le (is_case n S h cluster j i)))

  cases_at_lem : (k j : ℕ) → j < 6 → get_or (cases_to n S h cluster k) j 0 ≡ case_count n S h cluster k j
  unfolding cases_to
  cases_at_lem k j b = each-one-at 0 6 (case_count n S h cluster k) j b

  cases_long : (k : ℕ) → length (cases_to n S h cluster k) ≡ 6
  unfolding cases_to
  cases_long k = each-one-length 6 (case_count n S h cluster k)

  pub number-low : (c : TopologyCase) → case_number c < 6
  unfolding case_number
  number-low ClosedSurface = omega arith
  number-low MultiHole = omega arith
  number-low FlatHole = omega arith
  number-low MultiSurface = omega arith
  number-low SimpleSurface = omega arith
  number-low DoNotCluster = omega arith

  pub cases_few : (l : List ℕ) (j : ℕ) → l ≡ cases_to n S h cluster s → j < 6 → get_or l j 0 ≤ s
  cases_few l j e b = rw e (omega (arith, cases_at_lem s j b, count_most j))

  -- WITHOUT MARKS IT IS NO CASE
  pub cases_none : (l : List ℕ) → mask_at n S h s ≡ 0 → l ≡ cases_to n S h cluster s → l ≡ cases_to n S h cluster (s + 1)
  unfolding cases_to is_case bit
  cases_none l z e =
      e ∙ each_same 6 (λ j. case_count n S h cluster s j ∷ []) (λ j. case_count n S h cluster (s + 1) j ∷ [])
      (λ j b. ap (λ (x : ℕ). x ∷ []) (sym (count-more j ∙ ap (λ (c : Bool). case_count n S h cluster s j + bit (not c && eqb (case_number found.case) j)) (eq-eqb (mask_at n S h s) 0 z) ∙ omega arith)))

  -- WITH MARKS ITS CASE IS COUNTED
  pub cases_one : (l l' : List ℕ) (j : ℕ) → (mask_at n S h s ≡ 0 → ⊥) → l ≡ cases_to n S h cluster s → j ≡ case_number found.case → l' ≡ set l j (get_or l j 0 + 1)
      → l' ≡ cases_to n S h cluster (s + 1)
  unfolding is_case bit
  cases_one l l' j z e ej el =
      el
      ∙ ext_get_or 0 (set l j (get_or l j 0 + 1)) (cases_to n S h cluster (s + 1)) (length-set l j (get_or l j 0 + 1) ∙ long ∙ sym (cases_long (s + 1)))
      (λ i b. go i (omega (arith, length-set l j (get_or l j 0 + 1), long)) (eqb i j) refl)
    where
      long : length l ≡ 6
      long = ap length e ∙ cases_long s

      old : (i : ℕ) → i < 6 → get_or l i 0 ≡ case_count n S h cluster s i
      old i b = ap (λ (v : List ℕ). get_or v i 0) e ∙ cases_at_lem s i b

      new : (i : ℕ) → i < 6 → (c : Bool) → eqb (case_number found.case) i ≡ c → case_count n S h cluster s i + bit c ≡ get_or (cases_to n S h cluster (s + 1)) i 0
      new i b c q =
          ap (λ (x : Bool). case_count n S h cluster s i + bit x) (sym q ∙ ap (λ (x : Bool). not x && eqb (case_number found.case) i) (sym (ne_eqb (mask_at n S h s) 0 z)))
          ∙ sym (count-more i) ∙ sym (cases_at_lem (s + 1) i b)

      go : (i : ℕ) → i < 6 → (c : Bool) → eqb i j ≡ c → get_or (set l j (get_or l j 0 + 1)) i 0 ≡ get_or (cases_to n S h cluster (s + 1)) i 0
      go i b true q =
          let a : i ≡ j = eqb-true i j q in
          ap (λ (x : ℕ). get_or (set l j (get_or l j 0 + 1)) x 0) a
          ∙ get_or-set_same l j (get_or l j 0 + 1) 0 (omega (arith, long, a))
          ∙ ap (λ (x : ℕ). get_or l x 0 + 1) (sym a) ∙ ap (λ (x : ℕ). x + 1) (old i b)
          ∙ new i b true (eq-eqb (case_number found.case) i (sym ej ∙ sym a))
      go i b false q =
          get_or-set_other l j i (get_or l j 0 + 1) 0 (eqb-false i j q) ∙ old i b
          ∙ (omega arith) ∙ new i b false (ne_eqb (case_number found.case) i (λ (w : case_number found.case ≡ i). eqb-false i j q (sym w ∙ sym ej)))
