-- The edges that the candidates of the samples hold: each crossed edge with finite ends once, and nothing else. Assumes nothing.
use Rattle.std.specs.Prelude.{Option, None, Some}
use mathlib.Core.Path.{◌≡◌, refl, ap, sym, ◌∙◌}
use mathlib.Core.Logic.{⊎_elim}
use mathlib.Core.Bool.{Bool, true, false, ◌&&◌, cond, and_comm}
use mathlib.Core.List.{List, [], ◌∷◌, map}
use Prim.Native.Nat.{ℕ, ◌+◌, ◌*◌, ◌-◌, ◌/◌, ◌%◌, ◌<◌, ◌≤◌}
use native.Mathlib.Omega.{arith}
use native.Mathlib.Nat.{mul_comm}
use lib.Dec.{eqb}
use borrow.Author.Tests.{lt-ltb, le-ltb}
use Rattle.lattice.specs.declared.Sides.{Sides}
use lib.Ieee.{Float}
use Rattle.stages.specs.Boxes.{Box, owned, reach}
use Rattle.stages.specs.Vertices.{candidates, filled, fresh, held, keys, site_vertices}
use Rattle.stages.specs.Stages.{held_keys}
use Rattle.stages.specs.Samples.{box_of, point_by, pointed}
use Rattle.stages.proofs.Stages.{held-sum, keys_of}
use Rattle.stages.proofs.SampleClusters.{mark-is, mark_label_lem, mark_at}
use Rattle.stages.proofs.SampleMarks.{below-reach, owned_high, owned-low, sample_clustered}
use Rattle.laws.specs.Bools.{bit}
use Rattle.laws.specs.Ranges.{sum}
use Rattle.laws.specs.Lists.{count, joined, keep, total}
use Rattle.tables.specs.Edges.{reverse}
use Rattle.lattice.specs.Sites.{SidesFit, sites}
use Rattle.lattice.specs.Across.{across_of}
use Rattle.samples.specs.Sides.{finite}
use Rattle.marks.specs.Marks.{is_crossed, marked, marked_by, sample}
use Rattle.laws.proofs.Bools.{bit_and-part}
use Rattle.laws.proofs.Ranges.{lt-or}
use Rattle.laws.proofs.Lists.{count-append}
use Rattle.laws.proofs.Sums.{count-spread, each-total, sum_rows, sum_same}
use Rattle.tables.proofs.Edges.{reverse_high}
use Rattle.lattice.proofs.OtherEnds.{across_back}
use Rattle.marks.proofs.Count.{marks_weigh, owner_weight}

-- ---- the vertices of a site, as a count over its clusters

module _ (b : Box) (q : ℕ → Bool) (s : ℕ) where
  -- the edge has a point, and its place passes the test
  wanted : ℕ → Bool
  wanted e = b.point s e && q (owned b.sides s e)

  keep-keys : (l : List ℕ) → count q (map (owned b.sides s) (keep (b.point s) l)) ≡ count wanted l
  unfolding count keep wanted bit
  keep-keys [] = refl
  keep-keys (e ∷ l) = go (b.point s e) (keep-keys l)
    where
      go : (c : Bool) → count q (map (owned b.sides s) (keep (b.point s) l)) ≡ count wanted l
          → count q (map (owned b.sides s) (cond c (e ∷ keep (b.point s) l) (keep (b.point s) l))) ≡ bit (c && q (owned b.sides s e)) + count wanted l
      go true h = omega (arith, h)
      go false h = h ∙ omega arith

  group : (l : List ℕ) (rest : List (List ℕ)) (m : ℕ) (k : List ℕ) → count q (map (owned b.sides s) k) ≡ count wanted l
      → total (keys_of b q) (map (fresh 0 s) rest) ≡ m → total (keys_of b q) (map (fresh 0 s) (cond (filled k) (k ∷ rest) rest)) ≡ count wanted l + m
  unfolding filled total keys_of keys fresh held count
  group l rest m [] d e = omega (arith, d, e)
  group l rest m (x ∷ k) d e = omega (arith, d, e)

  groups : (ls : List (List ℕ)) → total (keys_of b q) (map (fresh 0 s) (keep filled (map (keep (b.point s)) ls))) ≡ count wanted (joined ls)
  unfolding total keep joined count
  groups [] = refl
  groups (l ∷ ls) =
      group l (keep filled (map (keep (b.point s)) ls)) (count wanted (joined ls)) (keep (b.point s) l) (keep-keys l) (groups ls)
      ∙ sym (count-append wanted l (joined ls))

  site-keys : total (keys_of b q) (site_vertices b s) ≡ count wanted (joined (b.clusters s))
  unfolding site_vertices
  site-keys = groups (b.clusters s)

-- ---- the same by the owners of the edges

-- an edge's point does not depend on the end it is seen from
point_turned : (S : List Float) (s t : ℕ) → point_by S t (Some s) ≡ point_by S s (Some t)
unfolding point_by
point_turned S s t = and_comm (finite (sample S t)) (finite (sample S s))

mark_past : (n : Sides) (S : List Float) (h : Float) (s e : ℕ) → 14 ≤ e → bit (mark_at n S h s e) ≡ 0
unfolding bit
mark_past n S h s e g = go (mark_at n S h s e) refl
  where
    go : (c : Bool) → mark_at n S h s e ≡ c → bit c ≡ 0
    go true m = let z : ⊥ = omega (arith, mark_label_lem n S h s e m) in absurd z
    go false m = refl

module _ (n : Sides) (S : List Float) (h : Float) (cluster : Bool) (f : SidesFit n) where
  abbrev pub box : Box
  box = box_of n S h cluster

  module _ (q : ℕ → Bool) where
    -- the owned edge l of the site s has a point, and its place passes the test
    weight : ℕ → ℕ → ℕ
    weight s l = bit (point_by S s (across_of n s l) && q (7 * s + l))

    weight_is : (s e t : ℕ) → s < sites n → e < 14 → across_of n s e ≡ Some t
        → owner_weight weight s e (Some t) ≡ bit (point_by S s (Some t) && q (owned n s e))
    unfolding owner_weight weight
    weight_is s e t hs he a =
        ⊎_elim
        (λ k. rw (lt-ltb e 7 k) (λ i. bit (point_by S s (a i) && q (sym (owned-low n s e k) i))))
        (λ k.
        let r : reverse e ≡ e - 7 = reverse_high e k he in
        let b : across_of n t (e - 7) ≡ Some s = ap (across_of n t) (sym r) ∙ across_back n s e t f hs he a in
        let z : s ≡ t + reach n (e - 7) = below-reach n s e t f hs k a in
        let o : 7 * t + (e - 7) ≡ owned n s e = omega (arith, owned_high n s e k, z) in
        rw (le-ltb e 7 k) ((λ i. bit (point_by S t (b i) && q (o i))) ∙ ap (λ (c : Bool). bit (c && q (owned n s e))) (point_turned S s t))) (lt-or e 7)

    edge_weight : (s e : ℕ) → s < sites n → e < 14
        → bit (wanted box q s e) * bit (mark_at n S h s e) ≡ bit (marked n S h s e) * owner_weight weight s e (across_of n s e)
    unfolding wanted box_of marked marked_by owner_weight point_by bit
    edge_weight s e hs he = ap (λ (m : ℕ). bit (point_by S s (across_of n s e) && q (owned n s e)) * m) (mark-is n S h s e he) ∙ go (across_of n s e) refl
      where
        go : (o : Option ℕ) → across_of n s e ≡ o
            → bit (point_by S s o && q (owned n s e)) * bit (marked_by S h s e o) ≡ bit (marked_by S h s e o) * owner_weight weight s e o
        go None a = refl
        go (Some t) a =
            ap (λ (m : ℕ). m * bit (marked_by S h s e (Some t))) (sym (weight_is s e t hs he a)) ∙ mul_comm (owner_weight weight s e (Some t)) (bit (marked_by S h s e (Some t)))

    site-sum : (s : ℕ) → s < sites n → total (keys_of box q) (site_vertices box s) ≡ sum 14 (λ e. bit (marked n S h s e) * owner_weight weight s e (across_of n s e))
    unfolding box_of
    site-sum s hs =
        let C = sample_clustered n S h f cluster in
        site-keys box q s
        ∙ count-spread 14 (wanted box q s) (joined (box.clusters s)) (λ e g. C.cover s e hs ∙ mark_past n S h s e g)
        ∙ sum_same 14 (λ e. bit (wanted box q s e) * count (eqb e) (joined (box.clusters s))) (λ e. bit (marked n S h s e) * owner_weight weight s e (across_of n s e))
        (λ e g. ap (λ (m : ℕ). bit (wanted box q s e) * m) (C.cover s e hs) ∙ edge_weight s e hs g)

    held-owners : count q (held_keys box (candidates box)) ≡ sum (sites n) (λ s. sum 7 (λ l. bit (is_crossed n S h s l) * weight s l))
    unfolding candidates box_of
    held-owners =
        held-sum box q (candidates box) ∙ each-total (keys_of box q) (sites n) (site_vertices box)
        ∙ sum_same (sites n) (λ s. total (keys_of box q) (site_vertices box s)) (λ s. sum 14 (λ e. bit (marked n S h s e) * owner_weight weight s e (across_of n s e))) site-sum
        ∙ marks_weigh n S h f weight

    place_weight : (s l : ℕ) → l < 7 → bit (is_crossed n S h s l) * weight s l ≡ bit (pointed n S h (s * 7 + l)) * bit (q (s * 7 + l))
    unfolding weight pointed
    place_weight s l g =
        let d : (s * 7 + l) / 7 ≡ s = omega arith in
        let m : (s * 7 + l) % 7 ≡ l = omega arith in
        let o : 7 * s + l ≡ s * 7 + l = omega arith in
        rw (d, m, o) (bit_and-part (is_crossed n S h s l) (point_by S s (across_of n s l)) (q (s * 7 + l)))

    -- WHAT THE CANDIDATES HOLD, for any test on places: the crossed edges with finite ends, each once
    pub held_places : count q (held_keys box (candidates box)) ≡ sum (7 * sites n) (λ k. bit (pointed n S h k) * bit (q k))
    held_places =
        let e : sites n * 7 ≡ 7 * sites n = omega arith in
        held-owners
        ∙ sum_same (sites n) (λ s. sum 7 (λ l. bit (is_crossed n S h s l) * weight s l)) (λ s. sum 7 (λ l. bit (pointed n S h (s * 7 + l)) * bit (q (s * 7 + l))))
        (λ s hs. sum_same 7 (λ l. bit (is_crossed n S h s l) * weight s l) (λ l. bit (pointed n S h (s * 7 + l)) * bit (q (s * 7 + l))) (place_weight s))
        ∙ sym (sum_rows (sites n) 7 (λ k. bit (pointed n S h k) * bit (q k)))
        ∙ ap (λ (m : ℕ). sum m (λ k. bit (pointed n S h k) * bit (q k))) e
