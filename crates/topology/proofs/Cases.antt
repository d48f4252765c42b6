-- The answer of the topology test by the way that its tests went. Assumes nothing.
use Rattle.std.specs.Prelude.{Option}
use Rattle.std.proofs.Common.{◌≡◌, ℕ, zero, suc, ◌+◌, ◌^◌, ◌<◌, ◌≤◌, Bool, true, false, cond, not, eqb, ltb, List, [], ◌∷◌, length, sym, refl, ap, ◌∙◌, subst, ap₂, arith, le-ltb, lt-ltb, eq-eqb, ne_eqb}
use lib.Ieee.{Float}
use lib.Bits.{and_mask, mask_lt}
use Rattle.laws.specs.Lists.{total}
use Rattle.laws.proofs.Digits.{digit_ext, digit_lt}
use Rattle.topology.specs.declared.TopologyCase.TheVariants.{ClosedSurface, MultiHole, FlatHole, MultiSurface, SimpleSurface, DoNotCluster}
use Rattle.topology.specs.declared.TopologyCase.{TopologyCase}
use Rattle.topology.specs.Parts.{low, Parts}
use Rattle.topology.specs.Walk.{fourteen, walks_in, walks, components, visits}
use Rattle.topology.specs.Flat.{is_flat}
use Rattle.topology.specs.Topology.{others, Kind, empty, closed, surfaces, holes, single, kind_of, walks_of, case_by, singles, clusters_in, result, case_of, visits_of, topology_of}
use Rattle.topology.proofs.Walk.{low_in}
use Rattle.topology.proofs.Parts.{components_parts, in_short}

-- ---- one surface: its component is the mask

-- a mask of the fourteen edges is its own
pub fourteen-own : (m : ℕ) → m < 2 ^ 14 → fourteen m ≡ m
fourteen-own m h = and_mask m 14 ∙ omega arith

pub fourteen-lt : (m : ℕ) → fourteen m < 2 ^ 14
fourteen-lt m = mask_lt m 14

only_part : (m : ℕ) (cs : List ℕ) → 0 < m → m < 2 ^ 14 → length cs ≤ 1 → Parts m cs → cs ≡ m ∷ []
unfolding total
only_part m [] p h l k = absurd (omega (arith, k.cover (low m), low_in m p h))
only_part m (c ∷ []) p h l k =
    ap (λ (x : ℕ). x ∷ [])
    (digit_ext 14 c m (in_short m c h (λ e s. omega (arith, k.cover e, digit_lt m e))) h (λ e b. omega (arith, k.cover e)))
only_part m (c ∷ d ∷ cs) p h l k = absurd (omega arith)

pub one_component : (m : ℕ) → 0 < m → m < 2 ^ 14 → length (components m) ≤ 1 → components m ≡ m ∷ []
one_component m p h l = only_part m (components m) p h l (subst (λ (x : ℕ). Parts x (components m)) (fourteen-own m h) (components_parts m))

pub no_component : components 0 ≡ []
unfolding components walks walks_in
no_component = refl

-- ---- the kind of a mask

module _ (m : ℕ) where
  pub kind_empty : m ≡ 0 → kind_of m ≡ empty
  unfolding kind_of
  kind_empty e = rw (eq-eqb _ _ e)

  module _ (some : m ≡ 0 → ⊥) where
    pub kind_some : kind_of m ≡ empty → ⊥
    unfolding kind_of
    kind_some e =
        never (eqb m 0x3FFF) (ltb 1 (length (components m))) (eqb (length (components (others m))) 1) (rw (ne_eqb _ _ some) at e)
      where
        never : (a b c : Bool) → cond a closed (cond b surfaces (cond c single holes)) ≡ empty → ⊥
        never true b c e = let z : ◌≡◌ {A = ℕ} 0 1 = cc in omega arith
        never false true c e = let z : ◌≡◌ {A = ℕ} 0 1 = cc in omega arith
        never false false true e = let z : ◌≡◌ {A = ℕ} 0 1 = cc in omega arith
        never false false false e = let z : ◌≡◌ {A = ℕ} 0 1 = cc in omega arith

    pub kind_closed : m ≡ 0x3FFF → kind_of m ≡ closed
    unfolding kind_of
    kind_closed e = rw (ne_eqb _ _ some, eq-eqb _ _ e)

    module _ (gaps : m ≡ 0x3FFF → ⊥) where
      pub kind_surfaces : 1 < length (components m) → kind_of m ≡ surfaces
      unfolding kind_of
      kind_surfaces l = rw (ne_eqb _ _ some, ne_eqb _ _ gaps, lt-ltb _ _ l)

      module _ (one : length (components m) ≤ 1) where
        pub kind_holes : (length (components (others m)) ≡ 1 → ⊥) → kind_of m ≡ holes
        unfolding kind_of
        kind_holes n = rw (ne_eqb _ _ some, ne_eqb _ _ gaps, le-ltb _ _ one, ne_eqb _ _ n)

        pub kind_single : length (components (others m)) ≡ 1 → kind_of m ≡ single
        unfolding kind_of
        kind_single n = rw (ne_eqb _ _ some, ne_eqb _ _ gaps, le-ltb _ _ one, eq-eqb _ _ n)

-- ---- the answers

module _ (near : ℕ) (cluster : Bool) (ends : List (Option Float)) (h : Float) where
  -- by the kind, whether to cluster, and whether the hole is flat: the case, and the masks that were walked
  by_kind : (k : Kind) (b f : Bool) → kind_of (fourteen near) ≡ k → cluster ≡ b → is_flat (fourteen near) ends h ≡ f
      → topology_of near cluster ends h ≡ result (case_by k b f) (clusters_in (case_by k b f) (fourteen near)) (cond b (total visits (walks_of k (fourteen near))) 0)
  unfolding topology_of case_of visits_of
  by_kind k b f ek eb ef = λ i. result (case_by (ek i) (eb i) (ef i)) (clusters_in (case_by (ek i) (eb i) (ef i)) (fourteen near)) (cond (eb i) (total visits (walks_of (ek i) (fourteen near))) 0)

  pub is-empty : fourteen near ≡ 0 → topology_of near cluster ends h ≡ result SimpleSurface [] 0
  unfolding total
  is-empty e =
      by_kind empty cluster _ (kind_empty _ e) refl refl
      ∙ ap₂ (result SimpleSurface) (ap components e ∙ no_component) (either cluster)
    where
      either : (b : Bool) → ◌≡◌ {A = ℕ} (cond b 0 0) 0
      either true = refl
      either false = refl

  module _ (some : fourteen near ≡ 0 → ⊥) where
    pub is-apart : not cluster ≡ true → topology_of near cluster ends h ≡ result DoNotCluster (singles (fourteen near)) 0
    is-apart e =
        by_kind _ false _ refl (negated cluster e) refl
        ∙ ap (λ (c : TopologyCase). result c (clusters_in c (fourteen near)) 0) (apart (kind_of (fourteen near)) _ (kind_some _ some))
      where
        negated : (b : Bool) → not b ≡ true → b ≡ false
        negated true e = sym e
        negated false e = refl

        apart : (k : Kind) (f : Bool) → (k ≡ empty → ⊥) → case_by k false f ≡ DoNotCluster
        apart empty f n = absurd (n refl)
        apart closed f n = refl
        apart surfaces f n = refl
        apart holes f n = refl
        apart single f n = refl

    module _ (on : not cluster ≡ false) where
      is-on : cluster ≡ true
      is-on = go cluster on
        where
          go : (b : Bool) → not b ≡ false → b ≡ true
          go true e = refl
          go false e = sym e

      pub is-closed : fourteen near ≡ 0x3FFF → topology_of near cluster ends h ≡ result ClosedSurface (singles (fourteen near)) 0
      unfolding total
      is-closed e = by_kind closed true _ (kind_closed _ some e) is-on refl

      module _ (gaps : fourteen near ≡ 0x3FFF → ⊥) where
        abbrev one-walk : ℕ
        one-walk = visits (fourteen near)

        abbrev two-walks : ℕ
        two-walks = visits (fourteen near) + visits (others (fourteen near))

        pub is-surfaces : 1 < length (components (fourteen near)) → topology_of near cluster ends h ≡ result MultiSurface (components (fourteen near)) one-walk
        unfolding total
        is-surfaces l = by_kind surfaces true _ (kind_surfaces _ some gaps l) is-on refl ∙ ap (result MultiSurface (components (fourteen near))) (omega arith)

        module _ (one : length (components (fourteen near)) ≤ 1) where
          both : total visits (fourteen near ∷ others (fourteen near) ∷ []) ≡ two-walks
          unfolding total
          both = omega arith

          pub is-holes : (length (components (others (fourteen near))) ≡ 1 → ⊥)
              → topology_of near cluster ends h ≡ result MultiHole (singles (fourteen near)) two-walks
          is-holes n = by_kind holes true _ (kind_holes _ some gaps one n) is-on refl ∙ ap (result MultiHole (singles (fourteen near))) both

          module _ (hole : length (components (others (fourteen near))) ≡ 1) where
            pub is_flat_lem : is_flat (fourteen near) ends h ≡ true → topology_of near cluster ends h ≡ result FlatHole (singles (fourteen near)) two-walks
            is_flat_lem t = by_kind single true true (kind_single _ some gaps one hole) is-on t ∙ ap (result FlatHole (singles (fourteen near))) both

            pub is_simple : is_flat (fourteen near) ends h ≡ false → topology_of near cluster ends h ≡ result SimpleSurface (fourteen near ∷ []) two-walks
            is_simple t =
                let p : 0 < fourteen near = pos (fourteen near) some in
                by_kind single true false (kind_single _ some gaps one hole) is-on t
                ∙ ap₂ (result SimpleSurface) (one_component (fourteen near) p (fourteen-lt near) one) both
              where
                pos : (x : ℕ) → (x ≡ 0 → ⊥) → 0 < x
                pos zero n = absurd (n refl)
                pos (suc x) n = omega arith
