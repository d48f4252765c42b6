-- What the answers of the topology test are: the clusters are a partition of the mask, at most fourteen; what they depend on; and there is one answer. Assumes nothing.
use Rattle.std.specs.Prelude.{Option}
use Rattle.std.proofs.Common.{◌≡◌, ℕ, zero, suc, ◌+◌, ◌^◌, ◌<◌, ◌≤◌, Bool, true, false, cond, ◌&&◌, List, [], ◌∷◌, ◌++◌, length, sym, refl, ap, ◌∙◌, subst, ap₂, ⊎_elim, add-zero, add-suc, suc-add, zero-add, arith}
use lib.Ieee.{Float}
use Rattle.laws.specs.Lists.{All, total}
use Rattle.laws.specs.Ranges.{each}
use Rattle.laws.specs.Digits.{digit}
use Rattle.laws.proofs.Lists.{all_map, total-append}
use Rattle.laws.proofs.Ranges.{lt-or, eq-or, each_first, each_same, each_all, any_same}
use Rattle.laws.proofs.Digits.{digit-or-not, digit-pow-same, digit-pow_other, digit_high, low-pow}
use Rattle.tables.specs.FlatHoles.{flat_hole}
use Rattle.topology.specs.declared.TopologyCase.{TopologyCase}
use Rattle.topology.specs.declared.TopologyCase.TheVariants.{ClosedSurface, MultiHole, FlatHole, MultiSurface, SimpleSurface, DoNotCluster}
use Rattle.topology.specs.Parts.{low, Component, Ascending, Parts, Partition}
use Rattle.topology.specs.Walk.{fourteen, components, visits}
use Rattle.topology.specs.Flat.{end_at, pairs_collapse, row_flat, is_flat}
use Rattle.topology.specs.Topology.{Kind, empty, closed, surfaces, holes, single, kind_of, walks_of, case_by, singles, clusters_in, result, case_of, visits_of, topology_of, is_single, asks_ends}
use Rattle.topology.proofs.Parts.{components_parts, parts_unique}
use Rattle.topology.proofs.WalkLoops.{components-le}
use Rattle.topology.proofs.Rows.{off, on, row-edges}
use Rattle.topology.proofs.Singles.{at, at_set, at_unset, singles-le}
use Rattle.topology.proofs.Cases.{fourteen-own, fourteen-lt}

-- ---- the components of a mask, as the walk answers

pub components-only : (m : ℕ) (cs : List ℕ) → Parts (fourteen m) cs → cs ≡ components m
components-only m cs p = parts_unique (fourteen m) cs (components m) (fourteen-lt m) p (components_parts m)

components_partition : (m : ℕ) → m < 2 ^ 14 → Partition m (components m)
components_partition m h =
    let p = subst (λ (x : ℕ). Parts x (components m)) (fourteen-own m h) (components_parts m) in
    record { cover = p.cover; some = all_map (Component m) (λ c. 0 < c) (λ c k. k.some) (components m) p.each; order = p.order }

-- ---- the edges of a mask one by one

module _ (m e : ℕ) where
  digits : List ℕ → ℕ
  digits cs = total (λ c. digit c e) cs

  here : digits (at m e) ≡ digit m e
  unfolding digits total
  here = ⊎_elim (λ z. ap digits (at_unset m e z) ∙ sym z) (λ o. ap digits (at_set m e o) ∙ omega (arith, digit-pow-same e)) (digit-or-not m e)

  elsewhere : (n : ℕ) → (n ≡ e → ⊥) → digits (at m n) ≡ 0
  unfolding digits total
  elsewhere n d = ⊎_elim (λ z. ap digits (at_unset m n z)) (λ o. ap digits (at_set m n o) ∙ omega (arith, digit-pow_other n e d)) (digit-or-not m n)

  before : (n : ℕ) → n ≤ e → digits (each n (at m)) ≡ 0
  unfolding digits total each
  before zero l = refl
  before (suc n) l = total-append (λ c. digit c e) (each n (at m)) (at m n) ∙ omega (arith, before n (omega arith), elsewhere n (λ q. omega arith))

  after : (n : ℕ) → e < n → digits (each n (at m)) ≡ digit m e
  unfolding digits total each
  after zero l = absurd (omega arith)
  after (suc n) l =
      total-append (λ c. digit c e) (each n (at m)) (at m n)
      ∙ ⊎_elim
      (λ q. omega (arith, before n (omega arith), ap (λ (x : ℕ). digits (at m x)) q, here))
      (λ d. omega (arith, after n (omega arith), elsewhere n d)) (eq-or n e)

  singles_cover : m < 2 ^ 14 → total (λ c. digit c e) (singles m) ≡ digit m e
  unfolding digits singles
  singles_cover h = ⊎_elim (λ l. after 14 l) (λ l. before 14 l ∙ sym (digit_high 14 m e h l)) (lt-or e 14)

pow-some : (e : ℕ) → e < 14 → 0 < 2 ^ e
pow-some e l = pos (2 ^ e) (digit-pow-same e)
  where
    pos : (x : ℕ) → digit x e ≡ 1 → 0 < x
    pos zero s = omega (arith, digit_high 0 0 e (omega arith) (omega arith))
    pos (suc x) s = omega arith

-- the edges from o on ascend; with edge o before them they do
abbrev From : ℕ → List ℕ → Type 0
From o cs = Ascending cs × All (λ d. o ≤ low d) cs

from_more : (m o : ℕ) (rest : List ℕ) → o < 14 → From (suc o) rest → From o (at m o ++ rest)
unfolding Ascending All
from_more m o rest l ih =
    ⊎_elim (λ z. subst (λ (x : List ℕ). From o (x ++ rest)) (sym (at_unset m o z)) (ih.0, weaker))
    (λ s. subst (λ (x : List ℕ). From o (x ++ rest)) (sym (at_set m o s))
    ((all_map (λ d. suc o ≤ low d) (λ d. low (2 ^ o) < low d) (λ d b. omega (arith, is-low)) rest ih.1, ih.0), (omega (arith, is-low), weaker))) (digit-or-not m o)
  where
    is-low : low (2 ^ o) ≡ o
    is-low = low-pow 16 o (omega arith)

    weaker : All (λ d. o ≤ low d) rest
    weaker = all_map (λ d. suc o ≤ low d) (λ d. o ≤ low d) (λ d b. omega arith) rest ih.1

from_all : (m n o : ℕ) → n + o ≤ 14 → From o (each n (λ i. at m (o + i)))
unfolding Ascending All each
from_all m zero o l = (tt, tt)
from_all m (suc n) o l =
    let e : each (suc n) (λ i. at m (o + i)) ≡ at m o ++ each n (λ i. at m (suc o + i)) =
    each_first n (λ i. at m (o + i))
    ∙ ap₂ (λ (x y : List ℕ). x ++ y) (ap (at m) (add-zero o))
    (each_same n (λ i. at m (o + suc i)) (λ i. at m (suc o + i)) (λ i b. ap (at m) (add-suc o i ∙ sym (suc-add o i)))) in
    subst (From o) (sym e) (from_more m o (each n (λ i. at m (suc o + i))) (omega arith) (from_all m n (suc o) (omega arith)))

singles_partition : (m : ℕ) → m < 2 ^ 14 → Partition m (singles m)
unfolding singles All
singles_partition m h = record {
  cover = λ e. singles_cover m e h;
  some = each_all (λ c. 0 < c) 14 (at m) one;
  order = subst Ascending (each_same 14 (λ i. at m (0 + i)) (at m) (λ i l. ap (at m) (zero-add i))) (from_all m 14 0 (omega arith)).0;
}
  where
    nothing : All (λ (c : ℕ). 0 < c) []
    nothing = tt

    some_one : {c : ℕ} → 0 < c → All (λ (c : ℕ). 0 < c) (c ∷ [])
    some_one p = (p, tt)

    one : (i : ℕ) → i < 14 → All (λ c. 0 < c) (at m i)
    one i l =
        ⊎_elim (λ z. subst (All (λ c. 0 < c)) (sym (at_unset m i z)) nothing) (λ o. subst (All (λ c. 0 < c)) (sym (at_set m i o)) (some_one (pow-some i l))) (digit-or-not m i)

-- ---- the clusters

clusters_by : (c : TopologyCase) (m : ℕ) → m < 2 ^ 14 → Partition m (clusters_in c m) × (length (clusters_in c m) ≤ 14)
clusters_by ClosedSurface m h = (singles_partition m h, singles-le m)
clusters_by MultiHole m h = (singles_partition m h, singles-le m)
clusters_by FlatHole m h = (singles_partition m h, singles-le m)
clusters_by MultiSurface m h = (components_partition m h, components-le m)
clusters_by SimpleSurface m h = (components_partition m h, components-le m)
clusters_by DoNotCluster m h = (singles_partition m h, singles-le m)

module _ (near : ℕ) (cluster : Bool) (ends : List (Option Float)) (h : Float) where
  -- the clusters of the answer
  abbrev pub clusters : List ℕ
  clusters = clusters_in (case_of near cluster ends h) (fourteen near)

  pub clusters_partition : Partition (fourteen near) clusters
  clusters_partition = (clusters_by (case_of near cluster ends h) (fourteen near) (fourteen-lt near)).0

  pub clusters-le : (topology_of near cluster ends h).clusters.count ≤ 14
  unfolding topology_of
  clusters-le = (clusters_by (case_of near cluster ends h) (fourteen near) (fourteen-lt near)).1

-- ---- what the answer depends on

-- the fourteen low bits of the mask
pub depends_low : (a b : ℕ) (cluster : Bool) (ends : List (Option Float)) (h : Float) → fourteen a ≡ fourteen b → topology_of a cluster ends h ≡ topology_of b cluster ends h
unfolding topology_of case_of visits_of
depends_low a b cluster ends h e =
    ap (λ (m : ℕ). result (case_by (kind_of m) cluster (is_flat m ends h)) (clusters_in (case_by (kind_of m) cluster (is_flat m ends h)) m) (cond cluster (total visits (walks_of (kind_of m) m)) 0)) e

-- the samples at the ends, only where they are asked for
unasked : (k : Kind) (cluster f g : Bool) → cluster && is_single k ≡ false → case_by k cluster f ≡ case_by k cluster g
unasked empty cluster f g e = refl
unasked closed true f g e = refl
unasked closed false f g e = refl
unasked surfaces true f g e = refl
unasked surfaces false f g e = refl
unasked holes true f g e = refl
unasked holes false f g e = refl
unasked single true f g e = let z : ◌≡◌ {A = Bool} true false = e in absurd (let n : ◌≡◌ {A = ℕ} 0 1 = cc in omega arith)
unasked single false f g e = refl

pub depends_ends : (near : ℕ) (cluster : Bool) (ends ends' : List (Option Float)) (h h' : Float) → asks_ends near cluster ≡ false
    → topology_of near cluster ends h ≡ topology_of near cluster ends' h'
unfolding topology_of case_of asks_ends
depends_ends near cluster ends ends' h h' e =
    ap (λ (c : TopologyCase). result c (clusters_in c (fourteen near)) (visits_of near cluster))
    (unasked (kind_of (fourteen near)) cluster (is_flat (fourteen near) ends h) (is_flat (fourteen near) ends' h') e)

-- and of these only the fourteen, where they are finite
flat-ends : (m : ℕ) (ends ends' : List (Option Float)) (h : Float) → ((e : ℕ) → e < 14 → end_at ends e ≡ end_at ends' e) → is_flat m ends h ≡ is_flat m ends' h
unfolding is_flat row_flat pairs_collapse
flat-ends m ends ends' h same =
    any_same 36 (λ i. row_flat m ends h (flat_hole i)) (λ i. row_flat m ends' h (flat_hole i))
    (λ i l. let e = row-edges i l in rw (same (off i).first e.0.0, same (off i).second e.0.1, same (on i).first e.1.0, same (on i).second e.1.1))

pub depends_fourteen : (near : ℕ) (cluster : Bool) (ends ends' : List (Option Float)) (h : Float) → ((e : ℕ) → e < 14 → end_at ends e ≡ end_at ends' e)
    → topology_of near cluster ends h ≡ topology_of near cluster ends' h
unfolding topology_of case_of
depends_fourteen near cluster ends ends' h same = rw (flat-ends (fourteen near) ends ends' h same)
