-- `topology::test_topology` meets its contract: at each return, the tests on the way decide the case. Assumes nothing.
use Rattle.std.proofs.Common.{◌≡◌, ℕ, ◌+◌, ◌<◌, ◌≤◌, length, sym, ap, ◌∙◌, subst, arith}
use Rattle.topology.specs.declared.Clusters.{Clusters}
use Rattle.topology.specs.declared.Components.{Components}
use Rattle.topology.specs.declared.TopologyCase.{TopologyCase}
use Rattle.topology.specs.declared.TopologyCase.TheVariants.{ClosedSurface, MultiHole, FlatHole, MultiSurface, SimpleSurface, DoNotCluster}
use Rattle.topology.specs.declared.TopologyResult.{TopologyResult}
use Rattle.topology.specs.Walk.{components, components_of}
use Rattle.topology.proofs.Visits.{visits-most}
use Rattle.topology.proofs.Cases.{is-empty, is-apart, is-closed, is-surfaces, is-holes, is_flat_lem, is_simple}
use mathlib.Core.Bool.{not}
use Rattle.topology.proofs.test_topology.Goals as goal

abbrev answer : TopologyCase → ℕ → Clusters → TopologyResult
answer c v k = record { case = c; clusters = k; visits = v }

-- after both walks
abbrev both : TopologyCase → Components → Components → Clusters → TopologyResult
both c a b k = answer c (a.visits + b.visits) k

-- what the walks over a mask say of it
module _ (m : ℕ) (r : Components) (e : r ≡ components_of m) where
  few : r.visits ≤ 14
  few = subst (λ (x : Components). x.visits ≤ 14) (sym e) (visits-most m)

  as_many : r.clusters.count ≡ length (components m)
  as_many = ap (λ (x : Components). x.clusters.count) e

  several : 1 < r.clusters.count → 1 < length (components m)
  several h = omega (arith, as_many)

  at_most_one : r.clusters.count ≤ 1 → length (components m) ≤ 1
  at_most_one h = omega (arith, as_many)

  just_one : r.clusters.count ≡ 1 → length (components m) ≡ 1
  just_one h = sym as_many ∙ h

  not_one : (r.clusters.count ≡ 1 → ⊥) → length (components m) ≡ 1 → ⊥
  not_one n h = n (as_many ∙ h)

pub returns-then-m-eq0 : goal.returns-then-m-eq0
returns-then-m-eq0 c = c.answer.ensures ∙ ap (answer SimpleSurface 0) c.no_cluster.ensures ∙ sym (is-empty _ _ _ _ c.if-m-eq0.true)

pub returns-then-not-cluster : goal.returns-then-not-cluster
returns-then-not-cluster c = c.answer-then-not-cluster.ensures ∙ ap (answer DoNotCluster 0) c.do_not_cluster.ensures
    ∙ sym (is-apart _ _ _ _ c.if-m-eq0.false (ap not c.if-not-cluster.true))

pub returns-then-m-eq-ALL14_MASK : goal.returns-then-m-eq-ALL14_MASK
returns-then-m-eq-ALL14_MASK c = c.answer-then-m-eq-ALL14_MASK.ensures ∙ ap (answer ClosedSurface 0) c.do_not_cluster-then-m-eq-ALL14_MASK.ensures
    ∙ sym (is-closed _ _ _ _ c.if-m-eq0.false (ap not c.if-not-cluster.false) c.if-m-eq-ALL14_MASK.true)

pub returns-then-surfaces-gt1 : goal.returns-then-surfaces-gt1
returns-then-surfaces-gt1 c = c.answer-then-surfaces-gt1.ensures ∙ ap (λ (r : Components). answer MultiSurface r.visits r.clusters) c.connected_components_masks-surfaces.ensures
    ∙ sym (is-surfaces _ _ _ _ c.if-m-eq0.false (ap not c.if-not-cluster.false) c.if-m-eq-ALL14_MASK.false
    (several _ _ c.connected_components_masks-surfaces.ensures c.if-surfaces-gt1.true))

pub overflow_add-total : goal.overflow_add-total
overflow_add-total c = omega (arith, few _ _ c.connected_components_masks-surfaces.ensures, few _ _ c.connected_components_masks-holes.ensures)

pub returns-then-holes-ne1 : goal.returns-then-holes-ne1
returns-then-holes-ne1 c = c.answer-then-holes-ne1.ensures
    ∙ (λ i. both MultiHole (c.connected_components_masks-surfaces.ensures i) (c.connected_components_masks-holes.ensures i) (c.do_not_cluster-then-holes-ne1.ensures i))
    ∙ sym (is-holes _ _ _ _ c.if-m-eq0.false (ap not c.if-not-cluster.false) c.if-m-eq-ALL14_MASK.false
    (at_most_one _ _ c.connected_components_masks-surfaces.ensures c.if-surfaces-gt1.false)
    (not_one _ _ c.connected_components_masks-holes.ensures c.if-holes-ne1.true))

pub returns-then-is_flat_hole : goal.returns-then-is_flat_hole
returns-then-is_flat_hole c = c.answer-then-is_flat_hole.ensures
    ∙ (λ i. both FlatHole (c.connected_components_masks-surfaces.ensures i) (c.connected_components_masks-holes.ensures i) (c.do_not_cluster-then-is_flat_hole.ensures i))
    ∙ sym (is_flat_lem _ _ _ _ c.if-m-eq0.false (ap not c.if-not-cluster.false) c.if-m-eq-ALL14_MASK.false
    (at_most_one _ _ c.connected_components_masks-surfaces.ensures c.if-surfaces-gt1.false)
    (just_one _ _ c.connected_components_masks-holes.ensures c.if-holes-ne1.false) (sym c.is_flat_hole.ensures ∙ c.if-is_flat_hole.true))

pub returns : goal.returns
returns c = c.answer-2.ensures
    ∙ (λ i. both SimpleSurface (c.connected_components_masks-surfaces.ensures i) (c.connected_components_masks-holes.ensures i) (c.one_cluster.ensures i))
    ∙ sym (is_simple _ _ _ _ c.if-m-eq0.false (ap not c.if-not-cluster.false) c.if-m-eq-ALL14_MASK.false
    (at_most_one _ _ c.connected_components_masks-surfaces.ensures c.if-surfaces-gt1.false)
    (just_one _ _ c.connected_components_masks-holes.ensures c.if-holes-ne1.false) (sym c.is_flat_hole.ensures ∙ c.if-is_flat_hole.false))
