-- What the topology test visits: the ones of the masks that it walks, at most fourteen for every mask, ends and threshold. Assumes nothing.
use Rattle.std.specs.Prelude.{Option}
use Rattle.std.proofs.Common.{◌≡◌, ℕ, ◌^◌, ◌<◌, ◌≤◌, Bool, true, false, cond, ◌⊎◌, List, [], ◌∷◌, sym, refl, ap, ◌∙◌, subst, inl, inr, arith}
use lib.Count.{ones_in}
use lib.Ieee.{Float}
use Rattle.laws.specs.Lists.{total}
use Rattle.laws.proofs.Digits.{ones_le}
use Rattle.topology.specs.Walk.{fourteen, visits}
use Rattle.topology.specs.Topology.{others, Kind, empty, closed, surfaces, holes, single, kind_of, walks_of, visits_of, topology_of}
use Rattle.topology.proofs.Visits.{visits_ones}
use Rattle.topology.proofs.Cases.{fourteen-lt}
use Rattle.topology.proofs.Others.{others_ones}

-- the visits of walks over some masks are their ones
total_ones : (ms : List ℕ) → total visits ms ≡ total (ones_in 14) ms
unfolding total
total_ones [] = refl
total_ones (m ∷ ms) = omega (arith, visits_ones m, total_ones ms)

-- a mask and its others have fourteen
both : (m : ℕ) → m < 2 ^ 14 → total (ones_in 14) (m ∷ others m ∷ []) ≡ 14
unfolding total
both m h = omega (arith, others_ones m (omega arith))

by_most : (k : Kind) (m : ℕ) → m < 2 ^ 14 → total (ones_in 14) (walks_of k m) ≤ 14
unfolding total
by_most empty m h = omega arith
by_most closed m h = omega arith
by_most surfaces m h = omega (arith, ones_le 14 m)
by_most holes m h = omega (arith, both m h)
by_most single m h = omega (arith, both m h)

module _ (near : ℕ) (cluster : Bool) (ends : List (Option Float)) (h : Float) where
  -- by the masks that are walked
  pub total-is : (topology_of near cluster ends h).visits ≡ cond cluster (total (ones_in 14) (walks_of (kind_of (fourteen near)) (fourteen near))) 0
  unfolding topology_of visits_of
  total-is = ap (λ (x : ℕ). cond cluster x 0) (total_ones (walks_of (kind_of (fourteen near)) (fourteen near)))

  -- at most fourteen
  pub total-most : (topology_of near cluster ends h).visits ≤ 14
  total-most = subst (λ (x : ℕ). x ≤ 14) (sym total-is) (go cluster (by_most (kind_of (fourteen near)) (fourteen near) (fourteen-lt near)))
    where
      go : (b : Bool) {x : ℕ} → x ≤ 14 → cond b x 0 ≤ 14
      go true l = l
      go false l = omega arith

  -- just fourteen where both walks are made
  pub total-both : cluster ≡ true → (kind_of (fourteen near) ≡ holes) ⊎ (kind_of (fourteen near) ≡ single) → (topology_of near cluster ends h).visits ≡ 14
  total-both on (inl k) = total-is ∙ (λ i. cond (on i) (total (ones_in 14) (walks_of (k i) (fourteen near))) 0) ∙ both (fourteen near) (fourteen-lt near)
  total-both on (inr k) = total-is ∙ (λ i. cond (on i) (total (ones_in 14) (walks_of (k i) (fourteen near))) 0) ∙ both (fourteen near) (fourteen-lt near)
