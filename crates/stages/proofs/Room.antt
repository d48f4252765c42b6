-- The number of vertices ever made, and the edges they hold in all. Assumes nothing.
use mathlib.Core.Path.{◌≡◌, refl, sym, ◌∙◌}
use mathlib.Core.Bool.{Bool, true, false, cond}
use mathlib.Core.List.{List, [], ◌∷◌, map}
use Prim.Native.Nat.{ℕ, zero, suc, ◌+◌, ◌*◌, ◌/◌, ◌<◌, ◌≤◌}
use native.Mathlib.Omega.{arith}
use borrow.Author.Tests.{ltb-true}
use lib.ListN.{length}
use Rattle.stages.specs.Boxes.{Box, owned}
use Rattle.stages.specs.Vertices.{Vertex, apart, candidates, filled, fresh, held, keys, several, site_vertices}
use Rattle.stages.specs.Rounds.{built, owners, retired}
use Rattle.stages.specs.Splits.{end_of}
use Rattle.stages.specs.Stages.{Stage, again, edge_count, first, held_keys, parted}
use Rattle.stages.proofs.Weights.{place-le, roll_le}
use Rattle.stages.proofs.Stages.{built_stage, held-sum, keys_of, owners_once, stage_held}
use Rattle.laws.specs.Bools.{bit}
use Rattle.laws.specs.Ranges.{each}
use Rattle.laws.specs.Lists.{count, keep, total}
use Rattle.lattice.specs.Sites.{sites}
use Rattle.laws.proofs.Lists.{total-same}
use Rattle.laws.proofs.Sums.{each-total, sum-under}

-- twice the vertices that a vertex of n edges can ever come to: 1, or 1 + n where it can be rolled back, and 2 (1 + n) ≤ 3 n
cost : ℕ → ℕ
cost zero = 2
cost (suc zero) = 2
cost (suc (suc n)) = 3 * (suc (suc n))

worth : Vertex → ℕ
worth x = cost (length (held x))

apart_list : (r s : ℕ) (es : List ℕ) → total worth (map (λ e. fresh r s (e ∷ [])) es) ≡ 2 * length es
unfolding total worth fresh held cost
apart_list r s [] = refl
apart_list r s (e ∷ es) = omega (arith, apart_list r s es)

cost_many : (n : ℕ) → 1 < n → 2 + 2 * n ≤ cost n
unfolding cost
cost_many zero h = omega arith
cost_many (suc zero) h = omega arith
cost_many (suc (suc n)) h = omega arith

cost_low : (n : ℕ) → 2 ≤ cost n
unfolding cost
cost_low zero = omega arith
cost_low (suc zero) = omega arith
cost_low (suc (suc n)) = omega arith

apart_worth : (r : ℕ) (x : Vertex) → several x ≡ true → 2 + total worth (apart r x) ≤ worth x
unfolding apart worth several
apart_worth r x h = omega (arith, apart_list r x.site (held x), cost_many (length (held x)) (ltb-true 1 (length (held x)) h))

retired_worth : (x : Vertex) → worth (retired x) ≡ 2
unfolding worth retired held cost
retired_worth x = refl

stage_worth : (b : Box) {vs : List Vertex} → Stage b vs → total worth vs ≤ total worth (candidates b)
stage_worth b first = omega arith
stage_worth b (parted ps) = place-le worth (end_of ps) (λ x h. omega (arith, apart_worth 0 x h)) 0 (candidates b)
stage_worth b (again {vs} r st) =
    omega
    (arith, roll_le worth r (owners b vs) (owners_once b vs) (λ x h. omega (arith, apart_worth r x h, retired_worth x)) vs, stage_worth b st)

length_worth : (vs : List Vertex) → 2 * length vs ≤ total worth vs
unfolding total worth
length_worth [] = omega arith
length_worth (x ∷ vs) = omega (arith, length_worth vs, cost_low (length (held x)))

-- ---- candidates hold at least one edge

weight : Vertex → ℕ
weight x = 3 * length (held x)

cost_some : (es : List ℕ) → filled es ≡ true → cost (length es) ≤ 3 * length es
unfolding cost filled
cost_some [] h = let z : ⊥ = (let y : ◌≡◌ {A = ℕ} 0 1 = cc in omega arith) in absurd z
cost_some (e ∷ []) h = omega arith
cost_some (e ∷ f ∷ es) h = omega arith

fresh_worth : (s : ℕ) (ls : List (List ℕ)) → total worth (map (fresh 0 s) (keep filled ls)) ≤ total weight (map (fresh 0 s) (keep filled ls))
unfolding total keep worth weight fresh held
fresh_worth s [] = omega arith
fresh_worth s (l ∷ ls) = go (filled l) refl (fresh_worth s ls)
  where
    go : (c : Bool) → filled l ≡ c → total worth (map (fresh 0 s) (keep filled ls)) ≤ total weight (map (fresh 0 s) (keep filled ls))
        → total worth (map (fresh 0 s) (cond c (l ∷ keep filled ls) (keep filled ls))) ≤ total weight (map (fresh 0 s) (cond c (l ∷ keep filled ls) (keep filled ls)))
    go true e h = omega (arith, h, cost_some l e)
    go false e h = h

each-under : (f g : Vertex → ℕ) (h : ℕ → List Vertex) → ((i : ℕ) → total f (h i) ≤ total g (h i)) → (n : ℕ) → total f (each n h) ≤ total g (each n h)
each-under f g h e n = omega (arith, each-total f n h, each-total g n h, sum-under n (λ i. total f (h i)) (λ i. total g (h i)) e)

cand_worth : (b : Box) → total worth (candidates b) ≤ total weight (candidates b)
unfolding candidates site_vertices
cand_worth b = each-under worth weight (site_vertices b) (λ s. fresh_worth s (map (keep (b.point s)) (b.clusters s))) (sites b.sides)

-- ---- the edges held, counted

unfoldable pub always : ℕ → Bool
always k = true

pub count-always : (l : List ℕ) → count always l ≡ length l
unfolding count always bit
count-always [] = refl
count-always (k ∷ l) = omega (arith, count-always l)

length-keys : (b : Box) (s : ℕ) (es : List ℕ) → count always (map (owned b.sides s) es) ≡ length es
unfolding count always bit
length-keys b s [] = refl
length-keys b s (e ∷ es) = omega (arith, length-keys b s es)

weight_sum : (b : Box) (vs : List Vertex) → total weight vs ≡ 3 * total (keys_of b always) vs
unfolding total weight keys_of keys
weight_sum b [] = refl
weight_sum b (x ∷ vs) = omega (arith, weight_sum b vs, length-keys b x.site (held x))

-- HELD COUNTS ADD UP, at every stage
held-lengths : (b : Box) (ws : List Vertex) → total (λ x. length (held x)) ws ≡ total (keys_of b always) ws
unfolding keys_of keys
held-lengths b ws = total-same (λ x. length (held x)) (keys_of b always) (λ x. sym (length-keys b x.site (held x))) ws

pub stage_count : (b : Box) {vs : List Vertex} → Stage b vs → total (λ x. length (held x)) vs ≡ edge_count b
unfolding edge_count
stage_count b {vs} st = held-lengths b vs ∙ sym (held-sum b always vs) ∙ stage_held b always st ∙ count-always (held_keys b (candidates b))

-- VERTICES EVER MADE
pub stage_room : (b : Box) {vs : List Vertex} → Stage b vs → 2 * length vs ≤ 3 * edge_count b
unfolding edge_count
stage_room b {vs} st =
    omega (
      arith,
      length_worth vs,
      stage_worth b st,
      cand_worth b,
      weight_sum b (candidates b),
      held-sum b always (candidates b),
      count-always (held_keys b (candidates b)),
    )

pub vertices_most : (b : Box) (R E : ℕ) → edge_count b ≤ E → length (built b R) ≤ 3 * E / 2
vertices_most b R E h = omega (arith, stage_room b (built_stage b R))
