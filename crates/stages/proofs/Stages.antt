-- Every stage holds the same owned edges, each as often as the candidates do; a build ends in a stage. Assumes nothing.
use mathlib.Core.Path.{◌≡◌, refl, sym, ◌∙◌}
use mathlib.Core.Bool.{Bool}
use mathlib.Core.List.{List, [], ◌∷◌, map}
use Prim.Native.Nat.{ℕ, zero, suc, ◌≤◌}
use native.Mathlib.Omega.{arith}
use lib.Dec.{eqb}
use Rattle.stages.specs.Boxes.{Box, owned}
use Rattle.stages.specs.Vertices.{Vertex, apart, candidates, fresh, held, keys}
use Rattle.stages.specs.Meshes.{mesh_of, numbers}
use Rattle.stages.specs.Splits.{crowded_pairs, end_of, place, split}
use Rattle.stages.specs.Rounds.{crowded_tris, built, given, owners, owns, retired, rollback, rounds}
use Rattle.stages.specs.Stages.{Stage, again, first, held_keys, parted}
use Rattle.stages.proofs.Weights.{place_same, roll_same}
use Rattle.laws.specs.Lists.{count, total}
use Rattle.laws.specs.Couples.{Pair}
use Rattle.lattice.specs.Sites.{sites}
use Rattle.laws.proofs.Ranges.{each_once}
use Rattle.laws.proofs.Lists.{count-joined, count-keep, total-map}

pub owners_once : (b : Box) (vs : List Vertex) (s : ℕ) → count (eqb s) (owners b vs) ≤ 1
unfolding owners numbers
owners_once b vs s = omega (arith, count-keep (eqb s) (owns vs (crowded_tris (mesh_of b vs))) (numbers (sites b.sides)), (each_once (sites b.sides) s).most)

-- ---- held edges

module _ (b : Box) (q : ℕ → Bool) where
  unfoldable pub keys_of : Vertex → ℕ
  keys_of x = count q (keys b x)

  apart_list : (r s : ℕ) (es : List ℕ) → total keys_of (map (λ e. fresh r s (e ∷ [])) es) ≡ count q (map (owned b.sides s) es)
  unfolding total count keys_of fresh keys held
  apart_list r s [] = refl
  apart_list r s (e ∷ es) = omega (arith, apart_list r s es)

  pub apart-keys : (r : ℕ) (x : Vertex) → total keys_of (apart r x) ≡ keys_of x
  unfolding apart keys_of keys
  apart-keys r x = apart_list r x.site (held x)

  pub retired-keys : (x : Vertex) → keys_of (retired x) ≡ 0
  unfolding keys_of retired keys held count
  retired-keys x = refl

  pub place-keys : (ps : List Pair) (n : ℕ) (vs : List Vertex) → total keys_of (place ps n vs) ≡ total keys_of vs
  place-keys ps n vs = place_same keys_of (end_of ps) (λ x h. apart-keys 0 x) n vs

  pub roll_keys : (r : ℕ) (os : List ℕ) → ((s : ℕ) → count (eqb s) os ≤ 1) → (vs : List Vertex) → total keys_of (rollback r os vs) ≡ total keys_of vs
  roll_keys r os once vs = roll_same keys_of r os once (λ x h. omega (arith, apart-keys r x, retired-keys x)) vs

  pub stage_sum : {vs : List Vertex} → Stage b vs → total keys_of vs ≡ total keys_of (candidates b)
  stage_sum first = refl
  stage_sum (parted ps) = place-keys ps 0 (candidates b)
  stage_sum (again {vs} r st) = roll_keys r (owners b vs) (owners_once b vs) vs ∙ stage_sum st

  pub held-sum : (vs : List Vertex) → count q (held_keys b vs) ≡ total keys_of vs
  unfolding held_keys keys_of
  held-sum vs = count-joined q (map (keys b) vs) ∙ total-map (count q) (keys b) vs

  -- EVERY STAGE HOLDS THE SAME OWNED EDGES
  pub stage_held : {vs : List Vertex} → Stage b vs → count q (held_keys b vs) ≡ count q (held_keys b (candidates b))
  stage_held {vs} st = held-sum vs ∙ stage_sum st ∙ sym (held-sum (candidates b))

-- ---- the built's rounds are stages

pub given_case : {A : Type 0} (P : A → Type 0) (os : List ℕ) (a : A) (f : List ℕ → A) → P a → P (f os) → P (given os a f)
unfolding given
given_case P [] a f x y = x
given_case P (s ∷ os) a f x y = y

pub rounds_stage : (b : Box) (k r : ℕ) (vs : List Vertex) → Stage b vs → Stage b (rounds b k r vs)
unfolding rounds
rounds_stage b zero r vs st = st
rounds_stage b (suc k) r vs st =
    given_case (Stage b) (owners b vs) vs (λ os. rounds b k (suc r) (rollback r os vs)) st
    (rounds_stage b k (suc r) (rollback r (owners b vs) vs) (again r st))

pub split_stage : (b : Box) → Stage b (split b)
unfolding split
split_stage b = parted (crowded_pairs b)

pub built_stage : (b : Box) (R : ℕ) → Stage b (built b R)
unfolding built
built_stage b R = rounds_stage b R 1 (split b) (split_stage b)
