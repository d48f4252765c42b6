-- What holds of every vertex at every stage. Assumes nothing.
use mathlib.Core.Bool.{Bool, true, false, ◌&&◌, cond}
use mathlib.Core.List.{List, [], ◌∷◌, map}
use Prim.Native.Nat.{ℕ, suc}
use Rattle.stages.specs.Boxes.{Box}
use Rattle.stages.specs.Vertices.{Vertex, apart, candidates, several}
use Rattle.stages.specs.Splits.{end_of, place_by}
use Rattle.stages.specs.Rounds.{live_at, owners, regrown, retire, retired, rollback, rolled}
use Rattle.stages.specs.Stages.{Stage, again, first, parted}
use Rattle.laws.specs.Lists.{All, joined, keep}
use Rattle.laws.proofs.Lists.{all_append, all-joined, all_kept}

module _ (P : Vertex → Type 0) (splits-on : (r : ℕ) (x : Vertex) → P x → All P (apart r x)) where
  place-all : (q : ℕ → Bool) (n : ℕ) (xs : List Vertex) → All P xs → All P (place_by q n xs)
  unfolding All place_by
  place-all q n [] a = tt
  place-all q n (x ∷ xs) a =
      all_append P (cond (several x && q n) (apart 0 x) (x ∷ [])) (place_by q (suc n) xs) (go (several x && q n)) (place-all q (suc n) xs a.1)
    where
      go : (c : Bool) → All P (cond c (apart 0 x) (x ∷ []))
      go true = splits-on 0 x a.0
      go false = (a.0, tt)

  grown-all : (r : ℕ) (vs : List Vertex) → All P vs → (os : List ℕ) → All P (joined (map (regrown r vs) os))
  unfolding All joined regrown
  grown-all r vs a [] = tt
  grown-all r vs a (s ∷ os) =
      all_append P (regrown r vs s) (joined (map (regrown r vs) os))
      (all-joined P P (apart r) (splits-on r) (keep (live_at s) vs) (all_kept P (live_at s) vs a)) (grown-all r vs a os)

  module _ (stays : (x : Vertex) → P x → P (retired x)) where
    retire-all : (os : List ℕ) (vs : List Vertex) → All P vs → All P (map (retire os) vs)
    unfolding All retire
    retire-all os [] a = tt
    retire-all os (x ∷ vs) a = (go (rolled os x), retire-all os vs a.1)
      where
        go : (c : Bool) → P (cond c (retired x) x)
        go true = stays x a.0
        go false = a.0

    -- WHAT CANDIDATES HAVE, AND SPLITTING AND RETIRING KEEP, EVERY STAGE HAS
    pub stage_all : (b : Box) → All P (candidates b) → {vs : List Vertex} → Stage b vs → All P vs
    unfolding rollback
    stage_all b a first = a
    stage_all b a (parted ps) = place-all (end_of ps) 0 (candidates b) a
    stage_all b a (again {vs} r st) =
        all_append P (map (retire (owners b vs)) vs) (joined (map (regrown r vs) (owners b vs))) (retire-all (owners b vs) vs (stage_all b a st))
        (grown-all r vs (stage_all b a st) (owners b vs))
