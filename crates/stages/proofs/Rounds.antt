-- A build round by round: one more, or none; how many there are; and when there is no owner. Assumes nothing.
use mathlib.Core.Path.{◌≡◌, refl, ap, sym, ◌∙◌}
use mathlib.Core.Bool.{Bool, true, false, ◌||◌, cond, true≢false}
use mathlib.Core.List.{List, [], ◌∷◌, ◌++◌, append-nil}
use Prim.Native.Nat.{ℕ, zero, suc, ◌+◌, ◌<◌, ◌≤◌}
use native.Mathlib.Omega.{arith}
use Rattle.stages.specs.Boxes.{Box}
use Rattle.stages.specs.Vertices.{Vertex}
use Rattle.stages.specs.Meshes.{mesh_of, numbers}
use Rattle.stages.specs.Splits.{split}
use Rattle.stages.specs.Rounds.{built, crowded_tris, given, is_in, owners, owns, rollback, rounds, rounds_done}
use Rattle.stages.proofs.Stages.{given_case}
use Rattle.stages.proofs.Order.{in_keep}
use Rattle.laws.specs.Ranges.{any, each}
use Rattle.laws.specs.Lists.{keep}
use Rattle.lattice.specs.Sites.{sites}
use Rattle.laws.proofs.Lists.{keep_append}

module _ (b : Box) where
  pub rounds-none : (k r : ℕ) (vs : List Vertex) → owners b vs ≡ [] → rounds b k r vs ≡ vs
  unfolding rounds given
  rounds-none zero r vs e = refl
  rounds-none (suc k) r vs e = ap (λ (os : List ℕ). given os vs (λ os. rounds b k (suc r) (rollback r os vs))) e

  pub rounds-more : (k r : ℕ) (vs : List Vertex) (s : ℕ) (os : List ℕ) → owners b vs ≡ s ∷ os → rounds b (suc k) r vs ≡ rounds b k (suc r) (rollback r (owners b vs) vs)
  unfolding rounds given
  rounds-more k r vs s os e =
      ap (λ (l : List ℕ). given l vs (λ l. rounds b k (suc r) (rollback r l vs))) e ∙ ap (λ (l : List ℕ). rounds b k (suc r) (rollback r l vs)) (sym e)

  pub done_none : (k r : ℕ) (vs : List Vertex) → owners b vs ≡ [] → rounds_done b k r vs ≡ 0
  unfolding rounds_done given
  done_none zero r vs e = refl
  done_none (suc k) r vs e = ap (λ (os : List ℕ). given os 0 (λ os. suc (rounds_done b k (suc r) (rollback r os vs)))) e

  pub done_more : (k r : ℕ) (vs : List Vertex) (s : ℕ) (os : List ℕ) → owners b vs ≡ s ∷ os
      → rounds_done b (suc k) r vs ≡ suc (rounds_done b k (suc r) (rollback r (owners b vs) vs))
  unfolding rounds_done given
  done_more k r vs s os e =
      ap (λ (l : List ℕ). given l 0 (λ l. suc (rounds_done b k (suc r) (rollback r l vs)))) e ∙ ap (λ (l : List ℕ). suc (rounds_done b k (suc r) (rollback r l vs))) (sym e)

  -- never more rounds than are allowed
  pub done-most : (k r : ℕ) (vs : List Vertex) → rounds_done b k r vs ≤ k
  unfolding rounds_done
  done-most zero r vs = omega arith
  done-most (suc k) r vs =
      given_case (λ (m : ℕ). m ≤ suc k) (owners b vs) 0 (λ os. suc (rounds_done b k (suc r) (rollback r os vs))) (omega arith)
      (omega (arith, done-most k (suc r) (rollback r (owners b vs) vs)))

  -- if fewer were done, no owner is left
  pub done_early : (k r : ℕ) (vs : List Vertex) → rounds_done b k r vs < k → owners b (rounds b k r vs) ≡ []
  unfolding rounds rounds_done given
  done_early zero r vs h = let z : ⊥ = omega arith in absurd z
  done_early (suc k) r vs h = go (owners b vs) refl h (λ os. done_early k (suc r) (rollback r os vs))
    where
      go : (os : List ℕ) → owners b vs ≡ os → given os 0 (λ os. suc (rounds_done b k (suc r) (rollback r os vs))) < suc k
          → ((os : List ℕ) → rounds_done b k (suc r) (rollback r os vs) < k → owners b (rounds b k (suc r) (rollback r os vs)) ≡ [])
          → owners b (given os vs (λ os. rounds b k (suc r) (rollback r os vs))) ≡ []
      go [] e l rest = e
      go (s ∷ os) e l rest = rest (s ∷ os) (omega arith)

  -- one round more: after the last, where there is an owner; else nothing changes
  rounds_last : (k r : ℕ) (vs : List Vertex)
      → rounds b (suc k) r vs ≡ given (owners b (rounds b k r vs)) (rounds b k r vs) (λ os. rollback (r + k) os (rounds b k r vs))
  unfolding rounds given
  rounds_last zero r vs = let e : r + 0 ≡ r = omega arith in rw e
  rounds_last (suc k) r vs = go (owners b vs) refl (λ os. rounds_last k (suc r) (rollback r os vs))
    where
      go : (os : List ℕ) → owners b vs ≡ os
          → ((os : List ℕ) → rounds b (suc k) (suc r) (rollback r os vs)
          ≡ given (owners b (rounds b k (suc r) (rollback r os vs))) (rounds b k (suc r) (rollback r os vs)) (λ ps. rollback (suc r + k) ps (rounds b k (suc r) (rollback r os vs))))
          → given os vs (λ os. rounds b (suc k) (suc r) (rollback r os vs))
          ≡ given (owners b (given os vs (λ os. rounds b k (suc r) (rollback r os vs)))) (given os vs (λ os. rounds b k (suc r) (rollback r os vs)))
          (λ ps. rollback (r + suc k) ps (given os vs (λ os. rounds b k (suc r) (rollback r os vs))))
      go [] e rest = rw e
      go (s ∷ os) e rest = let q : r + suc k ≡ suc r + k = omega arith in rw q (rest (s ∷ os))

  -- A BUILD WITH ONE ROUND MORE IS THE BUILD AND THAT ROUND, or the same where no owner is left
  pub built-more : (k : ℕ) → built b (suc k) ≡ given (owners b (built b k)) (built b k) (λ os. rollback (suc k) os (built b k))
  unfolding built
  built-more k = let e : 1 + k ≡ suc k = omega arith in rw e at (rounds_last k 1 (split b))

  pub built-first : built b 0 ≡ split b
  unfolding built rounds
  built-first = refl

  owner-none : (p : ℕ → Bool) (n : ℕ) → any n p ≡ false → keep p (numbers n) ≡ []
  unfolding numbers each keep any
  owner-none p zero h = refl
  owner-none p (suc n) h =
      keep_append p (each n (λ i. i ∷ [])) (n ∷ []) ∙ go (any n p) (p n) refl h (owner-none p n)
    where
      go : (a c : Bool) → any n p ≡ a → a || c ≡ false → (any n p ≡ false → keep p (numbers n) ≡ []) → keep p (numbers n) ++ cond c (n ∷ []) [] ≡ []
      go true c e l r = absurd (true≢false l)
      go false true e l r = absurd (true≢false l)
      go false false e l r = append-nil (keep p (numbers n)) ∙ r e

  -- no site owns a live cluster vertex in a triangle on a crowded pair: no owner
  pub owners-none : (vs : List Vertex) → any (sites b.sides) (owns vs (crowded_tris (mesh_of b vs))) ≡ false → owners b vs ≡ []
  unfolding owners
  owners-none vs h = owner-none (owns vs (crowded_tris (mesh_of b vs))) (sites b.sides) h

  -- some site does: it is one of the owners
  pub owners-some : (vs : List Vertex) (s : ℕ) → s < sites b.sides → owns vs (crowded_tris (mesh_of b vs)) s ≡ true → is_in (owners b vs) s ≡ true
  unfolding owners
  owners-some vs s h e = in_keep (owns vs (crowded_tris (mesh_of b vs))) (sites b.sides) s h ∙ e

  pub owners_in : (vs : List Vertex) (s : ℕ) → s < sites b.sides → is_in (owners b vs) s ≡ owns vs (crowded_tris (mesh_of b vs)) s
  unfolding owners
  owners_in vs s h = in_keep (owns vs (crowded_tris (mesh_of b vs))) (sites b.sides) s h
