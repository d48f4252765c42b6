-- A split and a rollback only refine the lookup. Assumes nothing.
use mathlib.Core.Path.{◌≡◌, refl, ap, sym, ◌∙◌}
use mathlib.Core.Logic.{◌≢◌}
use mathlib.Core.Bool.{Bool, true, false, ◌&&◌}
use mathlib.Core.List.{List, [], ◌∷◌, map}
use Prim.Native.Nat.{ℕ, zero, suc, ◌+◌, ◌<◌, ◌≤◌}
use native.Mathlib.Omega.{arith}
use lib.Dec.{eqb, ltb}
use borrow.Author.Tests.{eqb-true, eqb-false}
use lib.ListN.{length, get_or}
use Rattle.stages.specs.Boxes.{Box, owned}
use Rattle.stages.specs.Vertices.{Vertex, apart, fresh, held, keys, nobody}
use Rattle.stages.specs.Meshes.{find, holds}
use Rattle.stages.specs.Splits.{end_of, place}
use Rattle.stages.specs.Rounds.{owners, retired, rollback}
use Rattle.stages.proofs.Weights.{place-le, roll_le}
use Rattle.stages.proofs.Stages.{keys_of, owners_once, place-keys, roll_keys}
use Rattle.stages.proofs.Lookup.{find_none, find-only, find-some, times}
use Rattle.laws.specs.Bools.{bit}
use Rattle.laws.specs.Lists.{count, total}
use Rattle.laws.specs.Couples.{Pair, left}
use Rattle.march.specs.March.{none}
use Rattle.march.specs.Finer.{Finer}
use Rattle.topology.specs.Parts.{low}
use Rattle.laws.proofs.Lists.{total-at}

module _ (b : Box) (j k : ℕ) where
  -- vertices that hold both
  unfoldable pub both : Vertex → ℕ
  both x = bit (holds b j x && holds b k x)

  bit-both : (p q : Bool) → p ≡ true → q ≡ true → bit (p && q) ≡ 1
  unfolding bit
  bit-both p q e f = rw (e, f)

  pub both-holds : (x : Vertex) → holds b j x ≡ true → holds b k x ≡ true → both x ≡ 1
  unfolding both
  both-holds x e f = bit-both (holds b j x) (holds b k x) e f

  pub record Both (vs : List Vertex) : Type 0 where
    pub at : ℕ
    pub low : at < length vs
    pub left : holds b j (get_or vs at nobody) ≡ true
    pub right : holds b k (get_or vs at nobody) ≡ true

  pub both_at : (vs : List Vertex) → 0 < total both vs → Both vs
  unfolding total both bit
  both_at [] h = let z : ⊥ = omega arith in absurd z
  both_at (x ∷ vs) h = go (holds b j x) (holds b k x) refl refl h (both_at vs)
    where
      go : (p q : Bool) → holds b j x ≡ p → holds b k x ≡ q → 0 < bit (p && q) + total both vs → (0 < total both vs → Both vs) → Both (x ∷ vs)
      go true true d e l r = record { at = 0; low = omega arith; left = d; right = e }
      go true false d e l r = let f = r (omega arith) in record { at = suc f.at; low = omega (arith, f.low); left = f.left; right = f.right }
      go false q d e l r = let f = r (omega arith) in record { at = suc f.at; low = omega (arith, f.low); left = f.left; right = f.right }

  -- together in one vertex: the same name
  pub find-both : (vs : List Vertex) → 0 < total both vs → times b j vs ≤ 1 → times b k vs ≤ 1 → find b 0 vs j ≡ find b 0 vs k
  find-both vs h oj ok =
      let f = both_at vs h in find-only b 0 vs j f.at oj f.low f.left ∙ sym (find-only b 0 vs k f.at ok f.low f.right)

  -- the same name: together in one vertex
  pub same-both : (vs : List Vertex) → length vs ≤ none → 0 < times b j vs → find b 0 vs j ≡ find b 0 vs k → 0 < total both vs
  same-both vs l h e = go (times b k vs) refl
    where
      go : (n : ℕ) → times b k vs ≡ n → 0 < total both vs
      go zero z =
          let f = find-some b 0 vs j h in
          let y : ⊥ = omega (arith, find_none b 0 vs k z, f.is, f.low) in absurd y
      go (suc n) z =
          let f = find-some b 0 vs j h in
          let g = find-some b 0 vs k (omega arith) in
          let i : g.at ≡ f.at = omega (arith, f.is, g.is) in
          let r : holds b k (get_or vs f.at nobody) ≡ true = rw i at g.has in
          omega (arith, total-at nobody both vs f.at f.low, both-holds (get_or vs f.at nobody) f.has r)

  -- ---- what comes apart is never together

  module _ (ne : j ≢ k) where
    single : (r s e : ℕ) → both (fresh r s (e ∷ [])) ≡ 0
    unfolding both holds keys held fresh count bit
    single r s e = go (eqb j (owned b.sides s e)) (eqb k (owned b.sides s e)) refl refl
      where
        go : (p q : Bool) → eqb j (owned b.sides s e) ≡ p → eqb k (owned b.sides s e) ≡ q → bit (ltb 0 (bit p + 0) && ltb 0 (bit q + 0)) ≡ 0
        go true true d f = absurd (ne (eqb-true j (owned b.sides s e) d ∙ sym (eqb-true k (owned b.sides s e) f)))
        go true false d f = refl
        go false q d f = refl

    apart_list : (r s : ℕ) (es : List ℕ) → total both (map (λ e. fresh r s (e ∷ [])) es) ≡ 0
    unfolding total
    apart_list r s [] = refl
    apart_list r s (e ∷ es) = omega (arith, single r s e, apart_list r s es)

    apart-both : (r : ℕ) (x : Vertex) → total both (apart r x) ≡ 0
    unfolding apart
    apart-both r x = apart_list r x.site (held x)

    retired-both : (x : Vertex) → both (retired x) ≡ 0
    unfolding both holds keys held retired count bit
    retired-both x = refl

    pub place-both : (ps : List Pair) (n : ℕ) (vs : List Vertex) → total both (place ps n vs) ≤ total both vs
    place-both ps n vs = place-le both (end_of ps) (λ x h. omega (arith, apart-both 0 x)) n vs

    pub roll_both : (r : ℕ) (os : List ℕ) → ((s : ℕ) → count (eqb s) os ≤ 1) → (vs : List Vertex) → total both (rollback r os vs) ≤ total both vs
    roll_both r os once vs = roll_le both r os once (λ x h. omega (arith, apart-both r x, retired-both x)) vs

-- ---- two lists of vertices, the second finer

pub record Step (b : Box) (vs ws : List Vertex) : Type 0 where
  pub times : (k : ℕ) → total (keys_of b (eqb k)) ws ≡ total (keys_of b (eqb k)) vs
  pub both : (j k : ℕ) → j ≢ k → total (both b j k) ws ≤ total (both b j k) vs

pub place-step : (b : Box) (ps : List Pair) (n : ℕ) (vs : List Vertex) → Step b vs (place ps n vs)
place-step b ps n vs = record { times = λ k. place-keys b (eqb k) ps n vs; both = λ j k ne. place-both b j k ne ps n vs }

pub roll_step : (b : Box) (r : ℕ) (vs : List Vertex) → Step b vs (rollback r (owners b vs) vs)
roll_step b r vs =
    record {
      times = λ k. roll_keys b (eqb k) r (owners b vs) (owners_once b vs) vs;
      both = λ j k ne. roll_both b j k ne r (owners b vs) (owners_once b vs) vs;
    }

module _ (b : Box) (vs ws : List Vertex) (st : Step b vs ws) (once : (k : ℕ) → times b k vs ≤ 1) (room : length ws ≤ none) where
  gone_find : (k : ℕ) → find b 0 ws k ≡ none → times b k ws ≡ 0
  gone_find k e = go (times b k ws) refl
    where
      go : (n : ℕ) → times b k ws ≡ n → times b k ws ≡ 0
      go zero z = z
      go (suc n) z = let f = find-some b 0 ws k (omega arith) in let y : ⊥ = omega (arith, f.is, f.low) in absurd y

  finer_gone : (k : ℕ) → find b 0 ws k ≡ none → find b 0 vs k ≡ none
  finer_gone k e = find_none b 0 vs k (omega (arith, gone_find k e, st.times k))

  finer_ne : (j k : ℕ) → j ≢ k → find b 0 ws j ≡ find b 0 ws k → find b 0 vs j ≡ find b 0 vs k
  finer_ne j k ne e = go (times b j ws) refl
    where
      go : (n : ℕ) → times b j ws ≡ n → find b 0 vs j ≡ find b 0 vs k
      go zero z = let f : find b 0 ws j ≡ none = find_none b 0 ws j z in finer_gone j f ∙ sym (finer_gone k (sym e ∙ f))
      go (suc n) z =
          find-both b j k vs (omega (arith, st.both j k ne, same-both b j k ws room (omega arith) e)) (once j) (once k)

  finer_same : (j k : ℕ) → find b 0 ws j ≡ find b 0 ws k → find b 0 vs j ≡ find b 0 vs k
  finer_same j k e = go (eqb j k) refl
    where
      go : (c : Bool) → eqb j k ≡ c → find b 0 vs j ≡ find b 0 vs k
      go true d = ap (find b 0 vs) (eqb-true j k d)
      go false d = finer_ne j k (eqb-false j k d) e

  -- THE LOOKUP IS ONLY REFINED
  pub step_finer : (m : ℕ) → Finer m (find b 0 ws) (find b 0 vs)
  step_finer m = record { same = λ j k hj hk e. finer_same j k e; gone = λ k h e. finer_gone k e }
