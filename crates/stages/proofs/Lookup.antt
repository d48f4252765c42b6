-- The lookup of an owned edge: the one vertex that holds it. Assumes nothing.
use mathlib.Core.Path.{◌≡◌, refl, sym, ◌∙◌}
use mathlib.Core.Logic.{◌≢◌}
use mathlib.Core.Bool.{Bool, true, false, cond}
use mathlib.Core.List.{List, [], ◌∷◌, map}
use Prim.Native.Nat.{ℕ, zero, suc, ◌+◌, ◌<◌, ◌≤◌}
use native.Mathlib.Omega.{arith}
use lib.Dec.{eqb}
use borrow.Author.Tests.{ltb-true, ltb-false}
use lib.ListN.{length, get_or}
use Rattle.stages.specs.Boxes.{Box, owned}
use Rattle.stages.specs.Vertices.{Vertex, candidates, held, keys, nobody}
use Rattle.stages.specs.Meshes.{find, holds}
use Rattle.stages.specs.Stages.{Held, Named, Stage, holders}
use Rattle.stages.proofs.Stages.{held-sum, keys_of, stage_held}
use Rattle.laws.specs.Lists.{count, total}
use Rattle.march.specs.March.{none}
use Rattle.topology.specs.Parts.{low}
use Rattle.laws.proofs.Lists.{count-le, total-at}

module _ (b : Box) where
  -- how many hold k
  abbrev pub times : ℕ → List Vertex → ℕ
  times k vs = total (keys_of b (eqb k)) vs

  pub holds_pos : (k : ℕ) (x : Vertex) → holds b k x ≡ true → 0 < keys_of b (eqb k) x
  unfolding holds keys_of
  holds_pos k x h = ltb-true 0 (count (eqb k) (keys b x)) h

  pub holds_not : (k : ℕ) (x : Vertex) → holds b k x ≡ false → keys_of b (eqb k) x ≡ 0
  unfolding holds keys_of
  holds_not k x h = omega (arith, ltb-false 0 (count (eqb k) (keys b x)) h)

  live_when : (x : Vertex) (l : Bool) → 0 < length (map (owned b.sides x.site) (cond l x.edges [])) → l ≡ true
  live_when x true h = refl
  live_when x false h = let z : ⊥ = omega arith in absurd z

  pub holds_live : (k : ℕ) (x : Vertex) → holds b k x ≡ true → x.live ≡ true
  unfolding keys_of keys held
  holds_live k x h =
      live_when x x.live (omega (arith, holds_pos k x h, count-le (eqb k) (map (owned b.sides x.site) (cond x.live x.edges []))))

  pub find_none : (n : ℕ) (vs : List Vertex) (k : ℕ) → times k vs ≡ 0 → find b n vs k ≡ none
  unfolding find total
  find_none n [] k h = refl
  find_none n (x ∷ vs) k h = go (holds b k x) refl (find_none (suc n) vs k (omega arith))
    where
      go : (c : Bool) → holds b k x ≡ c → find b (suc n) vs k ≡ none → cond c n (find b (suc n) vs k) ≡ none
      go true e r = let z : ⊥ = omega (arith, holds_pos k x e) in absurd z
      go false e r = r

  pub record Found (n : ℕ) (vs : List Vertex) (k : ℕ) : Type 0 where
    pub at : ℕ
    pub is : find b n vs k ≡ n + at
    pub low : at < length vs
    pub has : holds b k (get_or vs at nobody) ≡ true

  pub find-some : (n : ℕ) (vs : List Vertex) (k : ℕ) → 0 < times k vs → Found n vs k
  unfolding find total
  find-some n [] k h = let z : ⊥ = omega arith in absurd z
  find-some n (x ∷ vs) k h = go (holds b k x) refl (find-some (suc n) vs k)
    where
      go : (c : Bool) → holds b k x ≡ c → (0 < times k vs → Found (suc n) vs k) → Found n (x ∷ vs) k
      go true e r = record { at = 0; is = rw e (omega arith); low = omega arith; has = e }
      go false e r =
          let f = r (omega (arith, holds_not k x e)) in
          record { at = suc f.at; is = rw e (f.is ∙ omega arith); low = omega (arith, f.low); has = f.has }

  pub find-only : (n : ℕ) (vs : List Vertex) (k i : ℕ) → times k vs ≤ 1 → i < length vs → holds b k (get_or vs i nobody) ≡ true → find b n vs k ≡ n + i
  unfolding find total
  find-only n [] k i o h e = let z : ⊥ = omega arith in absurd z
  find-only n (x ∷ vs) k zero o h e = rw e (omega arith)
  find-only n (x ∷ vs) k (suc i) o h e = go (holds b k x) refl (find-only (suc n) vs k i (omega arith) (omega arith) e)
    where
      go : (c : Bool) → holds b k x ≡ c → find b (suc n) vs k ≡ suc n + i → cond c n (find b (suc n) vs k) ≡ n + suc i
      go true d r =
          let z : ⊥ = omega (arith, holds_pos k x d, holds_pos k (get_or vs i nobody) e, total-at nobody (keys_of b (eqb k)) vs i (omega arith)) in absurd z
      go false d r = r ∙ omega arith

  -- EACH EDGE THAT THE CANDIDATES HOLD ONCE IS HELD BY EXACTLY ONE VERTEX, AND THE TABLE NAMES IT
  pub held_one : (vs : List Vertex) (k : ℕ) → times k vs ≡ 1 → Held b vs k
  held_one vs k h =
      let f = find-some 0 vs k (omega arith) in
      record {
        vertex = f.at;
        low = f.low;
        names = f.is ∙ omega arith;
        has = f.has;
        live = holds_live k (get_or vs f.at nobody) f.has;
        only = λ i l e. omega (arith, find-only 0 vs k i (omega arith) l e, f.is);
      }

  pub stage_times : {vs : List Vertex} → Stage b vs → (k : ℕ) → times k vs ≡ holders b (candidates b) k
  unfolding holders
  stage_times {vs} st k = sym (held-sum b (eqb k) vs) ∙ stage_held b (eqb k) st

  pub stage_one : {vs : List Vertex} → Stage b vs → (k : ℕ) → holders b (candidates b) k ≡ 1 → Held b vs k
  stage_one {vs} st k h = held_one vs k (stage_times st k ∙ h)

  -- a table entry that is not 0xFFFFFFFF names an unretired vertex below the count
  pub entry_named : (vs : List Vertex) (k : ℕ) → find b 0 vs k ≢ none → Named b vs k
  entry_named vs k h = go (times k vs) refl
    where
      go : (n : ℕ) → times k vs ≡ n → Named b vs k
      go zero e = absurd (h (find_none 0 vs k e))
      go (suc n) e =
          let f = find-some 0 vs k (omega arith) in
          let at : find b 0 vs k ≡ f.at = f.is ∙ omega arith in
          record {
            low = omega (arith, f.low);
            has = rw at f.has;
            live = rw at (holds_live k (get_or vs f.at nobody) f.has);
          }
