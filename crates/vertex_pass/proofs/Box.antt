-- The loop over the sites: after k of them the pass has met their candidates and counted their cases. Assumes nothing.
use mathlib.Core.Path.{◌≡◌, refl, sym, ap, ◌∙◌}
use mathlib.Core.Bool.{Bool}
use mathlib.Core.List.{List, [], ◌∷◌}
use Prim.Native.Nat.{ℕ, ◌+◌, ◌*◌, ◌≤◌, ◌<◌}
use native.Mathlib.Omega.{arith}
use lib.ListN.{length, replicate, length-replicate}
use lib.Ieee.{Float}
use Rattle.laws.specs.Ranges.{each, sum}
use Rattle.lattice.specs.declared.Sides.{Sides}
use Rattle.lattice.specs.Sites.{sites}
use Rattle.points.specs.declared.Frame.{Frame}
use Rattle.march.specs.March.{none}
use Rattle.stages.specs.Vertices.{candidates, site_vertices}
use Rattle.site_vertices.proofs.Appending.{appended_unique}
use Rattle.stages.specs.Samples.{box_of, case_count}
use Rattle.vertex_pass.specs.declared.Walk.{Walk}
use Rattle.vertex_pass.specs.Inner.Passing.{Ahead, Drawn, Passed, cases_to, start}
use Rattle.vertex_pass.proofs.Passing.{Passing, ahead_turn, passing_done, passing_start, passing_turn}

module _ (f : Frame) (n : Sides) (S : List Float) (h : Float) (cluster : Bool) (q : ℕ → Bool) (p₀ : List Float) (b₀ : List ℕ) where
  pub record Walking (k : ℕ) (c : Walk) (t : List ℕ) (p : List Float) (b : List ℕ) : Type 0 where
    pub passing : Passing f n S q (site_vertices (box_of n S h cluster)) start (replicate (7 * sites n) none) p₀ b₀ (sites n) k c.pass t p b
    pub long : length t ≡ 7 * sites n
    pub long_positions : length p ≡ length p₀
    pub long_book : length b ≡ length b₀
    pub cases : c.cases ≡ cases_to n S h cluster k

  no_cases : cases_to n S h cluster 0 ≡ 0 ∷ 0 ∷ 0 ∷ 0 ∷ 0 ∷ 0 ∷ []
  unfolding cases_to each case_count sum
  no_cases = refl

  pub walking_start : (c : Walk) (t : List ℕ) → c.pass ≡ start → c.cases ≡ 0 ∷ 0 ∷ 0 ∷ 0 ∷ 0 ∷ 0 ∷ [] → t ≡ replicate (7 * sites n) none → Walking 0 c t p₀ b₀
  walking_start c t ep ec et = record {
    passing = rw (ep, et) (passing_start f n S q (site_vertices (box_of n S h cluster)) start (replicate (7 * sites n) none) p₀ b₀ (sites n));
    long = ap length et ∙ length-replicate (7 * sites n) none;
    long_positions = refl;
    long_book = refl;
    cases = ec ∙ sym no_cases;
  }

  module _ (k : ℕ) (c : Walk) (t : List ℕ) (p : List Float) (b : List ℕ) (w : Walking k c t p b) where
    pub walking_ahead : Ahead q (candidates (box_of n S h cluster)) start p₀ b₀ → k < sites n → Ahead q (site_vertices (box_of n S h cluster) k) c.pass p b
    unfolding candidates box_of
    walking_ahead z l = ahead_turn f n S q (site_vertices (box_of n S h cluster)) k (sites n) z l w.passing.done

    pub walking-turn : (c' : Walk) (t' : List ℕ) (p' : List Float) (b' : List ℕ) → k < sites n → Passed f n S q (site_vertices (box_of n S h cluster) k) c.pass t p b c'.pass t' p' b'
        → c'.cases ≡ cases_to n S h cluster (k + 1) → length t' ≡ length t → Walking (k + 1) c' t' p' b'
    walking-turn c' t' p' b' l x e lt =
        let i = passing_turn f n S q (site_vertices (box_of n S h cluster)) start (replicate (7 * sites n) none) p₀ b₀ (sites n) k c.pass c'.pass t t' p p' b b' w.passing l x lt in
        record { passing = i; long = lt ∙ w.long; long_positions = i.long_positions; long_book = i.long_book; cases = e }

    pub walking-done : sites n ≤ k → Drawn f n S h cluster q p₀ b₀ c t p b
    unfolding candidates box_of
    walking-done l =
        let e : k ≡ sites n = omega (arith, w.passing.low) in
        record {
          passed = passing_done f n S q (site_vertices (box_of n S h cluster)) start (replicate (7 * sites n) none) p₀ b₀ (sites n) k c.pass t p b w.passing l;
          cases = w.cases ∙ ap (cases_to n S h cluster) e;
        }

-- ---- the pass is determined

module _ (f : Frame) (n : Sides) (S : List Float) (h : Float) (cluster : Bool) (q : ℕ → Bool) (p : List Float) (b : List ℕ) where
  -- ANY TWO CONFORMING PASSES ARE EQUAL
  pub drawn_unique : {c d : Walk} {t t' : List ℕ} {p' p'' : List Float} {b' b'' : List ℕ} → Drawn f n S h cluster q p b c t p' b' → Drawn f n S h cluster q p b d t' p'' b''
      → (c ≡ d) × (t ≡ t') × (p' ≡ p'') × (b' ≡ b'')
  drawn_unique {c} {d} x y =
      let u = appended_unique f n S x.passed.vertices y.passed.vertices in
      let v : c.pass.tried ≡ d.pass.tried = x.passed.tried ∙ sym y.passed.tried in
      let w : c.pass.split ≡ d.pass.split = x.passed.split ∙ sym y.passed.split in
      let e : c.cases ≡ d.cases = x.cases ∙ sym y.cases in
      (λ i. record { pass = record { next = u.0 i; tried = v i; split = w i }; cases = e i }, u.1, u.2, u.3)
