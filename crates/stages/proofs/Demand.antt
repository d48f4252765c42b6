-- A build of the samples: at every stage each crossed edge with finite ends has exactly one unretired vertex, the held counts add up, and vertices never exceed 3E/2. Assumes nothing.
use Rattle.std.specs.Prelude.{Option, None, Some}
use mathlib.Core.Path.{◌≡◌, refl, ap, ap₂, sym, ◌∙◌}
use mathlib.Core.Logic.{⊎_elim}
use mathlib.Core.Bool.{Bool, true, false, ◌&&◌, false≢true}
use mathlib.Core.List.{List}
use Prim.Native.Nat.{ℕ, ◌+◌, ◌*◌, ◌/◌, ◌%◌, ◌<◌, ◌≤◌}
use native.Mathlib.Omega.{arith}
use lib.Dec.{eqb}
use borrow.Author.Tests.{eqb-true, eq-eqb, ne_eqb}
use lib.ListN.{length, get_or}
use Rattle.lattice.specs.declared.Sides.{Sides}
use lib.Ieee.{Float}
use Rattle.stages.specs.Vertices.{Vertex, candidates, held}
use Rattle.stages.specs.Meshes.{book_of, find, table_of}
use Rattle.stages.specs.Rounds.{built}
use Rattle.stages.specs.Stages.{Held, Sound, Stage, edge_count, held_keys, holders}
use Rattle.stages.specs.Samples.{AllFinite, box_of, point_by, pointed}
use Rattle.stages.proofs.Stages.{built_stage}
use Rattle.stages.proofs.Room.{always, count-always, stage_count, vertices_most}
use Rattle.stages.proofs.Lookup.{find_none, stage_one, stage_times}
use Rattle.stages.proofs.Table.{table_at}
use Rattle.stages.proofs.Book.{book_held}
use Rattle.stages.proofs.HeldOnce.{held_places}
use Rattle.laws.specs.Bools.{bit}
use Rattle.laws.specs.Ranges.{sum}
use Rattle.laws.specs.Lists.{total}
use Rattle.lattice.specs.Sites.{SidesFit, sites}
use Rattle.lattice.specs.Across.{across_of}
use Rattle.march.specs.March.{none}
use Rattle.marks.specs.Marks.{crossed_by, crossed_count, is_crossed}
use Rattle.laws.proofs.Bools.{and_yes, bit_and-le, bit_le, bool_ext}
use Rattle.laws.proofs.Ranges.{lt-or}
use Rattle.laws.proofs.Sums.{sum-le, sum_pick, sum_rows, sum_same, sum-under, sum-zero}
use Rattle.lattice.proofs.Sites.{sites-most}
use Rattle.lattice.proofs.OtherEnds.{across-joined}

eqb-turn : (k e : ℕ) → eqb k e ≡ eqb e k
eqb-turn k e = bool_ext (eqb k e) (eqb e k) (λ h. eq-eqb e k (sym (eqb-true k e h))) (λ h. eq-eqb k e (sym (eqb-true e k h)))

none-times : (n : ℕ) (c : Bool) → c ≡ false → n * bit c ≡ 0
unfolding bit
none-times n c d = rw d (omega arith)

times-always : (n k : ℕ) → n * bit (always k) ≡ n
unfolding bit always
times-always n k = omega arith

-- E by the places of the table
crossed_places : (n : Sides) (S : List Float) (h : Float) → crossed_count n S h ≡ sum (7 * sites n) (λ k. bit (is_crossed n S h (k / 7) (k % 7)))
unfolding crossed_count
crossed_places n S h =
    let e : sites n * 7 ≡ 7 * sites n = omega arith in
    sum_same (sites n) (λ s. sum 7 (λ l. bit (is_crossed n S h s l))) (λ s. sum 7 (λ l. bit (is_crossed n S h ((s * 7 + l) / 7) ((s * 7 + l) % 7))))
    (λ s hs. sum_same 7 (λ l. bit (is_crossed n S h s l)) (λ l. bit (is_crossed n S h ((s * 7 + l) / 7) ((s * 7 + l) % 7))) (λ l g.
    let d : (s * 7 + l) / 7 ≡ s = omega arith in
    let m : (s * 7 + l) % 7 ≡ l = omega arith in
    rw (d, m)))
    ∙ sym (sum_rows (sites n) 7 (λ k. bit (is_crossed n S h (k / 7) (k % 7))))
    ∙ ap (λ (m : ℕ). sum m (λ k. bit (is_crossed n S h (k / 7) (k % 7)))) e

no_crossing : (S : List Float) (h : Float) (s : ℕ) → crossed_by S h s None ≡ true → ⊥
unfolding crossed_by
no_crossing S h s c = false≢true c

module _ (n : Sides) (S : List Float) (h : Float) (cluster : Bool) (f : SidesFit n) where
  -- ---- what the candidates hold

  pub holders_are : (k : ℕ) → k < 7 * sites n → holders (box_of n S h cluster) (candidates (box_of n S h cluster)) k ≡ bit (pointed n S h k)
  unfolding holders
  holders_are k g =
      held_places n S h cluster f (eqb k)
      ∙ sum_same (7 * sites n) (λ e. bit (pointed n S h e) * bit (eqb k e)) (λ e. bit (pointed n S h e) * bit (eqb e k))
      (λ e l. ap (λ (c : Bool). bit (pointed n S h e) * bit c) (eqb-turn k e))
      ∙ sum_pick (7 * sites n) k (λ e. bit (pointed n S h e)) g

  pub holders_past : (k : ℕ) → 7 * sites n ≤ k → holders (box_of n S h cluster) (candidates (box_of n S h cluster)) k ≡ 0
  unfolding holders
  holders_past k g =
      held_places n S h cluster f (eqb k)
      ∙ sum-zero (7 * sites n) (λ e. bit (pointed n S h e) * bit (eqb k e)) (λ e l. none-times (bit (pointed n S h e)) (eqb k e) (ne_eqb k e (λ (d : k ≡ e). omega arith)))

  pub held_once : (k : ℕ) → holders (box_of n S h cluster) (candidates (box_of n S h cluster)) k ≤ 1
  held_once k =
      ⊎_elim (λ l. omega (arith, holders_are k l, bit_le (pointed n S h k))) (λ l. omega (arith, holders_past k l)) (lt-or k (7 * sites n))

  -- HOW MANY EDGES ARE HELD: the crossed edges with finite ends
  pub edges_are : edge_count (box_of n S h cluster) ≡ sum (7 * sites n) (λ k. bit (pointed n S h k))
  unfolding edge_count
  edges_are =
      sym (count-always (held_keys (box_of n S h cluster) (candidates (box_of n S h cluster)))) ∙ held_places n S h cluster f always
      ∙ sum_same (7 * sites n) (λ k. bit (pointed n S h k) * bit (always k)) (λ k. bit (pointed n S h k)) (λ k l. times-always (bit (pointed n S h k)) k)

  pub edges_most : edge_count (box_of n S h cluster) ≤ crossed_count n S h
  unfolding pointed
  edges_most =
      omega (
        arith,
        edges_are,
        crossed_places n S h,
        sum-under (7 * sites n) (λ k. bit (is_crossed n S h (k / 7) (k % 7) && point_by S (k / 7) (across_of n (k / 7) (k % 7)))) (λ k. bit (is_crossed n S h (k / 7) (k % 7)))
            (λ k. bit_and-le (is_crossed n S h (k / 7) (k % 7)) (point_by S (k / 7) (across_of n (k / 7) (k % 7)))),
      )

  pub sample_sound : Sound (box_of n S h cluster)
  unfolding none
  sample_sound = record {
    once = held_once;
    few = omega (arith, edges_are, sum-le (7 * sites n) 1 (λ k. bit (pointed n S h k)) (λ k. bit_le (pointed n S h k)), sites-most n f);
  }

  -- NEVER MORE THAN X
  pub never_more : (R : ℕ) → length (built (box_of n S h cluster) R) ≤ 3 * crossed_count n S h / 2
  never_more R = vertices_most (box_of n S h cluster) R (crossed_count n S h) edges_most

  -- ---- every stage

  -- A CROSSED EDGE WITH FINITE ENDS IS HELD BY EXACTLY ONE UNRETIRED VERTEX, AND THE TABLE NAMES IT
  pub pointed-held : {vs : List Vertex} → Stage (box_of n S h cluster) vs → (k : ℕ) → k < 7 * sites n → pointed n S h k ≡ true → Held (box_of n S h cluster) vs k
  unfolding bit
  pointed-held st k g p = stage_one (box_of n S h cluster) st k (holders_are k g ∙ ap bit p)

  -- ANY OTHER EDGE HAS NO VERTEX
  pub other_none : {vs : List Vertex} → Stage (box_of n S h cluster) vs → (k : ℕ) → k < 7 * sites n → pointed n S h k ≡ false → find (box_of n S h cluster) 0 vs k ≡ none
  unfolding bit
  other_none {vs} st k g p = find_none (box_of n S h cluster) 0 vs k (stage_times (box_of n S h cluster) st k ∙ holders_are k g ∙ ap bit p)

  pub held-total : {vs : List Vertex} → Stage (box_of n S h cluster) vs → total (λ x. length (held x)) vs ≡ sum (7 * sites n) (λ k. bit (pointed n S h k))
  held-total st = stage_count (box_of n S h cluster) st ∙ edges_are

  -- ---- finite samples

  module _ (F : AllFinite n S) where
    -- a crossed edge has both ends in the box, and they are finite
    crossed-point : (s l : ℕ) → s < sites n → is_crossed n S h s l ≡ true → point_by S s (across_of n s l) ≡ true
    unfolding is_crossed point_by AllFinite
    crossed-point s l hs c = go (across_of n s l) refl
      where
        go : (o : Option ℕ) → across_of n s l ≡ o → point_by S s (across_of n s l) ≡ true
        go None a = absurd (no_crossing S h s (sym (ap (crossed_by S h s) a) ∙ c))
        go (Some t) a = ap (point_by S s) a ∙ and_yes (F s hs) (F t (across-joined n s l t f hs a).inside)

    pub pointed-crossed : (k : ℕ) → k < 7 * sites n → pointed n S h k ≡ is_crossed n S h (k / 7) (k % 7)
    unfolding pointed
    pointed-crossed k g = go (is_crossed n S h (k / 7) (k % 7)) refl
      where
        go : (c : Bool) → is_crossed n S h (k / 7) (k % 7) ≡ c → c && point_by S (k / 7) (across_of n (k / 7) (k % 7)) ≡ c
        go true e = crossed-point (k / 7) (k % 7) (omega arith) e
        go false e = refl

    -- EVERY CROSSED EDGE IS HELD BY EXACTLY ONE UNRETIRED VERTEX, AND THE TABLE NAMES IT
    pub crossed-held : {vs : List Vertex} → Stage (box_of n S h cluster) vs → (s l : ℕ) → s < sites n → l < 7 → is_crossed n S h s l ≡ true
        → Held (box_of n S h cluster) vs (7 * s + l)
    crossed-held st s l hs hl c =
        let d : (7 * s + l) / 7 ≡ s = omega arith in
        let m : (7 * s + l) % 7 ≡ l = omega arith in
        pointed-held st (7 * s + l) (omega arith) (pointed-crossed (7 * s + l) (omega arith) ∙ ap₂ (is_crossed n S h) d m ∙ c)

    pub edges-all : edge_count (box_of n S h cluster) ≡ crossed_count n S h
    edges-all =
        edges_are ∙ sum_same (7 * sites n) (λ k. bit (pointed n S h k)) (λ k. bit (is_crossed n S h (k / 7) (k % 7))) (λ k g. ap bit (pointed-crossed k g))
        ∙ sym (crossed_places n S h)

    -- THE HELD COUNTS OF THE VERTEX BOOK ADD UP TO E
    pub held-crossed : {vs : List Vertex} → Stage (box_of n S h cluster) vs → total (λ x. length (held x)) vs ≡ crossed_count n S h
    held-crossed st = stage_count (box_of n S h cluster) st ∙ edges-all

    pub book_crossed : {vs : List Vertex} → Stage (box_of n S h cluster) vs → sum (length vs) (λ i. get_or (book_of vs) (4 * i + 1) 0) ≡ crossed_count n S h
    book_crossed {vs} st = book_held vs ∙ held-crossed st

    -- of the build's last stage, by its edge table
    pub built-held : (R s l : ℕ) → s < sites n → l < 7 → is_crossed n S h s l ≡ true → Held (box_of n S h cluster) (built (box_of n S h cluster) R) (7 * s + l)
    built-held R s l hs hl c = crossed-held (built_stage (box_of n S h cluster) R) s l hs hl c

    pub table_names : {vs : List Vertex} (st : Stage (box_of n S h cluster) vs) (s l : ℕ) (hs : s < sites n) (hl : l < 7) (c : is_crossed n S h s l ≡ true)
        → get_or (table_of (box_of n S h cluster) vs) (7 * s + l) none ≡ (crossed-held st s l hs hl c).vertex
    unfolding box_of
    table_names {vs} st s l hs hl c = table_at (box_of n S h cluster) vs (7 * s + l) (omega arith) ∙ (crossed-held st s l hs hl c).names
