-- A round turn by turn: after i turns the lists hold the vertices of the definition's first i turns. Assumes nothing.
use mathlib.Core.Path.{◌≡◌, refl, sym, ap, ◌∙◌}
use mathlib.Core.Bool.{Bool, true, false, ◌&&◌}
use mathlib.Core.List.{List, ◌++◌, map}
use Prim.Native.Nat.{ℕ, zero, suc, ◌+◌, ◌*◌, ◌-◌, ◌≤◌, ◌<◌}
use native.Mathlib.Numerals.{add-one}
use native.Mathlib.Omega.{arith}
use lib.Dec.{eqb, ltb}
use lib.ListN.{length, get_or, set, take, drop, length-append, length-set, length-map, get_or-append}
use lib.Seq.{length_front, length-sets}
use lib.Ieee.{Float}
use Rattle.laws.specs.Lists.{joined, keep}
use Rattle.laws.specs.Ranges.{fold}
use Rattle.laws.proofs.Lists.{all_member, front_map-at}
use Rattle.laws.proofs.Ranges.{fold-none}
use Rattle.lattice.specs.declared.Sides.{Sides}
use Rattle.lattice.specs.Sites.{sites}
use Rattle.points.specs.declared.Frame.{Frame}
use Rattle.march.specs.March.{none}
use Rattle.stages.specs.Boxes.{Box}
use Rattle.stages.specs.Vertices.{Vertex, apart, nobody}
use Rattle.stages.specs.Meshes.{book_of, table_of}
use Rattle.stages.specs.Rounds.{owners, retire, retired, rollback, rolled}
use Rattle.stages.specs.Samples.{box_of}
use Rattle.stages.specs.Inner.Steps.{roll_to, roll_turn}
use Rattle.stages.specs.Inner.Clustered.{Proper}
use Rattle.stages.proofs.Lookup.{times}
use Rattle.stages.proofs.Longer.{stage_once}
use Rattle.stages.proofs.Table.{table-length}
use Rattle.stages.proofs.Turns.{rollback_turns, so_far, to_longer, to-times, turn_longer, turns}
use Rattle.stages.proofs.Readback.{stage_proper}
use Rattle.stages.proofs.SampleClusters.{mark_at}
use Rattle.stages.proofs.SampleMarks.{sample_clustered}
use Rattle.stages.proofs.Demand.{sample_sound}
use Rattle.stages.proofs.Book.{book_length, book_row, several_book}
use Rattle.site_vertices.specs.Inner.Appending.{singles_of}
use Rattle.rollback.specs.Inner.Rolling.{Holding, Ready, Rolled, Rolling}
use Rattle.rollback.specs.Inner.Turning.{Turnable, Turned, due, grown, held_mask}
use Rattle.rollback.proofs.Fronts.{front_read}
use Rattle.rollback.proofs.Holding.{holding_same}
use Rattle.rollback.proofs.Points.{Dotted, stage_dotted}
use Rattle.rollback.proofs.Turns.{replaced_holding, singles-apart}

-- ---- the turns of the definition

module _ (r : ℕ) (os : List ℕ) where
  turn-rolled : (i : ℕ) (ws : List Vertex) → rolled os (get_or ws i nobody) ≡ true
      → roll_turn r os i ws ≡ set ws i (retired (get_or ws i nobody)) ++ apart r (get_or ws i nobody)
  unfolding roll_turn
  turn-rolled i ws q = rw q

  turn_kept : (i : ℕ) (ws : List Vertex) → rolled os (get_or ws i nobody) ≡ false → roll_turn r os i ws ≡ ws
  unfolding roll_turn
  turn_kept i ws q = rw q

  to-more : (i : ℕ) (vs : List Vertex) → roll_to r os (suc i) vs ≡ roll_turn r os i (roll_to r os i vs)
  unfolding roll_to fold
  to-more i vs = refl

  -- more turns, no fewer vertices
  later_longer : (d i : ℕ) (vs : List Vertex) → length (roll_to r os i vs) ≤ length (roll_to r os (d + i) vs)
  later_longer zero i vs = let e : 0 + i ≡ i = omega arith in omega (arith, ap (λ (m : ℕ). length (roll_to r os m vs)) e)
  later_longer (suc d) i vs =
      let e : suc d + i ≡ suc (d + i) = omega arith in
      omega (
        arith,
        later_longer d i vs,
        turn_longer r os (d + i) (roll_to r os (d + i) vs),
        ap length (to-more (d + i) vs),
        ap (λ (m : ℕ). length (roll_to r os m vs)) e,
      )

  -- before its turn a vertex is as it was
  own_turn : (i : ℕ) (vs : List Vertex) → i < length vs → get_or (roll_to r os i vs) i nobody ≡ get_or vs i nobody
  unfolding so_far
  own_turn i vs h =
      let a = map (retire os) (take i vs) ++ drop i vs in
      let g = joined (map (apart r) (keep (rolled os) (take i vs))) in
      let l : length a ≡ length vs = length_front vs (map (retire os) (take i vs)) i (length-map (take i vs) (retire os)) in
      ap (λ (l : List Vertex). get_or l i nobody) (turns r os i vs (omega arith))
      ∙ get_or-append a g nobody i (omega arith)
      ∙ front_map-at nobody (retire os) vs i h

-- ---- turn i of a round

module _ {f : Frame} {n : Sides} {S : List Float} {h : Float} {cluster : Bool} {vs : List Vertex} {m t₀ : List ℕ} {p₀ : List Float} {k₀ flags : List ℕ} {count round : ℕ}
    (R : Rolling f n S h cluster vs m t₀ p₀ k₀ flags count round) (i : ℕ) (hi : i < count) where
  abbrev box : Box
  box = box_of n S h cluster

  abbrev os : List ℕ
  os = owners (box_of n S h cluster) vs

  -- the vertices so far, and the one whose turn it is
  abbrev now : List Vertex
  now = roll_to round (owners (box_of n S h cluster) vs) i vs

  abbrev own : Vertex
  own = get_or (roll_to round (owners (box_of n S h cluster) vs) i vs) i nobody

  in_before : i < length vs
  in_before = omega (arith, R.lists.next)

  in_now : i < length now
  in_now = omega (arith, in_before, to_longer box round os i vs)

  once : (k : ℕ) → times box k now ≤ 1
  once k = omega (arith, in_before, to-times box round os k i vs (omega (arith, in_before)), stage_once box (sample_sound n S h cluster R.sampled.fit) R.stage k)

  proper : Proper box (mark_at n S h) own
  proper =
      rw (own_turn round os i vs in_before)
      (all_member nobody (Proper box (mark_at n S h)) vs (stage_proper box (mark_at n S h) (sample_clustered n S h R.sampled.fit cluster) R.stage) i in_before)

  dotted : Dotted box own
  dotted = rw (own_turn round os i vs in_before) (all_member nobody (Dotted box) vs (stage_dotted box R.stage) i in_before)

  -- what the turn leaves is within the round
  turn-within : length (roll_turn round os i now) ≤ length (rollback round os vs)
  turn-within =
      let e : length vs - suc i + suc i ≡ length vs = omega (arith, in_before) in
      omega (
        arith,
        later_longer round os (length vs - suc i) (suc i) vs,
        ap length (to-more round os i vs),
        ap (λ (x : ℕ). length (roll_to round os x vs)) e,
        ap length (rollback_turns box round R.stage),
      )

  now-within : length now ≤ length (rollback round os vs)
  now-within = omega (arith, turn-within, turn_longer round os i now)

  now_few : length now ≤ none
  unfolding none
  now_few = omega (arith, now-within, R.space.few)

  site-low : own.site < sites n
  unfolding box_of
  site-low = proper.low

  module _ {c : ℕ} {t : List ℕ} {p : List Float} {k : List ℕ} (o : Holding f n S (box_of n S h cluster) (roll_to round (owners (box_of n S h cluster) vs) i vs) p₀ k₀ c t p k) where
    book_room : length (book_of now) ≤ length k₀
    book_room = omega (arith, book_length now, now-within, R.space.book)

    word : (a : ℕ) → a < 4 → get_or k (4 * i + a) 0 ≡ get_or (book_of now) (4 * i + a) 0
    word a l = ap (λ (y : List ℕ). get_or y (4 * i + a) 0) o.book ∙ front_read 0 (book_of now) k₀ (4 * i + a) book_room (omega (arith, book_length now, in_now))

    site-is : get_or k (4 * i) 0 ≡ own.site
    site-is = let z : 4 * i + 0 ≡ 4 * i = omega arith in rw z at (word 0 (omega arith)) ∙ (book_row now i in_now).site

    -- VERTEX i IS DUE BY THE LISTS WHERE THE DEFINITION ROLLS IT BACK
    due-is : due k flags i ≡ rolled os own
    unfolding due rolled
    due-is =
        (λ z. ltb 1 (word 1 (omega arith) z) && eqb (get_or flags (site-is z) 0) 1) ∙ (λ z. sym (several_book now i in_now) z && R.owned own.site site-low z)

    grown-is : grown n S m t k i round ≡ apart round own
    unfolding grown
    grown-is =
        (λ z. singles_of n S round (site-is z) (held_mask n (o.table z) (site-is z) (get_or m (site-is z) 0) i))
        ∙ ap (λ (y : ℕ). singles_of n S round own.site (held_mask n (table_of box now) own.site y i)) (R.marks own.site site-low)
        ∙ singles-apart n S h cluster R.sampled.fit now i in_now now_few once proper round dotted

    turn-length : rolled os own ≡ true → c + length (grown n S m t k i round) ≡ length (roll_turn round os i now)
    turn-length q =
        omega (
          arith,
          o.next,
          ap length grown-is,
          ap length (turn-rolled round os i now q),
          length-append (set now i (retired own)) (apart round own),
          length-set now i (retired own),
        )

    -- THE TURN CAN BE TAKEN
    turn_ready : Turnable n S m flags i c round t p k
    unfolding box_of
    turn_ready =
        let lp : length p ≡ length p₀ = ap length o.positions ∙ simp length-sets in
        let lk : length k ≡ length k₀ = ap length o.book ∙ simp length-sets in
        record {
          placed = record {
            table = omega (arith, ap length o.table, table-length box now);
            row = omega (arith, book_room, book_length now, in_now);
            site = rw site-is site-low;
            few = omega (arith, in_now, now-within, R.space.few);
          };
          room = λ d. let e = turn-length (sym due-is ∙ d) in
              record {
                positions = omega (arith, turn-within, R.space.positions);
                book = omega (arith, turn-within, R.space.book);
                few = omega (arith, turn-within, R.space.few);
              };
        }

    -- THE LISTS HOLD THE VERTICES AFTER IT
    turn_holds : {j : ℕ} {t' : List ℕ} {p' : List Float} {k' : List ℕ} → Turned f n S m flags i c round t p k j t' p' k'
        → Holding f n S box (roll_to round os (i + 1) vs) p₀ k₀ j t' p' k'
    unfolding box_of
    turn_holds {j} {t'} {p'} {k'} T = rw (add-one, to-more round os i vs) (go (due k flags i) refl)
      where
        go : (d : Bool) → due k flags i ≡ d → Holding f n S box (roll_turn round os i now) p₀ k₀ j t' p' k'
        go true q =
            let e : rolled os own ≡ true = sym due-is ∙ q in
            let l = turn-rolled round os i now e in
            holding_same (sym l)
            (replaced_holding f n S box refl now i round in_now once o grown-is (T.rolled q) (omega (arith, turn-within, ap length l, R.space.book)))
        go false q =
            holding_same (sym (turn_kept round os i now (sym due-is ∙ q)))
            (record { next = T.same_next q ∙ o.next; table = T.same_table q ∙ o.table; positions = T.same_positions q ∙ o.positions; book = T.same_book q ∙ o.book })

-- ---- the loop

module _ (f : Frame) (n : Sides) (S : List Float) (m t₀ : List ℕ) (p₀ : List Float) (k₀ flags : List ℕ) (count round : ℕ) where
  -- after i turns: of each build that the lists held, they hold the vertices of its first i turns
  pub record Sofar (i c : ℕ) (t : List ℕ) (p : List Float) (k : List ℕ) : Type 0 where
    pub low : i ≤ count
    pub long : length t ≡ length t₀
    pub long_positions : length p ≡ length p₀
    pub long_book : length k ≡ length k₀
    pub lists : (h : Float) (cluster : Bool) (vs : List Vertex) → Rolling f n S h cluster vs m t₀ p₀ k₀ flags count round
        → Holding f n S (box_of n S h cluster) (roll_to round (owners (box_of n S h cluster) vs) i vs) p₀ k₀ c t p k

  pub sofar_start : Sofar 0 count t₀ p₀ k₀
  unfolding roll_to
  sofar_start = record {
    low = omega arith;
    long = refl;
    long_positions = refl;
    long_book = refl;
    lists = λ h cluster vs R. holding_same (sym (fold-none (roll_turn round (owners (box_of n S h cluster) vs)) vs)) R.lists;
  }

  module _ (i c : ℕ) (t : List ℕ) (p : List Float) (k : List ℕ) (s : Sofar i c t p k) where
    pub sofar_ready : Ready f n S m t₀ p₀ k₀ flags count round → i < count → Turnable n S m flags i c round t p k
    sofar_ready r hi = turn_ready r.rolling i hi (s.lists r.h r.cluster r.vs r.rolling)

    pub sofar_turn : (j : ℕ) (t' : List ℕ) (p' : List Float) (k' : List ℕ) → i < count → Turned f n S m flags i c round t p k j t' p' k' → length t' ≡ length t
        → length p' ≡ length p → length k' ≡ length k → Sofar (i + 1) j t' p' k'
    sofar_turn j t' p' k' hi T lt lp lk = record {
      low = omega arith;
      long = lt ∙ s.long;
      long_positions = lp ∙ s.long_positions;
      long_book = lk ∙ s.long_book;
      lists = λ h cluster vs R. turn_holds R i hi (s.lists h cluster vs R) T;
    }

    pub sofar_done : count ≤ i → Rolled f n S m t₀ p₀ k₀ flags count round c t p k
    sofar_done hi = record {
      lists = λ h cluster vs R.
          let e : i ≡ length vs = omega (arith, s.low, R.lists.next) in
          holding_same (ap (λ (x : ℕ). roll_to round (owners (box_of n S h cluster) vs) x vs) e ∙ rollback_turns (box_of n S h cluster) round R.stage) (s.lists h cluster vs R);
    }
