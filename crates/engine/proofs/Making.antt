-- The candidates, the split and the rounds in one: few enough candidates for their flags, no fewer vertices and triangles at each stage, and a calm mesh. Assumes nothing.
use mathlib.Core.Path.{◌≡◌, refl, sym, ap, subst, ◌∙◌}
use mathlib.Core.Bool.{Bool, true, false, false≢true}
use mathlib.Core.List.{List, [], ◌∷◌, map}
use Prim.Native.Nat.{ℕ, zero, suc, ◌+◌, ◌*◌, ◌-◌, ◌≤◌, ◌<◌}
use native.Mathlib.Omega.{arith}
use lib.Dec.{eqb}
use lib.ListN.{length, get_or, take, drop}
use lib.Ieee.{Float}
use Rattle.laws.specs.Bools.{bit}
use Rattle.laws.specs.Ranges.{any}
use Rattle.laws.specs.Lists.{All, count, keep, total}
use Rattle.laws.specs.Triangles.{flat}
use Rattle.laws.proofs.Bools.{bit_le, bit-one}
use Rattle.laws.proofs.Lists.{all_keep, all_map, all_under}
use Rattle.laws.proofs.Ranges.{any-one, each_all}
use Rattle.laws.proofs.Sums.{sum-le}
use Rattle.laws.proofs.Tails.{tail_at, tail_is}
use Rattle.laws.proofs.Written.{front_take}
use Rattle.laws.proofs.Triangles.{flat-length}
use Rattle.lattice.specs.Sites.{SidesFit, cells, sites}
use Rattle.pairs.specs.Sides.{crowded}
use Rattle.stages.specs.Boxes.{Box}
use Rattle.stages.specs.Vertices.{Vertex, candidates, filled, fresh, held, site_vertices}
use Rattle.stages.specs.Meshes.{mesh_of}
use Rattle.stages.specs.Splits.{crowded_pairs, end_of, some, split}
use Rattle.stages.specs.Rounds.{built, owners, rollback, rounds, rounds_done}
use Rattle.stages.specs.Samples.{box_of, pointed}
use Rattle.stages.specs.Stages.{Sound, Stage, again, first}
use Rattle.stages.proofs.Demand.{edges_are, sample_sound}
use Rattle.stages.proofs.Longer.{round_longer, split_longer}
use Rattle.stages.proofs.Room.{stage_count}
use Rattle.stages.proofs.Rounds.{done_none, rounds-none}
use Rattle.stages.proofs.Stages.{given_case, rounds_stage, split_stage}
use Rattle.crowded.specs.Inner.Flags.{EndsFit, EndsUnder, Flaggable, end_in, fitting, side_flags, with_flags}
use Rattle.crowded.proofs.Meshes.{mesh_ends-fit, mesh_ends-under, mesh_flaggable, sites-cells}
use Rattle.crowded.proofs.Meaning.{fits_under, flag_read, sides-length}
use Rattle.crowded.proofs.Split.{calm_count, calm_split, ends-flagged}
use Rattle.crowded.proofs.Rollback.{calm_owners}
use Rattle.site_vertices.specs.Inner.Appending.{Space}
use Rattle.vertex_pass.specs.Inner.Passing.{flag_of}
use Rattle.rollback.proofs.Holding.{round_more}
use Rattle.engine.specs.declared.Job.{Job}
use Rattle.engine.specs.declared.Drawn.{Drawn}
use Rattle.engine.specs.declared.Rolled.{Rolled}
use Rattle.engine.specs.declared.Made.{Made}
use Rattle.engine.specs.Inner.Standing.{Finished, Lent, Paired, Parting, Placed, Roomy, SettledAll, Standing, Stood}
use Rattle.engine.specs.Engine.{Work, job_box}
use Rattle.engine.proofs.Standing.{mesh_room, stage_space, stands_again, stands_over, stands_same}
use Rattle.stages.proofs.Splits.{place_longer, place_never}

-- ---- no stage has fewer

module _ (b : Box) (K : Sound b) where
  -- VERTICES AND TRIANGLES NEVER BECOME FEWER
  pub rounds_longer : (k r : ℕ) (vs : List Vertex) → Stage b vs → (length vs ≤ length (rounds b k r vs)) × (length (mesh_of b vs) ≤ length (mesh_of b (rounds b k r vs)))
  unfolding rounds
  rounds_longer zero r vs st = (omega arith, omega arith)
  rounds_longer (suc k) r vs st =
      let i = rounds_longer k (suc r) (rollback r (owners b vs) vs) (again r st) in
      given_case (λ (ws : List Vertex). (length vs ≤ length ws) × (length (mesh_of b vs) ≤ length (mesh_of b ws))) (owners b vs) vs
      (λ os. rounds b k (suc r) (rollback r os vs)) (omega arith, omega arith) (omega (arith, round_more b r st, i.0), omega (arith, round_longer b K st r, i.1))

-- ---- each candidate holds an edge

all-total : {A : Type 0} (f : A → ℕ) (xs : List A) → All (λ x. 1 ≤ f x) xs → length xs ≤ total f xs
unfolding All total
all-total f [] h = omega arith
all-total f (x ∷ xs) h = omega (arith, h.0, all-total f xs h.1)

filled_long : (l : List ℕ) → filled l ≡ true → 1 ≤ length l
unfolding filled
filled_long [] h = absurd (false≢true h)
filled_long (e ∷ l) h = omega arith

candidates-hold : (b : Box) → All (λ x. 1 ≤ length (held x)) (candidates b)
unfolding candidates site_vertices held fresh
candidates-hold b =
    each_all (λ x. 1 ≤ length (held x)) (sites b.sides) (site_vertices b) (λ s h.
    let ls = map (keep (b.point s)) (b.clusters s) in
    all_under (λ x. 1 ≤ length (held x)) (fresh 0 s) (keep filled ls) (all_map (λ l. filled l ≡ true) (λ l. 1 ≤ length (held (fresh 0 s l))) (λ l e. filled_long l e) (keep filled ls) (all_keep filled ls)))

module _ (j : Job) (S : List Float) (fit : SidesFit j.sides) where
  pub candidates_few : length (candidates (job_box j S)) ≤ 7 * sites j.sides
  candidates_few =
      omega (
        arith,
        all-total (λ x. length (held x)) (candidates (job_box j S)) (candidates-hold (job_box j S)),
        stage_count (job_box j S) first,
        edges_are j.sides S j.threshold j.cluster fit,
        sum-le (7 * sites j.sides) 1 (λ k. bit (pointed j.sides S j.threshold k)) (λ k. bit_le (pointed j.sides S j.threshold k)),
      )

-- ---- the split and the rounds

module _ {j : Job} {S : List Float} {m : List ℕ} {l : Work} {room : List ℕ} (R : Roomy j S m l room) where
  L : Lent j S m l
  L = R.lists

  fit : SidesFit j.sides
  fit = L.masked.sampled.fit

  -- room for the vertices and for the mesh of any stage
  space : {vs : List Vertex} → Stage (job_box j S) vs → Space l.positions l.book (length vs)
  space st = stage_space j S fit l.positions l.book st L.positions L.book

  wide : (vs : List Vertex) → length (flat (mesh_of (job_box j S) vs)) ≤ length l.triangles
  wide vs = mesh_room j S fit vs l.triangles (omega (arith, L.triangles))

  -- THE FLAGS OF THE SPLIT
  pub split_paired : {c : ℕ} {fl : List ℕ} → c ≡ cells j.sides → Parting j S room → fl ≡ take (length room - 36 * c) (drop (36 * c) room) → Paired j S (flag_of fl)
  split_paired {c} e g q = record {
    pairs = crowded_pairs (job_box j S);
    same = λ v h. ap (λ (y : List ℕ). flag_of y v) (q ∙ tail_is (36 * c) room ∙ ap (λ (y : ℕ). drop (36 * y) room) e) ∙ g.flags v h;
  }

  module _ (g : Parting j S room) {c : ℕ} (ec : c ≡ cells j.sides) {fl : List ℕ} (q : fl ≡ take (length room - 36 * c) (drop (36 * c) room))
      {r : Drawn} {l' : Work} (D : Placed j S (flag_of fl) l r l') where
    parts : Standing j S (split (job_box j S)) l r.stand l'
    unfolding split split_paired
    parts = D.stands (split_paired ec g q)

    stage : Stage (job_box j S) (split (job_box j S))
    stage = split_stage (job_box j S)

    pub split_stood : Stood j S r.stand l'
    split_stood = record {
      vertices = split (job_box j S);
      stage = stage;
      stands = stands_again parts (space stage) (wide (split (job_box j S)));
    }

    -- THE ROUNDS AFTER THE SPLIT
    pub split_finished : {z : Rolled} {l'' : Work} → SettledAll j S r.stand l' z l''
        → Finished j S l (record { stand = z.stand; split = r.split; rounds = z.rounds; cases = r.cases }) l''
    unfolding split_stood built split_paired
    split_finished settled =
        let b = job_box j S in
        let n = rounds_longer b (sample_sound j.sides S j.threshold j.cluster fit) j.rounds 1 (split b) stage in
        let w = settled split_stood in
        record {
          stands = stands_over parts w.stands n.0 (space (rounds_stage b j.rounds 1 (split b) stage)) n.1 (wide (rounds b j.rounds 1 (split b)));
          is_split = D.split (split_paired ec g q);
          is_rounds = w.done;
          is_cases = D.cases;
        }

  -- ---- the candidates

  pub none_paired : Paired j S (flag_of [])
  unfolding flag_of end_of some count
  none_paired = record { pairs = []; same = λ v h. refl }

  module _ {r : Drawn} {l' : Work} (D : Placed j S (flag_of []) l r l') where
    abbrev vs : List Vertex
    vs = candidates (job_box j S)

    abbrev shown_tris : List ℕ
    shown_tris = take (3 * r.stand.triangles) l'.triangles

    whole : Standing j S vs l r.stand l'
    unfolding none_paired end_of some count
    whole = stands_same (place_never (end_of []) 0 vs (λ i. refl)) (D.stands none_paired)

    number : 3 * r.stand.triangles ≡ length (flat (mesh_of (job_box j S) vs))
    number = omega (arith, whole.triangles, flat-length (mesh_of (job_box j S) vs))

    pub first-low : 3 * r.stand.triangles ≤ length l.triangles
    first-low = omega (arith, number, wide vs)

    shown : shown_tris ≡ flat (mesh_of (job_box j S) vs)
    shown = front_take (flat (mesh_of (job_box j S) vs)) l'.triangles l.triangles (3 * r.stand.triangles) whole.mesh (wide vs) number

    module _ {c : ℕ} (ec : c ≡ cells j.sides) where
      pub first_flaggable : Flaggable shown_tris room (36 * c)
      unfolding box_of
      first_flaggable = rw (shown, ec) (mesh_flaggable (job_box j S) vs room fit (omega (arith, R.edges)))

      -- the candidates have their words
      words : 0 < cells j.sides → 36 * cells j.sides + length vs ≤ length room
      words z = omega (arith, R.edges, candidates_few j S fit, sites-cells j.sides z)

      pub first_fits : EndsFit shown_tris room (36 * c)
      unfolding box_of
      first_fits =
          subst (λ (y : List ℕ × ℕ). EndsFit y.0 room (36 * y.1)) (λ i. (sym shown i, sym ec i)) (mesh_ends-fit (job_box j S) vs room (36 * cells j.sides) words)

      pub first_under : EndsUnder shown_tris r.stand.vertices
      first_under = subst (λ (y : List ℕ × ℕ). EndsUnder y.0 y.1) (λ i. (sym shown i, sym whole.lists.next i)) (mesh_ends-under (job_box j S) vs)

      module _ {x : Bool} (ex : x ≡ any (length shown_tris) (crowded shown_tris)) where
        crowd : x ≡ any (length (flat (mesh_of (job_box j S) vs))) (crowded (flat (mesh_of (job_box j S) vs)))
        crowd = ex ∙ (λ i. any (length (shown i)) (crowded (shown i)))

        -- WITHOUT A CROWDED PAIR THE CANDIDATES ARE THE ANSWER
        pub first_finished : x ≡ false → Finished j S l (record { stand = r.stand; split = 0; rounds = 0; cases = r.cases }) l'
        unfolding built
        first_finished z =
            let b = job_box j S in
            let s : split b ≡ vs = calm_split b (sym crowd ∙ z) in
            let o : owners b vs ≡ [] = calm_owners b vs (sym crowd ∙ z) in
            let e : vs ≡ rounds b j.rounds 1 (split b) = sym (ap (rounds b j.rounds 1) s ∙ rounds-none b j.rounds 1 vs o) in
            record {
              stands = stands_same e whole;
              is_split = sym (calm_count b (sym crowd ∙ z));
              is_rounds = sym (ap (rounds_done b j.rounds 1) s ∙ done_none b j.rounds 1 vs o);
              is_cases = D.cases;
            }

        cells-some : x ≡ true → 0 < cells j.sides
        cells-some z =
            let w = any-one _ _ (sym crowd ∙ z) in
            let h : w.0 < length (flat (mesh_of (job_box j S) vs)) = w.1 in
            omega (arith, h, wide vs, L.triangles)

        -- WITH ONE, THE FLAGS ARE THOSE OF THE SPLIT
        pub first_parting : x ≡ true → {room' : List ℕ}
            → room' ≡ with_flags (side_flags shown_tris r.stand.vertices room) (36 * c) (fitting r.stand.vertices (36 * c) room) (end_in shown_tris) → Parting j S room'
        unfolding flag_of
        first_parting z {room'} e = record {
          flags = λ v h.
              let b = job_box j S in
              let i : 36 * c + v - 36 * c ≡ v = omega arith in
              ap (λ (y : ℕ). eqb (get_or (drop (36 * y) room') v 0) 1) (sym ec)
              ∙ ap (λ (y : ℕ). eqb (get_or (drop (36 * c) room') y 0) 1) (sym i)
              ∙ ap (λ (y : ℕ). eqb y 1) (tail_at 0 (36 * c) room' (36 * c + v) (omega arith) ∙ ap (λ (y : List ℕ). get_or y (36 * c + v) 0) e
              ∙ flag_read (side_flags shown_tris r.stand.vertices room) (36 * c) (fitting r.stand.vertices (36 * c) room)
              (omega (arith, first_flaggable.within, sides-length shown_tris room (36 * c) first_flaggable r.stand.vertices)) (end_in shown_tris) v
              (fits_under r.stand.vertices (36 * c) room v (omega (arith, h, whole.lists.next)) (omega (arith, h, ec, words (cells-some z)))))
              ∙ bit-one (end_in shown_tris v) ∙ ap (λ (y : List ℕ). end_in y v) shown ∙ sym (ends-flagged b v);
        }

    -- AND ALL IS AS IF IT HAD BEEN DONE AT ONCE
    pub first_over : {z : Made} {l'' : Work} → Finished j S l' z l'' → Finished j S l z l''
    unfolding built split
    first_over w =
        let b = job_box j S in
        let K = sample_sound j.sides S j.threshold j.cluster fit in
        let st = split_stage b in
        let n = rounds_longer b K j.rounds 1 (split b) st in
        record {
          stands = stands_over whole w.stands (omega (arith, n.0, place_longer (end_of (crowded_pairs b)) 0 vs)) (space (rounds_stage b j.rounds 1 (split b) st))
              (omega (arith, n.1, split_longer b K)) (wide (rounds b j.rounds 1 (split b)));
          is_split = w.is_split;
          is_rounds = w.is_rounds;
          is_cases = w.is_cases;
        }
