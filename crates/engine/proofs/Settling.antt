-- Round after round: what stands in the lists after some of them, and what is left to do. Assumes nothing.
use Rattle.std.specs.Prelude.{Option, None, Some}
use mathlib.Core.Path.{◌≡◌, refl, sym, ap, subst, ◌∙◌}
use mathlib.Core.List.{List}
use Prim.Native.Nat.{ℕ, suc, ◌+◌, ◌-◌, ◌≤◌, ◌<◌}
use native.Mathlib.Omega.{arith}
use lib.ListN.{length}
use lib.Ieee.{Float}
use Rattle.lattice.specs.Sites.{SidesFit}
use Rattle.stages.specs.Vertices.{Vertex}
use Rattle.stages.specs.Rounds.{owners, rollback, rounds, rounds_done}
use Rattle.stages.specs.Stages.{Stage, again}
use Rattle.stages.proofs.Demand.{sample_sound}
use Rattle.stages.proofs.Longer.{round_longer}
use Rattle.stages.proofs.Rounds.{done_more, done_none, rounds-more, rounds-none}
use Rattle.rollback.proofs.Holding.{round_more}
use Rattle.engine.specs.declared.Job.{Job}
use Rattle.engine.specs.declared.Stand.{Stand}
use Rattle.engine.specs.Inner.Standing.{Roomy, SettledAll, Standing, Stood, Turned, TurnedAll}
use Rattle.engine.specs.Engine.{Work, job_box}
use Rattle.engine.proofs.Standing.{mesh_room, roomy_after, stage_space, stands_again, stands_over, stands_same}

-- after `done` rounds; `from` and `l₀` are what stood there at first
module _ (j : Job) (S : List Float) (from : Stand) (l₀ : Work) where
  pub record Reached (x : Stood j S from l₀) (done : ℕ) (now : Stand) (l : Work) : Type 0 where
    pub vertices : List Vertex
    pub stage : Stage (job_box j S) vertices
    pub stands : Standing j S vertices l₀ now l
    pub left : rounds (job_box j S) (j.rounds - done) (done + 1) vertices ≡ rounds (job_box j S) j.rounds 1 x.vertices
    pub counted : done + rounds_done (job_box j S) (j.rounds - done) (done + 1) vertices ≡ rounds_done (job_box j S) j.rounds 1 x.vertices

  pub record Going (m room₀ : List ℕ) (done : ℕ) (now : Stand) (l : Work) (room : List ℕ) : Type 0 where
    pub low : done ≤ j.rounds
    pub reached : (x : Stood j S from l₀) → Reached x done now l
    pub first : Roomy j S m l₀ room₀
    pub lent : Roomy j S m l room
    pub long_positions : length l.positions ≡ length l₀.positions
    pub long_book : length l.book ≡ length l₀.book

module _ {j : Job} {S : List Float} {from : Stand} {m : List ℕ} {l₀ : Work} {room₀ : List ℕ} where
  pub going_start : Roomy j S m l₀ room₀ → Going j S from l₀ m room₀ 0 from l₀ room₀
  going_start R = record {
    low = omega arith;
    reached = λ x.
        let b = job_box j S in
        let e : j.rounds - 0 ≡ j.rounds = omega arith in
        record {
          vertices = x.vertices;
          stage = x.stage;
          stands = x.stands;
          left = ap (λ (y : ℕ). rounds b y 1 x.vertices) e;
          counted = omega (arith, ap (λ (y : ℕ). rounds_done b y 1 x.vertices) e);
        };
    first = R;
    lent = R;
    long_positions = refl;
    long_book = refl;
  }

  module _ {done : ℕ} {now : Stand} {l : Work} {room : List ℕ} (g : Going j S from l₀ m room₀ done now l room) where
    fit : SidesFit j.sides
    fit = g.first.lists.masked.sampled.fit

    -- what stands there now
    pub going_stood : Stood j S from l₀ → Stood j S now l
    going_stood x =
        let r = g.reached x in
        record {
          vertices = r.vertices;
          stage = r.stage;
          stands = stands_again r.stands (stage_space j S fit l₀.positions l₀.book r.stage g.first.lists.positions g.first.lists.book)
              (mesh_room j S fit r.vertices l₀.triangles (omega (arith, g.first.lists.triangles)));
        }

    module _ {z : Option Stand} {l' : Work} (T : TurnedAll j S now l (done + 1) z l') where
      -- NO ROUND: what stands there stays
      pub going_none : z ≡ None → SettledAll j S from l₀ (record { stand = now; rounds = done }) l'
      unfolding going_stood
      going_none e x =
          let b = job_box j S in
          let r = g.reached x in
          let o = subst (λ (y : Option Stand). Turned j S now l (going_stood x) (done + 1) y l') e (T (going_stood x)) in
          let same : r.vertices ≡ rounds b j.rounds 1 x.vertices = sym (rounds-none b (j.rounds - done) (done + 1) r.vertices o.none) ∙ r.left in
          record {
            stands = subst (λ (y : Work). Standing j S (rounds b j.rounds 1 x.vertices) l₀ now y) (sym o.same) (stands_same same r.stands);
            done = omega (arith, r.counted, done_none b (j.rounds - done) (done + 1) r.vertices o.none);
          }

      -- ONE ROUND MORE
      pub going_turn : {d : Stand} → z ≡ Some d → done < j.rounds → (room' : List ℕ) → length l'.table ≡ length l.table → length l'.positions ≡ length l.positions
          → length l'.book ≡ length l.book → length l'.triangles ≡ length l.triangles → length room' ≡ length room
          → Going j S from l₀ m room₀ (done + 1) d l' room'
      unfolding going_stood
      going_turn {d} e few room' lt lp lk ltr lr = record {
        low = omega arith;
        reached = one;
        first = g.first;
        lent = roomy_after g.lent lt lp lk ltr lr;
        long_positions = lp ∙ g.long_positions;
        long_book = lk ∙ g.long_book;
      }
        where
          one : (x : Stood j S from l₀) → Reached j S from l₀ x (done + 1) d l'
          one x =
              let b = job_box j S in
              let r = g.reached x in
              let o = subst (λ (y : Option Stand). Turned j S now l (going_stood x) (done + 1) y l') e (T (going_stood x)) in
              let w = o.some in
              let st : Stage b (rollback (done + 1) (owners b r.vertices) r.vertices) = again (done + 1) r.stage in
              let a : j.rounds - done ≡ suc (j.rounds - (done + 1)) = omega arith in
              let i : suc (done + 1) ≡ done + 1 + 1 = omega arith in
              record {
                vertices = rollback (done + 1) (owners b r.vertices) r.vertices;
                stage = st;
                stands = stands_over r.stands o.stands (round_more b (done + 1) r.stage)
                    (stage_space j S fit l₀.positions l₀.book st g.first.lists.positions g.first.lists.book)
                    (round_longer b (sample_sound j.sides S j.threshold j.cluster fit) r.stage (done + 1))
                    (mesh_room j S fit (rollback (done + 1) (owners b r.vertices) r.vertices) l₀.triangles (omega (arith, g.first.lists.triangles)));
                left = ap (λ (y : ℕ). rounds b (j.rounds - (done + 1)) y (rollback (done + 1) (owners b r.vertices) r.vertices)) (sym i)
                    ∙ sym (rounds-more b (j.rounds - (done + 1)) (done + 1) r.vertices w.0 w.1 w.2)
                    ∙ ap (λ (y : ℕ). rounds b y (done + 1) r.vertices) (sym a) ∙ r.left;
                counted = omega (
                  arith,
                  r.counted,
                  ap (λ (y : ℕ). rounds_done b y (done + 1) r.vertices) a,
                  done_more b (j.rounds - (done + 1)) (done + 1) r.vertices w.0 w.1 w.2,
                  ap (λ (y : ℕ). rounds_done b (j.rounds - (done + 1)) y (rollback (done + 1) (owners b r.vertices) r.vertices)) i,
                );
              }

    -- ALL ROUNDS
    pub going_done : j.rounds ≤ done → SettledAll j S from l₀ (record { stand = now; rounds = j.rounds }) l
    unfolding rounds rounds_done
    going_done few x =
        let b = job_box j S in
        let r = g.reached x in
        let a : j.rounds - done ≡ 0 = omega arith in
        let e : r.vertices ≡ rounds b j.rounds 1 x.vertices = ap (λ (y : ℕ). rounds b y (done + 1) r.vertices) (sym a) ∙ r.left in
        let d : rounds_done b (j.rounds - done) (done + 1) r.vertices ≡ 0 = ap (λ (y : ℕ). rounds_done b y (done + 1) r.vertices) a in
        record { stands = stands_same e r.stands; done = omega (arith, g.low, r.counted, d) }
