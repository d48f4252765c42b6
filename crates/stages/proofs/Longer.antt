-- A finer lookup has at least the triangles of the coarser one: the mesh never shrinks. Assumes nothing.
use mathlib.Core.List.{List}
use Prim.Native.Nat.{ℕ, ◌+◌, ◌*◌, ◌/◌, ◌%◌, ◌≤◌}
use native.Mathlib.Omega.{arith}
use lib.ListN.{length}
use Rattle.lattice.specs.Sites.{sites}
use Rattle.stages.specs.Boxes.{Box}
use Rattle.stages.specs.Vertices.{Vertex, candidates}
use Rattle.stages.specs.Meshes.{field_of, find, mesh_of}
use Rattle.stages.specs.Splits.{crowded_pairs, place, split}
use Rattle.stages.specs.Rounds.{owners, rollback}
use Rattle.stages.specs.Stages.{Sound, Stage, again, first, parted}
use Rattle.stages.proofs.Room.{stage_room}
use Rattle.stages.proofs.Lookup.{stage_times, times}
use Rattle.stages.proofs.Finer.{place-step, roll_step, step_finer}
use Rattle.march.specs.Finer.{by_edge, renamed, Finer}
use Rattle.march.proofs.Finer.{finer_longer}
use Rattle.march.specs.March.{none}

-- THE MESH NEVER SHRINKS
pub mesh_longer : (b : Box) (vs ws : List Vertex) → Finer (7 * sites b.sides) (find b 0 ws) (find b 0 vs) → length (mesh_of b vs) ≤ length (mesh_of b ws)
unfolding mesh_of field_of renamed by_edge
mesh_longer b vs ws fine =
    finer_longer (field_of b vs) (λ s l. find b 0 ws (7 * s + l)) (λ s l. find b 0 vs (7 * s + l))
    (record {
      same = λ d e i j h. fine.same (7 * (d / 7) + d % 7) (7 * (e / 7) + e % 7) (omega arith) (omega arith) h;
      gone = λ e i h. fine.gone (7 * (e / 7) + e % 7) (omega arith) h;
    })

-- ---- the split and the rounds

module _ (b : Box) (S : Sound b) where
  pub stage_few : {vs : List Vertex} → Stage b vs → length vs ≤ none
  stage_few st = omega (arith, stage_room b st, S.few)

  pub stage_once : {vs : List Vertex} → Stage b vs → (k : ℕ) → times b k vs ≤ 1
  stage_once {vs} st k = omega (arith, stage_times b st k, S.once k)

  pub split_finer : (m : ℕ) → Finer m (find b 0 (split b)) (find b 0 (candidates b))
  unfolding split
  split_finer m =
      step_finer b (candidates b) (place (crowded_pairs b) 0 (candidates b)) (place-step b (crowded_pairs b) 0 (candidates b)) (stage_once first) (stage_few (parted (crowded_pairs b))) m

  pub round_finer : {vs : List Vertex} → Stage b vs → (r m : ℕ) → Finer m (find b 0 (rollback r (owners b vs) vs)) (find b 0 vs)
  round_finer {vs} st r m = step_finer b vs (rollback r (owners b vs) vs) (roll_step b r vs) (stage_once st) (stage_few (again r st)) m

  -- THE TRIANGLES NEVER BECOME FEWER
  pub split_longer : length (mesh_of b (candidates b)) ≤ length (mesh_of b (split b))
  split_longer = mesh_longer b (candidates b) (split b) (split_finer (7 * sites b.sides))

  pub round_longer : {vs : List Vertex} → Stage b vs → (r : ℕ) → length (mesh_of b vs) ≤ length (mesh_of b (rollback r (owners b vs) vs))
  round_longer {vs} st r = mesh_longer b vs (rollback r (owners b vs) vs) (round_finer st r (7 * sites b.sides))
