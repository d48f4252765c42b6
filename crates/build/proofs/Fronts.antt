-- What a build that is done has left at the fronts of the lists, and how much. Assumes nothing.
use mathlib.Core.Path.{◌≡◌, refl, sym, ap, ◌∙◌}
use mathlib.Core.Bool.{Bool, true, false, cond}
use mathlib.Core.List.{List, ◌++◌}
use Prim.Native.Nat.{ℕ, ◌*◌, ◌≤◌, ◌<◌}
use native.Mathlib.Omega.{arith}
use borrow.Author.Tests.{eq-eqb, eqb-true}
use lib.Dec.{eqb}
use lib.Ieee.{Float}
use lib.ListN.{length, take, drop, length-append}
use lib.Seq.{take_at}
use Rattle.laws.specs.Lists.{All}
use Rattle.laws.proofs.Lists.{all-index}
use Rattle.laws.proofs.Triangles.{flat-length}
use Rattle.stages.specs.Meshes.{mesh_of}
use Rattle.site_vertices.proofs.Appending as appended
use Rattle.refusals.proofs.Status.{most-most}
use Rattle.crowded.proofs.Meshes.{corner-low}
use Rattle.build.specs.declared.Answer.{Answer}
use Rattle.build.specs.Answer.{Order, status, order_box, order_vertices, order_positions, order_triangles, done_answer, refused_answer, answer_of, written}
use Rattle.build.proofs.Answering.{order_granted, done-room}
use Rattle.lattice.proofs.Sites.{cells-most}

module _ (o : Order) where
  pub answer-status : (answer_of o).status ≡ status o
  unfolding answer_of done_answer refused_answer
  answer-status = go (eqb (status o) 0) refl
    where
      go : (b : Bool) → eqb (status o) 0 ≡ b → (cond b (done_answer o) (refused_answer (status o))).status ≡ status o
      go true e = sym (eqb-true (status o) 0 e)
      go false e = refl

  module _ (z : status o ≡ 0) where
    pub is-done : answer_of o ≡ done_answer o
    unfolding answer_of
    is-done = rw (eq-eqb (status o) 0 z)

    pub is-written : {A : Type 0} (xs l : List A) → written o xs l ≡ xs ++ drop (length xs) l
    is-written xs l = rw (eq-eqb (status o) 0 z)

    -- ---- how many vertices and triangles

    pub vertices_are : (answer_of o).vertices ≡ length (order_vertices o)
    unfolding done_answer
    vertices_are = ap (λ (a : Answer). a.vertices) is-done

    pub triangles_are : (answer_of o).triangles ≡ length (mesh_of (order_box o) (order_vertices o))
    unfolding done_answer
    triangles_are = ap (λ (a : Answer). a.triangles) is-done

    -- in a box of the largest sides
    pub vertices_most : length (order_vertices o) ≤ 344064
    vertices_most = omega (arith, (done-room o z).0, most-most o.sides o.samples o.threshold (order_granted o z).fit)

    pub triangles_most : length (mesh_of (order_box o) (order_vertices o)) ≤ 357492
    triangles_most = omega (arith, (done-room o z).1, cells-most o.sides (order_granted o z).fit, flat-length (mesh_of (order_box o) (order_vertices o)))

    -- in the lists that were lent
    pub vertices_lent : 3 * length (order_vertices o) ≤ o.lent.vertices
    vertices_lent = omega (arith, (done-room o z).0, (order_granted o z).vertices)

    pub triangles_lent : 3 * length (mesh_of (order_box o) (order_vertices o)) ≤ o.lent.triangles
    triangles_lent = omega (arith, (done-room o z).1, (order_granted o z).triangles, flat-length (mesh_of (order_box o) (order_vertices o)))

    -- ---- positions and triangles, at the fronts of their lists

    pub positions_three : length (order_positions o) ≡ length (order_vertices o) * 3
    positions_three = appended.positions_three o.frame o.sides o.samples (order_vertices o)

    -- every corner is a vertex
    pub corners-below : All (λ x. x < length (order_vertices o)) (order_triangles o)
    corners-below = all-index 0 (λ x. x < length (order_vertices o)) (order_triangles o) (corner-low (order_box o) (order_vertices o))

    positions_are : (answer_of o).vertices * 3 ≡ length (order_positions o)
    positions_are = omega (arith, vertices_are, positions_three)

    corners_are : (answer_of o).triangles * 3 ≡ length (order_triangles o)
    corners_are = omega (arith, triangles_are, flat-length (mesh_of (order_box o) (order_vertices o)))

    module _ {A : Type 0} (xs l : List A) (n : ℕ) (e : n ≡ length xs) where
      front : take n (written o xs l) ≡ xs
      front = ap (take n) (is-written xs l) ∙ take_at xs (drop (length xs) l) n (sym e)

      reaches : n ≤ length (written o xs l)
      reaches = rw (is-written xs l) (rw length-append (omega arith))

    pub positions_front : (p : List Float) → take ((answer_of o).vertices * 3) (written o (order_positions o) p) ≡ order_positions o
    positions_front p = front (order_positions o) p ((answer_of o).vertices * 3) positions_are

    pub positions_reach : (p : List Float) → (answer_of o).vertices * 3 ≤ length (written o (order_positions o) p)
    positions_reach p = reaches (order_positions o) p ((answer_of o).vertices * 3) positions_are

    pub triangles_front : (t : List ℕ) → take ((answer_of o).triangles * 3) (written o (order_triangles o) t) ≡ order_triangles o
    triangles_front t = front (order_triangles o) t ((answer_of o).triangles * 3) corners_are

    pub triangles_reach : (t : List ℕ) → (answer_of o).triangles * 3 ≤ length (written o (order_triangles o) t)
    triangles_reach t = reaches (order_triangles o) t ((answer_of o).triangles * 3) corners_are
