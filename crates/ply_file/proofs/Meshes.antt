-- The mesh of a build always fits a PLY file: a writer refuses it for want of room alone. Assumes nothing.
use mathlib.Core.Path.{◌≡◌, ◌∙◌}
use mathlib.Core.List.{List}
use Prim.Native.Nat.{ℕ, ◌*◌, ◌/◌, ◌≤◌}
use native.Mathlib.Omega.{arith}
use borrow.Author.Tests.{eq-eqb, ne_eqb}
use lib.Ieee.{binary64, to_bits}
use lib.ListN.{length, length-map}
use Rattle.laws.specs.Written.{Written}
use Rattle.laws.proofs.Triangles.{flat-length}
use Rattle.lines.specs.Status.{refusal_text}
use Rattle.stages.specs.Meshes.{mesh_of}
use Rattle.build.specs.Answer.{Order, status, order_box, order_vertices, order_positions, order_triangles}
use Rattle.build.proofs.Fronts.{vertices_most, triangles_most, positions_three, corners-below}
use Rattle.std.specs.Prelude.{Result, Ok}
use Rattle.ply_write.specs.declared.Refusal.{Refusal}
use Rattle.ply_write.specs.Form.{ply_text, count_of, size_of, Fit, Fits}
use Rattle.ply_write.specs.Answers.{bits_of, WriteOf, done, unfit, no_room}
use Rattle.ply_write.proofs.Writing.{file-size, size-most}
use Rattle.ply_file.specs.Text.{ply_of}

module _ (o : Order) where
  pub text-refused : (status o ≡ 0 → ⊥) → ply_of o ≡ refusal_text (status o)
  unfolding ply_of
  text-refused z = rw (ne_eqb (status o) 0 z)

  module _ (z : status o ≡ 0) where
    pub text-done : ply_of o ≡ ply_text (bits_of (order_positions o)) (order_triangles o)
    unfolding ply_of
    text-done = rw (eq-eqb (status o) 0 z)

    -- EVERY MESH THAT IS BUILT FITS A PLY FILE, so no writer answers Unfit for it
    pub build_fits : Fits (length (order_positions o)) (order_triangles o)
    build_fits =
        let t : length (order_triangles o) ≡ 3 * length (mesh_of (order_box o) (order_vertices o)) = flat-length (mesh_of (order_box o) (order_vertices o)) in
        let q : length (order_positions o) / 3 ≡ length (order_vertices o) = omega (arith, positions_three o z) in
        record {
          whole_words = omega (arith, positions_three o z);
          whole_triangles = omega arith;
          vertices = omega (arith, q, vertices_most o z);
          faces = omega (arith, t, triangles_most o z);
          below = rw q (corners-below o z);
        }

    bits_fit : Fit (bits_of (order_positions o)) (order_triangles o)
    bits_fit = rw (length-map (order_positions o) (to_bits binary64)) build_fits

    bits-count : count_of (bits_of (order_positions o)) ≡ length (order_vertices o)
    bits-count = rw (length-map (order_positions o) (to_bits binary64)) (omega (arith, positions_three o z))

    faces-count : count_of (order_triangles o) ≡ length (mesh_of (order_box o) (order_vertices o))
    faces-count = omega (arith, flat-length (mesh_of (order_box o) (order_vertices o)))

    text-length : length (ply_text (bits_of (order_positions o)) (order_triangles o)) ≡ size_of (length (order_vertices o)) (length (mesh_of (order_box o) (order_vertices o)))
    text-length = file-size (bits_of (order_positions o)) (order_triangles o) bits_fit ∙ rw (bits-count, faces-count)

    -- in lists for 216 sites
    module _ (hv : length (order_vertices o) ≤ 2268) (ht : length (mesh_of (order_box o) (order_vertices o)) ≤ 2592) where
      text-short : length (ply_text (bits_of (order_positions o)) (order_triangles o)) ≤ 88316
      text-short = omega (arith, text-length, size-most (length (order_vertices o)) (length (mesh_of (order_box o) (order_vertices o))) 2268 2592 hv ht (omega arith) (omega arith))

      pub done-short : length (ply_of o) ≤ 88316
      done-short = rw text-done text-short

      -- it is written whole: NEVER Unfit, AND NEVER NoRoom WHERE THERE ARE 88,316 BYTES
      pub mesh_written : (l l' : List ℕ) (r : Result ℕ Refusal) → 88316 ≤ length l → WriteOf (bits_of (order_positions o)) (order_triangles o) l l' r
          → (n : ℕ) × (r ≡ Ok n) × Written l 0 (ply_of o) l' n
      mesh_written l l' r k (done p i x e) = (length (ply_text (bits_of (order_positions o)) (order_triangles o)), e, rw text-done (record { buf = x; next = omega arith }))
      mesh_written l l' r k (unfit n x e) = absurd (n bits_fit)
      mesh_written l l' r k (no_room p i x e) = absurd (omega (arith, i, text-short))
