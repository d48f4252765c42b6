-- The volume of a build's surface: its lists are always taken, and where demand 3's premises hold, the sum is the same from every whole origin that is accepted.
-- Assumes nothing.
use mathlib.Core.Path.{◌≡◌, refl, sym, ap, ◌∙◌}
use mathlib.Core.Bool.{Bool, true}
use mathlib.Core.List.{List}
use Prim.Native.Nat.{◌*◌, ◌/◌}
use native.Mathlib.Omega.{arith}
use lib.ListN.{length, take}
use lib.Ieee.{Float}
use Rattle.laws.specs.Triangles.{tris_of}
use Rattle.laws.proofs.Lists.{every-below}
use Rattle.laws.proofs.Triangles.{flat-length, tris_flat}
use Rattle.stages.specs.Meshes.{mesh_of}
use Rattle.stages.specs.Samples.{AllFinite}
use Rattle.build.specs.declared.Answer.{Answer}
use Rattle.build.specs.Answer.{Order, Lists, status, order_box, order_vertices, order_positions, order_triangles}
use Rattle.build.proofs.Fronts.{triangles_most, positions_three, corners-below}
use Rattle.volume.specs.declared.Whole.{Whole}
use Rattle.volume.specs.Volume.{lists_ok, scale_ok, summed, volume_of}
use Rattle.volume.proofs.Answers.{fit-lists, answer-sum}
use Rattle.volume.proofs.Moved.{volume_moved}
use Rattle.build_balance.specs.Border.{OneSide}
use Rattle.build_balance.specs.Left.{Left}
use Rattle.build_balance.proofs.Left.{left_balanced}

-- ---- every build that is done, 32 sites a side too

module _ (o : Order) (z : status o ≡ 0) where
  pub built-lists : lists_ok (order_positions o) (order_triangles o) ≡ true
  built-lists =
      let t : length (order_triangles o) ≡ 3 * length (mesh_of (order_box o) (order_vertices o)) = flat-length (mesh_of (order_box o) (order_vertices o)) in
      let q : length (order_positions o) / 3 ≡ length (order_vertices o) = omega (arith, positions_three o z) in
      fit-lists (order_positions o) (order_triangles o)
      (record {
        positions = omega (arith, positions_three o z);
        triangles = omega arith;
        few = omega (arith, t, triangles_most o z);
        named = sym (every-below (length (order_positions o) / 3) (order_triangles o) true (rw q (corners-below o z)));
      })

  -- THE VOLUME OF A BUILD IS NEVER REFUSED WITH 10, and with a scale that is fit not with 12
  pub built_volume : (s : Float) (c : Whole) → scale_ok s ≡ true → volume_of (order_positions o) (order_triangles o) s c ≡ summed (order_positions o) s c (mesh_of (order_box o) (order_vertices o))
  built_volume s c k =
      sym (answer-sum (order_positions o) (order_triangles o) s c (summed (order_positions o) s c (tris_of (order_triangles o))) built-lists k refl)
      ∙ ap (summed (order_positions o) s c) (tris_flat (mesh_of (order_box o) (order_vertices o)))

-- ---- the lists that a build leaves

module _ (o : Order) (l l' : Lists) (z : Answer) (D : Left o l l' z) (F : AllFinite o.sides o.samples) (side : Bool)
    (B : OneSide o.sides o.samples o.threshold side) where
  -- MOVING THE WHOLE ORIGIN, for every list of positions, every scale and every two origins
  pub left_moved : (P : List Float) (s : Float) (a c : Whole) → (volume_of P (take (3 * z.triangles) l'.triangles) s a).status ≡ 0 → (volume_of P (take (3 * z.triangles) l'.triangles) s c).status ≡ 0
      → volume_of P (take (3 * z.triangles) l'.triangles) s a ≡ volume_of P (take (3 * z.triangles) l'.triangles) s c
  left_moved P s a c = volume_moved P s a c (take (3 * z.triangles) l'.triangles) (left_balanced o l l' z D F side B)
