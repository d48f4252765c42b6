-- `site_vertices::reach_of` meets its contract. Assumes nothing.
use native.Mathlib.Omega.{arith}
use mathlib.Core.Path.{refl}
use Prim.Native.Nat.{◌/◌, ◌%◌}
use Rattle.tables.specs.Edges.{du, dv, dw}
use Rattle.stages.specs.Boxes.{reach}
use Rattle.site_vertices.proofs.Places.{Room, reach-room}
use Rattle.site_vertices.proofs.reach_of.Goals as goal

pub overflow_mul-result : goal.overflow_mul-result
overflow_mul-result c = omega (arith, (let the_room : Room c.args.n (c.label_corner-c.result / 2 % 2) (c.label_corner-c.result / 4 % 2) = let x = c.label_corner-c.result in reach-room c.args.n (x / 2 % 2) (x / 4 % 2) c.requires.0 (omega arith) (omega arith) in the_room))

pub overflow_add-result : goal.overflow_add-result
overflow_add-result c = omega (arith, (let the_room : Room c.args.n (c.label_corner-c.result / 2 % 2) (c.label_corner-c.result / 4 % 2) = let x = c.label_corner-c.result in reach-room c.args.n (x / 2 % 2) (x / 4 % 2) c.requires.0 (omega arith) (omega arith) in the_room))

pub overflow_mul-result-2 : goal.overflow_mul-result-2
overflow_mul-result-2 c = omega (arith, (let the_room : Room c.args.n (c.label_corner-c.result / 2 % 2) (c.label_corner-c.result / 4 % 2) = let x = c.label_corner-c.result in reach-room c.args.n (x / 2 % 2) (x / 4 % 2) c.requires.0 (omega arith) (omega arith) in the_room))

pub overflow_mul-result-3 : goal.overflow_mul-result-3
overflow_mul-result-3 c = omega (arith, (let the_room : Room c.args.n (c.label_corner-c.result / 2 % 2) (c.label_corner-c.result / 4 % 2) = let x = c.label_corner-c.result in reach-room c.args.n (x / 2 % 2) (x / 4 % 2) c.requires.0 (omega arith) (omega arith) in the_room))

pub overflow_add-result-2 : goal.overflow_add-result-2
overflow_add-result-2 c = omega (arith, (let the_room : Room c.args.n (c.label_corner-c.result / 2 % 2) (c.label_corner-c.result / 4 % 2) = let x = c.label_corner-c.result in reach-room c.args.n (x / 2 % 2) (x / 4 % 2) c.requires.0 (omega arith) (omega arith) in the_room))

pub returns : goal.returns
unfolding reach du dv dw
returns c = rw c.label_corner-c.ensures refl
