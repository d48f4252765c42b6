-- The march over a build's edge table is its mesh. Assumes nothing.
use mathlib.Core.Path.{◌≡◌}
use mathlib.Core.Bool.{Bool}
use mathlib.Core.List.{List}
use Prim.Native.Nat.{◌+◌, ◌*◌, ◌/◌, ◌%◌}
use native.Mathlib.Omega.{arith}
use lib.ListN.{get_or}
use lib.Ieee.{Float}
use Rattle.lattice.specs.declared.Sides.{Sides}
use Rattle.march.specs.March.{none, march}
use Rattle.march.specs.Lists as lists
use Rattle.march.specs.Finer.{by_edge, renamed}
use Rattle.march.proofs.Finer.{march-same}
use Rattle.stages.specs.Vertices.{Vertex}
use Rattle.stages.specs.Meshes.{field_of, find, mesh_of, table_of}
use Rattle.stages.specs.Samples.{box_of}
use Rattle.stages.proofs.Table.{table_at}

pub mesh_marched : (n : Sides) (S : List Float) (h : Float) (cluster : Bool) (vs : List Vertex)
    → march (lists.field_of n S h (table_of (box_of n S h cluster) vs)) ≡ mesh_of (box_of n S h cluster) vs
unfolding mesh_of field_of box_of lists.field_of renamed by_edge
mesh_marched n S h cluster vs =
    let B = box_of n S h cluster in
    march-same (field_of B vs) (λ s l. get_or (table_of B vs) (7 * s + l) none) (λ s l. find B 0 vs (7 * s + l))
    (λ e l. table_at B vs (7 * (e / 7) + e % 7) (omega arith))
