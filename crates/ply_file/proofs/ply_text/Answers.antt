-- `ply_file::ply_text` meets its contract. Assumes nothing.
use native.Mathlib.Omega.{arith}
use mathlib.Core.Path.{sym}
use lib.Seq.{length-take-le}
use Rattle.file_build.proofs.Building.{blank-lengths}
use Rattle.ply_file.proofs.Texts.{drawn_refused, mesh, drawn_whole, drawn_done}
use Rattle.ply_file.proofs.ply_text.Goals as goal

pub returns-then-status-ne0 : goal.returns-then-status-ne0
returns-then-status-ne0 c = drawn_refused _ _ _ _ (blank-lengths c.new-space.ensures) c.build-built.ensures c.if-status-ne0.true _ _ _ c.told-out c.put_status.ensures

pub overflow_mul-v : goal.overflow_mul-v
overflow_mul-v c = omega (arith, (mesh _ _ _ _ (blank-lengths c.new-space.ensures) c.build-built.ensures c.if-status-ne0.false).few_vertices)

pub overflow_mul-t : goal.overflow_mul-t
overflow_mul-t c = omega (arith, (mesh _ _ _ _ (blank-lengths c.new-space.ensures) c.build-built.ensures c.if-status-ne0.false).few_triangles)

pub shared_ref_as_front-write_mesh : goal.shared_ref_as_front-write_mesh
shared_ref_as_front-write_mesh c = omega (arith, (mesh _ _ _ _ (blank-lengths c.new-space.ensures) c.build-built.ensures c.if-status-ne0.false).few_vertices)

pub slice_bounds-write_mesh-end : goal.slice_bounds-write_mesh-end
slice_bounds-write_mesh-end c = sym (length-take-le _ _ ((
    (mesh _ _ _ _ (blank-lengths c.new-space.ensures) c.build-built.ensures c.if-status-ne0.false).room_positions)))

pub shared_ref_as_front-write_mesh-2 : goal.shared_ref_as_front-write_mesh-2
shared_ref_as_front-write_mesh-2 c = omega (arith, (mesh _ _ _ _ (blank-lengths c.new-space.ensures) c.build-built.ensures c.if-status-ne0.false).few_triangles)

pub slice_bounds-write_mesh-end-2 : goal.slice_bounds-write_mesh-end-2
slice_bounds-write_mesh-end-2 c = sym (length-take-le _ _ ((
    (mesh _ _ _ _ (blank-lengths c.new-space.ensures) c.build-built.ensures c.if-status-ne0.false).room_triangles)))

pub unwrap-requires : goal.unwrap-requires
unwrap-requires c = drawn_whole _ _ _ _ (blank-lengths c.new-space.ensures) c.build-built.ensures c.if-status-ne0.false _ _ _ c.told-out c.write_mesh.ensures

pub returns : goal.returns
returns c = drawn_done _ _ _ _ (blank-lengths c.new-space.ensures) c.build-built.ensures c.if-status-ne0.false _ _ _ c.told-out c.write_mesh.ensures _ c.unwrap.ensures
