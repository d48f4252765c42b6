-- `volume_file::volume_text` meets its contract. Assumes nothing.
use native.Mathlib.Omega.{arith}
use mathlib.Core.Path.{sym}
use lib.Seq.{length-take-le}
use Rattle.file_build.proofs.Building.{blank-lengths}
use Rattle.volume_file.proofs.Texts.{measured_refused, mesh, measured_done, found_few}
use Rattle.volume_file.proofs.volume_text.Goals as goal

pub returns-then-status-ne0 : goal.returns-then-status-ne0
returns-then-status-ne0 c = measured_refused _ _ _ _ _ _ (blank-lengths c.new-space.ensures) c.build-built.ensures c.if-status-ne0.true _ _ _ c.told-out c.put_status.ensures

pub overflow_mul-v : goal.overflow_mul-v
overflow_mul-v c = let s = c.args in
    omega (arith, (mesh s.digits s.origin _ _ _ _ (blank-lengths c.new-space.ensures) c.build-built.ensures c.if-status-ne0.false).few_vertices)

pub overflow_mul-t : goal.overflow_mul-t
overflow_mul-t c = let s = c.args in
    omega (arith, (mesh s.digits s.origin _ _ _ _ (blank-lengths c.new-space.ensures) c.build-built.ensures c.if-status-ne0.false).few_triangles)

pub shared_ref_as_front-volume_of : goal.shared_ref_as_front-volume_of
shared_ref_as_front-volume_of c = let a = c.args in
    omega (arith, (mesh a.digits a.origin _ _ _ _ (blank-lengths c.new-space.ensures) c.build-built.ensures c.if-status-ne0.false).few_vertices)

pub slice_bounds-volume_of-end : goal.slice_bounds-volume_of-end
slice_bounds-volume_of-end c = sym (length-take-le _ _ (mesh c.args.digits c.args.origin _ _ _ _ (blank-lengths c.new-space.ensures) c.build-built.ensures c.if-status-ne0.false).room_positions)

pub shared_ref_as_front-volume_of-2 : goal.shared_ref_as_front-volume_of-2
shared_ref_as_front-volume_of-2 c = let a = c.args in
    omega (arith, (mesh a.digits a.origin _ _ _ _ (blank-lengths c.new-space.ensures) c.build-built.ensures c.if-status-ne0.false).few_triangles)

pub slice_bounds-volume_of-end-2 : goal.slice_bounds-volume_of-end-2
slice_bounds-volume_of-end-2 c = sym (length-take-le _ _ (mesh c.args.digits c.args.origin _ _ _ _ (blank-lengths c.new-space.ensures) c.build-built.ensures c.if-status-ne0.false).room_triangles)

pub print-requires : goal.print-requires
print-requires c = let s = c.args in
    (found_few s.digits s.origin _ _ _ _ (blank-lengths c.new-space.ensures) c.build-built.ensures c.if-status-ne0.false _ _ c.scale_of-scale.ensures c.volume_of-found.ensures, omega (arith, c.told-out))

pub returns : goal.returns
returns c = let s = c.args in
    measured_done s.digits s.origin _ _ _ _ (blank-lengths c.new-space.ensures) c.build-built.ensures c.if-status-ne0.false _ _ _ _ _ c.scale_of-scale.ensures c.volume_of-found.ensures c.told-out c.print.ensures
