-- `count_file::read_head` meets its contract: part by part; the strings of keys say the fields of the parts, by computing. Assumes nothing.
use mathlib.Core.Path.{refl}
use Rattle.lines.specs.Inner.Forms.{first_key, field_of, form_of}
use Rattle.lines.proofs.Runs.{stopped_absent}
use Rattle.lines.proofs.Rows.{stored-all}
use Rattle.count_file.specs.CountFile.{sizes_form, origin_form, steps_form}
use Rattle.count_file.proofs.Heads.{no_sizes, no_origin, no_steps, whole}
use Rattle.count_file.proofs.read_head.Goals as goal

pub returns-in_err-mid : goal.returns-in_err-mid
unfolding first_key field_of form_of
returns-in_err-mid c = rw c.from_residual.ensures (no_sizes _ (stopped_absent c.in_err-mid.ensures))

pub returns-in_err-end : goal.returns-in_err-end
unfolding first_key field_of form_of
returns-in_err-end c = let p = stored-all sizes_form _ 0 5 _ _ _ c.in_ok-mid.ensures refl in
    rw c.from_residual-in_err-end.ensures (no_origin _ _ _ p _ c.read_inside-threshold.ensures (stopped_absent c.in_err-end.ensures))

pub returns-in_err-next : goal.returns-in_err-next
unfolding first_key field_of form_of
returns-in_err-next c = let p = stored-all sizes_form _ 0 5 _ _ _ c.in_ok-mid.ensures refl in
    let q = stored-all origin_form _ _ 3 _ _ _ c.in_ok-end.ensures refl in
    rw c.from_residual-in_err-next.ensures (no_steps _ _ _ p _ c.read_inside-threshold.ensures _ _ q (stopped_absent c.in_err-next.ensures))

pub returns : goal.returns
unfolding first_key field_of form_of
returns c = let p = stored-all sizes_form _ 0 5 _ _ _ c.in_ok-mid.ensures refl in
    let q = stored-all origin_form _ _ 3 _ _ _ c.in_ok-end.ensures refl in
    whole _ _ _ p _ c.read_inside-threshold.ensures _ _ q _ _ (stored-all steps_form _ _ 3 _ _ _ c.in_ok-next.ensures refl)
