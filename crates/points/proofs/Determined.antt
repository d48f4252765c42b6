-- What each public function promises, as its source states it, determines the answer and every entry of what it is lent. Assumes nothing.
use mathlib.Core.Path.{sym, ◌∙◌}
use Rattle.laws.specs.Promises.{OneAnswer}
use Rattle.points.proofs.frame_of.Reads as frame-of
use Rattle.points.proofs.frame_ok.Reads as frame-ok
use Rattle.points.proofs.position_of.Reads as position-of
use Rattle.points.proofs.interpolate_points.Reads as interpolate-points
use Rattle.points.proofs.edge_point.Reads as edge-point
use Rattle.points.proofs.no_points.Reads as no-points
use Rattle.points.proofs.with_point.Reads as with-point
use Rattle.points.proofs.mean.Reads as mean
use Rattle.points.proofs.float_of_bits.Reads as float-of-bits
use Rattle.points.proofs.bits_of_float.Reads as bits-of-float

pub frame_of_determined : OneAnswer frame-of.Post
frame_of_determined κ a y z e f p q = p ∙ sym q

pub frame_ok_determined : OneAnswer frame-ok.Post
frame_ok_determined κ a y z e f p q = p ∙ sym q

pub position_of_determined : OneAnswer position-of.Post
position_of_determined κ a y z e f p q = p ∙ sym q

pub interpolate_points_determined : OneAnswer interpolate-points.Post
interpolate_points_determined κ a y z e f p q = p ∙ sym q

pub edge_point_determined : OneAnswer edge-point.Post
edge_point_determined κ a y z e f p q = p ∙ sym q

pub no_points_determined : OneAnswer no-points.Post
no_points_determined κ a y z e f p q = p ∙ sym q

pub with_point_determined : OneAnswer with-point.Post
with_point_determined κ a y z e f p q = p ∙ sym q

pub mean_determined : OneAnswer mean.Post
mean_determined κ a y z e f p q = p ∙ sym q

pub float_of_bits_determined : OneAnswer float-of-bits.Post
float_of_bits_determined κ a y z e f p q = p ∙ sym q

pub bits_of_float_determined : OneAnswer bits-of-float.Post
bits_of_float_determined κ a y z e f p q = p ∙ sym q
