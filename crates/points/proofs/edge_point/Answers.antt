-- `points::edge_point` meets its contract. Assumes nothing.
use Rattle.std.proofs.Common.{◌≡◌, ◌&&◌}
use Rattle.samples.specs.Sides.{finite}
use Rattle.points.specs.EdgePoints.{edge_point}
use Rattle.points.proofs.edge_point.Goals as goal
use Rattle.points.proofs.edge_point.Goals.{then-is_finite, else-is_finite}

pub returns-then-not-is_finite : goal.returns-then-not-is_finite
unfolding edge_point
returns-then-not-is_finite c =
    let both : c.if-is_finite.value ≡ finite c.args.p && finite c.args.q = elim c.if-is_finite.branch [
      | then-is_finite w ↦ rw (w.value-is, w.is_finite-then-is_finite.ensures, ← c.is_finite.ensures, w.if-is_finite.true)
      | else-is_finite w ↦ rw (w.value-is, ← c.is_finite.ensures, w.if-is_finite.false)
    ] in
    rw (← both, c.if-not-is_finite.true)

pub returns : goal.returns
unfolding edge_point
returns c =
    let both : c.if-is_finite.value ≡ finite c.args.p && finite c.args.q = elim c.if-is_finite.branch [
      | then-is_finite w ↦ rw (w.value-is, w.is_finite-then-is_finite.ensures, ← c.is_finite.ensures, w.if-is_finite.true)
      | else-is_finite w ↦ rw (w.value-is, ← c.is_finite.ensures, w.if-is_finite.false)
    ] in
    rw (← both, c.if-not-is_finite.false, c.interpolate_points.ensures, c.position_of-from.ensures, c.position_of-to.ensures, c.point_fraction-t.ensures)
