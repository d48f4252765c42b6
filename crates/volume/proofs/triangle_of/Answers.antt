-- `volume::triangle_of` meets its contract. Assumes nothing.
use Rattle.std.proofs.Common.{◌∙◌}
use Rattle.volume.proofs.Corners.{has, lacks, tri_one, tri_two, tri_three, tri_six}
use Rattle.volume.proofs.triangle_of.Goals as goal

pub returns-in_err-p : goal.returns-in_err-p
returns-in_err-p c = c.from_residual.ensures ∙ tri_one _ _ _ _ _ _ (lacks _ _ _ _ c.in_err-p.ensures)

pub returns-in_err-q : goal.returns-in_err-q
returns-in_err-q c = c.from_residual-in_err-q.ensures ∙ tri_two _ _ _ _ _ _ (has _ _ _ _ _ c.in_ok-p.ensures).ok (lacks _ _ _ _ c.in_err-q.ensures)

pub returns-in_err-r : goal.returns-in_err-r
returns-in_err-r c =
    c.from_residual-in_err-r.ensures
    ∙ tri_three _ _ _ _ _ _ (has _ _ _ _ _ c.in_ok-p.ensures).ok (has _ _ _ _ _ c.in_ok-q.ensures).ok (lacks _ _ _ _ c.in_err-r.ensures)

pub determinant-requires : goal.determinant-requires
determinant-requires c = record {
  near_a = (has _ _ _ _ _ c.in_ok-p.ensures).near;
  near_b = (has _ _ _ _ _ c.in_ok-q.ensures).near;
  near_c = (has _ _ _ _ _ c.in_ok-r.ensures).near;
}

pub returns : goal.returns
returns c = tri_six _ _ _ _ _ _ (has _ _ _ _ _ c.in_ok-p.ensures) (has _ _ _ _ _ c.in_ok-q.ensures) (has _ _ _ _ _ c.in_ok-r.ensures) _ c.determinant.ensures
