-- `volume::determinant` meets its contract. Assumes nothing.
use mathlib.Core.Path.{◌∙◌}
use lib.IntN.{◌+ℤ◌}
use Rattle.volume.proofs.Determinants.{product, total}
use Rattle.volume.proofs.determinant.Goals as goal

pub returns : goal.returns
returns c =
    let p = c.requires in
    let one = product _ _ _ _ _ p.near_a.0 p.near_b.1 p.near_b.2 p.near_c.1 p.near_c.2 _ _ c.minor.ensures c.times-p.ensures in
    let two = product _ _ _ _ _ p.near_b.0 p.near_c.1 p.near_c.2 p.near_a.1 p.near_a.2 _ _ c.minor-2.ensures c.times-q.ensures in
    let three = product _ _ _ _ _ p.near_c.0 p.near_a.1 p.near_a.2 p.near_b.1 p.near_b.2 _ _ c.minor-3.ensures c.times-r.ensures in
    total _ _ _ _ c.times-p.ensures.most c.times-q.ensures.most c.times-r.ensures.most c.sum.ensures ∙ (λ i. one i +ℤ two i +ℤ three i)
