-- `volume::scale_ok` meets its contract. Assumes nothing.
use Rattle.volume.specs.Volume.{scale_ok}
use lib.Ieee.{of_bits}
use Rattle.volume.proofs.scale_ok.Goals as goal

pub returns-then-scale : goal.returns-then-scale
unfolding scale_ok of_bits
returns-then-scale c = rw c.if-scale.true

pub returns-else-scale : goal.returns-else-scale
unfolding scale_ok of_bits
returns-else-scale c = rw c.if-scale.false
