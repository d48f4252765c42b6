-- `topology::case_number` meets its contract. Assumes nothing.
use Rattle.topology.specs.Topology.{case_number}
use Rattle.topology.proofs.case_number.Goals as goal

pub returns-in-ClosedSurface : goal.returns-in-ClosedSurface
unfolding case_number
returns-in-ClosedSurface c = rw c.in-ClosedSurface.is

pub returns-in-MultiHole : goal.returns-in-MultiHole
unfolding case_number
returns-in-MultiHole c = rw c.in-MultiHole.is

pub returns-in-FlatHole : goal.returns-in-FlatHole
unfolding case_number
returns-in-FlatHole c = rw c.in-FlatHole.is

pub returns-in-MultiSurface : goal.returns-in-MultiSurface
unfolding case_number
returns-in-MultiSurface c = rw c.in-MultiSurface.is

pub returns-in-SimpleSurface : goal.returns-in-SimpleSurface
unfolding case_number
returns-in-SimpleSurface c = rw c.in-SimpleSurface.is

pub returns-in-DoNotCluster : goal.returns-in-DoNotCluster
unfolding case_number
returns-in-DoNotCluster c = rw c.in-DoNotCluster.is
