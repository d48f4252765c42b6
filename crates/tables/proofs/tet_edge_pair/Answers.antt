-- `tables::tet_edge_pair` meets its contract. Assumes nothing.
use mathlib.Core.Path.{ap}
use mathlib.Core.List.{List}
use Prim.Native.Nat.{ℕ}
use lib.ListN.{get_or}
use Rattle.tables.specs.Tets.{tet_pairs}
use Rattle.tables.proofs.Source.{pair_at}
use Rattle.tables.proofs.tet_edge_pair.Goals as goal

pub returns : goal.returns
unfolding tet_pairs
returns c = ap (λ (l : List ℕ). record { from = get_or l 0 0; to = get_or l 1 0 }) (pair_at _ c.requires)
