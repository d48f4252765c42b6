-- `tables::flat_hole` meets its contract. Assumes nothing.
use mathlib.Core.Path.{ap}
use mathlib.Core.List.{List}
use Prim.Native.Nat.{ℕ}
use lib.ListN.{get_or}
use Rattle.tables.proofs.Source.{hole_at}
use Rattle.tables.proofs.flat_hole.Goals as goal

pub returns : goal.returns
returns c = ap (λ (l : List ℕ). record { edges = get_or l 0 0; opposite = get_or l 1 0 })
    (hole_at _ _ c.flat_hole_rows-rows.ensures c.requires)
