-- The flat-hole test with the held fraction in the place of the free one: nothing but the theorem asks for it that it is the same. Assumes nothing.
use Rattle.std.specs.Prelude.{ℕ, Bool, false, ◌&&◌, ◌||◌, List, ◌==◌, bit_and, Float, Option, None, Some}
use Rattle.laws.specs.Ranges.{any}
use Rattle.tables.specs.declared.FlatHole.{FlatHole}
use Rattle.tables.specs.FlatHoles.{flat_hole}
use Rattle.samples.specs.Sides.{near}
use Rattle.samples.specs.Held.{held_crossing}
use Rattle.topology.specs.declared.TwoEdges.{TwoEdges}
use Rattle.topology.specs.Flat.{two_edges, end_at}

unfoldable pub held_collapses : Float → Float → Float → Float → Float → Bool
held_collapses a b c d h =
    (near (held_crossing a d h) && near (held_crossing a c h)) || (near (held_crossing b d h) && near (held_crossing b c h))

unfoldable pub held_collapses_at : Option Float → Option Float → Option Float → Option Float → Float → Bool
held_collapses_at (Some a) (Some b) (Some c) (Some d) h = held_collapses a b c d h
held_collapses_at None b c d h = false
held_collapses_at (Some a) None c d h = false
held_collapses_at (Some a) (Some b) None d h = false
held_collapses_at (Some a) (Some b) (Some c) None h = false

unfoldable pub held_pairs : List (Option Float) → Float → TwoEdges → TwoEdges → Bool
held_pairs ends h off on =
    held_collapses_at (end_at ends off.first) (end_at ends off.second) (end_at ends on.first) (end_at ends on.second) h

unfoldable pub held_row : ℕ → List (Option Float) → Float → FlatHole → Bool
held_row m ends h r =
    (bit_and m r.edges == 0) && (bit_and m r.opposite == r.opposite && held_pairs ends h (two_edges r.edges) (two_edges r.opposite))

unfoldable pub held_flat : ℕ → List (Option Float) → Float → Bool
held_flat m ends h = any 36 (λ i. held_row m ends h (flat_hole i))
