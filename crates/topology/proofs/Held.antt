-- The flat-hole test says the same whether the free or the held fraction is compared with 0.5. Assumes nothing.
use Rattle.std.specs.Prelude.{Option, None, Some}
use Rattle.std.proofs.Common.{◌≡◌, ℕ, List, refl}
use lib.Ieee.{Float}
use Rattle.laws.proofs.Ranges.{any_same}
use Rattle.tables.specs.declared.FlatHole.{FlatHole}
use Rattle.tables.specs.FlatHoles.{flat_hole}
use Rattle.samples.proofs.Held.{held-near}
use Rattle.topology.specs.declared.TwoEdges.{TwoEdges}
use Rattle.topology.specs.Flat.{two_edges, end_at, collapses, collapses_at, pairs_collapse, row_flat, is_flat}
use Rattle.topology.specs.Held.{held_collapses, held_collapses_at, held_pairs, held_row, held_flat}

held_collapses_lem : (a b c d : Option Float) (h : Float) → held_collapses_at a b c d h ≡ collapses_at a b c d h
unfolding held_collapses_at collapses_at held_collapses collapses
held_collapses_lem (Some a) (Some b) (Some c) (Some d) h = rw (held-near a d h, held-near a c h, held-near b d h, held-near b c h)
held_collapses_lem None b c d h = refl
held_collapses_lem (Some a) None c d h = refl
held_collapses_lem (Some a) (Some b) None d h = refl
held_collapses_lem (Some a) (Some b) (Some c) None h = refl

held_pairs_lem : (ends : List (Option Float)) (h : Float) (off on : TwoEdges) → held_pairs ends h off on ≡ pairs_collapse ends h off on
unfolding held_pairs pairs_collapse
held_pairs_lem ends h off on = held_collapses_lem (end_at ends off.first) (end_at ends off.second) (end_at ends on.first) (end_at ends on.second) h

held_row_lem : (m : ℕ) (ends : List (Option Float)) (h : Float) (r : FlatHole) → held_row m ends h r ≡ row_flat m ends h r
unfolding held_row row_flat
held_row_lem m ends h r = rw (held_pairs_lem ends h (two_edges r.edges) (two_edges r.opposite))

pub held_flat_lem : (m : ℕ) (ends : List (Option Float)) (h : Float) → held_flat m ends h ≡ is_flat m ends h
unfolding held_flat is_flat
held_flat_lem m ends h = any_same 36 _ _ (λ i _. held_row_lem m ends h (flat_hole i))
