-- The owner of an edge: labels 0 to 6 belong to the first end, 7 to 13 to the other under the reverse label; anything else is no edge. Assumes nothing.
use Rattle.std.specs.Prelude.{Option, None, Some, ◌&&◌, cond, List, [], ◌∷◌, ℕ, zero, suc, ◌-◌, eqb, ltb, ℤ, pos, negsuc, ◌-ℤ◌}
use Rattle.tables.specs.declared.Delta.{Delta}
use Rattle.tables.specs.Edges.{offset, same, deltas}
use Rattle.lattice.specs.declared.Ijk.{Ijk}
use Rattle.lattice.specs.declared.EdgeOwner.{EdgeOwner}

-- the offset from u to v, in whole numbers without a limit
abbrev pub from_to : Ijk → Ijk → Delta
from_to u v = offset (v.i -ℤ u.i) (v.j -ℤ u.j) (v.k -ℤ u.k)

-- the place of an offset among the deltas; their number where it is none
unfoldable pub place : Delta → List Delta → ℕ
place d [] = 0
place d (e ∷ es) = cond (same d e) 0 (suc (place d es))

unfoldable pub label_of : Delta → ℕ
label_of d = place d deltas

-- the edge of the owner u and its label e, which leads to v
abbrev pub of_owner : Ijk → Ijk → ℕ → EdgeOwner
of_owner u v e = record { owner = u; other = v; label = e }

unfoldable pub owned : Ijk → Ijk → ℕ → Option EdgeOwner
owned u v e = cond (ltb e 7) (Some (of_owner u v e)) (cond (ltb e 14) (Some (of_owner v u (e - 7))) None)

unfoldable pub owner_of : Ijk → Ijk → Option EdgeOwner
owner_of u v = owned u v (label_of (from_to u v))

-- ---- the same by small numbers: -2 to 2 are 0 to 4, all else is 5

unfoldable pub gap : ℤ → ℕ
gap (pos zero) = 2
gap (pos (suc zero)) = 3
gap (pos (suc (suc zero))) = 4
gap (pos (suc (suc (suc n)))) = 5
gap (negsuc zero) = 1
gap (negsuc (suc zero)) = 0
gap (negsuc (suc (suc n))) = 5

unfoldable pub gap_place : ℕ → ℕ → ℕ → List Delta → ℕ
gap_place x y z [] = 0
gap_place x y z (e ∷ es) = cond (eqb x (gap e.i) && eqb y (gap e.j) && eqb z (gap e.k)) 0 (suc (gap_place x y z es))

unfoldable pub gap_label : ℕ → ℕ → ℕ → ℕ
gap_label x y z = gap_place x y z deltas
