-- The triangles of the tetrahedra passed are written.
use Rattle.std.proofs.Common.{◌≤◌, ℕ}
use Rattle.laws.specs.Ranges.{each}
use Rattle.laws.specs.Written.{Written}
use Rattle.cases.specs.Inner.Codes.{case_on}
use Rattle.march.specs.Inner.Loop.{tet_flat}
use Rattle.march.specs.Inner.Held.{vertices}
use Rattle.march.proofs.CellEdges.march_tets.Given as goal

abbrev pub invariant-loop-t : goal.invariant-loop-t
invariant-loop-t l = (l.t ≤ 6) × Written l.initial.tris l.at (each l.t (λ (t : ℕ). tet_flat (vertices l.self) t (case_on l.codes t))) l.tris l.n
