-- The triangles of the rows passed are written, and in the inner loop the corners passed are there.
use Rattle.std.proofs.Common.{◌≡◌, ◌≤◌, length}
use Rattle.laws.specs.Ranges.{each}
use Rattle.laws.specs.Written.{Written}
use Rattle.march.specs.Inner.Loop.{corner_at, tri_flat}
use Rattle.march.specs.Inner.Held.{vertices}
use Rattle.march.proofs.Flat.{Has}
use Rattle.march.proofs.CellEdges.march_tet.Given as goal

abbrev pub invariant-loop-c : goal.invariant-loop-c
invariant-loop-c l = (l.c ≤ 3) × (length l.v ≡ 3) × Has (corner_at (vertices l.self) l.t l.case l.k) l.v l.c

abbrev pub invariant-tri : goal.invariant-tri
invariant-tri l = (l.k ≤ l.count) × Written l.initial.tris l.at (each l.k (tri_flat (vertices l.self) l.t l.case)) l.tris l.n
