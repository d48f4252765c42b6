-- The triangles of the rows passed are written.
use Rattle.std.proofs.Common.{◌≤◌}
use Rattle.laws.specs.Ranges.{each}
use Rattle.laws.specs.Written.{Written}
use Rattle.march.specs.Inner.Loop.{row_flat}
use Rattle.march.specs.Lists.{field_of}
use Rattle.march.proofs.march_layer.Given as goal

abbrev pub invariant-loop-v : goal.invariant-loop-v
invariant-loop-v l = (l.v ≤ l.m) × Written l.initial.tris l.at (each l.v (row_flat (field_of l.fn.n l.s l.h l.edges))) l.tris l.next
