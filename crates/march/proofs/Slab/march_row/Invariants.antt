-- The triangles of the cells passed are written, and the column on the next one's left is at hand.
use Rattle.std.proofs.Common.{◌≡◌, ℕ, ◌≤◌}
use Rattle.laws.specs.Ranges.{each}
use Rattle.laws.specs.Written.{Written}
use Rattle.laws.specs.Triangles.{flat}
use Rattle.march.specs.March.{site_tris}
use Rattle.march.specs.Inner.Held.{field}
use Rattle.cases.specs.Inner.Codes.{column_of}
use Rattle.march.proofs.Slab.march_row.Given as goal

abbrev pub invariant-loop-u : goal.invariant-loop-u
invariant-loop-u l =
    (l.u ≤ l.m) × Written l.initial.tris l.at (each l.u (λ (u : ℕ). flat (site_tris (field l.self) u l.v 0))) l.tris l.next × (l.left ≡ column_of l.self.sides l.self.samples.now l.self.threshold l.u l.v)
