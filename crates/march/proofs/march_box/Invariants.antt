-- The triangles of the layers passed are written.
use Rattle.std.proofs.Common.{◌≤◌}
use Rattle.laws.specs.Ranges.{each}
use Rattle.laws.specs.Written.{Written}
use Rattle.march.proofs.Walk.{tail_flat}
use Rattle.march.proofs.march_box.Given as goal

abbrev pub invariant-loop-w : goal.invariant-loop-w
invariant-loop-w l = (l.w ≤ l.m) × Written l.initial.tris 0 (each l.w (tail_flat l.nu l.nv l.samples l.h l.edges)) l.tris l.next
