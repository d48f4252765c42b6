-- What the structs of the march hold: the vertices of a cell's edges, and the field of a slab. Assumes nothing.
use Rattle.std.specs.Prelude.{ℕ}
use Rattle.march.specs.declared.CellEdges.{CellEdges}
use Rattle.march.specs.declared.Slab.{Slab}
use Rattle.march.specs.March.{Field}
use Rattle.march.specs.Lists.{field_of}
use Rattle.march.specs.Inner.Loop.{look_up}

-- the vertex of each edge of a cell
abbrev pub vertices : CellEdges → ℕ → ℕ
vertices c = look_up c.edges.now c.site c.nu c.nn

-- the field that a slab is the first one of
abbrev pub field : Slab → Field
field s = field_of s.sides s.samples.now s.threshold s.edges.now
