-- Offsets of which a difference is taken. Assumes nothing.
use Rattle.std.specs.Prelude.{◌≤◌}
use Rattle.laws.specs.Ints.{size_of}
use Rattle.tables.specs.declared.Delta.{Delta}

-- at most 2 on each axis, as every delta is
abbrev pub Small : Delta → Type 0
Small d = (size_of d.i ≤ 2) × (size_of d.j ≤ 2) × (size_of d.k ≤ 2)
