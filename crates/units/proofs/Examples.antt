-- The table of examples holds: one statement, which antt computes. Assumes nothing.
use Rattle.std.proofs.Common.{◌≡◌, map, refl}
use lib.Ieee.{of_bits}
use Rattle.laws.specs.Ints.{size_of, signed}
use Rattle.units.specs.Whole.{whole_of}
use Rattle.units.specs.Coordinates.{within, less, coordinate_of}
use Rattle.units.specs.Examples.{table, answered, said}

pub examples : map answered table ≡ map said table
unfolding table of_bits size_of signed whole_of within less coordinate_of
examples = refl
