-- Which side a value is on, and where the surface crosses an edge. The threshold h is a parameter throughout. Assumes nothing.
use Rattle.std.specs.Prelude.{Bool, true, false, cond, Float, Option, None, Some}
use Rattle.std.specs.Bool.{beq}
use Rattle.std.specs.Float.{nan, inf, fin, binary64}
use Rattle.std.specs.Float.Ieee.{lt, neg, sub, div, of_bits}

-- the base threshold, the f64 nearest to 1.0e-9
abbrev pub base : Float
base = of_bits binary64 0x3E112E0BE826D695

-- 0.0, 0.5 and 1.0
abbrev pub nought : Float
nought = of_bits binary64 0

abbrev pub half : Float
half = of_bits binary64 0x3FE0000000000000

abbrev pub one : Float
one = of_bits binary64 0x3FF0000000000000

-- inside means v < -h; a NaN is outside
unfoldable pub inside : Float → Float → Bool
inside v h = lt v (neg h)

unfoldable pub finite : Float → Bool
finite nan = false
finite (inf s) = false
finite (fin s m e) = true

-- a value that is not finite counts as missing where only finite ones are asked for
unfoldable pub when_finite : Float → Option Float
when_finite x = cond (finite x) (Some x) None

unfoldable pub known : Option Float → Option Float
known None = None
known (Some x) = when_finite x

-- the fraction of a mark, which is free
unfoldable pub mark_fraction : Float → Float → Float
mark_fraction a b = div binary64 a (sub binary64 a b)

-- below 0 it is 0, above 1 it is 1, otherwise unchanged: a NaN, which is neither, and -0.0 among it
unfoldable pub hold : Float → Float
hold t = cond (lt t nought) nought (cond (lt one t) one t)

-- the fraction of a point, which is held
unfoldable pub point_fraction : Float → Float → Float
point_fraction a b = hold (mark_fraction a b)

-- the edge from a to b: the same side, or the fraction
unfoldable pub crossing : Float → Float → Float → Option Float
crossing a b h = cond (beq (inside a h) (inside b h)) None (Some (mark_fraction a b))

-- The crossing is nearer to the first end: the fraction is below 0.5. At 0.5 and at NaN it is not.
abbrev pub near : Option Float → Bool
near None = false
near (Some t) = lt t half

unfoldable pub is_near : Float → Float → Float → Bool
is_near a b h = near (crossing a b h)

-- the two ends are on different sides
abbrev pub crosses : Option Float → Bool
crosses None = false
crosses (Some t) = true
