-- The crossing of an edge with the held fraction in the place of the free one: what the theorem speaks of that marks do not depend on which it is. Assumes nothing.
use Rattle.std.specs.Bool.{beq}
use Rattle.std.specs.Prelude.{cond, Float, Option, None, Some}
use Rattle.samples.specs.Sides.{inside, point_fraction}

unfoldable pub held_crossing : Float → Float → Float → Option Float
held_crossing a b h = cond (beq (inside a h) (inside b h)) None (Some (point_fraction a b))
