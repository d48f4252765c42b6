-- A table of examples: the whole number of a float, and the coordinate that it is from an origin, each limit just in and just out. Assumes nothing.
use Rattle.std.specs.Prelude.{ℕ, List, [], ◌∷◌, ℤ, pos, negsuc, from_bits, Option, Some, None}
use Rattle.std.proofs.Math.Option.{Option as Maybe, none, some}
use Rattle.std.specs.Float.{binary64}
use Rattle.units.specs.Whole.{whole_of}
use Rattle.units.specs.Coordinates.{coordinate_of}

-- the bits of a float, its whole number, an origin's number, and the coordinate
pub record Line : Type 0 where
  pub bits : ℕ
  pub whole : Maybe ℤ
  pub origin : ℤ
  pub coordinate : Option ℤ

abbrev pub line : ℕ → Maybe ℤ → ℤ → Option ℤ → Line
line b w o c = record { bits = b; whole = w; origin = o; coordinate = c }

unfoldable pub table : List Line
table =
    line 0x3FE0000000000000 (some (pos 0)) (pos 0) (Some (pos 0))  -- 0.5
    ∷ line 0x3FF8000000000000 (some (pos 2)) (pos 0) (Some (pos 2))  -- 1.5
    ∷ line 0x4004000000000000 (some (pos 2)) (pos 0) (Some (pos 2))  -- 2.5
    ∷ line 0x400C000000000000 (some (pos 4)) (pos 0) (Some (pos 4))  -- 3.5
    ∷ line 0xBFE0000000000000 (some (pos 0)) (pos 0) (Some (pos 0))  -- -0.5
    ∷ line 0xBFF8000000000000 (some (negsuc 1)) (pos 0) (Some (negsuc 1))  -- -1.5
    ∷ line 0xC004000000000000 (some (negsuc 1)) (pos 0) (Some (negsuc 1))  -- -2.5
    ∷ line 0x0000000000000000 (some (pos 0)) (pos 0) (Some (pos 0))  -- 0.0
    ∷ line 0x8000000000000000 (some (pos 0)) (pos 0) (Some (pos 0))  -- -0.0
    -- the f64 below 0.5, the one above it, the least subnormal
    ∷ line 0x3FDFFFFFFFFFFFFF (some (pos 0)) (pos 0) (Some (pos 0))
    ∷ line 0x3FE0000000000001 (some (pos 1)) (pos 0) (Some (pos 1))
    ∷ line 0x0000000000000001 (some (pos 0)) (pos 0) (Some (pos 0))
    -- 2^52 - 0.5, 2^52 - 1.5, 2^53 + 2, each from the whole number of 2^52
    ∷ line 0x432FFFFFFFFFFFFF (some (pos 4503599627370496)) (pos 4503599627370496) (Some (pos 0))
    ∷ line 0x432FFFFFFFFFFFFD (some (pos 4503599627370494)) (pos 4503599627370496) (Some (negsuc 1))
    ∷ line 0x4340000000000001 (some (pos 9007199254740994)) (pos 4503599627370496) None
    -- NaN and the infinities
    ∷ line 0x7FF8000000000000 none (pos 0) None
    ∷ line 0x7FF0000000000000 none (pos 0) None
    ∷ line 0xFFF0000000000000 none (pos 0) None
    -- 10,000 and 10,001, also below 0; 10,000.5 is 10,000, and 10,000.75 is not
    ∷ line 0x40C3880000000000 (some (pos 10000)) (pos 0) (Some (pos 10000))
    ∷ line 0x40C3888000000000 (some (pos 10001)) (pos 0) None
    ∷ line 0xC0C3880000000000 (some (negsuc 9999)) (pos 0) (Some (negsuc 9999))
    ∷ line 0xC0C3888000000000 (some (negsuc 10000)) (pos 0) None
    ∷ line 0x40C3884000000000 (some (pos 10000)) (pos 0) (Some (pos 10000))
    ∷ line 0x40C3886000000000 (some (pos 10001)) (pos 0) None
    -- 1 from origins 10,001 and 10,002 above, and 9,999 and 10,000 below; -1 the other way round
    ∷ line 0x3FF0000000000000 (some (pos 1)) (pos 10001) (Some (negsuc 9999))
    ∷ line 0x3FF0000000000000 (some (pos 1)) (pos 10002) None
    ∷ line 0x3FF0000000000000 (some (pos 1)) (negsuc 9998) (Some (pos 10000))
    ∷ line 0x3FF0000000000000 (some (pos 1)) (negsuc 9999) None
    ∷ line 0xBFF0000000000000 (some (negsuc 0)) (pos 9999) (Some (negsuc 9999))
    ∷ line 0xBFF0000000000000 (some (negsuc 0)) (pos 10000) None
    ∷ line 0xBFF0000000000000 (some (negsuc 0)) (negsuc 10000) (Some (pos 10000))
    ∷ line 0xBFF0000000000000 (some (negsuc 0)) (negsuc 10001) None
    -- 2^63 and the next f64 from the largest origin; 2^64; -2^63 and the next below from the least origin
    ∷ line 0x43E0000000000000 (some (pos 9223372036854775808)) (pos 9223372036854775807) (Some (pos 1))
    ∷ line 0x43E0000000000001 (some (pos 9223372036854777856)) (pos 9223372036854775807) (Some (pos 2049))
    ∷ line 0x43F0000000000000 (some (pos 18446744073709551616)) (pos 9223372036854775807) None
    ∷ line 0xC3E0000000000000 (some (negsuc 9223372036854775807)) (negsuc 9223372036854775807) (Some (pos 0))
    ∷ line 0xC3E0000000000001 (some (negsuc 9223372036854777855)) (negsuc 9223372036854775807) (Some (negsuc 2047))
    ∷ line 0xC3F0000000000000 (some (negsuc 18446744073709551615)) (negsuc 9223372036854775807) None
    -- and the ends of the origin against each other
    ∷ line 0xC3E0000000000000 (some (negsuc 9223372036854775807)) (pos 9223372036854775807) None
    ∷ line 0x43E0000000000000 (some (pos 9223372036854775808)) (negsuc 9223372036854775807) None
    ∷ []

-- how a line is answered, and what it says
pub record Says : Type 0 where
  pub whole : Maybe ℤ
  pub coordinate : Option ℤ

abbrev pub answered : Line → Says
answered l = record { whole = whole_of (from_bits binary64 l.bits); coordinate = coordinate_of (whole_of (from_bits binary64 l.bits)) l.origin }

abbrev pub said : Line → Says
said l = record { whole = l.whole; coordinate = l.coordinate }
