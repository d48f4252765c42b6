-- A table of examples: bodies of known volume, each refusal, and each limit just in and just out. Assumes nothing.
use Rattle.std.specs.Prelude.{◌≡◌, List, [], ◌∷◌, map, ℕ, ◌*◌, ℤ, pos, negsuc, replicate, Float}
use Rattle.std.specs.Float.{binary64}
use Rattle.std.specs.Float.Ieee.{of_bits}
use Rattle.volume.specs.Volume.{Volume, volume_of}

abbrev pub float : ℕ → Float
float b = of_bits binary64 b

-- positions, triangles, the bits of the scale, the origin, and the answer
pub record Line : Type 0 where
  pub positions : List Float
  pub triangles : List ℕ
  pub scale : ℕ
  pub x : ℤ
  pub y : ℤ
  pub z : ℤ
  pub status : ℕ
  pub six : ℤ

abbrev pub line : List Float → List ℕ → ℕ → ℤ → ℤ → ℤ → ℕ → ℤ → Line
line P T s x y z n v = record { positions = P; triangles = T; scale = s; x = x; y = y; z = z; status = n; six = v }

abbrev pub one : ℕ
one = 0x3FF0000000000000

-- the corners of a tetrahedron with sides 1, 2 and 3 along the axes; then a vertex with NaN, infinity and 2^63 for its coordinates
abbrev pub corners : List Float
corners = map float (0 ∷ 0 ∷ 0 ∷ one ∷ 0 ∷ 0 ∷ 0 ∷ 0x4000000000000000 ∷ 0 ∷ 0 ∷ 0 ∷ 0x4008000000000000 ∷ 0x7FF8000000000000 ∷ 0x7FF0000000000000 ∷ 0x43E0000000000000 ∷ [])

-- its faces, outward; the same reversed; and with a face that names the last vertex
abbrev pub faces : List ℕ
faces = 0 ∷ 2 ∷ 1 ∷ 0 ∷ 1 ∷ 3 ∷ 0 ∷ 3 ∷ 2 ∷ 1 ∷ 2 ∷ 3 ∷ []

abbrev pub inward : List ℕ
inward = 0 ∷ 1 ∷ 2 ∷ 0 ∷ 3 ∷ 1 ∷ 0 ∷ 2 ∷ 3 ∷ 1 ∷ 3 ∷ 2 ∷ []

abbrev pub bad : List ℕ
bad = 4 ∷ 0 ∷ 0 ∷ faces

-- the largest i64
abbrev pub most : ℤ
most = pos 9223372036854775807

unfoldable pub table : List Line
table =
    line corners faces one (pos 0) (pos 0) (pos 0) 0 (pos 6)
    ∷ line corners inward one (pos 0) (pos 0) (pos 0) 0 (negsuc 5)
    -- from another origin, and at the scale 10
    ∷ line corners faces one (pos 5) (negsuc 6) (pos 11) 0 (pos 6)
    ∷ line corners faces 0x4024000000000000 (pos 5) (negsuc 6) (pos 11) 0 (pos 6000)
    -- a single face is no body: its sum depends on the origin
    ∷ line corners (1 ∷ 2 ∷ 3 ∷ []) one (pos 0) (pos 0) (pos 0) 0 (pos 6)
    ∷ line corners (1 ∷ 2 ∷ 3 ∷ []) one (pos 1) (pos 0) (pos 0) 0 (pos 0)
    -- nothing to add up; an origin that no triangle asks for; no list at all
    ∷ line corners [] one most most most 0 (pos 0)
    ∷ line [] [] one (pos 0) (pos 0) (pos 0) 0 (pos 0)
    -- 10: positions that are not in threes, triangles that are not, the first index that is none, also where the scale is refused
    ∷ line (float one ∷ corners) faces one (pos 0) (pos 0) (pos 0) 10 (pos 0)
    ∷ line (float one ∷ float one ∷ corners) faces one (pos 0) (pos 0) (pos 0) 10 (pos 0)
    ∷ line corners (0 ∷ faces) one (pos 0) (pos 0) (pos 0) 10 (pos 0)
    ∷ line corners (0 ∷ 0 ∷ faces) one (pos 0) (pos 0) (pos 0) 10 (pos 0)
    ∷ line corners (5 ∷ 0 ∷ 0 ∷ faces) one (pos 0) (pos 0) (pos 0) 10 (pos 0)
    ∷ line corners (5 ∷ 0 ∷ 0 ∷ faces) 0x7FF8000000000000 (pos 0) (pos 0) (pos 0) 10 (pos 0)
    ∷ line [] (0 ∷ 0 ∷ 0 ∷ []) one (pos 0) (pos 0) (pos 0) 10 (pos 0)
    -- 12: 0.0, -0.0, -1, NaN and infinity, also where a corner is too far; the least subnormal is a scale, and so is the largest f64
    ∷ line corners bad 0x0000000000000000 (pos 0) (pos 0) (pos 0) 12 (pos 0)
    ∷ line corners bad 0x8000000000000000 (pos 0) (pos 0) (pos 0) 12 (pos 0)
    ∷ line corners bad 0xBFF0000000000000 (pos 0) (pos 0) (pos 0) 12 (pos 0)
    ∷ line corners bad 0x7FF8000000000000 (pos 0) (pos 0) (pos 0) 12 (pos 0)
    ∷ line corners bad 0x7FF0000000000000 (pos 0) (pos 0) (pos 0) 12 (pos 0)
    ∷ line corners faces 0x0000000000000001 (pos 0) (pos 0) (pos 0) 0 (pos 0)
    ∷ line corners [] 0x7FEFFFFFFFFFFFFF (pos 0) (pos 0) (pos 0) 0 (pos 0)
    ∷ line corners faces 0x7FEFFFFFFFFFFFFF (pos 0) (pos 0) (pos 0) 13 (pos 0)
    -- 13: a corner that is not finite; one that is too far by the origin, on each axis, and one that is just near enough
    ∷ line corners bad one (pos 0) (pos 0) (pos 0) 13 (pos 0)
    ∷ line corners (0 ∷ 4 ∷ 0 ∷ faces) one (pos 0) (pos 0) (pos 0) 13 (pos 0)
    ∷ line corners (0 ∷ 0 ∷ 4 ∷ faces) one (pos 0) (pos 0) (pos 0) 13 (pos 0)
    ∷ line corners faces one (pos 10001) (pos 0) (pos 0) 13 (pos 0)
    ∷ line corners faces one (pos 10000) (pos 0) (pos 0) 0 (pos 6)
    ∷ line corners faces one (pos 0) (pos 10001) (pos 0) 13 (pos 0)
    ∷ line corners faces one (pos 0) (pos 10000) (pos 0) 0 (pos 6)
    ∷ line corners faces one (pos 0) (pos 0) (pos 10001) 13 (pos 0)
    ∷ line corners faces one (pos 0) (pos 0) (pos 10000) 0 (pos 6)
    ∷ line corners faces one (negsuc 9999) (pos 0) (pos 0) 13 (pos 0)
    ∷ line corners faces one (negsuc 9998) (pos 0) (pos 0) 0 (pos 6)
    ∷ []

-- how a line is answered, and what it says
abbrev pub answered : Line → Volume
answered l = volume_of l.positions l.triangles (float l.scale) (record { x = l.x; y = l.y; z = l.z })

abbrev pub said : Line → Volume
said l = record { status = l.status; six = l.six }

-- n triangles, all of them one corner of the tetrahedron
abbrev pub points : ℕ → Volume
points n = volume_of corners (replicate (3 * n) 0) (float one) (record { x = pos 0; y = pos 0; z = pos 0 })

-- the table, and as many triangles as are taken and one more
pub record Examples : Type 0 where
  pub lines : map answered table ≡ map said table
  pub most_taken : points 357492 ≡ record { status = 0; six = pos 0 }
  pub one_more : points 357493 ≡ record { status = 10; six = pos 0 }
