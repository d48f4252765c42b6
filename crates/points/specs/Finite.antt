-- What the theorems of finite points speak of: a finite point, how large one is, and a point that the build makes on a crossed edge. Assumes nothing.
use Rattle.std.specs.Prelude.{◌≡◌, Bool, false, ◌&&◌, List, [], ◌∷◌, ℕ, ◌*◌, ◌^◌, ◌≤◌, ◌<◌, T, Float, Option, None, Some}
use Rattle.std.specs.Bool.{beq}
use Rattle.std.specs.Float.{nan, inf, fin, binary64}
use Rattle.std.specs.Float.Ieee.{up, down, fits}
use Rattle.samples.specs.Sides.{inside, finite}
use Rattle.lattice.specs.declared.Ijk.{Ijk}
use Rattle.lattice.specs.declared.Uvw.{Uvw}
use Rattle.lattice.specs.Sites.{ijk_of}
use Rattle.points.specs.declared.Point.{Point}
use Rattle.points.specs.declared.Frame.{Frame}
use Rattle.points.specs.EdgePoints.{edge_point}

unfoldable pub finite_point : Point → Bool
finite_point p = finite p.x && finite p.y && finite p.z

-- x is finite, and at most 2 ^ k in size
abbrev pub Under : Float → ℕ → Type 0
Under nan k = ⊥
Under (inf s) k = ⊥
Under (fin s m e) k = m * up e ≤ 2 ^ k * down e

-- on each axis
pub record PointUnder (p : Point) (k : ℕ) : Type 0 where
  pub x : Under p.x k
  pub y : Under p.y k
  pub z : Under p.z k

-- there is a point, and it is finite
unfoldable pub has_finite_point : Option Point → Bool
has_finite_point None = false
has_finite_point (Some c) = finite_point c

-- a site of a box: no side is over 32
pub record Low (p : Uvw) : Type 0 where
  pub on_u : p.u < 32
  pub on_v : p.v < 32
  pub on_w : p.w < 32

-- c is the point of an edge between two sites, whose samples, f64 values both, are on different sides of the threshold h
pub record OnEdge (f : Frame) (h : Float) (c : Point) : Type 0 where
  pub a : Uvw
  pub b : Uvw
  pub p : Float
  pub q : Float
  pub a_low : Low a
  pub b_low : Low b
  pub p_fits : T (fits binary64 p)
  pub q_fits : T (fits binary64 q)
  pub differ : beq (inside p h) (inside q h) ≡ false
  pub is : edge_point f (ijk_of a.u a.v a.w) (ijk_of b.u b.v b.w) p q ≡ Some c

-- its two ends: the site that is marked, and its neighbour
abbrev pub first_end : {f : Frame} {h : Float} {c : Point} → OnEdge f h c → Ijk
first_end o = ijk_of o.a.u o.a.v o.a.w

abbrev pub second_end : {f : Frame} {h : Float} {c : Point} → OnEdge f h c → Ijk
second_end o = ijk_of o.b.u o.b.v o.b.w

-- each of a list of points is one
pub data AllOnEdges (f : Frame) (h : Float) : List Point → Type 0 where
  end : AllOnEdges f h []
  next : {c : Point} {cs : List Point} → OnEdge f h c → AllOnEdges f h cs → AllOnEdges f h (c ∷ cs)
