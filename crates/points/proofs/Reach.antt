-- In an accepted frame each point of a crossed edge is at most 2 ^ 33 in size on each axis. Assumes nothing.
use Rattle.std.specs.Prelude.{Option, None, Some}
use mathlib.Core.Path.{◌≡◌, refl, ap, subst}
use mathlib.Core.Bool.{Bool, true, false, ◌&&◌, cond, false≢true}
use lib.Dec.{lit≤}
use lib.Ieee.{Float}
use Rattle.samples.specs.Sides.{finite, point_fraction}
use Rattle.lattice.specs.declared.Ijk.{Ijk}
use Rattle.points.specs.declared.Point.{Point}
use Rattle.points.specs.declared.Frame.{Frame}
use Rattle.points.specs.Positions.{position}
use Rattle.points.specs.Limits.{frame_ok}
use Rattle.points.specs.EdgePoints.{interpolate, edge_point}
use Rattle.points.specs.Finite.{PointUnder, OnEdge, first_end, second_end}
use Rattle.points.proofs.Casts.{ijk_small}
use Rattle.points.proofs.Limits.{position-under, interpolate-under}
use Rattle.points.proofs.Fraction.{held-under}
use Rattle.points.proofs.Order.{sides_differ}

-- where an edge has a point, the samples are finite and it is that one
pub record Known (f : Frame) (a b : Ijk) (p q : Float) (c : Point) : Type 0 where
  pub p_finite : finite p ≡ true
  pub q_finite : finite q ≡ true
  pub is : interpolate (position f a) (position f b) (point_fraction p q) ≡ c

abbrev there : Option Point → Bool
there None = false
there (Some c) = true

abbrev point-or : Option Point → Point → Point
point-or None d = d
point-or (Some c) d = c

pub known : (f : Frame) (a b : Ijk) (p q : Float) (c : Point) → edge_point f a b p q ≡ Some c → Known f a b p q c
unfolding edge_point
known f a b p q c e = go (finite p) (finite q) refl refl e
  where
    go : (x y : Bool) → finite p ≡ x → finite q ≡ y → cond (x && y) (Some (interpolate (position f a) (position f b) (point_fraction p q))) None ≡ Some c → Known f a b p q c
    go true true g h e = record { p_finite = g; q_finite = h; is = ap (λ (r : Option Point). point-or r c) e }
    go true false g h e = absurd (false≢true (ap there e))
    go false y g h e = absurd (false≢true (ap there e))

pub edge-under : (f : Frame) (h : Float) (c : Point) → frame_ok f ≡ true → OnEdge f h c → PointUnder c 33
edge-under f h c ok o =
    let a = first_end o in
    let b = second_end o in
    let k = known f a b o.p o.q c o.is in
    subst (λ (r : Point). PointUnder r 33) k.is
    (interpolate-under (position f a) (position f b) (point_fraction o.p o.q) 0 (lit≤ tt)
    (position-under f a ok (ijk_small o.a.u o.a.v o.a.w o.a_low.on_u o.a_low.on_v o.a_low.on_w))
    (position-under f b ok (ijk_small o.b.u o.b.v o.b.w o.b_low.on_u o.b_low.on_v o.b_low.on_w))
    (held-under o.p o.q o.p_fits o.q_fits k.p_finite k.q_finite (sides_differ o.p o.q h k.p_finite k.q_finite o.differ)))
