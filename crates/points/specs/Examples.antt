-- Examples of points and means, which antt computes: where the fraction is held a point stands at an end; -0.0 alone stays -0.0, beside another it does not. Assumes nothing.
use Rattle.std.specs.Prelude.{◌≡◌, refl, Bool, true, false, [], ◌∷◌, ℕ, pos, Float, Some}
use Rattle.std.specs.Float.{fin, binary64}
use Rattle.std.specs.Float.Ieee.{add, mul, sub, div, neg, of_int, of_bits, round, lt, le}
use Rattle.samples.specs.Sides.{base, finite, mark_fraction, hold, point_fraction}
use Rattle.lattice.specs.Sites.{ijk_of}
use Rattle.points.specs.declared.Point.{Point}
use Rattle.points.specs.declared.Frame.{Frame}
use Rattle.points.specs.Positions.{frame_of, along, position}
use Rattle.points.specs.Limits.{origin_ok, step_ok, origins_ok, steps_ok, frame_ok}
use Rattle.points.specs.EdgePoints.{interpolate, edge_point}
use Rattle.points.specs.Means.{mean_of}

abbrev pub whole : Bool → ℕ → Float
whole minus n = fin minus n (pos 0)

abbrev pub all : Float → Point
all v = record { x = v; y = v; z = v }

-- origin 0, step 4 on each axis
abbrev pub plain : Frame
plain = record { origin = all (whole false 0); step = all (fin false 1 (pos 2)) }

-- the centre of a 3 x 3 x 3 box, and half the way to (2, 1, 1) from samples -1 and 1
pub place : position plain (ijk_of 1 1 1) ≡ record { x = fin true 1 (pos 2); y = whole false 0; z = fin true 1 (pos 2) }
unfolding position along ijk_of add mul of_int
place = refl

pub middle : edge_point plain (ijk_of 1 1 1) (ijk_of 2 1 1) (whole true 1) (whole false 1)
    ≡ Some (record { x = fin true 3 (pos 1); y = fin false 1 (pos 1); z = fin true 1 (pos 2) })
unfolding edge_point interpolate point_fraction mark_fraction hold finite position along ijk_of add mul sub div lt of_int of_bits
middle = refl

-- origin 0, step 1; from a site whose sample is -1.0e-9, and so outside, towards one a hair below it, and the other way round: the free
-- fraction is about -4.8e15 and 4.8e15, and the point stands at the outside site
abbrev pub unit : Frame
unit = record { origin = all (whole false 0); step = all (whole false 1) }

abbrev pub hair : Float
hair = of_bits binary64 0xBE112E0BE826D696

pub free : mark_fraction (neg base) hair ≡ whole true 4835703278458517
unfolding mark_fraction sub div neg of_bits
free = refl

pub free_back : mark_fraction hair (neg base) ≡ fin false 2417851639229259 (pos 1)
unfolding mark_fraction sub div neg of_bits
free_back = refl

pub held : point_fraction (neg base) hair ≡ whole false 0
unfolding point_fraction hold lt of_bits
held = rw free

pub held_back : point_fraction hair (neg base) ≡ whole false 1
unfolding point_fraction hold lt of_bits
held_back = rw free_back

pub no_spike : edge_point unit (ijk_of 1 1 1) (ijk_of 2 1 1) (neg base) hair ≡ Some (position unit (ijk_of 1 1 1))
unfolding edge_point interpolate finite position along ijk_of add mul sub neg of_int of_bits
no_spike = rw held

pub no_spike_back : edge_point unit (ijk_of 2 1 1) (ijk_of 1 1 1) hair (neg base) ≡ Some (position unit (ijk_of 1 1 1))
unfolding edge_point interpolate finite position along ijk_of add mul sub neg of_int of_bits
no_spike_back = rw held_back

pub one-mean : mean_of (all (whole true 0) ∷ []) ≡ all (whole true 0)
unfolding mean_of
one-mean = refl

pub two-mean : mean_of (all (whole true 0) ∷ all (whole true 0) ∷ []) ≡ all (whole false 0)
unfolding mean_of add mul div of_int of_bits
two-mean = refl

-- the ends of the limits are taken, and the next value past an end is not
pub ends : frame_ok (frame_of (all (of_bits binary64 0xC1CDCD6500000000)) (all (of_bits binary64 0x3F50624DD2F1A9FC))) ≡ true
unfolding frame_ok frame_of origins_ok steps_ok origin_ok step_ok of_bits of_int round le neg
ends = refl

pub past_origin : origin_ok (of_bits binary64 0x41CDCD6500000001) ≡ false
unfolding origin_ok of_bits of_int le neg
past_origin = refl

pub past_step : step_ok (of_bits binary64 0x3F50624DD2F1A9FB) ≡ false
unfolding step_ok of_bits of_int round le
past_step = refl
