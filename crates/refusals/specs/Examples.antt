-- Examples of replies, which antt computes: the example's box (docs/SCOPE.md, S10.6), with lists just long enough and one too short, and each refusal. Assumes nothing.
use Rattle.std.specs.Prelude.{◌≡◌, refl, List, [], ◌∷◌, ◌++◌, ℕ, Float, replicate}
use Rattle.std.specs.Float.{nan, binary64}
use Rattle.std.specs.Float.Ieee.{le, sub, of_int, of_bits}
use Rattle.laws.specs.Bools.{bit}
use Rattle.laws.specs.Ranges.{sum}
use Rattle.tables.specs.Edges.{corner_of, du, dv, dw}
use Rattle.samples.specs.Sides.{base, inside, crossing}
use Rattle.lattice.specs.declared.Sides.{Sides}
use Rattle.lattice.specs.Sites.{side_ok, sides_ok, sites, cells, in_box, site_of, uvw_of, step}
use Rattle.lattice.specs.Across.{upward, across_at, across_of}
use Rattle.marks.specs.Marks.{crossed_by, is_crossed, crossed_count}
use Rattle.points.specs.declared.Point.{Point}
use Rattle.points.specs.declared.Frame.{Frame}
use Rattle.points.specs.Limits.{origin_ok, step_ok, origins_ok, steps_ok, frame_ok}
use Rattle.refusals.specs.declared.Lengths.{Lengths}
use Rattle.refusals.specs.Refusals.{settings_ok, inside_ok, site_room, vertex_room, cell_room, most, status_of, request_of}

-- `unfolding key` opens the definitions, so that a number computes
unfoldable key : Unit {0}
unfolding le sub of_int of_bits bit sum corner_of du dv dw inside crossing side_ok sides_ok sites cells in_box site_of uvw_of step upward across_at across_of crossed_by is_crossed crossed_count origin_ok step_ok origins_ok steps_ok frame_ok settings_ok inside_ok site_room vertex_room cell_room most status_of
key = tt

abbrev sides : ℕ → ℕ → ℕ → Sides
sides u v w = record { nu = u; nv = v; nw = w }

abbrev lengths : (masks table vertices book triangles edges : ℕ) → Lengths
lengths a b c d e f = record { masks = a; table = b; vertices = c; book = d; triangles = e; edges = f }

-- a float by its bits, and a frame with one origin and one step on the three axes
abbrev word : ℕ → Float
word b = of_bits binary64 b

abbrev all : ℕ → Point
all b = record { x = word b; y = word b; z = word b }

abbrev frame : ℕ → ℕ → Frame
frame o s = record { origin = all o; step = all s }

-- origin 0, step 1
abbrev plain : Frame
plain = frame 0x0000000000000000 0x3FF0000000000000

-- every sample is 1.0 but the fourteenth, which is -1.0
abbrev samples : List Float
samples = replicate 13 (word 0x3FF0000000000000) ++ (word 0xBFF0000000000000 ∷ replicate 13 (word 0x3FF0000000000000))

-- 27 sites, E = 14, X = 21, 8 cells
abbrev right : Lengths
right = lengths 27 189 63 84 288 864

-- the number with all else right
abbrev lent : Lengths → ℕ
lent L = status_of (sides 3 3 3) 1 4 plain samples L base

abbrev settings : ℕ → ℕ → ℕ
settings method R = status_of (sides 3 3 3) method R plain samples right base

abbrev box : Sides → ℕ
box n = status_of n 1 4 plain samples right base

abbrev sampled : List Float → ℕ
sampled S = status_of (sides 3 3 3) 1 4 plain S right base

abbrev framed : Frame → ℕ
framed f = status_of (sides 3 3 3) 1 4 f samples right base

abbrev sided : Float → ℕ
sided h = status_of (sides 3 3 3) 1 4 plain samples right h

pub just_long_enough : request_of (sides 3 3 3) 1 4 plain samples right base ≡ record { status = 0; crossed = 14 }
unfolding key request_of
just_long_enough = refl

pub one-short : lent (lengths 26 189 63 84 288 864) ∷ lent (lengths 27 188 63 84 288 864) ∷ lent (lengths 27 189 62 84 288 864) ∷ lent (lengths 27 189 63 83 288 864)
    ∷ lent (lengths 27 189 63 84 287 864) ∷ lent (lengths 27 189 63 84 288 863) ∷ []
    ≡ 5 ∷ 5 ∷ 6 ∷ 6 ∷ 7 ∷ 7 ∷ []
unfolding key
one-short = refl

pub method_or-rounds : settings 0 0 ∷ settings 2 4 ∷ settings 1 5 ∷ [] ≡ 0 ∷ 1 ∷ 1 ∷ []
unfolding key
method_or-rounds = refl

pub side : box (sides 0 3 3) ∷ box (sides 33 3 3) ∷ box (sides 3 18446744073709551615 3) ∷ box (sides 3 3 18446744073709551615) ∷ [] ≡ 2 ∷ 2 ∷ 2 ∷ 2 ∷ []
unfolding key
side = refl

-- 26 samples, and 28
pub sample_list : sampled (replicate 26 (word 0x3FF0000000000000)) ∷ sampled (replicate 28 (word 0x3FF0000000000000)) ∷ [] ≡ 3 ∷ 3 ∷ []
unfolding key
sample_list = refl

-- the ends of the limits; an origin just above 1e9, a step 0, a NaN in either
pub frames : framed (frame 0xC1CDCD6500000000 0x412E848000000000) ∷ framed (frame 0x41CDCD6500000001 0x3FF0000000000000) ∷ framed (frame 0x0000000000000000 0x0000000000000000)
    ∷ framed (frame 0x7FF8000000000000 0x3FF0000000000000) ∷ framed (frame 0x0000000000000000 0x7FF8000000000000) ∷ []
    ≡ 0 ∷ 4 ∷ 4 ∷ 4 ∷ 4 ∷ []
unfolding key
frames = refl

-- thresholds: 0, -0.0, the least subnormal, 1.0; then the least subnormal below 0, the next above 1, infinity, minus infinity, a NaN
abbrev thresholds : (Float → ℕ) → List ℕ
thresholds k =
    k (word 0x0000000000000000) ∷ k (word 0x8000000000000000) ∷ k (word 0x0000000000000001) ∷ k (word 0x3FF0000000000000)
    ∷ k (word 0x8000000000000001) ∷ k (word 0x3FF0000000000001) ∷ k (word 0x7FF0000000000000) ∷ k (word 0xFFF0000000000000) ∷ k (word 0x7FF8000000000000) ∷ []

pub threshold : thresholds sided ≡ 0 ∷ 0 ∷ 0 ∷ 0 ∷ 14 ∷ 14 ∷ 14 ∷ 14 ∷ 14 ∷ []
unfolding key
threshold = refl

-- each with a step of 0; and with masks that are one short
pub four_before : thresholds (λ h. status_of (sides 3 3 3) 1 4 (frame 0 0) samples right h) ≡ replicate 9 4
unfolding key
four_before = refl

pub five-after : thresholds (λ h. status_of (sides 3 3 3) 1 4 plain samples (lengths 26 189 63 84 288 864) h) ≡ 5 ∷ 5 ∷ 5 ∷ 5 ∷ 14 ∷ 14 ∷ 14 ∷ 14 ∷ 14 ∷ []
unfolding key
five-after = refl

-- all wrong at once, then one thing after another put right
pub first_wins : status_of (sides 0 3 3) 2 4 (frame 0 0) [] (lengths 0 0 0 0 0 0) nan ∷ status_of (sides 0 3 3) 1 4 (frame 0 0) [] (lengths 0 0 0 0 0 0) nan
    ∷ status_of (sides 3 3 3) 1 4 (frame 0 0) [] (lengths 0 0 0 0 0 0) nan ∷ status_of (sides 3 3 3) 1 4 (frame 0 0) samples (lengths 0 0 0 0 0 0) nan
    ∷ status_of (sides 3 3 3) 1 4 plain samples (lengths 0 0 0 0 0 0) nan ∷ lent (lengths 0 0 0 0 0 0) ∷ lent (lengths 27 189 0 0 0 0) ∷ lent (lengths 27 189 63 84 0 0) ∷ []
    ≡ 1 ∷ 2 ∷ 3 ∷ 4 ∷ 14 ∷ 5 ∷ 6 ∷ 7 ∷ []
unfolding key
first_wins = refl

-- E is counted with the threshold: at 1.0 the sample of -1.0 is outside, no edge is crossed, and no room for vertices is asked for
pub none-crossed : request_of (sides 3 3 3) 1 4 plain samples (lengths 27 189 0 0 288 864) (word 0x3FF0000000000000) ≡ record { status = 0; crossed = 0 }
unfolding key request_of
none-crossed = refl

-- a refusal gives zero for the count
pub no_count : request_of (sides 3 3 3) 1 4 plain samples (lengths 27 189 63 84 288 0) base ≡ record { status = 7; crossed = 0 }
unfolding key request_of
no_count = refl

-- X is rounded down: one crossed edge, so room for one vertex; no cell, so none for triangles
abbrev pair : Lengths → ℕ
pair L = status_of (sides 2 1 1) 0 0 plain (word 0x3FF0000000000000 ∷ word 0xBFF0000000000000 ∷ []) L base

pub rounded_down : pair (lengths 2 14 3 4 0 0) ∷ pair (lengths 2 14 2 4 0 0) ∷ pair (lengths 2 14 3 3 0 0) ∷ [] ≡ 0 ∷ 6 ∷ 6 ∷ []
unfolding key
rounded_down = refl
