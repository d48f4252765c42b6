-- What the wrapper of the vertex pass promises, in a plain frame. Assumes nothing.
use Rattle.std.specs.Prelude.{Bool, true, List, ℕ, ◌*◌, replicate, Float}
use Rattle.std.specs.Float.{binary64}
use Rattle.std.specs.Float.Ieee.{of_bits}
use Rattle.samples.specs.Sides.{base}
use Rattle.lattice.specs.declared.Sides.{Sides}
use Rattle.lattice.specs.Sites.{sites}
use Rattle.points.specs.declared.Frame.{Frame}
use Rattle.points.specs.Positions.{frame_of}
use Rattle.march.specs.March.{none}
use Rattle.stages.specs.Vertices.{candidates}
use Rattle.stages.specs.Splits.{place_by}
use Rattle.stages.specs.Samples.{box_of}
use Rattle.site_vertices.specs.Inner.Appending.{Appended}

-- the origin at 0, steps of 1
abbrev pub plain_frame : Frame
plain_frame =
    frame_of (record { x = of_bits binary64 0; y = of_bits binary64 0; z = of_bits binary64 0 })
    (record { x = of_bits binary64 0x3FF0000000000000; y = of_bits binary64 0x3FF0000000000000; z = of_bits binary64 0x3FF0000000000000 })

-- the vertices of the whole pass in an empty table and in the lent positions and book, the clusters with a flag apart; r is how many
abbrev pub DrawnPlain : (n : Sides) (S : List Float) (q : ℕ → Bool) (p : List Float) (k : List ℕ) (r : ℕ) (t' : List ℕ) (p' : List Float) (k' : List ℕ) → Type 0
DrawnPlain n S q p k r t' p' k' =
    Appended plain_frame n S (place_by q 0 (candidates (box_of n S base true))) 0 (replicate (7 * sites n) none) p k r t' p' k'
