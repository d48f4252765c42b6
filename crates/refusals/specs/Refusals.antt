-- When a build is refused and with which number: the table of docs/SCOPE.md, S9.2, a line for each number. Assumes nothing.
use Rattle.std.specs.Prelude.{Result, Ok, Err, Bool, not, cond, ◌&&◌, List, ℕ, ◌*◌, ◌/◌, eqb, leb, Float, length}
use Rattle.std.specs.Float.Ieee.{le}
use Rattle.samples.specs.Sides.{nought, one}
use Rattle.lattice.specs.declared.Sides.{Sides}
use Rattle.lattice.specs.Sites.{sides_ok, sites, cells}
use Rattle.marks.specs.Marks.{crossed_count}
use Rattle.points.specs.declared.Frame.{Frame}
use Rattle.points.specs.Limits.{frame_ok}
use Rattle.refusals.specs.declared.Lengths.{Lengths}
use Rattle.refusals.specs.declared.Refusal.{Refusal}

-- the number of a request, 0 where it is granted, and E, which is 0 where it is not
pub record Reply : Type 0 where
  pub status : ℕ
  pub crossed : ℕ

-- the method is 0 or 1, and the rounds are at most 4
unfoldable pub settings_ok : ℕ → ℕ → Bool
settings_ok method R = leb method 1 && leb R 4

-- the threshold is within 0 to 1, ends and -0.0 included; a comparison with a NaN is false
unfoldable pub inside_ok : Float → Bool
inside_ok h = le nought h && le h one

-- for k sites: a mask and seven places of the edge table each
unfoldable pub site_room : ℕ → Lengths → Bool
site_room k L = leb k L.masks && leb (7 * k) L.table

-- for x vertices: three floats of a position and four words of the book each
unfoldable pub vertex_room : ℕ → Lengths → Bool
vertex_room x L = leb (3 * x) L.vertices && leb (4 * x) L.book

-- for k cells: twelve triangles, and their thirty-six edges, each three words
unfoldable pub cell_room : ℕ → Lengths → Bool
cell_room k L = leb (36 * k) L.triangles && leb (108 * k) L.edges

-- X: 3 E / 2 rounded down
unfoldable pub most : Sides → List Float → Float → ℕ
most n S h = 3 * crossed_count n S h / 2

-- the number of a request with sides n, method, at most R rounds, frame f, samples S, lent lists of lengths L and threshold h:
-- the tests stand in the table's order, and the first that fails gives the number; 0 is granted
unfoldable pub status_of : Sides → ℕ → ℕ → Frame → List Float → Lengths → Float → ℕ
status_of n method R f S L h =
    cond (not (settings_ok method R)) 1
    (cond (not (sides_ok n)) 2
    (cond (not (eqb (length S) (sites n))) 3
    (cond (not (frame_ok f)) 4
    (cond (not (inside_ok h)) 14
    (cond (not (site_room (sites n) L)) 5
    (cond (not (vertex_room (most n S h) L)) 6
    (cond (not (cell_room (cells n) L)) 7
    0)))))))

-- the number of each refusal
unfoldable pub number : Refusal → ℕ
number Refusal.Settings = 1
number Refusal.Sides = 2
number Refusal.SampleCount = 3
number Refusal.Frame = 4
number Refusal.Threshold = 14
number Refusal.SiteRoom = 5
number Refusal.VertexRoom = 6
number Refusal.CellRoom = 7

-- what an answer says
unfoldable pub reply : Result ℕ Refusal → Reply
reply (Ok e) = record { status = 0; crossed = e }
reply (Err r) = record { status = number r; crossed = 0 }

-- a refusal gives zero for the count
unfoldable pub request_of : Sides → ℕ → ℕ → Frame → List Float → Lengths → Float → Reply
request_of n method R f S L h = record {
  status = status_of n method R f S L h;
  crossed = cond (eqb (status_of n method R f S L h) 0) (crossed_count n S h) 0;
}
