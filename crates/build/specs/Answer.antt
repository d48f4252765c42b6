-- What a build answers (docs/SCOPE.md, S9): a status and counts, and what each of the six lent lists holds afterwards.
-- A refusal has zero for all counts and leaves every list as it was. Assumes nothing.
use Rattle.std.specs.Prelude.{◌≡◌, cond, List, [], ◌∷◌, ◌++◌, ℕ, ◌*◌, eqb, length, drop, replicate, Float}
use Rattle.laws.specs.Triangles.{flat}
use Rattle.lattice.specs.declared.Sides.{Sides}
use Rattle.lattice.specs.Sites.{sites, cells}
use Rattle.marks.specs.Marks.{masks_of, crossed_count}
use Rattle.points.specs.declared.Frame.{Frame}
use Rattle.stages.specs.Boxes.{Box}
use Rattle.stages.specs.Vertices.{Vertex, candidates}
use Rattle.stages.specs.Meshes.{table_of, book_of, positions_of, mesh_of}
use Rattle.stages.specs.Splits.{crowded_pairs, split, split_count}
use Rattle.stages.specs.Rounds.{built, rounds_done}
use Rattle.stages.specs.Samples.{box_of, position_at, case_count}
use Rattle.refusals.specs.declared.Lengths.{Lengths}
use Rattle.refusals.specs.Refusals.{status_of}
use Rattle.build.specs.declared.Answer.{Answer}

-- what a caller asks for: all but the lists
pub record Order : Type 0 where
  pub sides : Sides
  pub method : ℕ
  pub rounds : ℕ
  pub frame : Frame
  pub samples : List Float
  pub lent : Lengths
  pub threshold : Float

-- an order with the threshold h (docs/SCOPE.md, S3.1), in lists of such lengths
abbrev pub order : Sides → ℕ → ℕ → Float → Frame → List Float → Lengths → Order
order n method R h f S L = record { sides = n; method = method; rounds = R; frame = f; samples = S; lent = L; threshold = h }

abbrev pub status : Order → ℕ
status o = status_of o.sides o.method o.rounds o.frame o.samples o.lent o.threshold

-- method 1 clusters, method 0 does not
unfoldable pub order_box : Order → Box
order_box o = box_of o.sides o.samples o.threshold (eqb o.method 1)

unfoldable pub order_vertices : Order → List Vertex
order_vertices o = built (order_box o) o.rounds

-- how many sites with marked edges are of case j
unfoldable pub order_cases : Order → ℕ → ℕ
order_cases o j = case_count o.sides o.samples o.threshold (eqb o.method 1) (sites o.sides) j

unfoldable pub done_answer : Order → Answer
done_answer o = record {
  status = 0;
  crossed = crossed_count o.sides o.samples o.threshold;
  vertices = length (order_vertices o);
  triangles = length (mesh_of (order_box o) (order_vertices o));
  closed = order_cases o 0;
  multihole = order_cases o 1;
  flathole = order_cases o 2;
  multisurface = order_cases o 3;
  simple = order_cases o 4;
  split = split_count (crowded_pairs (order_box o)) 0 (candidates (order_box o));
  rounds = rounds_done (order_box o) o.rounds 1 (split (order_box o));
}

unfoldable pub refused_answer : ℕ → Answer
refused_answer k = record {
  status = k;
  crossed = 0;
  vertices = 0;
  triangles = 0;
  closed = 0;
  multihole = 0;
  flathole = 0;
  multisurface = 0;
  simple = 0;
  split = 0;
  rounds = 0;
}

unfoldable pub answer_of : Order → Answer
answer_of o = cond (eqb (status o) 0) (done_answer o) (refused_answer (status o))

-- the ten counts, in the order in which they are printed
unfoldable pub counts_of : Answer → List ℕ
counts_of a = a.crossed ∷ a.vertices ∷ a.triangles ∷ a.closed ∷ a.multihole ∷ a.flathole ∷ a.multisurface ∷ a.simple ∷ a.split ∷ a.rounds ∷ []

-- ---- the lists

-- xs in front, behind it l as it was
abbrev pub overlaid : {A : Type 0} → List A → List A → List A
overlaid xs l = xs ++ drop (length xs) l

-- done, the list begins with xs; refused, it is as lent
abbrev pub written : {A : Type 0} → Order → List A → List A → List A
written o xs l = cond (eqb (status o) 0) (overlaid xs l) l

-- at 7 * site + label the vertex of that owned edge, or 0xFFFFFFFF
abbrev pub order_table : Order → List ℕ
order_table o = table_of (order_box o) (order_vertices o)

abbrev pub order_positions : Order → List Float
order_positions o = positions_of (position_at o.frame o.sides o.samples) (order_vertices o)

abbrev pub order_book : Order → List ℕ
order_book o = book_of (order_vertices o)

abbrev pub order_triangles : Order → List ℕ
order_triangles o = flat (mesh_of (order_box o) (order_vertices o))

-- ---- the six lists together

pub record Lists : Type 0 where
  pub masks : List ℕ
  pub table : List ℕ
  pub positions : List Float
  pub book : List ℕ
  pub triangles : List ℕ
  pub edges : List ℕ

abbrev pub lists : (masks table : List ℕ) (positions : List Float) (book triangles edges : List ℕ) → Lists
lists m t p k tr e = record { masks = m; table = t; positions = p; book = k; triangles = tr; edges = e }

abbrev pub lengths_of : Lists → Lengths
lengths_of l = record {
  masks = length l.masks;
  table = length l.table;
  vertices = length l.positions;
  book = length l.book;
  triangles = length l.triangles;
  edges = length l.edges;
}

-- masks, table, positions, book and triangles in front, and zeros over the first 108 words a cell of the edge list
abbrev pub lists_after : Order → Lists → Lists
lists_after o l =
    lists (written o (masks_of o.sides o.samples o.threshold) l.masks) (written o (order_table o) l.table) (written o (order_positions o) l.positions)
    (written o (order_book o) l.book) (written o (order_triangles o) l.triangles) (written o (replicate (108 * cells o.sides) 0) l.edges)

-- ---- the promise

-- a build of the order o in the lists l, which l' are afterwards
pub record BuildOf (o : Order) (l l' : Lists) (a : Answer) : Type 0 where
  pub answer : a ≡ answer_of o
  pub after : l' ≡ lists_after o l

-- the same of what a caller hands over
abbrev pub BuildIn : Sides → ℕ → ℕ → Float → Frame → List Float → Lists → Lists → Answer → Type 0
BuildIn n method R h f S l l' a = BuildOf (order n method R h f S (lengths_of l)) l l' a
