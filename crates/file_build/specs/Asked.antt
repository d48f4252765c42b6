-- What a count file asks for, and what is built of it (docs/SCOPE.md, S10). Assumes nothing.
use Rattle.std.specs.Prelude.{◌≡◌, false, Some, None, List, map, ℕ, get_or, replicate, pos, Float}
use Rattle.std.specs.Float.{binary64, fin}
use Rattle.std.specs.Float.Ieee.{of_bits}
use Rattle.lattice.specs.declared.Sides.{Sides}
use Rattle.points.specs.declared.Point.{Point}
use Rattle.points.specs.declared.Frame.{Frame}
use Rattle.points.specs.Positions.{frame_of}
use Rattle.refusals.specs.declared.Lengths.{Lengths}
use Rattle.build.specs.Answer.{Order, order, refused_answer, Lists, lists, lengths_of, BuildOf}
use Rattle.count_file.specs.declared.Head.{Head}
use Rattle.count_file.specs.CountFile.{CountFile}
use Rattle.count_file.specs.Parsed.{accepted}
use Rattle.file_build.specs.declared.Built.{Built}
use Rattle.file_build.specs.declared.WorkSpace.{WorkSpace}

-- ---- what the values of a file ask for; the sizes of a header are nu, nv, nw, method and rounds

unfoldable pub head_sides : Head → Sides
head_sides h = record { nu = get_or h.sizes 0 0; nv = get_or h.sizes 1 0; nw = get_or h.sizes 2 0 }

-- the point of three floats, by their bits
unfoldable pub point_of : List ℕ → Point
point_of l = record { x = of_bits binary64 (get_or l 0 0); y = of_bits binary64 (get_or l 1 0); z = of_bits binary64 (get_or l 2 0) }

unfoldable pub head_frame : Head → Frame
head_frame h = frame_of (point_of h.origin) (point_of h.steps)

unfoldable pub head_inside : Head → Float
head_inside h = of_bits binary64 h.inside

unfoldable pub floats_of : List ℕ → List Float
floats_of ss = map (of_bits binary64) ss

-- the order of a file in lists of such lengths
abbrev pub file_order : Head → List Float → Lengths → Order
file_order h S L = order (head_sides h) (get_or h.sizes 3 0) (get_or h.sizes 4 0) (head_inside h) (head_frame h) S L

-- lists for 216 sites: a mask and seven owned edges each, three vertices for two of these edges, a cell each
abbrev pub work_space : Lengths
work_space = record { masks = 216; table = 1512; vertices = 6804; book = 9072; triangles = 7776; edges = 23328 }

-- such lists, and all zeros in them
abbrev pub space_lists : WorkSpace → Lists
space_lists w = lists w.masks w.table w.positions w.book w.triangles w.edges

unfoldable pub blank : WorkSpace
blank = record {
  masks = replicate 216 0;
  table = replicate 1512 0;
  positions = replicate 6804 (fin false 0 (pos 0));
  book = replicate 9072 0;
  triangles = replicate 7776 0;
  edges = replicate 23328 0;
}

abbrev pub work_order : Head → List Float → Order
work_order h S = file_order h S work_space

-- ---- what is built

-- the input s, read and built in the lists l: as its values ask where s is a count file; status 8 and every list as it was where it is none
pub data BuiltOf (s : List ℕ) (l l' : Lists) (r : Built) : Type 0 where
  built : (h : Head) (ss : List ℕ) → CountFile s h ss → r.file ≡ Some (accepted h ss) → BuildOf (file_order h (floats_of ss) (lengths_of l)) l l' r.answer → BuiltOf s l l' r
  unbuilt : ((h : Head) (ss : List ℕ) → CountFile s h ss → ⊥) → r.file ≡ None → r.answer ≡ refused_answer 8 → l' ≡ l → BuiltOf s l l' r
