-- The numbers that the build of a count file answers: 0, 1, 2, 4 and 14. A file has a sample for each site, and the work space is enough for every file. Assumes nothing.
use mathlib.Core.Path.{◌≡◌, sym, ap, ◌∙◌}
use mathlib.Core.Bool.{not, cond}
use mathlib.Core.List.{List}
use Prim.Native.Nat.{ℕ, ◌-◌, ◌*◌, ◌≤◌}
use native.Mathlib.Omega.{arith}
use native.Mathlib.Nat.{le_trans}
use borrow.Author.Tests.{eq-eqb, le-leb}
use lib.Dec.{eqb}
use lib.Ieee.{Float, binary64, of_bits}
use lib.ListN.{length, get_or, length-map, length-replicate}
use Rattle.laws.specs.Bools.{bit}
use Rattle.laws.specs.Ranges.{sum}
use Rattle.laws.proofs.Bools.{bit_le}
use Rattle.laws.proofs.Sums.{sum-le}
use Rattle.lattice.specs.declared.Sides.{Sides}
use Rattle.lattice.specs.Sites as box
use Rattle.lattice.proofs.Sites.{product_le}
use Rattle.marks.specs.Marks.{is_crossed, crossed_count}
use Rattle.points.specs.Limits.{frame_ok}
use Rattle.refusals.specs.declared.Lengths.{Lengths}
use Rattle.refusals.specs.Refusals.{settings_ok, inside_ok, site_room, vertex_room, cell_room, most, status_of}
use Rattle.build.specs.Answer.{status, order_box, order_vertices, order_cases, done_answer, refused_answer, answer_of}
use Rattle.count_file.specs.declared.Head.{Head}
use Rattle.count_file.specs.CountFile.{CountFile, sites, sample}
use Rattle.lines.proofs.Lines.{fine-length}
use Rattle.file_build.specs.Asked.{head_sides, head_frame, head_inside, floats_of, file_order, work_space, work_order}

-- ---- room for 216 sites

crossed-room : (n : Sides) (S : List Float) (h : Float) → box.sites n ≤ 216 → crossed_count n S h ≤ 1512
unfolding crossed_count
crossed-room n S h l =
    omega (
      arith,
      sum-le (box.sites n) 7 (λ s. sum 7 (λ l. bit (is_crossed n S h s l))) (λ s. sum-le 7 1 (λ l. bit (is_crossed n S h s l)) (λ l. bit_le (is_crossed n S h s l))),
    )

most-room : (n : Sides) (S : List Float) (h : Float) → box.sites n ≤ 216 → most n S h ≤ 2268
unfolding most
most-room n S h l = omega (arith, crossed-room n S h l)

cells-room : (n : Sides) → box.sites n ≤ 216 → box.cells n ≤ 216
unfolding box.sites box.cells
cells-room n l =
    let a : (n.nu - 1) * (n.nv - 1) ≤ n.nu * n.nv = product_le (n.nu - 1) (n.nv - 1) n.nu n.nv (omega arith) (omega arith) in
    le_trans (product_le ((n.nu - 1) * (n.nv - 1)) (n.nw - 1) (n.nu * n.nv) n.nw a (omega arith)) l

-- ---- the number

-- lists that are long enough for every file, such as the program's own
pub record Ample (L : Lengths) : Type 0 where
  pub masks : 216 ≤ L.masks
  pub table : 1512 ≤ L.table
  pub vertices : 6804 ≤ L.vertices
  pub book : 9072 ≤ L.book
  pub triangles : 7776 ≤ L.triangles
  pub edges : 23328 ≤ L.edges

enough : Ample work_space
enough = record { masks = omega arith; table = omega arith; vertices = omega arith; book = omega arith; triangles = omega arith; edges = omega arith }

module _ {s : List ℕ} {hd : Head} {ss : List ℕ} (f : CountFile s hd ss) where
  size : length ss ≡ sites hd
  size = fine-length f.body ∙ length-replicate (sites hd) sample

  -- the samples are as many as the sites
  pub file-sites : length (floats_of ss) ≡ box.sites (head_sides hd)
  unfolding floats_of head_sides box.sites
  file-sites = length-map ss (of_bits binary64) ∙ size

  few : box.sites (head_sides hd) ≤ 216
  unfolding head_sides box.sites
  few = f.size.most

  -- the number in lists of any lengths that are long enough: 3 and 5 to 7 never come
  space_status : (L : Lengths) → Ample L → status (file_order hd (floats_of ss) L)
      ≡ cond (not (settings_ok (get_or hd.sizes 3 0) (get_or hd.sizes 4 0))) 1 (cond (not (box.sides_ok (head_sides hd))) 2
      (cond (not (frame_ok (head_frame hd))) 4 (cond (not (inside_ok (head_inside hd))) 14 0)))
  unfolding status_of site_room vertex_room cell_room
  space_status L a =
      let n = head_sides hd in
      let S = floats_of ss in
      let c = cells-room n few in
      let h = head_inside hd in
      let x = most-room n S h few in
      rw (
        eq-eqb (length S) (box.sites n) file-sites,
        le-leb (box.sites n) L.masks (omega (arith, few)),
        le-leb (7 * box.sites n) L.table (omega (arith, few)),
        le-leb (3 * most n S h) L.vertices (omega arith),
        le-leb (4 * most n S h) L.book (omega arith),
        le-leb (36 * box.cells n) L.triangles (omega arith),
        le-leb (108 * box.cells n) L.edges (omega arith),
      )

  pub file-status : status (work_order hd (floats_of ss))
      ≡ cond (not (settings_ok (get_or hd.sizes 3 0) (get_or hd.sizes 4 0))) 1 (cond (not (box.sides_ok (head_sides hd))) 2
      (cond (not (frame_ok (head_frame hd))) 4 (cond (not (inside_ok (head_inside hd))) 14 0)))
  file-status = space_status work_space enough

  -- what the build answers does not depend on the work space
  pub space_answer : (L : Lengths) → Ample L → answer_of (file_order hd (floats_of ss) L) ≡ answer_of (work_order hd (floats_of ss))
  unfolding answer_of done_answer order_box order_vertices order_cases
  space_answer L a =
      ap (λ (k : ℕ). cond (eqb k 0) (done_answer (work_order hd (floats_of ss))) (refused_answer k)) (space_status L a ∙ sym file-status)
