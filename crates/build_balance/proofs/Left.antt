-- What holds of the lists that a build leaves. The triangle list is in whole threes, and every position is finite, within 2 ^ 47. Demand 3: every crossed edge is named once by the edge table, the held counts of the vertex book add up to the crossings,
-- and as many triangles of the triangle list run from a vertex to another as back. Assumes nothing.
use mathlib.Core.Path.{◌≡◌, sym, ap, ◌∙◌, subst}
use mathlib.Core.Bool.{Bool, true}
use mathlib.Core.List.{List, ◌++◌}
use Prim.Native.Nat.{ℕ, ◌+◌, ◌*◌, ◌<◌}
use native.Mathlib.Omega.{arith}
use lib.Dec.{eqb}
use lib.ListN.{length, get_or, take, drop, get_or-append}
use lib.Seq.{take-append_seam}
use lib.Ieee.{Float, nan}
use Rattle.laws.specs.Ranges.{sum}
use Rattle.laws.specs.Lists.{count}
use Rattle.laws.specs.Triangles.{Tri, flat, tris_of, Balanced}
use Rattle.laws.proofs.Sums.{sum_same}
use Rattle.laws.proofs.Lists.{all_member}
use Rattle.laws.proofs.Triangles.{flat-length, flat-same, tris_flat}
use Rattle.samples.specs.Sides.{finite}
use Rattle.lattice.specs.Sites.{SidesFit, sites}
use Rattle.marks.specs.Marks.{crossed_count, is_crossed}
use Rattle.march.specs.March.{none}
use Rattle.march.specs.Runs.{runs}
use Rattle.points.specs.Finite.{Under}
use Rattle.points.proofs.Sizes.{under-finite}
use Rattle.stages.specs.Meshes.{book_of, mesh_of, table_of}
use Rattle.stages.specs.Rounds.{built}
use Rattle.stages.specs.Samples.{box_of, AllFinite, AllDouble}
use Rattle.stages.specs.Stages.{Held}
use Rattle.stages.proofs.Book.{book_length}
use Rattle.stages.proofs.Demand.{book_crossed, crossed-held, table_names}
use Rattle.stages.proofs.Stages.{built_stage}
use Rattle.stages.proofs.Positions.{positions_under}
use Rattle.stages.proofs.Table.{table-length}
use Rattle.build.specs.declared.Answer.{Answer}
use Rattle.build.specs.Answer.{Order, Lists, done_answer, order_book, order_box, order_positions, order_table, order_triangles, order_vertices}
use Rattle.build.proofs.Answering.{order_granted}
use Rattle.build.proofs.Fronts.{is-done, is-written, positions_three}
use Rattle.build_balance.specs.Border.{OneSide}
use Rattle.build_balance.specs.Left.{Left}
use Rattle.build_balance.proofs.Surface.{built-closed, stage_balanced}

-- ---- what needs no finite samples

module _ (o : Order) (l l' : Lists) (z : Answer) (D : Left o l l' z) where
  done : z ≡ done_answer o
  done = D.built.answer ∙ is-done o D.granted

  -- THE TRIANGLE LIST BEGINS WITH THE SURFACE'S TRIANGLES, in whole threes
  pub left_triangles : take (3 * z.triangles) l'.triangles ≡ order_triangles o
  unfolding done_answer
  left_triangles =
      let n : 3 * z.triangles ≡ length (order_triangles o) = ap (λ (y : Answer). 3 * y.triangles) done ∙ omega (arith, flat-length (mesh_of (order_box o) (order_vertices o))) in
      let e : l'.triangles ≡ order_triangles o ++ drop (length (order_triangles o)) l.triangles =
      ap (λ (y : Lists). y.triangles) D.built.after ∙ is-written o D.granted (order_triangles o) l.triangles in
      (λ i. take (n i) (e i)) ∙ take-append_seam (order_triangles o) (drop (length (order_triangles o)) l.triangles)

  pub left_threes : flat (tris_of (take (3 * z.triangles) l'.triangles)) ≡ take (3 * z.triangles) l'.triangles
  left_threes =
      ap (λ (y : List ℕ). flat (tris_of y)) left_triangles ∙ ap flat (tris_flat (mesh_of (order_box o) (order_vertices o))) ∙ sym left_triangles

  -- EVERY POSITION THAT A BUILD LEAVES IS AT MOST 2 ^ 47 IN SIZE ON EACH AXIS, for all samples of 64 bits
  pub left-within : AllDouble o.samples → (i : ℕ) → i < 3 * z.vertices → Under (get_or l'.positions i nan) 47
  unfolding order_vertices order_box done_answer
  left-within F i h =
      let g = order_granted o D.granted in
      let b = box_of o.sides o.samples o.threshold (eqb o.method 1) in
      let v : z.vertices ≡ length (order_vertices o) = ap (λ (y : Answer). y.vertices) done in
      let low : i < length (order_positions o) = omega (arith, positions_three o D.granted) in
      let e : l'.positions ≡ order_positions o ++ drop (length (order_positions o)) l.positions =
      ap (λ (y : Lists). y.positions) D.built.after ∙ is-written o D.granted (order_positions o) l.positions in
      let m : get_or l'.positions i nan ≡ get_or (order_positions o) i nan =
      ap (λ (y : List Float). get_or y i nan) e ∙ get_or-append (order_positions o) (drop (length (order_positions o)) l.positions) nan i low in
      subst (λ (x : Float). Under x 47) (sym m)
      (all_member nan (λ x. Under x 47) (order_positions o)
      (positions_under o.frame o.sides o.samples o.threshold g.frame g.fit F (eqb o.method 1) (built_stage b o.rounds)) i low)

  -- AND FINITE
  pub left-finite : AllDouble o.samples → (i : ℕ) → i < 3 * z.vertices → finite (get_or l'.positions i nan) ≡ true
  left-finite F i h = under-finite (get_or l'.positions i nan) 47 (left-within F i h)

-- ---- where all samples are finite

module _ (o : Order) (l l' : Lists) (z : Answer) (D : Left o l l' z) (F : AllFinite o.sides o.samples) where
  fit : SidesFit o.sides
  fit = (order_granted o D.granted).fit

  book_is : l'.book ≡ order_book o ++ drop (length (order_book o)) l.book
  book_is = ap (λ (y : Lists). y.book) D.built.after ∙ is-written o D.granted (order_book o) l.book

  table_is : l'.table ≡ order_table o ++ drop (length (order_table o)) l.table
  table_is = ap (λ (y : Lists). y.table) D.built.after ∙ is-written o D.granted (order_table o) l.table

  -- THE HELD COUNTS OF THE BOOK ADD UP TO THE CROSSINGS
  pub left-held : sum z.vertices (λ i. get_or l'.book (4 * i + 1) 0) ≡ crossed_count o.sides o.samples o.threshold
  unfolding order_vertices order_box done_answer
  left-held =
      let vs = built (box_of o.sides o.samples o.threshold (eqb o.method 1)) o.rounds in
      ap (λ (y : Answer). sum y.vertices (λ i. get_or l'.book (4 * i + 1) 0)) (done o l l' z D)
      ∙ sum_same (length vs) (λ i. get_or l'.book (4 * i + 1) 0) (λ i. get_or (book_of vs) (4 * i + 1) 0)
      (λ i b. ap (λ (y : List ℕ). get_or y (4 * i + 1) 0) book_is ∙ get_or-append (book_of vs) (drop (length (book_of vs)) l.book) 0 (4 * i + 1) (omega (arith, book_length vs)))
      ∙ book_crossed o.sides o.samples o.threshold (eqb o.method 1) fit F (built_stage (box_of o.sides o.samples o.threshold (eqb o.method 1)) o.rounds)

  -- EVERY CROSSED EDGE IS HELD BY ONE VERTEX, AND THE TABLE NAMES IT
  pub left_names : (s e : ℕ) → s < sites o.sides → e < 7 → is_crossed o.sides o.samples o.threshold s e ≡ true
      → (h : Held (order_box o) (order_vertices o) (7 * s + e)) × (get_or l'.table (7 * s + e) none ≡ h.vertex)
  unfolding order_vertices order_box box_of
  left_names s e hs he c =
      let b = box_of o.sides o.samples o.threshold (eqb o.method 1) in
      let st = built_stage b o.rounds in (
        crossed-held o.sides o.samples o.threshold (eqb o.method 1) fit F st s e hs he c,
        ap (λ (y : List ℕ). get_or y (7 * s + e) none) table_is
            ∙ get_or-append (table_of b (built b o.rounds)) (drop (length (table_of b (built b o.rounds))) l.table) none (7 * s + e) low
            ∙ table_names o.sides o.samples o.threshold (eqb o.method 1) fit F st s e hs he c,
      )
    where
      low : 7 * s + e < length (order_table o)
      low = omega (arith, table-length (order_box o) (order_vertices o), hs, he)

  module _ (side : Bool) (B : OneSide o.sides o.samples o.threshold side) where
    -- AS MANY TRIANGLES RUN ONE WAY AS THE OTHER
    pub left-closed : (ts : List Tri) → take (3 * z.triangles) l'.triangles ≡ flat ts → (p q : ℕ) → count (runs p q) ts ≡ count (runs q p) ts
    unfolding order_vertices order_box
    left-closed ts e p q =
        let same : ts ≡ mesh_of (order_box o) (order_vertices o) = flat-same ts (mesh_of (order_box o) (order_vertices o)) (sym e ∙ left_triangles o l l' z D) in
        ap (count (runs p q)) same ∙ built-closed o.sides o.samples o.threshold (eqb o.method 1) side fit F B o.rounds p q ∙ ap (count (runs q p)) (sym same)

    -- the same of the list as it is read: three entries a triangle
    pub left-runs : (p q : ℕ) → count (runs p q) (tris_of (take (3 * z.triangles) l'.triangles)) ≡ count (runs q p) (tris_of (take (3 * z.triangles) l'.triangles))
    left-runs = left-closed (tris_of (take (3 * z.triangles) l'.triangles)) (sym (left_threes o l l' z D))

    pub left_balanced : Balanced (tris_of (take (3 * z.triangles) l'.triangles))
    unfolding order_vertices order_box
    left_balanced =
        subst Balanced (sym (ap tris_of (left_triangles o l l' z D) ∙ tris_flat (mesh_of (order_box o) (order_vertices o))))
        (stage_balanced o.sides o.samples o.threshold (eqb o.method 1) side fit F B (built_stage (box_of o.sides o.samples o.threshold (eqb o.method 1)) o.rounds))
