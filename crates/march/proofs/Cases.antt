-- The cases of the march's cells are those of the samples; cells with all corners on one side give nothing. Assumes nothing.
use Rattle.std.specs.Prelude.{None, Some}
use mathlib.Core.Path.{◌≡◌, refl, sym, ap, ap₂, ◌∙◌}
use mathlib.Core.Bool.{Bool, true, false, ◌&&◌, cond}
use mathlib.Core.List.{List, [], ◌∷◌, map}
use Prim.Native.Nat.{ℕ, ◌≤◌, ◌<◌}
use lib.Dec.{lit<}
use lib.ListN.{length, get_or}
use lib.Ieee.{Float, nan}
use Rattle.laws.specs.Ranges.{each}
use Rattle.laws.specs.Lists.{keep}
use Rattle.laws.specs.Triangles.{Tri}
use Rattle.laws.proofs.Ranges.{each_nil, each_same}
use Rattle.tables.specs.Edges.{du, dv, dw}
use Rattle.tables.specs.Tets.{tet_corner}
use Rattle.tables.specs.Cases.{mt_row}
use Rattle.tables.proofs.Cases.{mt_none, mt_all}
use Rattle.samples.specs.Sides.{inside, finite}
use Rattle.lattice.specs.declared.Sides.{Sides}
use Rattle.lattice.specs.Sites.{SidesFit, sites, in_box, site_of, step}
use Rattle.sample_view.specs.View.{value_uvw}
use Rattle.sample_view.proofs.Laws.{value-box}
use Rattle.cases.specs.Cases.{is_there, is_below, corner_value, tetrahedron_case, cases_at}
use Rattle.cases.specs.Inner.Codes.{code, code_of, codes_of, case_by, case_on, code_sum}
use Rattle.cases.proofs.Codes.{corner-lt, case_codes, case_samples, codes_at, case_on_lem, code_of-low, sum_zeros, sum_ones, case_even}
use Rattle.march.specs.Cells.{Corners, at, case_of, tet_ok, case_no, on_each, tet_tris, cell_tris}
use Rattle.march.specs.March.{ok_at, side_at, vertex_at, corners_of, vertex_in, emitted, site_tris}
use Rattle.march.specs.Lists.{field_of}
use Rattle.march.proofs.Cells.{at-corner, tet_nothing}

-- for a box that fits and a sample for each site
module _ (n : Sides) (s : List Float) (h : Float) (edges : List ℕ) (f : SidesFit n) (l : sites n ≤ length s) where
  -- the number of a site's sample says whether the field has it and on which side
  value-says : (u v w : ℕ) → code_of (value_uvw n s u v w) h ≡ code (ok_at (field_of n s h edges) u v w) (side_at (field_of n s h edges) u v w)
  unfolding code_of ok_at side_at field_of code
  value-says u v w = rw (value-box n s f l u v w) (go (in_box n u v w) (get_or s (site_of n u v w) nan))
    where
      go : (b : Bool) (x : Float)
          → code (is_there (cond b (Some x) None)) (is_below (cond b (Some x) None) h) ≡ code (b && finite x) (inside x h)
      go true x = refl
      go false x = refl

  module _ (u v w : ℕ) where
    -- what the field has of the corners of the cell at (u, v, w)
    oks : Corners
    oks = corners_of (ok_at (field_of n s h edges)) u v w

    ins : Corners
    ins = corners_of (side_at (field_of n s h edges)) u v w

    corner-says : (c : ℕ) → c < 8 → code_of (corner_value n s u v w c) h ≡ code (at oks c) (at ins c)
    unfolding corner_value oks ins
    corner-says c b =
        value-says (step (du c) u) (step (dv c) v) (step (dw c) w)
        ∙ ap₂ code (sym (at-corner (ok_at (field_of n s h edges)) u v w c b)) (sym (at-corner (side_at (field_of n s h edges)) u v w c b))

    -- the case of a tetrahedron by its samples is the march's
    pub case_is : (t : ℕ) → t < 6
        → tetrahedron_case n s h u v w t ≡ case_no (corners_of (ok_at (field_of n s h edges)) u v w) (corners_of (side_at (field_of n s h edges)) u v w) t
    unfolding tetrahedron_case case_no tet_ok case_of oks ins
    case_is t b =
        let a0 = tet_corner t 0 in
        let a1 = tet_corner t 1 in
        let a2 = tet_corner t 2 in
        let a3 = tet_corner t 3 in
        let p = corner-says a0 (corner-lt t 0 b (lit< tt)) in
        let q = corner-says a1 (corner-lt t 1 b (lit< tt)) in
        let r = corner-says a2 (corner-lt t 2 b (lit< tt)) in
        let x = corner-says a3 (corner-lt t 3 b (lit< tt)) in
        sym (case_samples (corner_value n s u v w a0) (corner_value n s u v w a1) (corner_value n s u v w a2) (corner_value n s u v w a3) h)
        ∙ (λ i. case_by (p i) (q i) (r i) (x i))
        ∙ case_codes (at oks a0) (at oks a1) (at oks a2) (at oks a3) (at ins a0) (at ins a1) (at ins a2) (at ins a3)

    -- THE SIX CASES OF A SITE ARE THOSE OF THE MARCH
    pub march_cases : cases_at n s h u v w
        ≡ each 6 (λ t. case_no (corners_of (ok_at (field_of n s h edges)) u v w) (corners_of (side_at (field_of n s h edges)) u v w) t ∷ [])
    unfolding cases_at
    march_cases = each_same 6 _ _ (λ t b. ap (λ (k : ℕ). k ∷ []) (case_is t b))

  module _ (u v : ℕ) where
    -- the same by the numbers of the corners
    pub on-is : (t : ℕ) → t < 6
        → case_on (codes_of n s h u v) t ≡ case_no (corners_of (ok_at (field_of n s h edges)) u v 0) (corners_of (side_at (field_of n s h edges)) u v 0) t
    on-is t b = case_on_lem n s h u v t b ∙ case_is u v 0 t b

    -- ---- cells without a crossed tetrahedron

    even_cell : (k : ℕ) → ((c : ℕ) → c < 8 → get_or (codes_of n s h u v) c 0 ≡ k) → mt_row (case_by k k k k) ≡ [] → site_tris (field_of n s h edges) u v 0 ≡ []
    unfolding site_tris cell_tris keep
    even_cell k same nothing =
        let ok = corners_of (ok_at (field_of n s h edges)) u v 0 in
        let side = corners_of (side_at (field_of n s h edges)) u v 0 in
        let g : Tri → Tri = on_each (vertex_in (vertex_at (field_of n s h edges)) u v 0) in
        ap (λ (l : List Tri). keep emitted (map g l))
        (each_nil 6 (tet_tris ok side) (λ t b.
        tet_nothing ok side t (ap mt_row (sym (on-is t b) ∙ case_even (codes_of n s h u v) k same t b) ∙ nothing)))

    -- all corners are outside
    pub outside-none : code_sum (codes_of n s h u v) ≡ 0 → site_tris (field_of n s h edges) u v 0 ≡ []
    unfolding case_by
    outside-none e = even_cell 0 (sum_zeros (codes_of n s h u v) e) mt_none

    -- all corners are inside
    pub inside-none : code_sum (codes_of n s h u v) ≡ 8 → site_tris (field_of n s h edges) u v 0 ≡ []
    unfolding case_by
    inside-none e = even_cell 1 (sum_ones (codes_of n s h u v) e (λ c b. rw (codes_at n s h u v c b) (code_of-low (corner_value n s u v 0 c) h))) mt_all
