-- The cases of two sites of a small box, which antt computes. Assumes nothing.
use Rattle.std.specs.Prelude.{◌≡◌, refl, Bool, true, false, List, [], ◌∷◌, ℕ, pos, Float}
use Rattle.std.specs.Float.{fin}
use Rattle.std.specs.Float.Ieee.{lt, neg, of_bits}
use Rattle.laws.specs.Bools.{bit}
use Rattle.laws.specs.Ranges.{each}
use Rattle.tables.specs.Edges.{du, dv, dw, corner_of}
use Rattle.tables.specs.Tets.{tet_label, tet_corner}
use Rattle.samples.specs.Sides.{base, inside, finite}
use Rattle.lattice.specs.declared.Sides.{Sides}
use Rattle.lattice.specs.Sites.{side_ok, sides_ok, in_box, site_of, step}
use Rattle.sample_view.specs.View.{entry_at, value_uvw}
use Rattle.cases.specs.Cases.{case_from, corner_value, tetrahedron_case, cases_at}

abbrev pub whole : Bool → ℕ → Float
whole minus n = fin minus n (pos 0)

-- 2 x 2 x 2, only site 0 inside: each tetrahedron of its cell has that corner alone; a site at the border has corners outside the box

abbrev pub two : Sides
two = record { nu = 2; nv = 2; nw = 2 }

unfoldable pub lone : List Float
lone = whole true 1 ∷ whole false 1 ∷ whole false 1 ∷ whole false 1 ∷ whole false 1 ∷ whole false 1 ∷ whole false 1 ∷ whole false 1 ∷ []

pub lone_cases : cases_at two lone base 0 0 0 ≡ 1 ∷ 1 ∷ 1 ∷ 1 ∷ 1 ∷ 1 ∷ []
unfolding lone cases_at tetrahedron_case corner_value case_from each value_uvw entry_at sides_ok side_ok in_box site_of step tet_corner tet_label corner_of du dv dw inside finite bit lt neg of_bits
lone_cases = refl

pub border_cases : cases_at two lone base 1 0 0 ≡ 0 ∷ 0 ∷ 0 ∷ 0 ∷ 0 ∷ 0 ∷ []
unfolding lone cases_at tetrahedron_case corner_value case_from each value_uvw entry_at sides_ok side_ok in_box site_of step tet_corner tet_label corner_of du dv dw inside finite bit lt neg of_bits
border_cases = refl
