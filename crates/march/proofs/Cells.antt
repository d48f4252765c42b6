-- Laws of one cell: its corners by their numbers, and where it gives nothing. Assumes nothing.
use mathlib.Core.Path.{◌≡◌, refl, ap, ◌∙◌}
use mathlib.Core.Bool.{Bool, true, false, not, ◌||◌, cond}
use mathlib.Core.List.{List, [], map}
use Prim.Native.Nat.{ℕ, zero, suc, ◌<◌}
use native.Mathlib.Omega.{arith}
use lib.Dec.{T}
use lib.ListN.{length}
use Rattle.laws.specs.Bools.{all_bools}
use Rattle.laws.specs.Ranges.{all}
use Rattle.laws.specs.Triangles.{Tri}
use Rattle.laws.proofs.Bools.{bools_at}
use Rattle.laws.proofs.Ranges.{all-at, each_nil}
use Rattle.tables.specs.Edges.{du, dv, dw, corner_of}
use Rattle.tables.specs.Tets.{tet_label, tet_corner, edge_in}
use Rattle.tables.specs.Cases.{mt_row}
use Rattle.tables.proofs.Cases.{mt_none}
use Rattle.lattice.specs.Sites.{step}
use Rattle.march.specs.Cells.{Corners, at, case_of, tet_ok, case_no, on_each, tet_tris, cell_tris}
use Rattle.march.specs.March.{corners_of}

pub at-corner : (S : ℕ → ℕ → ℕ → Bool) (u v w c : ℕ) → c < 8 → at (corners_of S u v w) c ≡ S (step (du c) u) (step (dv c) v) (step (dw c) w)
unfolding at corners_of step du dv dw
at-corner S u v w zero h = refl
at-corner S u v w (suc zero) h = refl
at-corner S u v w (suc (suc zero)) h = refl
at-corner S u v w (suc (suc (suc zero))) h = refl
at-corner S u v w (suc (suc (suc (suc zero)))) h = refl
at-corner S u v w (suc (suc (suc (suc (suc zero))))) h = refl
at-corner S u v w (suc (suc (suc (suc (suc (suc zero)))))) h = refl
at-corner S u v w (suc (suc (suc (suc (suc (suc (suc zero))))))) h = refl
at-corner S u v w (suc (suc (suc (suc (suc (suc (suc (suc c)))))))) h = absurd (omega arith)

-- a tetrahedron of case 0 or 15 gives nothing
pub tet_nothing : (ok side : Corners) (t : ℕ) → mt_row (case_no ok side t) ≡ [] → tet_tris ok side t ≡ []
unfolding tet_tris
tet_nothing ok side t e = ap (λ (l : List Tri). map (on_each (edge_in t)) l) e

-- every tetrahedron has corner 7
needs_last : Corners → Bool
needs_last ok = at ok 7 || all 6 (λ t. not (tet_ok ok t))

last_needed : T (all_bools 8 needs_last)
unfolding all_bools needs_last all tet_ok at tet_corner tet_label corner_of
last_needed = tt

not_false : (b : Bool) → T (not b) → b ≡ false
not_false true t = absurd t
not_false false t = refl

pub cell_none : (ok side : Corners) → length ok ≡ 8 → at ok 7 ≡ false → cell_tris ok side ≡ []
unfolding cell_tris case_no needs_last
cell_none ok side l e =
    let t : T (false || all 6 (λ t. not (tet_ok ok t))) = rw e at (bools_at 8 needs_last last_needed ok l) in
    each_nil 6 (tet_tris ok side) (λ i h.
    tet_nothing ok side i
    (ap (λ (b : Bool). mt_row (cond b (case_of side i) 0)) (not_false (tet_ok ok i) (all-at 6 (λ t. not (tet_ok ok t)) t i h)) ∙ mt_none))
