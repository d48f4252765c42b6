-- Where a corner's sample stands; the columns of a row of cells, and the corners of a cell from the two beside it. Assumes nothing.
use mathlib.Core.Path.{◌≡◌, ap, ◌∙◌}
use mathlib.Core.List.{List, [], ◌∷◌}
use Prim.Native.Nat.{ℕ, suc, ◌+◌, ◌*◌, ◌/◌, ◌%◌, ◌≤◌, ◌<◌}
use native.Mathlib.Nat.{mul-le-mul_left}
use native.Mathlib.Omega.{arith}
use lib.ListN.{length, get_or}
use lib.Ieee.{Float, nan}
use Rattle.laws.specs.Ranges.{each}
use Rattle.tables.specs.Edges.{du, dv, dw}
use Rattle.tables.proofs.Edges.{steps_lt}
use Rattle.lattice.specs.declared.Sides.{Sides}
use Rattle.lattice.specs.Sites.{SidesFit, site_of, sites, step}
use Rattle.lattice.proofs.Sites.{step-add}
use Rattle.lattice.proofs.OtherEnds.{in_box_lem}
use Rattle.sample_view.specs.View.{value_uvw}
use Rattle.sample_view.proofs.Laws.{value-box}
use Rattle.cases.specs.Cases.{corner_value}
use Rattle.cases.specs.Inner.Codes.{code_of, codes_of, column_at, column_of, joined, value_code}

-- the corner c of the cell at (u, v), by the view
pub corner_view : (n : Sides) (s : List Float) (u v c : ℕ) → value_uvw n s (u + c % 2) (v + c / 2 % 2) (c / 4 % 2) ≡ corner_value n s u v 0 c
unfolding corner_value du dv dw
corner_view n s u v c =
    let b = steps_lt c in
    let z : step (c / 4 % 2) 0 ≡ c / 4 % 2 = omega (arith, step-add (c / 4 % 2) 0 b.2) in
    rw (step-add (c % 2) u b.0, step-add (c / 2 % 2) v b.1, z)

-- the corners of a cell are its two columns
pub columns_codes : (n : Sides) (s : List Float) (h : Float) (u v : ℕ) → joined (column_of n s h u v) (column_of n s h (u + 1) v) ≡ codes_of n s h u v
unfolding joined column_of codes_of corner_value each step du dv dw
columns_codes n s h u v =
    let e : u + 1 ≡ suc u = omega arith in
    ap (λ (w : ℕ). joined (column_of n s h u v) (column_of n s h w v)) e

pub column-length : (n : Sides) (s : List Float) (h : Float) (u v : ℕ) → length (column_of n s h u v) ≡ 4
unfolding column_of
column-length n s h u v = omega arith

-- a box of at least two layers, and a sample for each site
module _ (n : Sides) (s : List Float) (f : SidesFit n) (two : 1 < n.nw) (l : sites n ≤ length s) where
  -- a sample in the box, read off the list
  place : (h : Float) (u v w i : ℕ) → u < n.nu → v < n.nv → w < n.nw → i ≡ site_of n u v w → value_code (get_or s i nan) h ≡ code_of (value_uvw n s u v w) h
  unfolding value_code
  place h u v w i hu hv hw e = rw (value-box n s f l u v w, in_box_lem n (record { u = u; v = v; w = w }) (record { on_u = hu; on_v = hv; on_w = hw }), e)

  module _ (u v : ℕ) (hu : u < n.nu) (hv : v + 1 < n.nv) where
    pub column-room : u + n.nu * v + n.nu + n.nu * n.nv < length s
    unfolding sites
    column-room =
        let a : n.nu * (v + 2) ≤ n.nu * n.nv = mul-le-mul_left n.nu (omega arith) in
        let b : n.nu * n.nv * 2 ≤ n.nu * n.nv * n.nw = mul-le-mul_left (n.nu * n.nv) two in
        omega (arith, l)

    pub column-is : (h : Float) → column_at s h (u + n.nu * v) n.nu (n.nu * n.nv) ≡ column_of n s h u v
    unfolding column_at column_of site_of
    column-is h =
        let a = place h u v 0 (u + n.nu * v) hu (omega arith) (omega arith) (omega arith) in
        let b = place h u (suc v) 0 (u + n.nu * v + n.nu) hu (omega arith) (omega arith) (omega arith) in
        let c = place h u v 1 (u + n.nu * v + n.nu * n.nv) hu (omega arith) (omega arith) (omega arith) in
        let d = place h u (suc v) 1 (u + n.nu * v + n.nu + n.nu * n.nv) hu (omega arith) (omega arith) (omega arith) in
        λ i. a i ∷ b i ∷ c i ∷ d i ∷ []

  -- the cell between a column and the next one, which is read from the list
  module _ (u v : ℕ) (hu : u + 1 < n.nu) (hv : v + 1 < n.nv) where
    shift : u + n.nu * v + 1 ≡ u + 1 + n.nu * v
    shift = omega arith

    pub right-room : u + n.nu * v + 1 + n.nu + n.nu * n.nv < length s
    right-room = omega (arith, column-room (u + 1) v hu hv)

    module _ (h : Float) (left right : List ℕ) (e : left ≡ column_of n s h u v) (r : right ≡ column_at s h (u + n.nu * v + 1) n.nu (n.nu * n.nv)) where
      pub right_is : right ≡ column_of n s h (u + 1) v
      right_is = r ∙ ap (λ (i : ℕ). column_at s h i n.nu (n.nu * n.nv)) shift ∙ column-is (u + 1) v hu hv h

      pub both-four : (length left ≡ 4) × (length right ≡ 4)
      both-four = (ap length e ∙ column-length n s h u v, ap length right_is ∙ column-length n s h (u + 1) v)

      pub cell_codes : (codes : List ℕ) → codes ≡ joined left right → codes ≡ codes_of n s h u v
      cell_codes codes j = j ∙ (λ i. joined (e i) (right_is i)) ∙ columns_codes n s h u v
