-- A corner as one number, 0 outside, 1 inside, 16 where it is not there; the cases from such numbers; what the loops over them ask for. Assumes nothing.
use Rattle.std.specs.Prelude.{◌≡◌, Bool, cond, List, [], ◌∷◌, ℕ, suc, ◌+◌, ◌*◌, ◌≤◌, ◌<◌, ltb, length, get_or, Float, Option, Some}
use Rattle.std.specs.Float.{nan}
use Rattle.laws.specs.Bools.{bit}
use Rattle.laws.specs.Ranges.{each, sum}
use Rattle.tables.specs.Tets.{tet_corner}
use Rattle.lattice.specs.declared.Sides.{Sides}
use Rattle.lattice.specs.Sites.{SidesFit}
use Rattle.sample_view.specs.View.{value_uvw}
use Rattle.cases.specs.Cases.{is_there, is_below, corner_value}

unfoldable pub code : Bool → Bool → ℕ
code ok side = cond ok (bit side) 16

unfoldable pub code_of : Option Float → Float → ℕ
code_of x h = code (is_there x) (is_below x h)

unfoldable pub value_code : Float → Float → ℕ
value_code v h = code_of (Some v) h

-- the eight corners of the cell at (u, v) of the first layer, in the order of their numbers
unfoldable pub codes_of : Sides → List Float → Float → ℕ → ℕ → List ℕ
codes_of n s h u v = each 8 (λ c. code_of (corner_value n s u v 0 c) h ∷ [])

-- the four of them at u, in the order of v and w; from the list, where site i has rows of nu sites and layers of nn
unfoldable pub column_of : Sides → List Float → Float → ℕ → ℕ → List ℕ
column_of n s h u v = code_of (value_uvw n s u v 0) h ∷ code_of (value_uvw n s u (suc v) 0) h ∷ code_of (value_uvw n s u v 1) h ∷ code_of (value_uvw n s u (suc v) 1) h ∷ []

unfoldable pub column_at : List Float → Float → ℕ → ℕ → ℕ → List ℕ
column_at s h i nu nn =
    value_code (get_or s i nan) h ∷ value_code (get_or s (i + nu) nan) h ∷ value_code (get_or s (i + nn) nan) h ∷ value_code (get_or s (i + nu + nn) nan) h ∷ []

-- two columns as the corners of a cell
unfoldable pub joined : List ℕ → List ℕ → List ℕ
joined l r = get_or l 0 0 ∷ get_or r 0 0 ∷ get_or l 1 0 ∷ get_or r 1 0 ∷ get_or l 2 0 ∷ get_or r 2 0 ∷ get_or l 3 0 ∷ get_or r 3 0 ∷ []

-- the case of four corners: below 16 where all are there
unfoldable pub case_by : ℕ → ℕ → ℕ → ℕ → ℕ
case_by a b c d = let x = a + 2 * b + 4 * c + 8 * d in cond (ltb x 16) x 0

-- of tetrahedron t, from the eight numbers
unfoldable pub case_on : List ℕ → ℕ → ℕ
case_on l t = case_by (get_or l 0 0) (get_or l (tet_corner t 1) 0) (get_or l (tet_corner t 2) 0) (get_or l (tet_corner t 3) 0)

-- all eight together: 0 where all are outside, 8 where all are inside
unfoldable pub code_sum : List ℕ → ℕ
code_sum l = sum 8 (λ c. get_or l c 0)

-- ---- what the functions ask for

-- the numbers of eight corners
pub record Coded (l : List ℕ) : Type 0 where
  pub eight : length l ≡ 8
  pub small : (c : ℕ) → c < 8 → get_or l c 0 ≤ 16

-- the site (u, v) of the first layer of a box
pub record Placed (n : Sides) (u v : ℕ) : Type 0 where
  pub fit : SidesFit n
  pub on_u : u < n.nu
  pub on_v : v < n.nv
