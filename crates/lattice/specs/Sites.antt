-- The box: sides, numbers and coordinates of its sites, and their places in the lattice. Assumes nothing.
use Rattle.std.specs.Prelude.{Bool, ◌&&◌, ◌||◌, ℕ, zero, suc, ◌+◌, ◌*◌, ◌-◌, ◌/◌, ◌%◌, ◌≤◌, ◌<◌, eqb, ltb, leb, pos, ◌-ℤ◌}
use Rattle.lattice.specs.declared.Sides.{Sides}
use Rattle.lattice.specs.declared.Uvw.{Uvw}
use Rattle.lattice.specs.declared.Ijk.{Ijk}

-- ---- the sides: 1 to 32 each

unfoldable pub side_ok : ℕ → Bool
side_ok n = ltb 0 n && leb n 32

unfoldable pub sides_ok : Sides → Bool
sides_ok n = side_ok n.nu && side_ok n.nv && side_ok n.nw

pub record SidesFit (n : Sides) : Type 0 where
  pub u_some : 0 < n.nu
  pub u_most : n.nu ≤ 32
  pub v_some : 0 < n.nv
  pub v_most : n.nv ≤ 32
  pub w_some : 0 < n.nw
  pub w_most : n.nw ≤ 32

unfoldable pub sites : Sides → ℕ
sites n = n.nu * n.nv * n.nw

unfoldable pub cells : Sides → ℕ
cells n = (n.nu - 1) * (n.nv - 1) * (n.nw - 1)

-- ---- coordinates

unfoldable pub in_box : Sides → ℕ → ℕ → ℕ → Bool
in_box n u v w = ltb u n.nu && ltb v n.nv && ltb w n.nw

pub record InBox (n : Sides) (p : Uvw) : Type 0 where
  pub on_u : p.u < n.nu
  pub on_v : p.v < n.nv
  pub on_w : p.w < n.nw

-- the number of the site (u, v, w), and back
unfoldable pub site_of : Sides → ℕ → ℕ → ℕ → ℕ
site_of n u v w = u + n.nu * (v + n.nv * w)

unfoldable pub uvw_of : Sides → ℕ → Uvw
uvw_of n s = record { u = s % n.nu; v = s / n.nu % n.nv; w = s / n.nu / n.nv }

-- a coordinate is 0 or the largest
unfoldable pub at_end : ℕ → ℕ → Bool
at_end x n = eqb x 0 || eqb x (n - 1)

unfoldable pub on_border : Sides → ℕ → ℕ → ℕ → Bool
on_border n u v w = at_end u n.nu || at_end v n.nv || at_end w n.nw

-- a coordinate moved by 0 or 1
unfoldable pub step : ℕ → ℕ → ℕ
step zero u = u
step (suc d) u = suc u

-- ---- ijk

unfoldable pub ijk_of : ℕ → ℕ → ℕ → Ijk
ijk_of u v w = record { i = pos w -ℤ pos (u + v); j = pos u -ℤ pos v; k = pos 0 -ℤ pos w }
