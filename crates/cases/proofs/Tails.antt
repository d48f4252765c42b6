-- The cases of a site from the samples from its layer's first site on: where the layer starts, and that they are the same. Assumes nothing.
use Rattle.std.specs.Prelude.{None, Some}
use mathlib.Core.Path.{◌≡◌, sym, ap, ◌∙◌}
use mathlib.Core.Bool.{Bool, ◌&&◌, cond}
use mathlib.Core.Logic.{⊎_elim}
use mathlib.Core.List.{List, [], ◌∷◌}
use Prim.Native.Nat.{ℕ, zero, suc, ◌+◌, ◌*◌, ◌-◌, ◌≤◌, ◌<◌}
use native.Mathlib.Nat.{add-zero, mul-le-mul_left}
use native.Mathlib.Omega.{arith}
use lib.Dec.{ltb}
use borrow.Author.Tests.{lt-ltb, le-ltb}
use lib.ListN.{length, get_or, drop, length-drop}
use lib.Seq.{get_or-drop}
use lib.Ieee.{Float, nan}
use Rattle.laws.proofs.Ranges.{lt-or, each_same}
use Rattle.tables.specs.Edges.{du, dv, dw}
use Rattle.tables.specs.Tets.{tet_corner}
use Rattle.lattice.specs.declared.Sides.{Sides}
use Rattle.lattice.specs.declared.Uvw.{Uvw}
use Rattle.lattice.specs.Sites.{SidesFit, InBox, sites, in_box, site_of, step}
use Rattle.lattice.proofs.Sites.{layer_most, sites-most}
use Rattle.sample_view.specs.View.{value_uvw}
use Rattle.sample_view.proofs.Laws.{value-box}
use Rattle.cases.specs.Cases.{case_from, corner_value, tetrahedron_case, cases_at}
use Rattle.cases.specs.Inner.Codes.{Placed}

-- the layers from w on, alone
abbrev from : Sides → ℕ → Sides
from n w = record { nu = n.nu; nv = n.nv; nw = n.nw - w }

-- where layer w starts
abbrev start : Sides → ℕ → ℕ
start n w = w * (n.nu * n.nv)

-- ---- the part of the box

module _ (n : Sides) (s : List Float) (w : ℕ) (f : SidesFit n) (l : sites n ≤ length s) (h : w < n.nw) where
  from-fit : SidesFit (from n w)
  from-fit = record {
    u_some = f.u_some;
    u_most = f.u_most;
    v_some = f.v_some;
    v_most = f.v_most;
    w_some = omega arith;
    w_most = omega (arith, f.w_most);
  }

  from-reach : sites (from n w) ≤ length (drop (start n w) s)
  unfolding sites
  from-reach = rw length-drop (rest (n.nu * n.nv) w (n.nw - w) (length s) (rw (whole n.nw w h) l))
    where
      whole : (k w : ℕ) → w < k → w + (k - w) ≡ k
      whole k w h = omega arith

      rest : (x w k m : ℕ) → x * (w + k) ≤ m → x * k ≤ m - w * x
      rest x w k m h = omega arith

  -- ---- the same samples

  from-site : (u v d : ℕ) → start n w + site_of (from n w) u v d ≡ site_of n u v (w + d)
  unfolding site_of
  from-site u v d = omega arith

  from_in : (u v d : ℕ) → in_box (from n w) u v d ≡ in_box n u v (w + d)
  unfolding in_box
  from_in u v d = ap (λ (b : Bool). ltb u n.nu && ltb v n.nv && b) (later n.nw d)
    where
      later : (k d : ℕ) → ltb d (k - w) ≡ ltb (w + d) k
      later k d =
          ⊎_elim (λ a. lt-ltb d (k - w) a ∙ sym (lt-ltb (w + d) k (omega arith)))
          (λ a. le-ltb d (k - w) a ∙ sym (le-ltb (w + d) k (omega arith))) (lt-or d (k - w))

  from-value : (u v d : ℕ) → value_uvw (from n w) (drop (start n w) s) u v d ≡ value_uvw n s u v (w + d)
  from-value u v d =
      value-box (from n w) (drop (start n w) s) from-fit from-reach u v d
      ∙ (λ i. cond (from_in u v d i) (Some ((get_or-drop (start n w) s (site_of (from n w) u v d) nan ∙ ap (λ (j : ℕ). get_or s j nan) (from-site u v d)) i)) None)
      ∙ sym (value-box n s f l u v (w + d))

  from-corner : (u v c : ℕ) → corner_value (from n w) (drop (start n w) s) u v 0 c ≡ corner_value n s u v w c
  unfolding corner_value step
  from-corner u v c = from-value (step (du c) u) (step (dv c) v) (step (dw c) 0) ∙ ap (value_uvw n s (step (du c) u) (step (dv c) v)) (up (dw c))
    where
      up : (d : ℕ) → w + step d 0 ≡ step d w
      up zero = add-zero w
      up (suc d) = omega arith

  -- ---- the same cases

  pub from_cases : (h : Float) (u v : ℕ) → cases_at (from n w) (drop (start n w) s) h u v 0 ≡ cases_at n s h u v w
  unfolding cases_at tetrahedron_case
  from_cases h u v = each_same 6 _ _ (λ t b. λ i.
      case_from (from-corner u v (tet_corner t 0) i) (from-corner u v (tet_corner t 1) i) (from-corner u v (tet_corner t 2) i) (from-corner u v (tet_corner t 3) i) h ∷ [])

-- where the site's layer starts, and what is left from there
pub record SiteRoom (n : Sides) (s : List Float) (w : ℕ) : Type 0 where
  pub layer : n.nu * n.nv ≤ 1024
  pub small : w * (n.nu * n.nv) ≤ 32768
  pub start : w * (n.nu * n.nv) ≤ length s

pub site_room_lem : (n : Sides) (s : List Float) (p : Uvw) → SidesFit n → InBox n p → sites n ≤ length s → SiteRoom n s p.w
unfolding sites
site_room_lem n s p f b l =
    let a : n.nu * n.nv * (p.w + 1) ≤ n.nu * n.nv * n.nw = mul-le-mul_left (n.nu * n.nv) (omega (arith, b.on_w)) in
    let c : n.nu * n.nv * n.nw ≤ 32768 = sites-most n f in
    record { layer = layer_most n f; small = omega arith; start = omega arith }

pub site_placed : (n : Sides) (s : List Float) (p : Uvw) → SidesFit n → InBox n p → sites n ≤ length s → Placed (from n p.w) p.u p.v
site_placed n s p f b l = record { fit = from-fit n s p.w f l b.on_w; on_u = b.on_u; on_v = b.on_v }
