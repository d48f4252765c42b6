-- Vertices by site and label: every edge has a vertex, and each its own. Assumes nothing.
use mathlib.Core.Path.{◌≡◌, refl, sym, ap, ◌∙◌}
use mathlib.Core.Logic.{◌≢◌}
use mathlib.Core.Bool.{Bool, true, not, ◌&&◌, beq}
use Prim.Native.Nat.{ℕ, ◌<◌}
use native.Mathlib.Omega.{arith}
use borrow.Author.Tests.{ltb-true}
use lib.Dec.{ltb}
use Rattle.laws.proofs.Bools.{and-apart}
use Rattle.tables.specs.Edges.{corner_of, du, dv, dw}
use Rattle.lattice.specs.declared.Sides.{Sides}
use Rattle.lattice.specs.declared.Uvw.{Uvw}
use Rattle.lattice.specs.Sites.{SidesFit, in_box, site_of, uvw_of, on_border, step}
use Rattle.lattice.proofs.Sites.{sites-most, site-lt, uvw_site}
use Rattle.lattice.proofs.OtherEnds.{box_in}
use Rattle.march.specs.March.{Field, none, side_at, vertex_at}
use Rattle.march.specs.Runs.{crossed}
use Rattle.march_balance.specs.Fit.{Fit, Own}
use Rattle.march_balance.specs.Numbered.{numbered}

-- a crossed edge is an owned edge of a site of the box
pub crossed-owned : (F : Field) (u v w l : ℕ) → crossed F u v w l ≡ true → (l < 7) × (in_box F.box u v w ≡ true)
unfolding crossed
crossed-owned F u v w l e =
    let u' = step (du (corner_of l)) u in
    let v' = step (dv (corner_of l)) v in
    let w' = step (dw (corner_of l)) w in
    let r = and-apart (ltb l 7 && in_box F.box u v w && in_box F.box u' v' w') (not (beq (side_at F u v w) (side_at F u' v' w'))) e in
    let s = and-apart (ltb l 7 && in_box F.box u v w) (in_box F.box u' v' w') r.0 in
    let t = and-apart (ltb l 7) (in_box F.box u v w) s.0 in
    (ltb-true l 7 t.0, t.1)

module _ (n : Sides) (side : ℕ → Bool) (f : SidesFit n) where
  pub numbered-named : (u v w l : ℕ) → crossed (numbered n side) u v w l ≡ true → vertex_at (numbered n side) u v w l ≢ none
  unfolding numbered vertex_at none
  numbered-named u v w l e q =
      let r = crossed-owned (numbered n side) u v w l e in
      omega (arith, q, r.0, site-lt n (record { u = u; v = v; w = w }) (box_in n u v w r.1), sites-most n f)

  -- the premises hold where the border is on one side
  pub numbered-fit : (o : Bool) → ((u v w : ℕ) → in_box n u v w ≡ true → on_border n u v w ≡ true → side (site_of n u v w) ≡ o) → Fit (numbered n side) o
  unfolding numbered side_at
  numbered-fit o b = record { finite = λ u v w i. refl; border = b; named = numbered-named }

  pub numbered-own : Own (numbered n side)
  unfolding Own numbered vertex_at
  numbered-own u v w l u' v' w' l' e e' q =
      let r = crossed-owned (numbered n side) u v w l e in
      let r' = crossed-owned (numbered n side) u' v' w' l' e' in
      let s : site_of n u v w ≡ site_of n u' v' w' = omega (arith, q, r.0, r'.0) in
      let m : l ≡ l' = omega (arith, q, r.0, r'.0) in
      let x = uvw_site n (record { u = u; v = v; w = w }) (box_in n u v w r.1) in
      let x' = uvw_site n (record { u = u'; v = v'; w = w' }) (box_in n u' v' w' r'.1) in
      let p = sym x ∙ ap (uvw_of n) s ∙ x' in
      (ap (λ (t : Uvw). t.u) p, ap (λ (t : Uvw). t.v) p, ap (λ (t : Uvw). t.w) p, m)
