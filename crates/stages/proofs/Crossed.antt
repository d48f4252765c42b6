-- The crossed edges of the march are those that are counted, and at every stage of a build of finite samples each of them has a vertex. Assumes nothing.
use Rattle.std.specs.Prelude.{None, Some}
use mathlib.Core.Path.{◌≡◌, refl, sym, ◌∙◌}
use mathlib.Core.Logic.{◌≢◌}
use mathlib.Core.Bool.{Bool, true, false, not, ◌&&◌, cond, beq}
use mathlib.Core.List.{List}
use Prim.Native.Nat.{ℕ, ◌+◌, ◌*◌, ◌<◌, ◌≤◌}
use native.Mathlib.Omega.{arith}
use lib.Dec.{ltb}
use borrow.Author.Tests.{ltb-true, lt-ltb}
use lib.ListN.{length}
use Rattle.lattice.specs.declared.Sides.{Sides}
use lib.Ieee.{Float}
use Rattle.stages.specs.Vertices.{Vertex}
use Rattle.stages.specs.Meshes.{field_of}
use Rattle.stages.specs.Stages.{Held, Stage}
use Rattle.stages.specs.Samples.{AllFinite, box_of}
use Rattle.stages.proofs.Longer.{stage_few}
use Rattle.stages.proofs.Demand.{crossed-held, sample_sound}
use Rattle.tables.specs.Edges.{corner_of, du, dv, dw}
use Rattle.lattice.specs.Sites.{SidesFit, in_box, site_of, step}
use Rattle.lattice.specs.Across.{across_of, upward}
use Rattle.march.specs.March.{none, side_at, vertex_at}
use Rattle.march.specs.Runs.{crossed}
use Rattle.samples.specs.Sides.{crosses, crossing, inside, mark_fraction}
use Rattle.marks.specs.Marks.{crossed_by, is_crossed, sample}
use Rattle.laws.proofs.Bools.{and-apart}
use Rattle.lattice.proofs.Sites.{site-lt}
use Rattle.lattice.proofs.OtherEnds.{above-across, box_in}

crosses-is : (a c h : Float) → crosses (crossing a c h) ≡ not (beq (inside a h) (inside c h))
unfolding crossing
crosses-is a c h = go (beq (inside a h) (inside c h))
  where
    go : (d : Bool) → crosses (cond d None (Some (mark_fraction a c))) ≡ not d
    go true = refl
    go false = refl

-- the site across an owned edge by coordinates
across-is : (n : Sides) (u v w l : ℕ) → in_box n u v w ≡ true → l < 7
    → across_of n (site_of n u v w) l
    ≡ cond (in_box n (step (du (corner_of l)) u) (step (dv (corner_of l)) v) (step (dw (corner_of l)) w))
    (Some (site_of n (step (du (corner_of l)) u) (step (dv (corner_of l)) v) (step (dw (corner_of l)) w))) None
unfolding upward
across-is n u v w l i hl = sym (above-across n (record { u = u; v = v; w = w }) l (box_in n u v w i) hl)

module _ (n : Sides) (S : List Float) (h : Float) (cluster : Bool) (vs : List Vertex) where
  -- an owned edge of a site of the box is crossed for the march as it is for the count
  pub crossed-is : (u v w l : ℕ) → in_box n u v w ≡ true → l < 7 → crossed (field_of (box_of n S h cluster) vs) u v w l ≡ is_crossed n S h (site_of n u v w) l
  unfolding crossed is_crossed field_of box_of side_at crossed_by
  crossed-is u v w l i hl =
      rw (lt-ltb l 7 hl, i, across-is n u v w l i hl) (go (in_box n (step (du (corner_of l)) u) (step (dv (corner_of l)) v) (step (dw (corner_of l)) w)))
    where
      t : ℕ
      t = site_of n (step (du (corner_of l)) u) (step (dv (corner_of l)) v) (step (dw (corner_of l)) w)

      go : (c : Bool) → c && not (beq (inside (sample S (site_of n u v w)) h) (inside (sample S t) h)) ≡ crossed_by S h (site_of n u v w) (cond c (Some t) None)
      go true = sym (crosses-is (sample S (site_of n u v w)) (sample S t) h)
      go false = refl

  pub crossed_label : (u v w l : ℕ) → crossed (field_of (box_of n S h cluster) vs) u v w l ≡ true → (l < 7) × (in_box n u v w ≡ true)
  unfolding crossed field_of box_of
  crossed_label u v w l c =
      let p = and-apart (ltb l 7 && in_box n u v w && in_box n (step (du (corner_of l)) u) (step (dv (corner_of l)) v) (step (dw (corner_of l)) w)) _ c in
      let q = and-apart (ltb l 7 && in_box n u v w) (in_box n (step (du (corner_of l)) u) (step (dv (corner_of l)) v) (step (dw (corner_of l)) w)) p.0 in
      let r = and-apart (ltb l 7) (in_box n u v w) q.0 in
      (ltb-true l 7 r.0, r.1)

  module _ (f : SidesFit n) (F : AllFinite n S) (st : Stage (box_of n S h cluster) vs) where
    -- EVERY CROSSED EDGE OF THE MARCH IS HELD BY EXACTLY ONE UNRETIRED VERTEX
    pub march-held : (u v w l : ℕ) → crossed (field_of (box_of n S h cluster) vs) u v w l ≡ true → Held (box_of n S h cluster) vs (7 * site_of n u v w + l)
    march-held u v w l c =
        let k = crossed_label u v w l c in
        crossed-held n S h cluster f F st (site_of n u v w) l (site-lt n (record { u = u; v = v; w = w }) (box_in n u v w k.1)) k.0
        (sym (crossed-is u v w l k.1 k.0) ∙ c)

    -- so the march finds a vertex at each: the premise of the balance of the mesh
    pub march-named : (u v w l : ℕ) → crossed (field_of (box_of n S h cluster) vs) u v w l ≡ true → vertex_at (field_of (box_of n S h cluster) vs) u v w l ≢ none
    unfolding vertex_at field_of box_of crossed side_at
    march-named u v w l c e =
        let k = march-held u v w l c in
        let m : length vs ≤ none = stage_few (box_of n S h cluster) (sample_sound n S h cluster f) st in
        omega (arith, k.names, k.low, m, e)
