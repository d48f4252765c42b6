-- If all samples are finite and those on the border lie on one side, as many triangles run from a vertex to another as back: after the vertex pass,
-- after the split, after each round, and for every other grouping of the crossed edges into vertices. Assumes nothing.
use mathlib.Core.Path.{◌≡◌, sym, ◌∙◌}
use mathlib.Core.Logic.{◌≢◌}
use mathlib.Core.Bool.{Bool, true}
use mathlib.Core.List.{List, []}
use Prim.Native.Nat.{ℕ, ◌<◌}
use lib.Ieee.{Float}
use Rattle.laws.specs.Lists.{count}
use Rattle.laws.specs.Triangles.{Balanced}
use Rattle.lattice.specs.declared.Sides.{Sides}
use Rattle.lattice.specs.Sites.{SidesFit, sites, in_box, site_of}
use Rattle.lattice.proofs.Sites.{site-lt}
use Rattle.lattice.proofs.OtherEnds.{box_in}
use Rattle.march.specs.March.{none, side_at, vertex_at, march}
use Rattle.march.specs.Runs.{runs, crossed}
use Rattle.march.specs.Finer.{renamed}
use Rattle.marks.specs.Marks.{is_crossed}
use Rattle.stages.specs.Vertices.{Vertex}
use Rattle.stages.specs.Meshes.{field_of, mesh_of}
use Rattle.stages.specs.Rounds.{built}
use Rattle.stages.specs.Samples.{box_of, AllFinite}
use Rattle.stages.specs.Stages.{Stage}
use Rattle.stages.proofs.Stages.{built_stage}
use Rattle.stages.proofs.Crossed.{crossed-is, crossed_label, march-named}
use Rattle.march_balance.specs.Fit.{Fit}
use Rattle.march_balance.proofs.Balance.{balance, march_even}
use Rattle.build_balance.specs.Border.{OneSide}

module _ (n : Sides) (S : List Float) (h : Float) (cluster : Bool) (o : Bool) (f : SidesFit n) (F : AllFinite n S) (B : OneSide n S h o) where
  site_in : (u v w : ℕ) → in_box n u v w ≡ true → site_of n u v w < sites n
  site_in u v w i = site-lt n (record { u = u; v = v; w = w }) (box_in n u v w i)

  -- ---- the stages of a build

  pub stage_fit : {vs : List Vertex} → Stage (box_of n S h cluster) vs → Fit (field_of (box_of n S h cluster) vs) o
  unfolding field_of box_of AllFinite OneSide side_at
  stage_fit {vs} st = record { finite = λ u v w i. F (site_of n u v w) (site_in u v w i); border = B; named = march-named n S h cluster vs f F st }

  pub stage_closed : {vs : List Vertex} → Stage (box_of n S h cluster) vs → (p q : ℕ)
      → count (runs p q) (mesh_of (box_of n S h cluster) vs) ≡ count (runs q p) (mesh_of (box_of n S h cluster) vs)
  unfolding mesh_of
  stage_closed {vs} st p q = balance (field_of (box_of n S h cluster) vs) o (stage_fit st) p q

  -- the same of their sides: those that run from p to q are as many as those that run back
  pub stage_balanced : {vs : List Vertex} → Stage (box_of n S h cluster) vs → Balanced (mesh_of (box_of n S h cluster) vs)
  unfolding mesh_of
  stage_balanced {vs} st = record { even = march_even (field_of (box_of n S h cluster) vs) o (stage_fit st) }

  pub built-closed : (R p q : ℕ)
      → count (runs p q) (mesh_of (box_of n S h cluster) (built (box_of n S h cluster) R)) ≡ count (runs q p) (mesh_of (box_of n S h cluster) (built (box_of n S h cluster) R))
  built-closed R p q = stage_closed (built_stage (box_of n S h cluster) R) p q

  -- ---- every other grouping: any lookup that gives each crossed edge a vertex

  module _ (g : ℕ → ℕ → ℕ) (k : (s l : ℕ) → s < sites n → l < 7 → is_crossed n S h s l ≡ true → g s l ≢ none) where
    pub grouping_closed : (p q : ℕ)
        → count (runs p q) (march (renamed (field_of (box_of n S h cluster) []) g)) ≡ count (runs q p) (march (renamed (field_of (box_of n S h cluster) []) g))
    unfolding field_of box_of AllFinite OneSide side_at vertex_at crossed renamed
    grouping_closed p q =
        balance (renamed (field_of (box_of n S h cluster) []) g) o
        (record {
          finite = λ u v w i. F (site_of n u v w) (site_in u v w i);
          border = B;
          named = λ u v w l c. (let d = crossed_label n S h cluster [] u v w l c in
              k (site_of n u v w) l (site_in u v w d.1) d.0 (sym (crossed-is n S h cluster [] u v w l d.1 d.0) ∙ c));
        })
        p q
