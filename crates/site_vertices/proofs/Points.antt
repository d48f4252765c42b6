-- Which of a site's edges have a point: the points of a list of edges are those of the edges that have one. Assumes nothing.
use Rattle.std.specs.Prelude.{Option, None, Some}
use mathlib.Core.Path.{◌≡◌, refl, ap, sym, ◌∙◌}
use mathlib.Core.Bool.{Bool, true, false, ◌&&◌, cond}
use mathlib.Core.List.{List, [], ◌∷◌, ◌++◌}
use Prim.Native.Nat.{ℕ, suc}
use lib.ListN.{length}
use lib.Ieee.{Float}
use Rattle.laws.specs.Lists.{keep}
use Rattle.samples.specs.Sides.{finite}
use Rattle.lattice.specs.declared.Sides.{Sides}
use Rattle.lattice.specs.Across.{across_of}
use Rattle.marks.specs.Marks.{sample}
use Rattle.points.specs.declared.Frame.{Frame}
use Rattle.points.specs.declared.Point.{Point}
use Rattle.points.specs.EdgePoints.{edge_point}
use Rattle.stages.specs.Samples.{listed, place_of, point_by, points_of}
use Rattle.site_vertices.specs.Inner.Appending.{pointed_of}

unfoldable pub is_at : Option Point → Bool
is_at None = false
is_at (Some p) = true

module _ (f : Frame) (n : Sides) (S : List Float) (s : ℕ) where
  -- an edge has a point where both its samples are finite
  pub point_at : (o : Option ℕ) → point_by S s o ≡ is_at (place_of f n S s o)
  unfolding point_by place_of edge_point is_at
  point_at None = refl
  point_at (Some u) = go (finite (sample S s) && finite (sample S u)) _
    where
      go : (c : Bool) (p : Point) → c ≡ is_at (cond c (Some p) None)
      go true p = refl
      go false p = refl

  pub points_kept : (es : List ℕ) → points_of f n S s (pointed_of n S s es) ≡ points_of f n S s es
  unfolding points_of pointed_of keep is_at
  points_kept [] = refl
  points_kept (e ∷ es) =
      ap (λ (c : Bool). points_of f n S s (cond c (e ∷ pointed_of n S s es) (pointed_of n S s es))) (point_at (across_of n s e))
      ∙ go (place_of f n S s (across_of n s e)) refl (points_kept es)
    where
      go : (o : Option Point) → place_of f n S s (across_of n s e) ≡ o → points_of f n S s (pointed_of n S s es) ≡ points_of f n S s es
          → points_of f n S s (cond (is_at (place_of f n S s (across_of n s e))) (e ∷ pointed_of n S s es) (pointed_of n S s es)) ≡ listed (place_of f n S s (across_of n s e)) ++ points_of f n S s es
      go None q r =
          ap (λ (x : Option Point). points_of f n S s (cond (is_at x) (e ∷ pointed_of n S s es) (pointed_of n S s es))) q
          ∙ r ∙ ap (λ (x : Option Point). listed x ++ points_of f n S s es) (sym q)
      go (Some p) q r =
          ap (λ (x : Option Point). points_of f n S s (cond (is_at x) (e ∷ pointed_of n S s es) (pointed_of n S s es))) q
          ∙ ap (λ (l : List Point). listed (place_of f n S s (across_of n s e)) ++ l) r

  -- as many points as edges that have one
  pub points_long : (es : List ℕ) → length (points_of f n S s es) ≡ length (pointed_of n S s es)
  unfolding points_of pointed_of keep is_at
  points_long [] = refl
  points_long (e ∷ es) =
      go (place_of f n S s (across_of n s e)) refl (points_long es)
      ∙ ap (λ (c : Bool). length (cond c (e ∷ pointed_of n S s es) (pointed_of n S s es))) (sym (point_at (across_of n s e)))
    where
      go : (o : Option Point) → place_of f n S s (across_of n s e) ≡ o → length (points_of f n S s es) ≡ length (pointed_of n S s es)
          → length (listed (place_of f n S s (across_of n s e)) ++ points_of f n S s es) ≡ length (cond (is_at (place_of f n S s (across_of n s e))) (e ∷ pointed_of n S s es) (pointed_of n S s es))
      go None q r = rw q r
      go (Some p) q r = rw q (ap suc r)
