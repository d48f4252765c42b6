-- What holds of a request that is granted, in plain numbers. Assumes nothing.
use Rattle.std.specs.Prelude.{◌≡◌, true, List, ℕ, ◌*◌, ◌≤◌, Float, length}
use Rattle.lattice.specs.declared.Sides.{Sides}
use Rattle.lattice.specs.Sites.{SidesFit, sites, cells}
use Rattle.points.specs.declared.Frame.{Frame}
use Rattle.points.specs.Limits.{frame_ok}
use Rattle.refusals.specs.declared.Lengths.{Lengths}
use Rattle.refusals.specs.Refusals.{inside_ok, most}

pub record Granted (n : Sides) (method R : ℕ) (f : Frame) (S : List Float) (L : Lengths) (h : Float) : Type 0 where
  pub fit : SidesFit n
  pub method_low : method ≤ 1
  pub rounds_low : R ≤ 4
  pub samples : length S ≡ sites n
  pub frame : frame_ok f ≡ true
  pub threshold : inside_ok h ≡ true
  pub masks : sites n ≤ L.masks
  pub table : 7 * sites n ≤ L.table
  pub vertices : 3 * most n S h ≤ L.vertices
  pub book : 4 * most n S h ≤ L.book
  pub triangles : 36 * cells n ≤ L.triangles
  pub edges : 108 * cells n ≤ L.edges
