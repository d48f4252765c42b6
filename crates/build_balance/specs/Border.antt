-- All samples on the border of the box lie on one side of the surface. Assumes nothing.
use Rattle.std.specs.Prelude.{◌≡◌, Bool, true, List, ℕ, Float}
use Rattle.samples.specs.Sides.{inside}
use Rattle.lattice.specs.declared.Sides.{Sides}
use Rattle.lattice.specs.Sites.{in_box, site_of, on_border}
use Rattle.marks.specs.Marks.{sample}

-- on the side o: inside (true) or outside (false)
unfoldable pub OneSide : Sides → List Float → Float → Bool → Type 0
OneSide n S h o = (u v w : ℕ) → in_box n u v w ≡ true → on_border n u v w ≡ true → inside (sample S (site_of n u v w)) h ≡ o
