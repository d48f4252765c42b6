-- The premises: what is asked of the samples and of the lookup of vertices. Assumes nothing.
use Rattle.std.specs.Prelude.{◌≡◌, ◌≢◌, Bool, true, ℕ}
use Rattle.lattice.specs.Sites.{in_box, site_of, on_border}
use Rattle.march.specs.March.{Field, none, side_at, vertex_at}
use Rattle.march.specs.Runs.{crossed}

-- All samples are finite, those on the border of the box are on the one side o, and every crossed edge has a vertex.
-- Nothing is said of which vertex: crossed edges may be grouped in any way.
pub record Fit (F : Field) (o : Bool) : Type 0 where
  pub finite : (u v w : ℕ) → in_box F.box u v w ≡ true → F.finite (site_of F.box u v w) ≡ true
  pub border : (u v w : ℕ) → in_box F.box u v w ≡ true → on_border F.box u v w ≡ true → side_at F u v w ≡ o
  pub named : (u v w l : ℕ) → crossed F u v w l ≡ true → vertex_at F u v w l ≢ none

-- each crossed edge has a vertex of its own
unfoldable pub Own : Field → Type 0
Own F =
    (u v w l u' v' w' l' : ℕ) → crossed F u v w l ≡ true → crossed F u' v' w' l' ≡ true → vertex_at F u v w l ≡ vertex_at F u' v' w' l'
    → (u ≡ u') × (v ≡ v') × (w ≡ w') × (l ≡ l')
