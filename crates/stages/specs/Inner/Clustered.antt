-- What marks and clusters are to a build: the edges of each site that are marked, each in one of its clusters. Assumes nothing.
use Rattle.std.specs.Prelude.{◌≡◌, Bool, true, List, ℕ, ◌*◌, ◌<◌, eqb}
use Rattle.laws.specs.Bools.{bit}
use Rattle.laws.specs.Lists.{keep, count, joined, All}
use Rattle.lattice.specs.Sites.{sites}
use Rattle.stages.specs.Boxes.{Box, owned}
use Rattle.stages.specs.Vertices.{Vertex}
use Rattle.stages.specs.Meshes.{numbers}
use Rattle.stages.specs.Rounds.{is_in}

-- edges of a site, ascending: what a mask's digits give
unfoldable pub Ascending : List ℕ → Type 0
Ascending es = es ≡ keep (is_in es) (numbers 14)

-- mark s e says that the edge e is marked at the site s
pub record Clustered (b : Box) (mark : ℕ → ℕ → Bool) : Type 0 where
  pub label : (s e : ℕ) → mark s e ≡ true → e < 14
  -- a marked edge has a place in the table, and no two of a site have one place
  pub place : (s e : ℕ) → s < sites b.sides → mark s e ≡ true → owned b.sides s e < 7 * sites b.sides
  pub one : (s d e : ℕ) → s < sites b.sides → mark s d ≡ true → mark s e ≡ true → owned b.sides s d ≡ owned b.sides s e → d ≡ e
  -- each marked edge is in one cluster, and nothing else is
  pub cover : (s e : ℕ) → s < sites b.sides → count (eqb e) (joined (b.clusters s)) ≡ bit (mark s e)
  pub order : (s : ℕ) → s < sites b.sides → All Ascending (b.clusters s)

-- the vertex was made for marked edges of its site, ascending
pub record Proper (b : Box) (mark : ℕ → ℕ → Bool) (x : Vertex) : Type 0 where
  pub low : x.site < sites b.sides
  pub marks : (e : ℕ) → is_in x.edges e ≡ true → mark x.site e ≡ true
  pub order : Ascending x.edges
