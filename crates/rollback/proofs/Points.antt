-- Every edge that a vertex of a stage was made for has a point. Assumes nothing.
use mathlib.Core.Path.{◌≡◌}
use mathlib.Core.Bool.{Bool, true, false, cond}
use mathlib.Core.List.{List, [], ◌∷◌, map}
use Prim.Native.Nat.{ℕ}
use Rattle.laws.specs.Lists.{All, keep}
use Rattle.laws.proofs.Ranges.{each_all}
use Rattle.laws.proofs.Lists.{all_keep, all_kept, all_of, all_under}
use Rattle.lattice.specs.Sites.{sites}
use Rattle.stages.specs.Boxes.{Box}
use Rattle.stages.specs.Vertices.{Vertex, apart, candidates, filled, fresh, held, site_vertices}
use Rattle.stages.specs.Rounds.{retired}
use Rattle.stages.specs.Stages.{Stage}
use Rattle.stages.proofs.Members.{stage_all}

module _ (b : Box) where
  -- all of the edges have a point at the site
  abbrev pub Dots : ℕ → List ℕ → Type 0
  Dots s es = All (λ e. b.point s e ≡ true) es

  unfoldable pub Dotted : Vertex → Type 0
  Dotted x = Dots x.site x.edges

  -- those held now among them
  pub held_dots : (x : Vertex) → Dotted x → Dots x.site (held x)
  unfolding Dotted held All
  held_dots x d = go x.live
    where
      go : (c : Bool) → Dots x.site (cond c x.edges [])
      go true = d
      go false = tt

  singles_dotted : (r s : ℕ) (es : List ℕ) → Dots s es → All Dotted (map (λ e. fresh r s (e ∷ [])) es)
  unfolding Dotted All fresh
  singles_dotted r s [] d = tt
  singles_dotted r s (e ∷ es) d = ((d.0, tt), singles_dotted r s es d.1)

  apart_dotted : (r : ℕ) (x : Vertex) → Dotted x → All Dotted (apart r x)
  unfolding apart
  apart_dotted r x d = singles_dotted r x.site (held x) (held_dots x d)

  retired_dotted : (x : Vertex) → Dotted x → Dotted (retired x)
  unfolding Dotted retired
  retired_dotted x d = d

  site_dotted : (s : ℕ) → All Dotted (site_vertices b s)
  unfolding site_vertices Dotted fresh
  site_dotted s =
      all_under Dotted (fresh 0 s) (keep filled (map (keep (b.point s)) (b.clusters s)))
      (all_kept (Dots s) filled (map (keep (b.point s)) (b.clusters s))
      (all_under (Dots s) (keep (b.point s)) (b.clusters s) (all_of (λ l. Dots s (keep (b.point s) l)) (λ l. all_keep (b.point s) l) (b.clusters s))))

  candidates_dotted : All Dotted (candidates b)
  unfolding candidates
  candidates_dotted = each_all Dotted (sites b.sides) (site_vertices b) (λ s h. site_dotted s)

  -- EVERY EDGE OF EVERY VERTEX OF EVERY STAGE HAS A POINT
  pub stage_dotted : {vs : List Vertex} → Stage b vs → All Dotted vs
  stage_dotted st = stage_all Dotted apart_dotted retired_dotted b candidates_dotted st
