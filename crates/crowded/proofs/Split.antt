-- What splits, by the flags of the ends: a vertex that is an end of a side that is crowded. No such side, no split. Assumes nothing.
use mathlib.Core.Path.{◌≡◌, ap, ◌∙◌}
use mathlib.Core.Bool.{Bool, false, ◌&&◌, ◌||◌}
use mathlib.Core.List.{List}
use Prim.Native.Nat.{ℕ}
use lib.Dec.{eqb}
use lib.ListN.{length, get_or}
use Rattle.laws.specs.Ranges.{any}
use Rattle.laws.specs.Triangles.{flat}
use Rattle.laws.proofs.Ranges.{any_none}
use Rattle.pairs.specs.Sides.{next, crowded}
use Rattle.stages.specs.Boxes.{Box}
use Rattle.stages.specs.Vertices.{candidates}
use Rattle.stages.specs.Meshes.{mesh_of}
use Rattle.stages.specs.Splits.{crowded_pairs, end_of, split, split_count}
use Rattle.stages.proofs.Splits.{place_never, split_never}
use Rattle.stages.proofs.Flags.{ends_are}
use Rattle.crowded.specs.Inner.Flags.{end_in}
use Rattle.crowded.proofs.Meshes.{any-off, mesh_proper}

-- the flat list of the candidates' mesh
abbrev first : Box → List ℕ
first b = flat (mesh_of b (candidates b))

-- THE FLAG OF A VERTEX SAYS WHETHER IT IS AN END OF A BAD PAIR
pub ends-flagged : (b : Box) (v : ℕ) → end_of (crowded_pairs b) v ≡ end_in (flat (mesh_of b (candidates b))) v
unfolding crowded_pairs end_in
ends-flagged b v = ends_are (mesh_of b (candidates b)) (mesh_proper b (candidates b)) v

-- ---- no end, no split

module _ (b : Box) (calm : any (length (flat (mesh_of b (candidates b)))) (crowded (flat (mesh_of b (candidates b)))) ≡ false) where
  no_end : (v : ℕ) → end_of (crowded_pairs b) v ≡ false
  unfolding end_in
  no_end v =
      ends-flagged b v
      ∙ any_none (length (first b)) _ (λ k h. ap (λ (c : Bool). c && (eqb v (get_or (first b) k 0) || eqb v (get_or (first b) (next k) 0))) (any-off (length (first b)) (crowded (first b)) calm k h))

  pub calm_split : split b ≡ candidates b
  unfolding split
  calm_split = place_never (end_of (crowded_pairs b)) 0 (candidates b) no_end

  pub calm_count : split_count (crowded_pairs b) 0 (candidates b) ≡ 0
  calm_count = split_never (end_of (crowded_pairs b)) 0 (candidates b) no_end
