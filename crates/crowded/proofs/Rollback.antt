-- What is rolled back, by the flags of the owners, read from the vertex book: the owners of a round. No side that is crowded, no owner. Assumes nothing.
use mathlib.Core.Path.{◌≡◌, refl, sym, ap, ◌∙◌}
use mathlib.Core.Logic.{⊎_elim}
use mathlib.Core.Bool.{Bool, true, false, ◌&&◌, ◌||◌, false≢true}
use mathlib.Core.List.{List, [], ◌∷◌, map}
use Prim.Native.Nat.{ℕ, ◌+◌, ◌*◌, ◌/◌, ◌%◌, ◌≤◌, ◌<◌}
use native.Mathlib.Omega.{arith}
use lib.Dec.{eqb, ltb}
use lib.ListN.{length, get_or, drop, get_or-append, get_or-eq_default}
use lib.Seq.{sets, sets-eq, length-sets}
use borrow.Author.Tests.{eqb-true}
use Rattle.laws.specs.Lists.{All, count, keep}
use Rattle.laws.specs.Ranges.{any}
use Rattle.laws.specs.Triangles.{flat}
use Rattle.laws.proofs.Bools.{and-apart, or_apart}
use Rattle.laws.proofs.Lists.{all_member, all_of, all_under}
use Rattle.laws.proofs.Ranges.{any_none, any-one, any_same, each_all, lt-or}
use Rattle.laws.proofs.Triangles.{flat-length}
use Rattle.lattice.specs.Sites.{cells, sites}
use Rattle.pairs.specs.Sides.{crowded}
use Rattle.stages.specs.Boxes.{Box}
use Rattle.stages.specs.Vertices.{Vertex, apart, candidates, filled, fresh, held, nobody, several, site_vertices}
use Rattle.stages.specs.Meshes.{book_of, mesh_of}
use Rattle.stages.specs.Rounds.{crowded_tris, cluster_of, is_in, owners, owns, retired}
use Rattle.stages.specs.Stages.{Stage}
use Rattle.stages.proofs.Book.{book_length, book_row, cluster_book}
use Rattle.stages.proofs.Flags.{owns_are}
use Rattle.stages.proofs.Members.{stage_all}
use Rattle.stages.proofs.Rounds.{owners_in, owners-none, owners-some}
use Rattle.crowded.specs.Inner.Flags.{OwnersFit, cluster_in, owner_in, OwnersUnder}
use Rattle.crowded.specs.Inner.Turns.{wanted}
use Rattle.crowded.proofs.Meaning.{owner-corners, owners-found}
use Rattle.crowded.proofs.Meshes.{any-off, corner-low, mesh_cells, mesh_proper, sites-cells}

-- ---- the vertex book in a longer list

book_at : (vs : List Vertex) (book : List ℕ) → 4 * length vs ≤ length book → (j : ℕ) → j < 4 * length vs → get_or (sets book 0 (book_of vs)) j 0 ≡ get_or (book_of vs) j 0
book_at vs book h j l =
    ap (λ (x : List ℕ). get_or x j 0) (sets-eq (book_of vs) book 0 (omega (arith, book_length vs)))
    ∙ get_or-append (book_of vs) (drop (0 + length (book_of vs)) book) 0 j (omega (arith, book_length vs))

cluster_at : (vs : List Vertex) (book : List ℕ) → 4 * length vs ≤ length book → (s v : ℕ) → v < length vs → cluster_of vs s v ≡ cluster_in (sets book 0 (book_of vs)) s v
unfolding cluster_in
cluster_at vs book h s v l =
    cluster_book vs s v l
    ∙ sym (λ i. ltb 1 (book_at vs book h (4 * v + 1) (omega arith) i) && eqb s (book_at vs book h (4 * v) (omega arith) i))

-- ---- the flag of a site

module _ (b : Box) (vs : List Vertex) where
  -- the flat list of the mesh
  abbrev corners : List ℕ
  corners = flat (mesh_of b vs)

  module _ (book : List ℕ) (room : 4 * length vs ≤ length book) where
    -- THE FLAG OF A SITE SAYS WHETHER IT OWNS A LIVE CLUSTER VERTEX IN A BAD TRIANGLE
    pub owners-flagged : (s : ℕ) → owns vs (crowded_tris (mesh_of b vs)) s ≡ owner_in (flat (mesh_of b vs)) (sets book 0 (book_of vs)) s
    unfolding owner_in
    owners-flagged s =
        let n : length (mesh_of b vs) ≡ length corners / 3 = omega (arith, flat-length (mesh_of b vs)) in
        owns_are (mesh_of b vs) (mesh_proper b vs) vs s
        ∙ any_same (length (mesh_of b vs)) _ _ (λ t h.
        let f = flat-length (mesh_of b vs) in
        let c0 = cluster_at vs book room s (get_or corners (3 * t) 0) (corner-low b vs (3 * t) (omega arith)) in
        let c1 = cluster_at vs book room s (get_or corners (3 * t + 1) 0) (corner-low b vs (3 * t + 1) (omega arith)) in
        let c2 = cluster_at vs book room s (get_or corners (3 * t + 2) 0) (corner-low b vs (3 * t + 2) (omega arith)) in
        λ i. (crowded corners (3 * t) || crowded corners (3 * t + 1) || crowded corners (3 * t + 2)) && (c0 i || c1 i || c2 i))
        ∙ ap (λ (m : ℕ). any m (λ t. (crowded corners (3 * t) || crowded corners (3 * t + 1) || crowded corners (3 * t + 2))
        && (cluster_in (sets book 0 (book_of vs)) s (get_or corners (3 * t) 0) || cluster_in (sets book 0 (book_of vs)) s (get_or corners (3 * t + 1) 0)
        || cluster_in (sets book 0 (book_of vs)) s (get_or corners (3 * t + 2) 0)))) n

    pub owners-flags : (s : ℕ) → s < sites b.sides → is_in (owners b vs) s ≡ owner_in (flat (mesh_of b vs)) (sets book 0 (book_of vs)) s
    owners-flags s h = owners_in b vs s h ∙ owners-flagged s

    -- no flag, no owner
    pub owners_unflagged : (m : ℕ) → sites b.sides ≤ m → any m (owner_in (flat (mesh_of b vs)) (sets book 0 (book_of vs))) ≡ false → owners b vs ≡ []
    owners_unflagged m h e =
        owners-none b vs (any_none (sites b.sides) _ (λ s l. owners-flagged s ∙ any-off m (owner_in corners (sets book 0 (book_of vs))) e s (omega arith)))

  -- no side that is crowded, no owner
  pub calm_owners : any (length (flat (mesh_of b vs))) (crowded (flat (mesh_of b vs))) ≡ false → owners b vs ≡ []
  calm_owners calm =
      owners-none b vs (any_none (sites b.sides) _ (λ s l.
      owns_are (mesh_of b vs) (mesh_proper b vs) vs s
      ∙ any_none (length (mesh_of b vs)) _ (λ t h.
      let f = flat-length (mesh_of b vs) in
      let off = any-off (length corners) (crowded corners) calm in
      λ i. (off (3 * t) (omega arith) i || off (3 * t + 1) (omega arith) i || off (3 * t + 2) (omega arith) i)
      && (cluster_of vs s (get_or corners (3 * t) 0) || cluster_of vs s (get_or corners (3 * t + 1) 0) || cluster_of vs s (get_or corners (3 * t + 2) 0)))))

-- ---- a flag, an owner

-- every vertex of every stage is of a site of the box
pub stage_sites : (b : Box) {vs : List Vertex} → Stage b vs → All (λ x. x.site < sites b.sides) vs
unfolding candidates site_vertices apart fresh retired
stage_sites b st =
    stage_all P (λ r x h. all_under P (λ e. fresh r x.site (e ∷ [])) (held x) (all_of (λ e. x.site < sites b.sides) (λ e. h) (held x))) (λ x h. h) b
    (each_all P (sites b.sides) (site_vertices b) (λ s h.
    let ls : List (List ℕ) = keep filled (map (keep (b.point s)) (b.clusters s)) in
    all_under P (fresh 0 s) ls (all_of (λ l. s < sites b.sides) (λ l. h) ls))) st
  where
    P : Vertex → Type 0
    P x = x.site < sites b.sides

cluster_low : (vs : List Vertex) (n s v : ℕ) → All (λ x. x.site < n) vs → cluster_of vs s v ≡ true → s < n
unfolding cluster_of several held nobody
cluster_low vs n s v a h =
    let p = and-apart (several (get_or vs v nobody)) (eqb s (get_or vs v nobody).site) h in
    let e : s ≡ (get_or vs v nobody).site = eqb-true s (get_or vs v nobody).site p.1 in
    ⊎_elim (λ l. omega (arith, all_member nobody (λ x. x.site < n) vs a v l))
    (λ l. absurd (false≢true (sym (ap several (get_or-eq_default vs nobody l)) ∙ p.0))) (lt-or v (length vs))

some-owner : (os : List ℕ) (s : ℕ) → is_in os s ≡ true → (o : ℕ) × (rest : List ℕ) × (os ≡ o ∷ rest)
unfolding is_in count
some-owner [] s h = absurd (false≢true h)
some-owner (o ∷ os) s h = (o, os, refl)

module _ (b : Box) (vs : List Vertex) (book : List ℕ) (room : 4 * length vs ≤ length book) (low : All (λ x. x.site < sites b.sides) vs) where
  owner-low : (s : ℕ) → owns vs (crowded_tris (mesh_of b vs)) s ≡ true → s < sites b.sides
  owner-low s h =
      let f = any-one (length (mesh_of b vs)) _ (sym (owns_are (mesh_of b vs) (mesh_proper b vs) vs s) ∙ h) in
      let l = flat (mesh_of b vs) in
      let t = f.0 in
      let c = (and-apart (crowded l (3 * t) || crowded l (3 * t + 1) || crowded l (3 * t + 2)) _ f.2).1 in
      ⊎_elim
      (λ e. ⊎_elim (λ d. cluster_low vs _ s _ low d) (λ d. cluster_low vs _ s _ low d) (or_apart (cluster_of vs s (get_or l (3 * t) 0)) (cluster_of vs s (get_or l (3 * t + 1) 0)) e))
      (λ d. cluster_low vs _ s _ low d)
      (or_apart (cluster_of vs s (get_or l (3 * t) 0) || cluster_of vs s (get_or l (3 * t + 1) 0)) (cluster_of vs s (get_or l (3 * t + 2) 0)) c)

  pub flagged-owner : (m : ℕ) → any m (owner_in (flat (mesh_of b vs)) (sets book 0 (book_of vs))) ≡ true → (s : ℕ) × (os : List ℕ) × (owners b vs ≡ s ∷ os)
  flagged-owner m h =
      let f = any-one m (owner_in (flat (mesh_of b vs)) (sets book 0 (book_of vs))) h in
      let o = owners-flagged b vs book room f.0 ∙ f.2 in
      some-owner (owners b vs) f.0 (owners-some b vs f.0 (owner-low f.0 o) o)

-- ---- what the flags of the owners ask: a row a vertex in the book, and, if there is a cell, a word a site behind a

module _ (b : Box) (vs : List Vertex) (book room : List ℕ) (rows : 4 * length vs ≤ length book) where
  -- the site of a corner's vertex, by the book
  corner-site : All (λ x. x.site < sites b.sides) vs → OwnersUnder (flat (mesh_of b vs)) (sets book 0 (book_of vs)) (sites b.sides)
  corner-site low k l =
      let v : ℕ = get_or (flat (mesh_of b vs)) k 0 in
      let c : v < length vs = corner-low b vs k l in
      let at : get_or (sets book 0 (book_of vs)) (4 * v) 0 ≡ (get_or vs v nobody).site = book_at vs book rows (4 * v) (omega arith) ∙ (book_row vs v c).site in
      omega (arith, at, all_member nobody (λ x. x.site < sites b.sides) vs low v c)

  pub mesh_owners-fit : All (λ x. x.site < sites b.sides) vs → (a : ℕ) → (0 < cells b.sides → a + sites b.sides ≤ length room)
      → OwnersFit (flat (mesh_of b vs)) (sets book 0 (book_of vs)) room a
  mesh_owners-fit low a f k l =
      (omega (arith, length-sets book 0 (book_of vs), corner-low b vs k l), omega (arith, corner-site low k l, f (mesh_cells b vs k l)))

  pub stage_owners-under : Stage b vs → OwnersUnder (flat (mesh_of b vs)) (sets book 0 (book_of vs)) (sites b.sides)
  stage_owners-under st = corner-site (stage_sites b st)

  -- 108 words a cell are enough
  pub stage_owners-fit : Stage b vs → 108 * cells b.sides ≤ length room → OwnersFit (flat (mesh_of b vs)) (sets book 0 (book_of vs)) room (36 * cells b.sides)
  stage_owners-fit st h = mesh_owners-fit (stage_sites b st) (36 * cells b.sides) (λ c. omega (arith, sites-cells b.sides c))

  -- no flag among m, no owner
  pub owners_quiet : (m : ℕ) → OwnersUnder (flat (mesh_of b vs)) (sets book 0 (book_of vs)) m
      → any m (owner_in (flat (mesh_of b vs)) (sets book 0 (book_of vs))) ≡ false → owners b vs ≡ []
  owners_quiet m under e =
      let s : List ℕ = flat (mesh_of b vs) in
      let book' : List ℕ = sets book 0 (book_of vs) in
      let whole : length s % 3 ≡ 0 = omega (arith, flat-length (mesh_of b vs)) in
      let none : any (length s) (wanted s book') ≡ false = owners-found s book' whole m under ∙ e in
      owners-none b vs (any_none (sites b.sides) _ (λ v l.
      owners-flagged b vs book rows v ∙ sym (owner-corners s book' whole v)
      ∙ any_none (length s) _ (λ k h. ap (λ (c : Bool). c && eqb v (get_or book' (4 * get_or s k 0) 0)) (any-off (length s) (wanted s book') none k h))))
