-- The triangles of a build's mesh: every corner is a vertex of the list, and no two corners are one. Assumes nothing.
use mathlib.Core.Path.{◌≡◌, sym, ap, ◌∙◌}
use mathlib.Core.Logic.{◌≢◌}
use mathlib.Core.Bool.{Bool, true, false, not, ◌&&◌, false≢true}
use mathlib.Core.List.{List, [], ◌∷◌, map}
use Prim.Native.Nat.{ℕ, zero, suc, ◌+◌, ◌*◌, ◌-◌, ◌≤◌, ◌<◌}
use native.Mathlib.Nat.{le_trans, le_of_eq}
use native.Mathlib.Omega.{arith}
use lib.Dec.{eqb}
use lib.ListN.{length, get_or}
use borrow.Author.Tests.{eq-eqb}
use Rattle.laws.specs.Lists.{All}
use Rattle.laws.specs.Ranges.{any}
use Rattle.laws.specs.Triangles.{Tri, flat}
use Rattle.laws.proofs.Bools.{and-apart}
use Rattle.laws.proofs.Lists.{all_both, all_kept, all_map, all_member, all_of, all_under}
use Rattle.laws.proofs.Ranges.{any_some, each_all}
use Rattle.laws.proofs.Triangles.{flat-length}
use Rattle.lattice.specs.declared.Sides.{Sides}
use Rattle.lattice.specs.Sites.{SidesFit, cells, sites}
use Rattle.lattice.proofs.Sites.{product_le, cells-most}
use Rattle.march.specs.Cells.{cell_tris, on_each}
use Rattle.march.specs.March.{none, corners_of, emitted, march, ok_at, proper, resolved, side_at, site_tris, slab, vertex_at, vertex_in}
use Rattle.march.proofs.March.{march-emitted, march-le, march-proper}
use Rattle.stages.specs.Boxes.{Box}
use Rattle.stages.specs.Vertices.{Vertex}
use Rattle.stages.specs.Meshes.{field_of, find, mesh_of}
use Rattle.stages.proofs.Lookup.{entry_named}
use Rattle.crowded.specs.Inner.Flags.{Flaggable, EndsFit, EndsUnder}

-- where no number passes, none does
pub any-off : (n : ℕ) (p : ℕ → Bool) → any n p ≡ false → (k : ℕ) → k < n → p k ≡ false
any-off n p h k l = go (p k) (λ e. any_some n p k l e)
  where
    go : (c : Bool) → (c ≡ true → any n p ≡ true) → c ≡ false
    go true f = absurd (false≢true (sym h ∙ f (λ i. true)))
    go false f = λ i. false

-- what all corners have, all entries of the flat list have
flat-all : (P : ℕ → Type 0) (ts : List Tri) → All (λ t. P t.0 × P t.1 × P t.2) ts → All P (flat ts)
unfolding All flat
flat-all P [] a = tt
flat-all P (t ∷ ts) a = (a.0.0, (a.0.1, (a.0.2, flat-all P ts a.1)))

module _ (b : Box) (vs : List Vertex) where
  -- what a lookup gives: a vertex of the list, if there is one
  abbrev Looked : ℕ → Type 0
  Looked x = x ≢ none → x < length vs

  found-low : (k : ℕ) → Looked (find b 0 vs k)
  found-low k h = (entry_named b vs k h).low

  abbrev LookedTri : Tri → Type 0
  LookedTri t = Looked t.0 × Looked t.1 × Looked t.2

  site_looked : (u v w : ℕ) → All LookedTri (site_tris (field_of b vs) u v w)
  unfolding site_tris on_each vertex_in vertex_at field_of
  site_looked u v w =
      let F = field_of b vs in
      let ts = cell_tris (corners_of (ok_at F) u v w) (corners_of (side_at F) u v w) in
      let f = on_each (vertex_in (vertex_at F) u v w) in
      all_kept LookedTri emitted (map f ts) (all_under LookedTri f ts (all_of (λ t. LookedTri (f t)) (λ t. (found-low _, found-low _, found-low _)) ts))

  mesh_looked : All LookedTri (mesh_of b vs)
  unfolding mesh_of march slab
  mesh_looked = each_all LookedTri _ _ (λ w hw. each_all LookedTri _ _ (λ v hv. each_all LookedTri _ _ (λ u hu. site_looked u v w)))

  mesh_emitted : All (λ t. emitted t ≡ true) (mesh_of b vs)
  unfolding mesh_of
  mesh_emitted = march-emitted (field_of b vs)

  pub mesh_proper : All (λ t. proper t ≡ true) (mesh_of b vs)
  unfolding mesh_of
  mesh_proper = march-proper (field_of b vs)

  -- EVERY CORNER IS A VERTEX OF THE LIST
  pub mesh_low : All (λ t. (t.0 < length vs) × (t.1 < length vs) × (t.2 < length vs)) (mesh_of b vs)
  unfolding emitted resolved
  mesh_low = all_map _ _ low (mesh_of b vs) (all_both LookedTri (λ t. emitted t ≡ true) (mesh_of b vs) mesh_looked mesh_emitted)
    where
      there : (x : ℕ) → not (eqb x none) ≡ true → x ≢ none
      there x h e = false≢true (sym (ap not (eq-eqb x none e)) ∙ h)

      low : (t : Tri) → LookedTri t × (emitted t ≡ true) → (t.0 < length vs) × (t.1 < length vs) × (t.2 < length vs)
      low t h =
          let r = (and-apart (resolved t) (proper t) h.1).0 in
          let p = and-apart (not (eqb t.0 none) && not (eqb t.1 none)) (not (eqb t.2 none)) r in
          let q = and-apart (not (eqb t.0 none)) (not (eqb t.1 none)) p.0 in
          (h.0.0 (there t.0 q.0), h.0.1 (there t.1 q.1), h.0.2 (there t.2 p.1))

  pub corner-low : (k : ℕ) → k < length (flat (mesh_of b vs)) → get_or (flat (mesh_of b vs)) k 0 < length vs
  corner-low k h = all_member 0 (λ x. x < length vs) (flat (mesh_of b vs)) (flat-all (λ x. x < length vs) (mesh_of b vs) mesh_low) k h

-- ---- what the flags of a mesh ask of the working list

factors : (x y z : ℕ) → 0 < x * y * z → (0 < x) × (0 < y) × (0 < z)
factors zero y z h = let e : ⊥ = omega arith in absurd e
factors (suc x) zero z h = let e : ⊥ = omega arith in absurd e
factors (suc x) (suc y) zero h = let e : ⊥ = omega arith in absurd e
factors (suc x) (suc y) (suc z) h = (omega arith, omega arith, omega arith)

-- a box with a cell has at most eight sites a cell
pub sites-cells : (n : Sides) → 0 < cells n → sites n ≤ 8 * cells n
unfolding cells sites
sites-cells n h =
    let f = factors (n.nu - 1) (n.nv - 1) (n.nw - 1) h in
    let l : n.nu * n.nv ≤ 2 * (n.nu - 1) * (2 * (n.nv - 1)) = product_le n.nu n.nv (2 * (n.nu - 1)) (2 * (n.nv - 1)) (omega (arith, f.0)) (omega (arith, f.1)) in
    let m : n.nu * n.nv * n.nw ≤ 2 * (n.nu - 1) * (2 * (n.nv - 1)) * (2 * (n.nw - 1)) = product_le (n.nu * n.nv) n.nw _ (2 * (n.nw - 1)) l (omega (arith, f.2)) in
    le_trans m (le_of_eq (eight (n.nu - 1) (n.nv - 1) (n.nw - 1)))
  where
    eight : (x y z : ℕ) → 2 * x * (2 * y) * (2 * z) ≡ 8 * (x * y * z)
    eight x y z = omega arith

module _ (b : Box) (vs : List Vertex) where
  mesh_few : length (flat (mesh_of b vs)) ≤ 36 * cells b.sides
  unfolding mesh_of field_of
  mesh_few = omega (arith, flat-length (mesh_of b vs), march-le (field_of b vs))

  -- a side, a cell
  pub mesh_cells : (k : ℕ) → k < length (flat (mesh_of b vs)) → 0 < cells b.sides
  mesh_cells k h = omega (arith, mesh_few)

  -- 108 words a cell are enough, the first 36 for the sides
  pub mesh_flaggable : (room : List ℕ) → SidesFit b.sides → 108 * cells b.sides ≤ length room → Flaggable (flat (mesh_of b vs)) room (36 * cells b.sides)
  mesh_flaggable room f h =
      let n = flat-length (mesh_of b vs) in
      let m = mesh_few in
      record { whole = omega arith; nine = omega arith; front = omega arith; within = omega arith; fits = omega (arith, cells-most b.sides f) }

  pub mesh_ends-under : EndsUnder (flat (mesh_of b vs)) (length vs)
  mesh_ends-under = corner-low b vs

  -- a word a vertex behind a, if there is a cell
  pub mesh_ends-fit : (room : List ℕ) (a : ℕ) → (0 < cells b.sides → a + length vs ≤ length room) → EndsFit (flat (mesh_of b vs)) room a
  mesh_ends-fit room a h k l = omega (arith, corner-low b vs k l, h (mesh_cells k l))
