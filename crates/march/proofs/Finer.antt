-- Lookups that agree give the same march; a finer one keeps every triangle that a coarser one keeps; vertices under other names. Assumes nothing.
use mathlib.Core.Path.{◌≡◌, refl, sym, ap, ◌∙◌}
use mathlib.Core.Bool.{Bool, true, false, not, ◌&&◌, false≢true}
use mathlib.Core.List.{List, [], ◌∷◌, map, map-map}
use Prim.Native.Nat.{ℕ, ◌+◌, ◌*◌, ◌/◌, ◌%◌, ◌≤◌, ◌<◌}
use native.Mathlib.Omega.{arith}
use lib.Dec.{eqb}
use borrow.Author.Tests.{eq-eqb, eqb-true}
use lib.ListN.{length, get_or, length-map}
use lib.Ieee.{Float}
use Rattle.laws.specs.Lists.{keep, All}
use Rattle.laws.specs.Triangles.{Tri}
use Rattle.laws.proofs.Bools.{and-apart, and_yes}
use Rattle.laws.proofs.Lists.{keep-map, keep-keep, keep-le, all_map, map-agree}
use Rattle.lattice.specs.declared.Sides.{Sides}
use Rattle.lattice.specs.Sites.{sites}
use Rattle.march.specs.Cells.{on_each}
use Rattle.march.specs.March.{Field, none, ok_at, side_at, resolved, proper, emitted, march}
use Rattle.march.specs.Lists.{field_of}
use Rattle.march.specs.Finer.{by_edge, site_edges, edge_tris, passes, kept_edges, renamed, Finer}
use Rattle.march.proofs.Edges.{march-edges, march_kept, Corner, edges_range}

-- ---- lookups that agree on the edges of the box

three : (f g : ℕ → ℕ) (t : Tri) → f t.0 ≡ g t.0 → f t.1 ≡ g t.1 → f t.2 ≡ g t.2 → on_each f t ≡ on_each g t
unfolding on_each
three f g t a b c = λ i. (a i, b i, c i)

renamed-edges : (F : Field) (look : ℕ → ℕ → ℕ) → edge_tris (renamed F look) ≡ edge_tris F
unfolding edge_tris site_edges renamed ok_at side_at
renamed-edges F look = refl

renamed_kept : (F : Field) (look : ℕ → ℕ → ℕ) → kept_edges (renamed F look) ≡ keep (passes look) (edge_tris F)
unfolding kept_edges renamed
renamed_kept F look = ap (λ (l : List Tri). keep (passes look) l) (renamed-edges F look)

module _ (F : Field) (f g : ℕ → ℕ → ℕ) where
  renamed-march : (look : ℕ → ℕ → ℕ) → march (renamed F look) ≡ keep emitted (map (on_each (by_edge look)) (edge_tris F))
  unfolding renamed
  renamed-march look = march-edges (renamed F look) ∙ ap (λ (l : List Tri). keep emitted (map (on_each (by_edge look)) l)) (renamed-edges F look)

  pub march-same : ((e : ℕ) → e < 7 * sites F.box → by_edge f e ≡ by_edge g e) → march (renamed F f) ≡ march (renamed F g)
  march-same h =
      renamed-march f
      ∙ ap (λ (l : List Tri). keep emitted l)
      (map-agree (on_each (by_edge f)) (on_each (by_edge g)) (edge_tris F)
      (all_map (Corner (λ e. e < 7 * sites F.box)) (λ t. on_each (by_edge f) t ≡ on_each (by_edge g) t)
      (λ t r. three (by_edge f) (by_edge g) t (h t.0 r.0) (h t.1 r.1) (h t.2 r.2)) (edge_tris F) (edges_range F)))
      ∙ sym (renamed-march g)

-- ---- a finer lookup

not-down : (a b : Bool) → (b ≡ true → a ≡ true) → not a ≡ true → not b ≡ true
not-down true b i h = absurd (false≢true h)
not-down false true i h = absurd (false≢true (i refl))
not-down false false i h = refl

three_down : (a b c a' b' c' : Bool) → (a' ≡ true → a ≡ true) → (b' ≡ true → b ≡ true) → (c' ≡ true → c ≡ true)
    → not a && not b && not c ≡ true → not a' && not b' && not c' ≡ true
three_down a b c a' b' c' i j k h =
    let p = and-apart (not a && not b) (not c) h in
    let q = and-apart (not a) (not b) p.0 in
    and_yes (and_yes (not-down a a' i q.0) (not-down b b' j q.1)) (not-down c c' k p.1)

module _ (m : ℕ) (g f : ℕ → ℕ) (R : Finer m g f) where
  eq-down : (d e : ℕ) → d < m → e < m → eqb (g d) (g e) ≡ true → eqb (f d) (f e) ≡ true
  eq-down d e hd he q = eq-eqb (f d) (f e) (R.same d e hd he (eqb-true (g d) (g e) q))

  gone_down : (e : ℕ) → e < m → eqb (g e) none ≡ true → eqb (f e) none ≡ true
  gone_down e h q = eq-eqb (f e) none (R.gone e h (eqb-true (g e) none q))

  -- a triangle that the coarser lookup keeps, the finer one keeps
  kept_finer : (t : Tri) → Corner (λ e. e < m) t → emitted (on_each f t) ≡ true → emitted (on_each g t) ≡ true
  unfolding emitted resolved proper on_each
  kept_finer t h e =
      let p = and-apart (resolved (on_each f t)) (proper (on_each f t)) e in
      and_yes
      (three_down (eqb (f t.0) none) (eqb (f t.1) none) (eqb (f t.2) none) (eqb (g t.0) none) (eqb (g t.1) none) (eqb (g t.2) none)
      (gone_down t.0 h.0) (gone_down t.1 h.1) (gone_down t.2 h.2) p.0)
      (three_down (eqb (f t.0) (f t.1)) (eqb (f t.1) (f t.2)) (eqb (f t.0) (f t.2)) (eqb (g t.0) (g t.1)) (eqb (g t.1) (g t.2))
      (eqb (g t.0) (g t.2)) (eq-down t.0 t.1 h.0 h.1) (eq-down t.1 t.2 h.1 h.2) (eq-down t.0 t.2 h.0 h.2) p.1)

module _ (F : Field) (g f : ℕ → ℕ → ℕ) (R : Finer (7 * sites F.box) (by_edge g) (by_edge f)) where
  -- The coarser march's triangles of edges are those of the finer one, in their order, that the coarser lookup keeps.
  pub finer_kept : kept_edges (renamed F f) ≡ keep (passes f) (kept_edges (renamed F g))
  unfolding passes
  finer_kept =
      renamed_kept F f ∙ sym (ap (λ (l : List Tri). keep (passes f) l) (renamed_kept F g)
      ∙ keep-keep (passes f) (passes g) (edge_tris F)
      (all_map (Corner (λ e. e < 7 * sites F.box)) (λ t. passes f t ≡ true → passes g t ≡ true)
      (λ t r. kept_finer (7 * sites F.box) (by_edge g) (by_edge f) R t r) (edge_tris F) (edges_range F)))

  -- so the finer march is at least as long
  pub finer_longer : length (march (renamed F f)) ≤ length (march (renamed F g))
  finer_longer =
      let a : length (march (renamed F f)) ≡ length (kept_edges (renamed F f)) = ap length (march_kept (renamed F f)) ∙ length-map (kept_edges (renamed F f)) _ in
      let b : length (march (renamed F g)) ≡ length (kept_edges (renamed F g)) = ap length (march_kept (renamed F g)) ∙ length-map (kept_edges (renamed F g)) _ in
      let c : length (kept_edges (renamed F f)) ≤ length (kept_edges (renamed F g)) = rw finer_kept (keep-le (passes f) (kept_edges (renamed F g))) in
      omega arith

-- ---- vertices under other names

all_any : {A : Type 0} (P : A → Type 0) → ((x : A) → P x) → (xs : List A) → All P xs
unfolding All
all_any P f [] = tt
all_any P f (x ∷ xs) = (f x, all_any P f xs)

module _ (F : Field) (g : ℕ → ℕ → ℕ) (r : ℕ → ℕ) (keeps : r none ≡ none) where
  same_name : (x y : ℕ) → eqb x y ≡ true → eqb (r x) (r y) ≡ true
  same_name x y e = eq-eqb (r x) (r y) (ap r (eqb-true x y e))

  no_name : (x : ℕ) → eqb x none ≡ true → eqb (r x) none ≡ true
  no_name x e = eq-eqb (r x) none (ap r (eqb-true x none e) ∙ keeps)

  still : (t : Tri) → emitted (on_each r t) ≡ true → emitted t ≡ true
  unfolding emitted resolved proper on_each
  still t e =
      let p = and-apart (resolved (on_each r t)) (proper (on_each r t)) e in
      and_yes
      (three_down (eqb (r t.0) none) (eqb (r t.1) none) (eqb (r t.2) none) (eqb t.0 none) (eqb t.1 none) (eqb t.2 none)
      (no_name t.0) (no_name t.1) (no_name t.2) p.0)
      (three_down (eqb (r t.0) (r t.1)) (eqb (r t.1) (r t.2)) (eqb (r t.0) (r t.2)) (eqb t.0 t.1) (eqb t.1 t.2) (eqb t.0 t.2)
      (same_name t.0 t.1) (same_name t.1 t.2) (same_name t.0 t.2) p.1)

  both_names : (l : List Tri) → map (on_each r) (map (on_each (by_edge g)) l) ≡ map (on_each (by_edge (λ s e. r (g s e)))) l
  unfolding on_each by_edge
  both_names l = map-map (on_each r) (on_each (by_edge g)) l

  -- The march with renamed vertices, some of which may fall together, is the march, renamed, less the triangles with a vertex twice.
  pub march-renamed : march (renamed F (λ s l. r (g s l))) ≡ keep emitted (map (on_each r) (march (renamed F g)))
  march-renamed =
      let named : List Tri = map (on_each (by_edge g)) (edge_tris F) in
      renamed-march F g g (λ s l. r (g s l))
      ∙ sym (ap (λ (l : List Tri). keep emitted (map (on_each r) l)) (renamed-march F g g g)
      ∙ keep-map emitted (on_each r) (keep emitted named)
      ∙ ap (λ (l : List Tri). map (on_each r) l)
      (keep-keep (λ t. emitted (on_each r t)) emitted named (all_any (λ t. emitted (on_each r t) ≡ true → emitted t ≡ true) still named))
      ∙ sym (keep-map emitted (on_each r) named)
      ∙ ap (λ (l : List Tri). keep emitted l) (both_names (edge_tris F)))

-- ---- the same for edge tables

table-look : (edges : List ℕ) (e : ℕ) → by_edge (λ i l. get_or edges (7 * i + l) none) e ≡ get_or edges e none
unfolding by_edge
table-look edges e = let q : 7 * (e / 7) + e % 7 ≡ e = omega arith in ap (λ (j : ℕ). get_or edges j none) q

table_field : (n : Sides) (s : List Float) (h : Float) (edges edges' : List ℕ) → field_of n s h edges' ≡ renamed (field_of n s h edges) (λ i l. get_or edges' (7 * i + l) none)
unfolding field_of renamed
table_field n s h edges edges' = refl

module _ (n : Sides) (s : List Float) (h : Float) (fine coarse : List ℕ) where
  table_finer : Finer (7 * sites n) (λ e. get_or fine e none) (λ e. get_or coarse e none)
      → Finer (7 * sites n) (by_edge (λ i l. get_or fine (7 * i + l) none)) (by_edge (λ i l. get_or coarse (7 * i + l) none))
  table_finer R = record {
    same = λ d e hd he q. table-look coarse d ∙ R.same d e hd he (sym (table-look fine d) ∙ q ∙ table-look fine e) ∙ sym (table-look coarse e);
    gone = λ e he q. table-look coarse e ∙ R.gone e he (sym (table-look fine e) ∙ q);
  }

  -- The triangles of edges that the march over the coarser table keeps are among those that it keeps over the finer one, in their order.
  pub table_kept : Finer (7 * sites n) (λ e. get_or fine e none) (λ e. get_or coarse e none)
      → kept_edges (field_of n s h coarse) ≡ keep (passes (λ i l. get_or coarse (7 * i + l) none)) (kept_edges (field_of n s h fine))
  unfolding field_of renamed
  table_kept R = finer_kept (field_of n s h fine) (λ i l. get_or fine (7 * i + l) none) (λ i l. get_or coarse (7 * i + l) none) (table_finer R)

  pub table_longer : Finer (7 * sites n) (λ e. get_or fine e none) (λ e. get_or coarse e none) → length (march (field_of n s h coarse)) ≤ length (march (field_of n s h fine))
  unfolding field_of renamed
  table_longer R = finer_longer (field_of n s h fine) (λ i l. get_or fine (7 * i + l) none) (λ i l. get_or coarse (7 * i + l) none) (table_finer R)

  -- tables that agree on the edges of the box
  pub table_same : ((e : ℕ) → e < 7 * sites n → get_or fine e none ≡ get_or coarse e none) → march (field_of n s h fine) ≡ march (field_of n s h coarse)
  unfolding field_of
  table_same q =
      let F = field_of n s h fine in
      ap march (table_field n s h fine fine)
      ∙ march-same F (λ i l. get_or fine (7 * i + l) none) (λ i l. get_or coarse (7 * i + l) none) (λ e b. table-look fine e ∙ q e b ∙ sym (table-look coarse e))
      ∙ sym (ap march (table_field n s h fine coarse))
