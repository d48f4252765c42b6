-- What the march's triangles are: triangles of crossed edges, under their vertices. Assumes nothing.
use mathlib.Core.Path.{◌≡◌, refl, sym, ap, ap₂, ◌∙◌, fun_ext}
use mathlib.Core.Bool.{Bool, true, false, not, ◌&&◌, cond, beq}
use mathlib.Core.List.{List, [], ◌∷◌, map, map-map}
use mathlib.Core.Logic.{⊎_elim}
use Prim.Native.Nat.{ℕ, zero, suc, ◌+◌, ◌*◌, ◌/◌, ◌%◌, ◌<◌}
use native.Mathlib.Omega.{arith}
use lib.Dec.{T, eqb, ltb, eqb→eq, ltb→lt}
use borrow.Author.Tests.{lt-ltb, ltb-true}
use lib.ListN.{length}
use Rattle.laws.specs.Bools.{bit, all_bools}
use Rattle.laws.specs.Ranges.{each, all}
use Rattle.laws.specs.Lists.{keep, All}
use Rattle.laws.specs.Triangles.{Tri}
use Rattle.laws.proofs.Bools.{and_left, and_right, and-apart, bools_at, T_true}
use Rattle.laws.proofs.Ranges.{lt-or, each_same, each_map, each_keep, each_all, all-at}
use Rattle.laws.proofs.Lists.{keep-map, all_kept, all_map, all_under}
use Rattle.tables.specs.Edges.{du, dv, dw, corner_of, label_to}
use Rattle.tables.specs.Tets.{tet_label, tet_corner, tet_pair, tet_pairs, edge_of, edge_in}
use Rattle.tables.specs.Cases.{mt_row}
use Rattle.tables.proofs.Cases.{mt_none}
use Rattle.tables.proofs.Edges.{steps_lt}
use Rattle.lattice.specs.Sites.{sites, in_box, site_of, step}
use Rattle.lattice.proofs.Sites.{site-lt, step-step}
use Rattle.lattice.proofs.OtherEnds.{in_box_lem}
use Rattle.march.specs.Cells.{Corners, at, case_of, tet_ok, case_no, on_each, tet_tris, cell_tris}
use Rattle.march.specs.March.{Field, ok_at, side_at, vertex_at, corners_of, vertex_in, emitted, site_tris, slab, march}
use Rattle.march.specs.Runs.{crossed}
use Rattle.march.specs.Finer.{edge_no, by_edge, site_edges, edge_tris, passes, kept_edges, Crossed, Named}
use Rattle.march.proofs.Cells.{at-corner, cell_none}
use Rattle.march.proofs.March.{out_u, out_v, out_w, far_missing, eight}

-- ---- the march by its edges

by_edge_lem : (look : ℕ → ℕ → ℕ) (s l : ℕ) → l < 7 → by_edge look (7 * s + l) ≡ look s l
unfolding by_edge
by_edge_lem look s l h =
    let a : (7 * s + l) / 7 ≡ s = omega arith in
    let b : (7 * s + l) % 7 ≡ l = omega arith in
    ap₂ look a b

module _ (F : Field) where
  one-edge : (u v w e : ℕ) → by_edge F.vertex (vertex_in (edge_no F.box) u v w e) ≡ vertex_in (vertex_at F) u v w e
  unfolding vertex_in edge_no vertex_at
  one-edge u v w e = by_edge_lem F.vertex (site_of F.box (step (du (e / 7)) u) (step (dv (e / 7)) v) (step (dw (e / 7)) w)) (e % 7) (omega arith)

  three-edges : (u v w : ℕ) (t : Tri) → on_each (by_edge F.vertex) (on_each (vertex_in (edge_no F.box) u v w) t) ≡ on_each (vertex_in (vertex_at F) u v w) t
  unfolding on_each
  three-edges u v w t = λ i. (one-edge u v w t.0 i, one-edge u v w t.1 i, one-edge u v w t.2 i)

  site_edges_lem : (u v w : ℕ) → site_tris F u v w ≡ keep emitted (map (on_each (by_edge F.vertex)) (site_edges F u v w))
  unfolding site_tris site_edges
  site_edges_lem u v w =
      let ts = cell_tris (corners_of (ok_at F) u v w) (corners_of (side_at F) u v w) in
      ap (λ (l : List Tri). keep emitted l)
      (sym (map-map (on_each (by_edge F.vertex)) (on_each (vertex_in (edge_no F.box) u v w)) ts
      ∙ ap (λ (g : Tri → Tri). map g ts) (fun_ext (three-edges u v w))))

  -- joined over a range, kept and named
  joined-edges : (n : ℕ) (f : ℕ → List Tri) (h : ℕ → List Tri) → ((i : ℕ) → h i ≡ keep emitted (map (on_each (by_edge F.vertex)) (f i)))
      → each n h ≡ keep emitted (map (on_each (by_edge F.vertex)) (each n f))
  joined-edges n f h e =
      let g : Tri → Tri = on_each (by_edge F.vertex) in
      each_same n h (λ i. keep emitted (map g (f i))) (λ i l. e i)
      ∙ sym (each_keep emitted n (λ i. map g (f i))) ∙ ap (λ (l : List Tri). keep emitted l) (sym (each_map g n f))

  pub march-edges : march F ≡ keep emitted (map (on_each (by_edge F.vertex)) (edge_tris F))
  unfolding march slab edge_tris
  march-edges =
      joined-edges F.box.nw (λ w. each F.box.nv (λ v. each F.box.nu (λ u. site_edges F u v w))) (λ w. each F.box.nv (λ v. each F.box.nu (λ u. site_tris F u v w)))
      (λ w. joined-edges F.box.nv (λ v. each F.box.nu (λ u. site_edges F u v w)) (λ v. each F.box.nu (λ u. site_tris F u v w))
      (λ v. joined-edges F.box.nu (λ u. site_edges F u v w) (λ u. site_tris F u v w) (λ u. site_edges_lem u v w)))

  -- the triangles of edges that are kept, under their vertices
  pub march_kept : march F ≡ map (on_each (by_edge F.vertex)) (kept_edges F)
  unfolding kept_edges passes
  march_kept = march-edges ∙ keep-map emitted (on_each (by_edge F.vertex)) (edge_tris F)

-- ---- the edges are crossed

-- the edge e leads from corner c to corner c + k, axis by axis, and these are on different sides
good : Corners → ℕ → Bool
good l e =
    let c = e / 7 in
    let k = corner_of (e % 7) in
    eqb (du c + du k) (du (c + k)) && eqb (dv c + dv k) (dv (c + k)) && eqb (dw c + dw k) (dw (c + k))
    && ltb (c + k) 8 && not (beq (at l c) (at l (c + k)))

all_edges : (ℕ → Bool) → List Tri → Bool
all_edges f [] = true
all_edges f (t ∷ ts) = f t.0 && f t.1 && f t.2 && all_edges f ts

-- a statement of each of a triangle's corners
abbrev pub Corner : (ℕ → Type 0) → Tri → Type 0
Corner P t = P t.0 × P t.1 × P t.2

edges-all : (f : ℕ → Bool) (ts : List Tri) → T (all_edges f ts) → All (Corner (λ e. T (f e))) ts
unfolding all_edges All
edges-all f [] h = tt
edges-all f (t ∷ ts) h =
    let a = f t.0 in
    let b = f t.1 in
    let c = f t.2 in
    let abc = and_left (a && b && c) (all_edges f ts) h in
    let ab = and_left (a && b) c abc in
    ((and_left a b ab, and_right a b ab, and_right (a && b) c abc), edges-all f ts (and_right (a && b && c) (all_edges f ts) h))

good_tet : Corners → ℕ → Bool
good_tet l t = all_edges (good l) (map (on_each (edge_in t)) (mt_row (case_of l t)))

good_cell : Corners → Bool
good_cell l = all 6 (good_tet l)

all_good : T (all_bools 8 good_cell)
unfolding all_bools good_cell good_tet all_edges good all on_each edge_in edge_of tet_corner tet_label tet_pair tet_pairs corner_of label_to du dv dw mt_row case_of bit at
all_good = tt

tet_good : (ok side : Corners) (t : ℕ) → length side ≡ 8 → t < 6 → All (Corner (λ e. T (good side e))) (tet_tris ok side t)
unfolding tet_tris case_no good_cell good_tet All
tet_good ok side t l h = go (tet_ok ok t)
  where
    go : (b : Bool) → All (Corner (λ e. T (good side e))) (map (on_each (edge_in t)) (mt_row (cond b (case_of side t) 0)))
    go true = edges-all (good side) (map (on_each (edge_in t)) (mt_row (case_of side t))) (all-at 6 (good_tet side) (bools_at 8 good_cell all_good side l) t h)
    go false = rw mt_none tt

cell_good : (ok side : Corners) → length side ≡ 8 → All (Corner (λ e. T (good side e))) (cell_tris ok side)
unfolding cell_tris
cell_good ok side l = each_all _ 6 (tet_tris ok side) (λ t h. tet_good ok side t l h)

step-lt : (d u n : ℕ) → suc u < n → step d u < n
unfolding step
step-lt zero u n h = omega arith
step-lt (suc d) u n h = h

split5 : (a b c d e : Bool) → T (a && b && c && d && e) → T a × T b × T c × T d × T e
split5 true true true true true t = (tt, tt, tt, tt, tt)
split5 true true true true false t = absurd t
split5 true true true false e t = absurd t
split5 true true false d e t = absurd t
split5 true false c d e t = absurd t
split5 false b c d e t = absurd t

low-lt : (c k : ℕ) → c + k < 8 → c < 8
low-lt c k h = omega arith

two_steps : (d d' d'' u : ℕ) → d + d' ≡ d'' → d'' < 2 → step d' (step d u) ≡ step d'' u
two_steps d d' d'' u e h = step-step d d' u (omega arith) ∙ ap (λ (x : ℕ). step x u) e

module _ (F : Field) (u v w : ℕ) (hu : suc u < F.box.nu) (hv : suc v < F.box.nv) (hw : suc w < F.box.nw) where
  corner_in : (c : ℕ) → in_box F.box (step (du c) u) (step (dv c) v) (step (dw c) w) ≡ true
  corner_in c =
      in_box_lem F.box (record { u = step (du c) u; v = step (dv c) v; w = step (dw c) w })
      (record { on_u = step-lt (du c) u _ hu; on_v = step-lt (dv c) v _ hv; on_w = step-lt (dw c) w _ hw })

  -- an edge of the cell whose ends are on different sides is a crossed edge of its owner
  good_crossed : (e : ℕ) → T (good (corners_of (side_at F) u v w) e)
      → crossed F (step (du (e / 7)) u) (step (dv (e / 7)) v) (step (dw (e / 7)) w) (e % 7) ≡ true
  unfolding good crossed
  good_crossed e t =
      let c = e / 7 in
      let k = corner_of (e % 7) in
      let q = split5 (eqb (du c + du k) (du (c + k))) (eqb (dv c + dv k) (dv (c + k))) (eqb (dw c + dw k) (dw (c + k)))
      (ltb (c + k) 8) (not (beq (at (corners_of (side_at F) u v w) c) (at (corners_of (side_at F) u v w) (c + k)))) t in
      let h8 : c + k < 8 = ltb→lt _ _ q.3 in
      let d = steps_lt (c + k) in
      let s1 = two_steps (du c) (du k) (du (c + k)) u (eqb→eq _ _ q.0) d.0 in
      let s2 = two_steps (dv c) (dv k) (dv (c + k)) v (eqb→eq _ _ q.1) d.1 in
      let s3 = two_steps (dw c) (dw k) (dw (c + k)) w (eqb→eq _ _ q.2) d.2 in
      let l7 : e % 7 < 7 = omega arith in
      let x : not (beq (side_at F (step (du c) u) (step (dv c) v) (step (dw c) w)) (side_at F (step (du (c + k)) u) (step (dv (c + k)) v) (step (dw (c + k)) w))) ≡ true =
      T_true _ (rw (at-corner (side_at F) u v w c (low-lt c k h8), at-corner (side_at F) u v w (c + k) h8) at q.4) in
      rw (s1, s2, s3, lt-ltb (e % 7) 7 l7, corner_in c, corner_in (c + k)) x

  edge-crossed : (e : ℕ) → T (good (corners_of (side_at F) u v w) e) → Crossed F (vertex_in (edge_no F.box) u v w e)
  unfolding vertex_in
  edge-crossed e t = record { u = step (du (e / 7)) u; v = step (dv (e / 7)) v; w = step (dw (e / 7)) w; l = e % 7; crosses = good_crossed e t; is = refl }

eight_sides : (F : Field) (u v w : ℕ) → length (corners_of (side_at F) u v w) ≡ 8
unfolding corners_of
eight_sides F u v w = refl

module _ (F : Field) (u v w : ℕ) where
  site_out : in_box F.box (suc u) (suc v) (suc w) ≡ false → All (Corner (Crossed F)) (site_edges F u v w)
  unfolding site_edges All
  site_out e =
      let g : Tri → Tri = on_each (vertex_in (edge_no F.box) u v w) in
      rw (cell_none (corners_of (ok_at F) u v w) (corners_of (side_at F) u v w) (eight F u v w) (far_missing F u v w e)) tt

  site_in : suc u < F.box.nu → suc v < F.box.nv → suc w < F.box.nw → All (Corner (Crossed F)) (site_edges F u v w)
  unfolding site_edges on_each
  site_in hu hv hw =
      let ok = corners_of (ok_at F) u v w in
      let side = corners_of (side_at F) u v w in
      let x = edge-crossed F u v w hu hv hw in
      all_under (Corner (Crossed F)) (on_each (vertex_in (edge_no F.box) u v w)) (cell_tris ok side)
      (all_map (Corner (λ e. T (good side e))) (λ t. Corner (Crossed F) (on_each (vertex_in (edge_no F.box) u v w) t))
      (λ t p. (x t.0 p.0, x t.1 p.1, x t.2 p.2)) (cell_tris ok side) (cell_good ok side (eight_sides F u v w)))

  site-crossed : All (Corner (Crossed F)) (site_edges F u v w)
  site-crossed =
      ⊎_elim (λ hu. ⊎_elim (λ hv. ⊎_elim (λ hw. site_in hu hv hw)
      (λ h. site_out (out_w F.box (suc u) (suc v) (suc w) h)) (lt-or (suc w) F.box.nw))
      (λ h. site_out (out_v F.box (suc u) (suc v) (suc w) h)) (lt-or (suc v) F.box.nv))
      (λ h. site_out (out_u F.box (suc u) (suc v) (suc w) h)) (lt-or (suc u) F.box.nu)

-- every edge of the triangles of edges is crossed
pub edges-crossed : (F : Field) → All (Corner (Crossed F)) (edge_tris F)
unfolding edge_tris
edges-crossed F =
    each_all _ F.box.nw _ (λ w hw. each_all _ F.box.nv _ (λ v hv. each_all _ F.box.nu _ (λ u hu. site-crossed F u v w)))

-- ---- in the range of the edge numbers

module _ (F : Field) where
  in_range : (e : ℕ) → Crossed F e → e < 7 * sites F.box
  unfolding crossed edge_no in_box
  in_range e c =
      let n = F.box in
      let p = and-apart (ltb c.l 7 && (ltb c.u n.nu && ltb c.v n.nv && ltb c.w n.nw)
      && in_box n (step (du (corner_of c.l)) c.u) (step (dv (corner_of c.l)) c.v) (step (dw (corner_of c.l)) c.w)) _ c.crosses in
      let q = and-apart (ltb c.l 7 && (ltb c.u n.nu && ltb c.v n.nv && ltb c.w n.nw)) _ p.0 in
      let r = and-apart (ltb c.l 7) _ q.0 in
      let s = and-apart (ltb c.u n.nu && ltb c.v n.nv) (ltb c.w n.nw) r.1 in
      let t = and-apart (ltb c.u n.nu) (ltb c.v n.nv) s.0 in
      let a : site_of n c.u c.v c.w < sites n =
      site-lt n (record { u = c.u; v = c.v; w = c.w }) (record { on_u = ltb-true _ _ t.0; on_v = ltb-true _ _ t.1; on_w = ltb-true _ _ s.1 }) in
      let b : c.l < 7 = ltb-true _ _ r.0 in
      rw c.is (bound (site_of n c.u c.v c.w) c.l (sites n) a b)
    where
      bound : (s l n : ℕ) → s < n → l < 7 → 7 * s + l < 7 * n
      bound s l n a b = omega arith

  pub edges_range : All (Corner (λ e. e < 7 * sites F.box)) (edge_tris F)
  edges_range = all_map _ _ (λ t c. (in_range t.0 c.0, in_range t.1 c.1, in_range t.2 c.2)) (edge_tris F) (edges-crossed F)

  label_in : (e : ℕ) (c : Crossed F e) → c.l < 7
  unfolding crossed
  label_in e c =
      let n = F.box in
      let p = and-apart (ltb c.l 7 && in_box n c.u c.v c.w
      && in_box n (step (du (corner_of c.l)) c.u) (step (dv (corner_of c.l)) c.v) (step (dw (corner_of c.l)) c.w)) _ c.crosses in
      let q = and-apart (ltb c.l 7 && in_box n c.u c.v c.w) _ p.0 in
      ltb-true _ _ (and-apart (ltb c.l 7) _ q.0).0

  named : (e : ℕ) → Crossed F e → Named F (by_edge F.vertex e)
  unfolding edge_no vertex_at
  named e c = record {
    u = c.u;
    v = c.v;
    w = c.w;
    l = c.l;
    crosses = c.crosses;
    is = ap (by_edge F.vertex) c.is ∙ by_edge_lem F.vertex (site_of F.box c.u c.v c.w) c.l (label_in e c);
  }

  -- every vertex of the march's triangles is that of a crossed edge
  pub march-crossed : All (Corner (Named F)) (march F)
  unfolding on_each kept_edges
  march-crossed =
      rw (march_kept F)
      (all_under (Corner (Named F)) (on_each (by_edge F.vertex)) (kept_edges F)
      (all_map (Corner (Crossed F)) (λ t. Corner (Named F) (on_each (by_edge F.vertex) t))
      (λ t c. (named t.0 c.0, named t.1 c.1, named t.2 c.2)) (kept_edges F)
      (all_kept (Corner (Crossed F)) (passes F.vertex) (edge_tris F) (edges-crossed F))))
