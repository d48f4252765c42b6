-- Laws of the march: sites without a cell give nothing, one loop over the site numbers, at most twelve triangles a cell, layers alone. Assumes nothing.
use mathlib.Core.Path.{◌≡◌, refl, sym, ap, ap₂, ◌∙◌, fun_ext}
use mathlib.Core.Bool.{Bool, true, false, not, ◌&&◌, cond, false≢true}
use mathlib.Core.List.{List, [], ◌++◌, map}
use Prim.Native.Nat.{ℕ, zero, suc, ◌+◌, ◌*◌, ◌-◌, ◌/◌, ◌%◌, ◌≤◌, ◌<◌, pred}
use native.Mathlib.Nat.{le_trans, add-zero, zero-add}
use native.Mathlib.Omega.{arith}
use lib.Dec.{eqb, ltb}
use borrow.Author.Tests.{lt-ltb, le-ltb, eq-eqb}
use lib.ListN.{length, length-map}
use Rattle.laws.specs.Bools.{bit}
use Rattle.laws.specs.Ranges.{each}
use Rattle.laws.specs.Lists.{keep, All}
use Rattle.laws.specs.Triangles.{Tri}
use Rattle.laws.proofs.Bools.{bit_le, and-apart}
use Rattle.laws.proofs.Lists.{keep-le, all_keep, all_map}
use Rattle.laws.proofs.Ranges.{each_same, each_nil, each_trim, each-le, each_rows, each-add, each_all}
use Rattle.tables.specs.Edges.{du, dv, dw}
use Rattle.tables.specs.Tets.{tet_corner}
use Rattle.tables.proofs.Cases.{mt_two}
use Rattle.lattice.specs.declared.Sides.{Sides}
use Rattle.lattice.specs.declared.Uvw.{Uvw}
use Rattle.lattice.specs.Sites.{sites, cells, in_box, site_of, uvw_of, step}
use Rattle.lattice.proofs.Sites.{uvw_site}
use Rattle.march.specs.Cells.{Corners, at, case_of, tet_ok, case_no, on_each, tet_tris, cell_tris}
use Rattle.march.specs.March.{Field, ok_at, side_at, vertex_at, corners_of, vertex_in, resolved, proper, emitted, site_tris, slab, march}
use Rattle.march.specs.Lists.{deep, layers}
use Rattle.march.proofs.Cells.{cell_none}

-- ---- a site whose far corner is past the box gives nothing

mid_false : (a c : Bool) → (a && false && c) ≡ false
mid_false true c = refl
mid_false false c = refl

last_false : (a b : Bool) → (a && b && false) ≡ false
last_false true true = refl
last_false true false = refl
last_false false b = refl

module _ (n : Sides) (u v w : ℕ) where
  pub out_u : n.nu ≤ u → in_box n u v w ≡ false
  unfolding in_box
  out_u h = ap (λ (x : Bool). x && ltb v n.nv && ltb w n.nw) (le-ltb u n.nu h)

  pub out_v : n.nv ≤ v → in_box n u v w ≡ false
  unfolding in_box
  out_v h = ap (λ (x : Bool). ltb u n.nu && x && ltb w n.nw) (le-ltb v n.nv h) ∙ mid_false (ltb u n.nu) (ltb w n.nw)

  pub out_w : n.nw ≤ w → in_box n u v w ≡ false
  unfolding in_box
  out_w h = ap (λ (x : Bool). ltb u n.nu && ltb v n.nv && x) (le-ltb w n.nw h) ∙ last_false (ltb u n.nu) (ltb v n.nv)

module _ (F : Field) where
  pub far_missing : (u v w : ℕ) → in_box F.box (suc u) (suc v) (suc w) ≡ false → at (corners_of (ok_at F) u v w) 7 ≡ false
  unfolding at corners_of ok_at
  far_missing u v w e = ap (λ (b : Bool). b && F.finite (site_of F.box (suc u) (suc v) (suc w))) e

  pub eight : (u v w : ℕ) → length (corners_of (ok_at F) u v w) ≡ 8
  unfolding corners_of
  eight u v w = refl

  pub site-none : (u v w : ℕ) → in_box F.box (suc u) (suc v) (suc w) ≡ false → site_tris F u v w ≡ []
  unfolding site_tris keep
  site-none u v w e =
      let g : Tri → Tri = on_each (vertex_in (vertex_at F) u v w) in
      ap (λ (l : List Tri). keep emitted (map g l))
      (cell_none (corners_of (ok_at F) u v w) (corners_of (side_at F) u v w) (eight u v w) (far_missing u v w e))

  row-none : (v w : ℕ) → F.box.nv ≤ suc v → each F.box.nu (λ u. site_tris F u v w) ≡ []
  row-none v w h = each_nil F.box.nu _ (λ u l. site-none u v w (out_v F.box (suc u) (suc v) (suc w) h))

  pub slab-none : (w : ℕ) → F.box.nw ≤ suc w → slab F w ≡ []
  unfolding slab
  slab-none w h = each_nil F.box.nv _ (λ v l. each_nil F.box.nu _ (λ u k. site-none u v w (out_w F.box (suc u) (suc v) (suc w) h)))

  -- the cells alone
  pub row-cells : (v w : ℕ) → each F.box.nu (λ u. site_tris F u v w) ≡ each (pred F.box.nu) (λ u. site_tris F u v w)
  row-cells v w =
      each_trim F.box.nu (λ u. site_tris F u v w) (λ u. site_tris F u v w) (λ u l. refl)
      (λ u e. site-none u v w (out_u F.box (suc u) (suc v) (suc w) (omega arith)))

  pub slab-cells : (w : ℕ) → slab F w ≡ each (pred F.box.nv) (λ v. each (pred F.box.nu) (λ u. site_tris F u v w))
  unfolding slab
  slab-cells w =
      each_trim F.box.nv (λ v. each F.box.nu (λ u. site_tris F u v w)) (λ v. each (pred F.box.nu) (λ u. site_tris F u v w))
      (λ v l. row-cells v w) (λ v e. row-none v w (omega arith))

  pub march_slabs : march F ≡ each (pred F.box.nw) (slab F)
  unfolding march
  march_slabs = each_trim F.box.nw (slab F) (slab F) (λ w l. refl) (λ w e. slab-none w (omega arith))

-- ---- one loop over the site numbers

site-sum : (n : Sides) (u v w : ℕ) → w * (n.nv * n.nu) + (v * n.nu + u) ≡ site_of n u v w
unfolding site_of
site-sum n u v w = omega arith

sites-rows : (n : Sides) → sites n ≡ n.nw * (n.nv * n.nu)
unfolding sites
sites-rows n = omega arith

-- the march as one loop over the site numbers
pub march-sites : (F : Field) → march F ≡ each (sites F.box) (λ s. site_tris F (uvw_of F.box s).u (uvw_of F.box s).v (uvw_of F.box s).w)
unfolding march slab
march-sites F =
    let n = F.box in
    let f : ℕ → List Tri = λ s. site_tris F (uvw_of n s).u (uvw_of n s).v (uvw_of n s).w in
    sym (ap (λ (k : ℕ). each k f) (sites-rows n) ∙ each_rows n.nw (n.nv * n.nu) f
    ∙ each_same n.nw _ _ (λ w hw. each_rows n.nv n.nu (λ i. f (w * (n.nv * n.nu) + i))
    ∙ each_same n.nv _ _ (λ v hv. each_same n.nu _ _ (λ u hu.
    let p : Uvw = record { u = u; v = v; w = w } in
    ap f (site-sum n u v w)
    ∙ ap (λ (q : Uvw). site_tris F q.u q.v q.w) (uvw_site n p (record { on_u = hu; on_v = hv; on_w = hw }))))))

-- ---- never more than twelve triangles a cell

case_small : (ok side : Corners) (t : ℕ) → case_no ok side t < 16
unfolding case_no case_of
case_small ok side t =
    go (tet_ok ok t) (at side (tet_corner t 0)) (at side (tet_corner t 1)) (at side (tet_corner t 2)) (at side (tet_corner t 3))
  where
    go : (b p q r s : Bool) → cond b (bit p + 2 * bit q + 4 * bit r + 8 * bit s) 0 < 16
    go true p q r s = omega (arith, bit_le p, bit_le q, bit_le r, bit_le s)
    go false p q r s = omega arith

cell_le : (ok side : Corners) → length (cell_tris ok side) ≤ 12
unfolding cell_tris tet_tris
cell_le ok side = each-le 2 6 (tet_tris ok side) (λ t. rw length-map (mt_two (case_no ok side t) (case_small ok side t)))

pub site-le : (F : Field) (u v w : ℕ) → length (site_tris F u v w) ≤ 12
unfolding site_tris
site-le F u v w = le_trans (keep-le emitted _) (rw length-map (cell_le (corners_of (ok_at F) u v w) (corners_of (side_at F) u v w)))

pub pred_sub : (n : ℕ) → pred n ≡ n - 1
pred_sub zero = refl
pred_sub (suc n) = omega arith

product : (a b c : ℕ) → c * (b * (a * 12)) ≡ 12 * (a * b * c)
product a b c = omega arith

module _ (F : Field) where
  pub slab-le : (w : ℕ) → length (slab F w) ≤ pred F.box.nv * (pred F.box.nu * 12)
  slab-le w =
      rw (slab-cells F w)
      (each-le (pred F.box.nu * 12) (pred F.box.nv) (λ v. each (pred F.box.nu) (λ u. site_tris F u v w))
      (λ v. each-le 12 (pred F.box.nu) (λ u. site_tris F u v w) (λ u. site-le F u v w)))

  pub march-le : length (march F) ≤ 12 * cells F.box
  unfolding cells
  march-le =
      let n = F.box in
      let a : length (march F) ≤ pred n.nw * (pred n.nv * (pred n.nu * 12)) =
      rw (march_slabs F) (each-le (pred n.nv * (pred n.nu * 12)) (pred n.nw) (slab F) slab-le) in
      rw (product (pred n.nu) (pred n.nv) (pred n.nw), pred_sub n.nu, pred_sub n.nv, pred_sub n.nw) at a

  -- ---- every triangle has three vertices that are there, no two the same

  pub march-emitted : All (λ t. emitted t ≡ true) (march F)
  unfolding march slab site_tris
  march-emitted =
      each_all _ F.box.nw _ (λ w hw. each_all _ F.box.nv _ (λ v hv. each_all _ F.box.nu _ (λ u hu. all_keep emitted _)))

  pub march-proper : All (λ t. proper t ≡ true) (march F)
  unfolding emitted
  march-proper = all_map _ _ (λ t e. (and-apart (resolved t) (proper t) e).1) (march F) march-emitted

  -- the same in plain words
  pub march_distinct : All (λ t. (t.0 ≡ t.1 → ⊥) × (t.1 ≡ t.2 → ⊥) × (t.0 ≡ t.2 → ⊥)) (march F)
  unfolding proper
  march_distinct = all_map _ _ apart (march F) march-proper
    where
      differ : (a b : ℕ) → not (eqb a b) ≡ true → a ≡ b → ⊥
      differ a b h e = false≢true (ap not (sym (eq-eqb a b e)) ∙ h)

      apart : (t : Tri) → proper t ≡ true → (t.0 ≡ t.1 → ⊥) × (t.1 ≡ t.2 → ⊥) × (t.0 ≡ t.2 → ⊥)
      apart t h =
          let p = and-apart (not (eqb t.0 t.1) && not (eqb t.1 t.2)) (not (eqb t.0 t.2)) h in
          let q = and-apart (not (eqb t.0 t.1)) (not (eqb t.1 t.2)) p.0 in
          (differ t.0 t.1 q.0, differ t.1 t.2 q.1, differ t.0 t.2 p.1)

-- ---- some layers alone: the same triangles

-- layer k of the m layers from layer a on
module _ (F : Field) (a m k : ℕ) (low : ltb k m ≡ ltb (a + k) F.box.nw) (high : ltb (suc k) m ≡ ltb (suc (a + k)) F.box.nw) where
  at_low : (u v : ℕ) → F.box.nu * F.box.nv * a + site_of (deep F.box m) u v k ≡ site_of F.box u v (a + k)
  unfolding site_of
  at_low u v = omega arith

  at_high : (u v : ℕ) → F.box.nu * F.box.nv * a + site_of (deep F.box m) u v (suc k) ≡ site_of F.box u v (suc (a + k))
  unfolding site_of
  at_high u v = omega arith

  ok_low : (u v : ℕ) → ok_at (layers F a m) u v k ≡ ok_at F u v (a + k)
  unfolding ok_at layers in_box
  ok_low u v = ap₂ (λ (b : Bool) (s : ℕ). ltb u F.box.nu && ltb v F.box.nv && b && F.finite s) low (at_low u v)

  ok_high : (u v : ℕ) → ok_at (layers F a m) u v (suc k) ≡ ok_at F u v (suc (a + k))
  unfolding ok_at layers in_box
  ok_high u v = ap₂ (λ (b : Bool) (s : ℕ). ltb u F.box.nu && ltb v F.box.nv && b && F.finite s) high (at_high u v)

  side-low : (u v : ℕ) → side_at (layers F a m) u v k ≡ side_at F u v (a + k)
  unfolding side_at layers
  side-low u v = ap F.side (at_low u v)

  side_high : (u v : ℕ) → side_at (layers F a m) u v (suc k) ≡ side_at F u v (suc (a + k))
  unfolding side_at layers
  side_high u v = ap F.side (at_high u v)

  vertex_both : (u v d l : ℕ) → vertex_at (layers F a m) u v (step d k) l ≡ vertex_at F u v (step d (a + k)) l
  unfolding vertex_at layers step
  vertex_both u v zero l = ap (λ (s : ℕ). F.vertex s l) (at_low u v)
  vertex_both u v (suc d) l = ap (λ (s : ℕ). F.vertex s l) (at_high u v)

  vertices : (u v : ℕ) → vertex_in (vertex_at (layers F a m)) u v k ≡ vertex_in (vertex_at F) u v (a + k)
  unfolding vertex_in
  vertices u v = fun_ext (λ e. vertex_both (step (du (e / 7)) u) (step (dv (e / 7)) v) (dw (e / 7)) (e % 7))

  pub layers_ok : (u v : ℕ) → corners_of (ok_at (layers F a m)) u v k ≡ corners_of (ok_at F) u v (a + k)
  unfolding corners_of
  layers_ok u v = simp (ok_low, ok_high)

  pub layers-side : (u v : ℕ) → corners_of (side_at (layers F a m)) u v k ≡ corners_of (side_at F) u v (a + k)
  unfolding corners_of
  layers-side u v = simp (side-low, side_high)

  pub layers-site : (u v : ℕ) → site_tris (layers F a m) u v k ≡ site_tris F u v (a + k)
  unfolding site_tris
  layers-site u v = rw (vertices u v, layers_ok u v, layers-side u v)

  pub layers-slab : slab (layers F a m) k ≡ slab F (a + k)
  unfolding slab layers
  layers-slab = each_same F.box.nv _ _ (λ v hv. each_same F.box.nu _ _ (λ u hu. layers-site u v))

-- where both layers are in both boxes
within : (F : Field) (a m k : ℕ) → suc k < m → suc (a + k) < F.box.nw → slab (layers F a m) k ≡ slab F (a + k)
within F a m k h g =
    layers-slab F a m k (lt-ltb k m (omega arith) ∙ sym (lt-ltb (a + k) F.box.nw (omega arith))) (lt-ltb (suc k) m h ∙ sym (lt-ltb (suc (a + k)) F.box.nw g))

-- one slab from two layers: joined, they are the march
pub march_pairs : (F : Field) → march F ≡ each (pred F.box.nw) (λ w. slab (layers F w 2) 0)
march_pairs F =
    march_slabs F ∙ each_same (pred F.box.nw) (slab F) (λ w. slab (layers F w 2) 0)
    (λ w h. sym (within F w 2 0 (omega arith) (omega (arith, pred_sub F.box.nw)) ∙ ap (slab F) (add-zero w)))

part-march : (F : Field) (a b : ℕ) → ((i : ℕ) → i < b → slab (layers F a (suc b)) i ≡ slab F (a + i)) → march (layers F a (suc b)) ≡ each b (λ i. slab F (a + i))
unfolding layers
part-march F a b h = march_slabs (layers F a (suc b)) ∙ each_same b (slab (layers F a (suc b))) (λ i. slab F (a + i)) h

first-march : (F : Field) (a b : ℕ) → ((i : ℕ) → i < b → slab (layers F a (suc b)) i ≡ slab F i) → march (layers F a (suc b)) ≡ each b (slab F)
unfolding layers
first-march F a b h = march_slabs (layers F a (suc b)) ∙ each_same b (slab (layers F a (suc b))) (slab F) h

-- the layers 0 to a, and those from layer a on: their marches, one after the other
pub march-append : (F : Field) (a b : ℕ) → F.box.nw ≡ suc (a + b) → march F ≡ march (layers F 0 (suc a)) ++ march (layers F a (suc b))
march-append F a b e =
    march_slabs F ∙ ap (λ (k : ℕ). each (pred k) (slab F)) e ∙ each-add a b (slab F)
    ∙ ap₂ (λ (x y : List Tri). x ++ y) (sym lower) (sym upper)
  where
    lower : march (layers F 0 (suc a)) ≡ each a (slab F)
    lower = first-march F 0 a (λ i h. within F 0 (suc a) i (omega arith) (omega arith) ∙ ap (slab F) (zero-add i))

    upper : march (layers F a (suc b)) ≡ each b (λ i. slab F (a + i))
    upper = part-march F a b (λ i h. within F a (suc b) i (omega arith) (omega arith))
