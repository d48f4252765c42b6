-- What the march's loops over cells, rows and layers need: the cells in the lists, the room, and the joined flat lists. Assumes nothing.
use mathlib.Core.Path.{◌≡◌, sym, ap, ap₂, ◌∙◌, fun_ext}
use mathlib.Core.Bool.{Bool}
use mathlib.Core.List.{List}
use Prim.Native.Nat.{ℕ, ◌+◌, ◌*◌, ◌-◌, ◌/◌, ◌≤◌, ◌<◌, pred}
use native.Mathlib.Nat.{mul-le-mul_left, mul_comm}
use native.Mathlib.Omega.{arith}
use lib.ListN.{length, get_or, drop, length-drop}
use lib.Seq.{get_or-drop}
use lib.Ieee.{Float, nan}
use Rattle.laws.specs.Ranges.{each}
use Rattle.laws.specs.Written.{Written}
use Rattle.laws.specs.Triangles.{flat}
use Rattle.laws.proofs.Ranges.{each_same, each-le}
use Rattle.laws.proofs.Written.{written_none}
use Rattle.laws.proofs.Triangles.{flat-each, flat-length}
use Rattle.lattice.specs.declared.Sides.{Sides}
use Rattle.lattice.specs.Sites.{sites, cells, site_of}
use Rattle.lattice.proofs.Sites.{layer_most, sites-most}
use Rattle.samples.specs.Sides.{inside, finite}
use Rattle.march.specs.March.{Field, none, site_tris, slab, march}
use Rattle.cases.specs.Inner.Codes.{codes_of, code_sum}
use Rattle.march.specs.Lists.{field_of, deep, layers}
use Rattle.march.specs.Inner.Loop.{look_up, cell_flat, row_flat, InTable, Lent, Lends}
use Rattle.march.proofs.Cases.{on-is, outside-none, inside-none}
use Rattle.march.proofs.Flat.{cell_flat_lem, look_is}
use Rattle.march.proofs.March.{site-le, slab-cells, slab-le, march_pairs, pred_sub}

-- ---- one cell

pub record CellRoom (n : Sides) (u v : ℕ) : Type 0 where
  pub width : n.nu ≤ 32
  pub layer : n.nu * n.nv ≤ 1024
  pub ends : n.nu * v + n.nu + n.nu ≤ n.nu * n.nv

pub cell_room_lem : (n : Sides) (s : List Float) (edges : List ℕ) (u v : ℕ) → Lent n s edges → v + 1 < n.nv → CellRoom n u v
cell_room_lem n s edges u v p hv =
    let a : n.nu * (v + 2) ≤ n.nu * n.nv = mul-le-mul_left n.nu (omega arith) in
    record { width = p.fit.u_most; layer = layer_most n p.fit; ends = omega arith }

pub cell_in : (n : Sides) (s : List Float) (edges : List ℕ) (u v : ℕ) → Lent n s edges → u + 1 < n.nu → v + 1 < n.nv
    → InTable edges (u + n.nu * v) n.nu (n.nu * n.nv)
unfolding sites
cell_in n s edges u v p hu hv =
    let r = cell_room_lem n s edges u v p hv in
    let b : n.nu * n.nv * 2 ≤ n.nu * n.nv * n.nw = mul-le-mul_left (n.nu * n.nv) p.two in
    record { site = omega (arith, r); row = r.width; layer = r.layer; room = omega (arith, r, p.table) }

site-first : (n : Sides) (u v : ℕ) → site_of n u v 0 ≡ u + n.nu * v
unfolding site_of
site-first n u v = omega arith

module _ (n : Sides) (s : List Float) (h : Float) (edges : List ℕ) (p : Lent n s edges) (u v : ℕ) where
  pub cell_tris_lem : cell_flat (look_up edges (u + n.nu * v) n.nu (n.nu * n.nv)) (codes_of n s h u v) ≡ flat (site_tris (field_of n s h edges) u v 0)
  cell_tris_lem =
      cell_flat_lem (field_of n s h edges) u v 0 (look_up edges (u + n.nu * v) n.nu (n.nu * n.nv)) (codes_of n s h u v)
      (ap (λ (i : ℕ). look_up edges i n.nu (n.nu * n.nv)) (sym (site-first n u v)) ∙ look_is n s h edges u v 0)
      (on-is n s h edges p.fit p.samples u v)

  module _ (tris : List ℕ) (at : ℕ) where
    pub outside-written : code_sum (codes_of n s h u v) ≡ 0 → Written tris at (flat (site_tris (field_of n s h edges) u v 0)) tris at
    unfolding flat
    outside-written e = rw (outside-none n s h edges p.fit p.samples u v e) (written_none tris at)

    pub inside-written : code_sum (codes_of n s h u v) ≡ 8 → Written tris at (flat (site_tris (field_of n s h edges) u v 0)) tris at
    unfolding flat
    inside-written e = rw (inside-none n s h edges p.fit p.samples u v e) (written_none tris at)

-- ---- rows and layers

pub site-flat-le : (F : Field) (u v w : ℕ) → length (flat (site_tris F u v w)) ≤ 36
site-flat-le F u v w = omega (arith, flat-length (site_tris F u v w), site-le F u v w)

pub row_flat-le : (F : Field) (v : ℕ) → length (row_flat F v) ≤ (F.box.nu - 1) * 36
unfolding row_flat
row_flat-le F v = each-le 36 (F.box.nu - 1) (λ u. flat (site_tris F u v 0)) (λ u. site-flat-le F u v 0)

pub slab-rows : (F : Field) → each (F.box.nv - 1) (row_flat F) ≡ flat (slab F 0)
unfolding row_flat
slab-rows F =
    let n = F.box in
    sym (ap flat (slab-cells F 0) ∙ flat-each (pred n.nv) (λ v. each (pred n.nu) (λ u. site_tris F u v 0))
    ∙ ap₂ (λ (a b : ℕ). each a (λ v. flat (each b (λ u. site_tris F u v 0)))) (pred_sub n.nv) (pred_sub n.nu)
    ∙ each_same (n.nv - 1) _ _ (λ v l. flat-each (n.nu - 1) (λ u. site_tris F u v 0)))

triple : (a b : ℕ) → 3 * (b * (a * 12)) ≡ b * (a * 36)
triple a b = omega arith

pub slab-flat-le : (F : Field) (w : ℕ) → length (flat (slab F w)) ≤ (F.box.nv - 1) * ((F.box.nu - 1) * 36)
slab-flat-le F w =
    let n = F.box in
    let a : length (slab F w) ≤ (n.nv - 1) * ((n.nu - 1) * 12) = rw (pred_sub n.nv, pred_sub n.nu) at (slab-le F w) in
    omega (arith, flat-length (slab F w), triple (n.nu - 1) (n.nv - 1))

-- ---- the box, layer by layer

-- the lists from layer w on are those of the layers from w on
pub tail_field : (n : Sides) (s : List Float) (h : Float) (edges : List ℕ) (w m : ℕ)
    → field_of (deep n m) (drop (w * (n.nu * n.nv)) s) h (drop (7 * (w * (n.nu * n.nv))) edges) ≡ layers (field_of n s h edges) w m
unfolding field_of layers
tail_field n s h edges w m =
    let a = w * (n.nu * n.nv) in
    let at : (i : ℕ) → a + i ≡ n.nu * n.nv * w + i = λ i. ap (λ (x : ℕ). x + i) (mul_comm w (n.nu * n.nv)) in
    let f : ◌≡◌ {A = ℕ → Bool} (λ i. finite (get_or (drop a s) i nan)) (λ i. finite (get_or s (n.nu * n.nv * w + i) nan)) =
    fun_ext (λ i. ap finite (get_or-drop a s i nan ∙ ap (λ (j : ℕ). get_or s j nan) (at i))) in
    let g : ◌≡◌ {A = ℕ → Bool} (λ i. inside (get_or (drop a s) i nan) h) (λ i. inside (get_or s (n.nu * n.nv * w + i) nan) h) =
    fun_ext (λ i. ap (λ (x : Float). inside x h) (get_or-drop a s i nan ∙ ap (λ (j : ℕ). get_or s j nan) (at i))) in
    let k : ◌≡◌ {A = ℕ → ℕ → ℕ} (λ i l. get_or (drop (7 * a) edges) (7 * i + l) none) (λ i l. get_or edges (7 * (n.nu * n.nv * w + i) + l) none) =
    fun_ext (λ i. fun_ext (λ l.
    get_or-drop (7 * a) edges (7 * i + l) none ∙ ap (λ (j : ℕ). get_or edges j none) (shift a i l ∙ ap (λ (x : ℕ). 7 * x + l) (at i)))) in
    λ j. record { box = deep n m; finite = f j; side = g j; vertex = k j }
  where
    shift : (a i l : ℕ) → 7 * a + (7 * i + l) ≡ 7 * (a + i) + l
    shift a i l = omega arith

-- a layer's triangles, from the lists from its first site on
unfoldable pub tail_flat : ℕ → ℕ → List Float → Float → List ℕ → ℕ → List ℕ
tail_flat nu nv s h edges w =
    flat (slab (field_of (record { nu = nu; nv = nv; nw = 2 }) (drop (w * (nu * nv)) s) h (drop (7 * (w * (nu * nv))) edges)) 0)

module _ (n : Sides) (s : List Float) (h : Float) (edges : List ℕ) where
  pub tail_le : (w : ℕ) → length (tail_flat n.nu n.nv s h edges w) ≤ (n.nv - 1) * ((n.nu - 1) * 36)
  unfolding tail_flat field_of
  tail_le w = slab-flat-le (field_of (deep n 2) (drop (w * (n.nu * n.nv)) s) h (drop (7 * (w * (n.nu * n.nv))) edges)) 0

  pub box-layers : each (n.nw - 1) (tail_flat n.nu n.nv s h edges) ≡ flat (march (field_of n s h edges))
  unfolding tail_flat field_of
  box-layers =
      let F = field_of n s h edges in
      sym (ap flat (march_pairs F) ∙ ap (λ (k : ℕ). flat (each k (λ w. slab (layers F w 2) 0))) (pred_sub n.nw)
      ∙ flat-each (n.nw - 1) (λ w. slab (layers F w 2) 0)
      ∙ each_same (n.nw - 1) _ _ (λ w l. ap (λ (G : Field). flat (slab G 0)) (sym (tail_field n s h edges w 2))))

-- where layer w starts, and what is left from there
pub record LayerRoom (n : Sides) (s : List Float) (edges : List ℕ) (w : ℕ) : Type 0 where
  pub small : w * (n.nu * n.nv) ≤ 32768
  pub samples : w * (n.nu * n.nv) + n.nu * n.nv * 2 ≤ length s
  pub table : 7 * (w * (n.nu * n.nv)) + 7 * (n.nu * n.nv * 2) ≤ length edges

pub layer_room : (n : Sides) (s : List Float) (edges tris : List ℕ) (w : ℕ) → Lends n s edges tris → w < n.nw - 1 → LayerRoom n s edges w
unfolding sites
layer_room n s edges tris w p h =
    let a : n.nu * n.nv * (w + 2) ≤ n.nu * n.nv * n.nw = mul-le-mul_left (n.nu * n.nv) (omega arith) in
    let b : n.nu * n.nv * n.nw ≤ 32768 = sites-most n p.fit in
    record { small = omega arith; samples = omega (arith, p.samples); table = omega (arith, p.table) }

pub layer_lent : (n : Sides) (s : List Float) (edges tris : List ℕ) (w : ℕ) → Lends n s edges tris → w < n.nw - 1
    → Lent (deep n 2) (drop (w * (n.nu * n.nv)) s) (drop (7 * (w * (n.nu * n.nv))) edges)
unfolding sites
layer_lent n s edges tris w p h =
    let r = layer_room n s edges tris w p h in
    let f = p.fit in
    record {
      fit = record { u_some = f.u_some; u_most = f.u_most; v_some = f.v_some; v_most = f.v_most; w_some = omega arith; w_most = omega arith };
      two = omega arith;
      samples = rw length-drop (omega (arith, r));
      table = rw length-drop (omega (arith, r));
    }

many : (a b c : ℕ) → c * (b * (a * 36)) ≡ 36 * (a * b * c)
many a b c = omega arith

pub box-room : (n : Sides) (s : List Float) (edges tris : List ℕ) → Lends n s edges tris → 0 + (n.nw - 1) * ((n.nv - 1) * ((n.nu - 1) * 36)) ≤ length tris
unfolding cells
box-room n s edges tris p = omega (arith, many (n.nu - 1) (n.nv - 1) (n.nw - 1), p.room)

-- three numbers a triangle
pub third : (F : Field) (n : ℕ) → n ≡ 0 + length (flat (march F)) → 3 * (n / 3) ≡ n
third F n e = omega (arith, flat-length (march F))
