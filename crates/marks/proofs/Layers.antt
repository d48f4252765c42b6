-- A layer's work on the parts from its first site on is the box's work on its sites. Assumes nothing.
use Rattle.std.specs.Prelude.{Option, None, Some}
use mathlib.Core.Path.{◌≡◌, refl, sym, ap, ap₂, ◌∙◌}
use mathlib.Core.Bool.{Bool, true, false, ◌&&◌, cond}
use mathlib.Core.List.{List, ◌++◌}
use Prim.Native.Nat.{ℕ, ◌+◌, ◌*◌, ◌-◌, ◌/◌, ◌%◌, ◌^◌, ◌≤◌, ◌<◌}
use native.Mathlib.Nat.{mul_comm, mod-lt, div-lt_iff_lt-mul, div-add-mod', mul-le-mul_right, suc-mul}
use native.Mathlib.Omega.{arith}
use borrow.Author.Tests.{ltb-true, lt-ltb}
use lib.Dec.{ltb}
use lib.ListN.{get_or, set, take, drop, length, take-append-drop, length-set}
use lib.Seq.{get_or-drop, get_or-append-add, length-take-le}
use lib.Bits.{bit_or}
use lib.Ieee.{Float, nan, lt}
use Rattle.laws.specs.Ranges.{fold}
use Rattle.laws.proofs.Bools.{bool_ext}
use Rattle.laws.proofs.Ranges.{fold_same, fold-rows, fold_behind, fold_keeps}
use Rattle.laws.proofs.Tails.{set_behind}
use Rattle.samples.specs.Sides.{half, crossing}
use Rattle.tables.specs.Edges.{corner_of, du, dv, dw}
use Rattle.tables.proofs.Edges.{steps_lt}
use Rattle.lattice.specs.declared.Sides.{Sides}
use Rattle.lattice.specs.declared.Uvw.{Uvw}
use Rattle.lattice.specs.Sites.{SidesFit, sites, in_box, site_of, uvw_of, step}
use Rattle.lattice.specs.Across.{upward, across_of}
use Rattle.lattice.proofs.Sites.{uvw_site, step-add}
use Rattle.lattice.proofs.OtherEnds.{across-up}
use Rattle.marks.specs.Marks.{sample}
use Rattle.marks.specs.Inner.Loops.{set_bit, mark_crossing, mark_to, mark_label, mark_site, mark_sites, from_layer, mark_layer, layer_turn, mark_layers}

-- ---- the site across an edge that leads up, in the box and in the box from layer w on

-- the same site by its number in the whole box
unfoldable pub shifted : ℕ → Option ℕ → Option ℕ
shifted a None = None
shifted a (Some t) = Some (a + t)

shift_cond : (a : ℕ) (b : Bool) (x : ℕ) → shifted a (cond b (Some x) None) ≡ cond b (Some (a + x)) None
unfolding shifted
shift_cond a true x = refl
shift_cond a false x = refl

ltb-less : (w d m : ℕ) → w ≤ m → ltb (w + d) m ≡ ltb d (m - w)
ltb-less w d m h =
    bool_ext (ltb (w + d) m) (ltb d (m - w)) (λ e. lt-ltb d (m - w) (omega (arith, ltb-true (w + d) m e)))
    (λ e. lt-ltb (w + d) m (omega (arith, ltb-true d (m - w) e)))

-- the number of the sites below layer w
abbrev pub below : Sides → ℕ → ℕ
below n w = w * (n.nu * n.nv)

module _ (n : Sides) (w : ℕ) where
  site_shift : (u v d : ℕ) → site_of n u v (w + d) ≡ below n w + site_of (from_layer n w) u v d
  unfolding site_of
  site_shift u v d = omega arith

  module _ (f : SidesFit n) (hw : w < n.nw) (i : ℕ) (hi : i < n.nu * n.nv) where
    col : ℕ
    col = i % n.nu

    row : ℕ
    row = i / n.nu

    col_lt : col < n.nu
    unfolding col
    col_lt = mod-lt i f.u_some

    row_lt : row < n.nv
    unfolding row
    row_lt = (div-lt_iff_lt-mul f.u_some).1 (let e = mul_comm n.nu n.nv in omega (arith, hi, e))

    low-is : site_of (from_layer n w) col row 0 ≡ i
    unfolding site_of col row
    low-is = omega (arith, div-add-mod' i n.nu, mul_comm n.nu (i / n.nu))

    low_uvw : uvw_of (from_layer n w) i ≡ record { u = col; v = row; w = 0 }
    low_uvw =
        ap (uvw_of (from_layer n w)) (sym low-is)
        ∙ uvw_site (from_layer n w) (record { u = col; v = row; w = 0 }) (record { on_u = col_lt; on_v = row_lt; on_w = omega (arith, hw) })

    high_is : site_of n col row w ≡ below n w + i
    high_is =
        let e : w + 0 ≡ w = omega arith in
        ap (site_of n col row) (sym e) ∙ site_shift col row 0 ∙ ap (λ (x : ℕ). below n w + x) low-is

    high_uvw : uvw_of n (below n w + i) ≡ record { u = col; v = row; w = w }
    high_uvw =
        ap (uvw_of n) (sym high_is) ∙ uvw_site n (record { u = col; v = row; w = w }) (record { on_u = col_lt; on_v = row_lt; on_w = hw })

    up_shift : (u v c : ℕ) → upward n u v w c ≡ shifted (below n w) (upward (from_layer n w) u v 0 c)
    unfolding upward in_box
    up_shift u v c =
        let d : dw c < 2 = (steps_lt c).2 in
        let a : step (dw c) w ≡ w + dw c = step-add (dw c) w d in
        let b : step (dw c) 0 ≡ dw c = step-add (dw c) 0 d ∙ omega arith in
        let t = ltb-less w (dw c) n.nw (omega (arith, hw)) in
        rw (a, b, t, site_shift (step (du c) u) (step (dv c) v) (dw c))
        (sym (shift_cond (below n w) (ltb (step (du c) u) n.nu && ltb (step (dv c) v) n.nv && ltb (dw c) (n.nw - w))
        (site_of (from_layer n w) (step (du c) u) (step (dv c) v) (dw c))))

    pub across_shift : (l : ℕ) → l < 7 → across_of n (below n w + i) l ≡ shifted (below n w) (across_of (from_layer n w) i l)
    across_shift l h =
        across-up n (below n w + i) l h
        ∙ ap (λ (p : Uvw). upward n p.u p.v p.w (corner_of l)) high_uvw
        ∙ up_shift col row (corner_of l)
        ∙ ap (shifted (below n w)) (sym (across-up (from_layer n w) i l h ∙ ap (λ (p : Uvw). upward (from_layer n w) p.u p.v p.w (corner_of l)) low_uvw))

-- ---- a mark behind the masks of the layers below

module _ (front : List ℕ) (a : ℕ) (len : length front ≡ a) where
  bit_behind : (r : List ℕ) (t b : ℕ) → set_bit (front ++ r) (a + t) b ≡ front ++ set_bit r t b
  unfolding set_bit
  bit_behind r t b =
      let g : get_or (front ++ r) (a + t) 0 ≡ get_or r t 0 = ap (λ (x : ℕ). get_or (front ++ r) (x + t) 0) (sym len) ∙ get_or-append-add front r t 0 in
      ap (λ (x : ℕ). set (front ++ r) (a + t) (bit_or x (2 ^ b))) g ∙ set_behind front r a t (bit_or (get_or r t 0) (2 ^ b)) len

  crossing_behind : (s t l : ℕ) (c : Option Float) (r : List ℕ) → mark_crossing (a + s) (a + t) l c (front ++ r) ≡ front ++ mark_crossing s t l c r
  unfolding mark_crossing
  crossing_behind s t l None r = refl
  crossing_behind s t l (Some f) r = go (lt f half)
    where
      go : (b : Bool) → cond b (set_bit (front ++ r) (a + s) l) (set_bit (front ++ r) (a + t) (l + 7)) ≡ front ++ cond b (set_bit r s l) (set_bit r t (l + 7))
      go true = bit_behind r s l
      go false = bit_behind r t (l + 7)

  to_behind : (S : List Float) (h : Float) (s l : ℕ) (e : Option ℕ) (r : List ℕ)
      → mark_to S h (a + s) l (shifted a e) (front ++ r) ≡ front ++ mark_to (drop a S) h s l e r
  unfolding mark_to shifted
  to_behind S h s l None r = refl
  to_behind S h s l (Some t) r =
      ap₂ (λ (x y : Float). mark_crossing (a + s) (a + t) l (crossing x y h) (front ++ r)) (sym (get_or-drop a S s nan)) (sym (get_or-drop a S t nan))
      ∙ crossing_behind s t l (crossing (sample (drop a S) s) (sample (drop a S) t) h) r

-- ---- the layers, one after the other, are all sites in order

module _ (n : Sides) (S : List Float) (h : Float) (f : SidesFit n) where
  label_behind : (w : ℕ) → w < n.nw → (front : List ℕ) → length front ≡ below n w → (i : ℕ) → i < n.nu * n.nv → (l : ℕ) (x : List ℕ) → l < 7
      → mark_label n S h (below n w + i) l (front ++ x) ≡ front ++ mark_label (from_layer n w) (drop (below n w) S) h i l x
  unfolding mark_label
  label_behind w hw front len i hi l x hl =
      ap (λ (e : Option ℕ). mark_to S h (below n w + i) l e (front ++ x)) (across_shift n w f hw i hi l hl)
      ∙ to_behind front (below n w) len S h i l (across_of (from_layer n w) i l) x

  site_behind : (w : ℕ) → w < n.nw → (front : List ℕ) → length front ≡ below n w → (i : ℕ) → i < n.nu * n.nv → (r : List ℕ)
      → mark_site n S h (below n w + i) (front ++ r) ≡ front ++ mark_site (from_layer n w) (drop (below n w) S) h i r
  unfolding mark_site
  site_behind w hw front len i hi r =
      fold_behind front (mark_label (from_layer n w) (drop (below n w) S) h i) (mark_label n S h (below n w + i)) 7 r (λ l x hl. label_behind w hw front len i hi l x hl)

  layer_behind : (w : ℕ) → w < n.nw → (m : List ℕ) → below n w ≤ length m
      → fold (λ i. mark_site n S h (below n w + i)) (n.nu * n.nv) m
      ≡ take (below n w) m ++ mark_layer (from_layer n w) (drop (below n w) S) h (drop (below n w) m)
  unfolding mark_layer mark_sites
  layer_behind w hw m k =
      ap (fold (λ i. mark_site n S h (below n w + i)) (n.nu * n.nv)) (sym (take-append-drop (below n w) m))
      ∙ fold_behind (take (below n w) m) (mark_site (from_layer n w) (drop (below n w) S) h) (λ i. mark_site n S h (below n w + i)) (n.nu * n.nv) (drop (below n w) m)
      (λ i x hi. site_behind w hw (take (below n w) m) (length-take-le (below n w) m k) i hi x)

  -- ---- the lists keep their lengths

  length-crossing : (s t l : ℕ) (c : Option Float) (m : List ℕ) → length (mark_crossing s t l c m) ≡ length m
  unfolding mark_crossing set_bit
  length-crossing s t l None m = refl
  length-crossing s t l (Some f) m = go (lt f half)
    where
      go : (b : Bool) → length (cond b (set m s (bit_or (get_or m s 0) (2 ^ l))) (set m t (bit_or (get_or m t 0) (2 ^ (l + 7))))) ≡ length m
      go true = length-set m s (bit_or (get_or m s 0) (2 ^ l))
      go false = length-set m t (bit_or (get_or m t 0) (2 ^ (l + 7)))

  length_to : (s l : ℕ) (e : Option ℕ) (m : List ℕ) → length (mark_to S h s l e m) ≡ length m
  unfolding mark_to
  length_to s l None m = refl
  length_to s l (Some t) m = length-crossing s t l (crossing (sample S s) (sample S t) h) m

  pub length_label : (s l : ℕ) (m : List ℕ) → length (mark_label n S h s l m) ≡ length m
  unfolding mark_label
  length_label s l m = length_to s l (across_of n s l) m

  pub length-site : (s : ℕ) (m : List ℕ) → length (mark_site n S h s m) ≡ length m
  unfolding mark_site
  length-site s m = fold_keeps length (mark_label n S h s) (length_label s) 7 m

  -- THE LAYERS DO WHAT ALL SITES IN ORDER DO
  below-most : (w : ℕ) → w < n.nw → below n w ≤ sites n
  unfolding sites
  below-most w hw = omega (arith, mul-le-mul_right (n.nu * n.nv) (hw), suc-mul w (n.nu * n.nv), mul_comm (n.nu * n.nv) n.nw)

  pub layers_are : (m : List ℕ) → sites n ≤ length m → mark_layers n S h n.nw m ≡ mark_sites n S h (sites n) m
  unfolding mark_layers layer_turn mark_sites sites
  layers_are m k =
      fold_same (λ (x : List ℕ). length x ≡ length m)
      (layer_turn n S h)
      (λ w. fold (λ i. mark_site n S h (below n w + i)) (n.nu * n.nv)) n.nw m refl
      (λ w x hw e. fold_keeps length (λ i. mark_site n S h (below n w + i)) (λ i y. length-site (below n w + i) y) (n.nu * n.nv) x ∙ e)
      (λ w x hw e. sym (layer_behind w hw x (omega (arith, below-most w hw, k))))
      ∙ sym (fold-rows (mark_site n S h) n.nw (n.nu * n.nv) m) ∙ ap (λ (j : ℕ). fold (mark_site n S h) j m) (mul_comm n.nw (n.nu * n.nv))
