-- What the loops of the marks need of their lists, and keep. Assumes nothing.
use Rattle.std.specs.Prelude.{Option, None, Some, IfSome}
use mathlib.Core.Path.{◌≡◌, refl, sym, ap, ap₂, ◌∙◌}
use mathlib.Core.Bool.{Bool, true, false, beq, cond}
use mathlib.Core.List.{List}
use Prim.Native.Nat.{ℕ, ◌+◌, ◌*◌, ◌-◌, ◌≤◌, ◌<◌}
use native.Mathlib.Nat.{mul-le-mul_right, suc-mul, mul_comm}
use native.Mathlib.Omega.{arith}
use lib.Ieee.{Float, nan}
use lib.ListN.{length, drop, length-drop}
use lib.Seq.{get_or-drop}
use Rattle.laws.specs.Bools.{bit}
use Rattle.laws.specs.Ranges.{fold, sum}
use Rattle.laws.proofs.Ranges.{fold-rows}
use Rattle.laws.proofs.Bools.{bit_le}
use Rattle.laws.proofs.Sums.{sum_rows, sum_same, sum-le}
use Rattle.samples.specs.Sides.{inside, crossing, crosses}
use Rattle.lattice.specs.declared.Sides.{Sides}
use Rattle.lattice.specs.declared.Uvw.{Uvw}
use Rattle.lattice.specs.Sites.{SidesFit, sites, InBox, site_of}
use Rattle.lattice.specs.Across.{across_of}
use Rattle.lattice.proofs.Sites.{site-lt}
use Rattle.lattice.proofs.OtherEnds.{across-joined}
use Rattle.marks.specs.Marks.{sample, crossed_by, is_crossed, crossed_count}
use Rattle.marks.specs.Inner.Loops.{mark_site, mark_sites, mark_row, mark_layer, from_layer, cross_site, cross_sites, cross_row, cross_layer, Sampled}
use Rattle.marks.proofs.Layers.{below, shifted, across_shift}

-- the site across an owned edge is in the box
pub end_inside : (n : Sides) (s l : ℕ) (o : Option ℕ) → SidesFit n → s < sites n → o ≡ across_of n s l → IfSome o (λ t. t < sites n)
end_inside n s l None f h e = tt
end_inside n s l (Some t) f h e = (across-joined n s l t f h (sym e)).inside

-- the same for a site that is given with its coordinates
pub number-lt : (n : Sides) (p : Uvw) (s : ℕ) → InBox n p → s ≡ site_of n p.u p.v p.w → s < sites n
number-lt n p s b e = rw e (site-lt n p b)

pub other-lt : (n : Sides) (p : Uvw) (s l t : ℕ) → SidesFit n → InBox n p → s ≡ site_of n p.u p.v p.w → across_of n s l ≡ Some t → t < sites n
other-lt n p s l t f b e a = (across-joined n s l t f (number-lt n p s b e) a).inside

-- an edge that leads to a site counts for one where the two are on different sides
crosses_by : (x y h : Float) (b : Bool) → beq (inside x h) (inside y h) ≡ b → bit (crosses (crossing x y h)) ≡ cond b 0 1
unfolding crossing bit
crosses_by x y h true e = rw e
crosses_by x y h false e = rw e

pub cross_some : (n : Sides) (S : List Float) (h : Float) (s l t : ℕ) (b : Bool) → across_of n s l ≡ Some t
    → beq (inside (sample S s) h) (inside (sample S t) h) ≡ b → cond b 0 1 ≡ bit (is_crossed n S h s l)
unfolding is_crossed crossed_by
cross_some n S h s l t b a e = sym (ap (λ (o : Option ℕ). bit (crossed_by S h s o)) a ∙ crosses_by (sample S s) (sample S t) h b e)

-- ---- rows

-- site u of row v of the first layer
pub row-site : (n : Sides) (u v : ℕ) → v * n.nu + u ≡ site_of n u v 0
unfolding site_of
row-site n u v = omega (arith, mul_comm v n.nu)

row-end : (v nv nu : ℕ) → v < nv → v * nu + nu ≤ nv * nu
row-end v nv nu h = rw suc-mul at (mul-le-mul_right nu h)

-- its number stays small
pub row-small : (n : Sides) (u v : ℕ) → SidesFit n → u < n.nu → v < n.nv → v * n.nu + u < 1024
row-small n u v f hu hv = omega (arith, row-end v n.nv n.nu hv, f.u_most, f.v_most, mul-le-mul_right n.nu f.v_most)

pub row-box : (n : Sides) (u v : ℕ) → SidesFit n → u < n.nu → v < n.nv → InBox n (record { u = u; v = v; w = 0 })
row-box n u v f hu hv = record { on_u = hu; on_v = hv; on_w = f.w_some }

pub row-inside : (n : Sides) (u v : ℕ) → SidesFit n → u < n.nu → v < n.nv → v * n.nu + u < sites n
row-inside n u v f hu hv = rw (row-site n u v) (site-lt n _ (row-box n u v f hu hv))

-- the rows are the layer
pub rows_are : (n : Sides) (S : List Float) (h : Float) (m : List ℕ) → fold (mark_row n S h) n.nv m ≡ mark_layer n S h m
unfolding mark_row mark_layer mark_sites
rows_are n S h m = sym (fold-rows (mark_site n S h) n.nv n.nu m) ∙ ap (λ (k : ℕ). fold (mark_site n S h) k m) (mul_comm n.nv n.nu)

pub cross_rows : (n : Sides) (S : List Float) (h : Float) → sum n.nv (cross_row n S h) ≡ cross_layer n S h
unfolding cross_row cross_layer cross_sites
cross_rows n S h = sym (sum_rows n.nv n.nu (cross_site n S h)) ∙ ap (λ (k : ℕ). sum k (cross_site n S h)) (mul_comm n.nv n.nu)

-- how much a site, a row and a layer can add
pub site-most : (n : Sides) (S : List Float) (h : Float) (s : ℕ) → cross_site n S h s ≤ 7
unfolding cross_site
site-most n S h s = omega (arith, sum-le 7 1 (λ l. bit (is_crossed n S h s l)) (λ l. bit_le (is_crossed n S h s l)))

pub row-most : (n : Sides) (S : List Float) (h : Float) → n.nu ≤ 32 → (v : ℕ) → cross_row n S h v ≤ 224
unfolding cross_row
row-most n S h k v =
    omega (arith, sum-le n.nu 7 (λ u. cross_site n S h (v * n.nu + u)) (λ u. site-most n S h (v * n.nu + u)))

pub layer_count-most : (n : Sides) (S : List Float) (h : Float) → n.nu ≤ 32 → n.nv ≤ 32 → cross_layer n S h ≤ 7168
layer_count-most n S h k j = omega (arith, sym (cross_rows n S h), sum-le n.nv 224 (cross_row n S h) (row-most n S h k))

-- ---- layers

pub layer_fit : (n : Sides) (w : ℕ) → SidesFit n → w < n.nw → SidesFit (from_layer n w)
layer_fit n w f h =
    record { u_some = f.u_some; u_most = f.u_most; v_some = f.v_some; v_most = f.v_most; w_some = omega arith; w_most = omega (arith, f.w_most) }

-- the sites from layer w on, and those below it
pub layer_split : (n : Sides) (w : ℕ) → w < n.nw → below n w + sites (from_layer n w) ≡ sites n
unfolding sites
layer_split n w h =
    let k : w + (n.nw - w) ≡ n.nw = omega arith in
    omega (arith, mul_comm (n.nu * n.nv) (n.nw - w), mul_comm (n.nu * n.nv) n.nw, ap (λ (x : ℕ). x * (n.nu * n.nv)) k)

pub layer-starts : (n : Sides) (w : ℕ) → w < n.nw → below n w ≤ sites n
layer-starts n w h = omega (arith, layer_split n w h)

-- what has an entry for each site has, behind those below the layer, one for each site from the layer on
pub layer_left : {A : Type 0} (n : Sides) (w : ℕ) (l : List A) → sites n ≤ length l → w < n.nw → sites (from_layer n w) ≤ length (drop (below n w) l)
layer_left n w l k h = rw length-drop (omega (arith, layer_split n w h, k))

pub layer_sampled : (n : Sides) (w : ℕ) (S : List Float) → Sampled n S → w < n.nw → Sampled (from_layer n w) (drop (below n w) S)
layer_sampled n w S r h = record { fit = layer_fit n w r.fit h; samples = layer_left n w S r.samples h }

-- ---- the count by layers

crossed_shift : (n : Sides) (w : ℕ) (S : List Float) (h : Float) (s : ℕ) (o : Option ℕ)
    → crossed_by S h (below n w + s) (shifted (below n w) o) ≡ crossed_by (drop (below n w) S) h s o
unfolding crossed_by shifted
crossed_shift n w S h s None = refl
crossed_shift n w S h s (Some t) =
    ap₂ (λ (x y : Float). crosses (crossing x y h)) (sym (get_or-drop (below n w) S s nan)) (sym (get_or-drop (below n w) S t nan))

label_count : (n : Sides) (S : List Float) (h : Float) (f : SidesFit n) (w : ℕ) (hw : w < n.nw) (i : ℕ) (hi : i < n.nu * n.nv) (l : ℕ) (hl : l < 7)
    → is_crossed (from_layer n w) (drop (below n w) S) h i l ≡ is_crossed n S h (below n w + i) l
unfolding is_crossed
label_count n S h f w hw i hi l hl =
    sym (ap (crossed_by S h (below n w + i)) (across_shift n w f hw i hi l hl) ∙ crossed_shift n w S h i (across_of (from_layer n w) i l))

layer_count : (n : Sides) (S : List Float) (h : Float) (f : SidesFit n) (w : ℕ) (hw : w < n.nw)
    → cross_layer (from_layer n w) (drop (below n w) S) h ≡ sum (n.nu * n.nv) (λ i. cross_site n S h (below n w + i))
unfolding cross_layer cross_sites cross_site
layer_count n S h f w hw =
    sum_same (n.nu * n.nv) (λ i. sum 7 (λ l. bit (is_crossed (from_layer n w) (drop (below n w) S) h i l))) (λ i. sum 7 (λ l. bit (is_crossed n S h (below n w + i) l)))
    (λ i hi.
    sum_same 7 (λ l. bit (is_crossed (from_layer n w) (drop (below n w) S) h i l)) (λ l. bit (is_crossed n S h (below n w + i) l))
    (λ l hl. ap bit (label_count n S h f w hw i hi l hl)))

whole : (n : Sides) (S : List Float) (h : Float) → sum (n.nw * (n.nu * n.nv)) (cross_site n S h) ≡ crossed_count n S h
unfolding crossed_count cross_site sites
whole n S h = ap (λ (k : ℕ). sum k (λ s. sum 7 (λ l. bit (is_crossed n S h s l)))) (mul_comm n.nw (n.nu * n.nv))

pub layers-count : (n : Sides) (S : List Float) (h : Float) → SidesFit n
    → sum n.nw (λ w. cross_layer (from_layer n w) (drop (below n w) S) h) ≡ crossed_count n S h
layers-count n S h f =
    sum_same n.nw (λ w. cross_layer (from_layer n w) (drop (below n w) S) h) (λ w. sum (n.nu * n.nv) (λ i. cross_site n S h (below n w + i))) (λ w hw. layer_count n S h f w hw)
    ∙ sym (sum_rows n.nw (n.nu * n.nv) (cross_site n S h)) ∙ whole n S h
