-- Site numbers and coordinates, both ways round; bounds; ijk by the spanning vectors. Assumes nothing.
use mathlib.Core.Path.{◌≡◌, sym, ap, ◌∙◌}
use mathlib.Core.Bool.{true, ◌&&◌}
use Prim.Native.Nat.{ℕ, zero, suc, ◌+◌, ◌*◌, ◌/◌, ◌%◌, ◌-◌, ◌≤◌, ◌<◌}
use native.Mathlib.Nat.{mul-le-mul, mul_comm, mul_assoc, add_comm, mod-lt, div-lt_iff_lt-mul, div-add-mod'}
use native.Mathlib.Omega.{arith}
use borrow.Author.Tests.{ltb-true, leb-true, lt-ltb, le-leb}
use lib.Arith.{digits_div, digits_mod, digits_lt}
use lib.Dec.{ltb, leb}
use Rattle.laws.proofs.Bools.{and-apart}
use Rattle.laws.proofs.Ints.{rep_eq, nat, minus-suc, neg, ◌⊞◌, ◌⊠◌}
use Rattle.tables.specs.Edges.{offset, plus, times, deltas, delta}
use Rattle.tables.proofs.Edges.{offset-eq}
use Rattle.lattice.specs.declared.Sides.{Sides}
use Rattle.lattice.specs.declared.Uvw.{Uvw}
use Rattle.lattice.specs.Sites.{side_ok, sides_ok, SidesFit, sites, cells, InBox, site_of, uvw_of, step, ijk_of}

-- ---- the sides

side_fits : (n : ℕ) → side_ok n ≡ true → (0 < n) × (n ≤ 32)
unfolding side_ok
side_fits n e = let p = and-apart (ltb 0 n) (leb n 32) e in (ltb-true 0 n p.0, leb-true n 32 p.1)

fits_side : (n : ℕ) → 0 < n → n ≤ 32 → side_ok n ≡ true
unfolding side_ok
fits_side n p q = rw (lt-ltb 0 n p, le-leb n 32 q)

-- what the test of the sides says
pub sides-fit : (n : Sides) → sides_ok n ≡ true → SidesFit n
unfolding sides_ok
sides-fit n e =
    let p = and-apart (side_ok n.nu && side_ok n.nv) (side_ok n.nw) e in
    let q = and-apart (side_ok n.nu) (side_ok n.nv) p.0 in
    let a = side_fits n.nu q.0 in
    let b = side_fits n.nv q.1 in
    let c = side_fits n.nw p.1 in
    record { u_some = a.0; u_most = a.1; v_some = b.0; v_most = b.1; w_some = c.0; w_most = c.1 }

pub fit_sides : (n : Sides) → SidesFit n → sides_ok n ≡ true
unfolding sides_ok
fit_sides n f = rw (fits_side n.nu f.u_some f.u_most, fits_side n.nv f.v_some f.v_most, fits_side n.nw f.w_some f.w_most)

-- a product of two factors, each within a bound
pub product_le : (a b c d : ℕ) → a ≤ c → b ≤ d → a * b ≤ c * d
product_le a b c d p q = mul-le-mul p q

pub layer_most : (n : Sides) → SidesFit n → n.nu * n.nv ≤ 1024
layer_most n f = product_le n.nu n.nv 32 32 f.u_most f.v_most

pub sites-most : (n : Sides) → SidesFit n → sites n ≤ 32768
unfolding sites
sites-most n f = product_le (n.nu * n.nv) n.nw 1024 32 (layer_most n f) f.w_most

-- what stands in a site's number stays small
pub site_room_lem : (n : Sides) (p : Uvw) → SidesFit n → InBox n p → (n.nv * p.w ≤ 1024) × (n.nu * (p.v + n.nv * p.w) ≤ 33792)
site_room_lem n p f b =
    let x = product_le n.nv p.w 32 32 f.v_most (omega (arith, b.on_w, f.w_most)) in
    (x, product_le n.nu (p.v + n.nv * p.w) 32 1056 f.u_most (omega (arith, x, b.on_v, f.v_most)))

pub cells-room : (n : Sides) → SidesFit n → ((n.nu - 1) * (n.nv - 1) ≤ 961) × ((n.nu - 1) * (n.nv - 1) * (n.nw - 1) ≤ 29791)
cells-room n f =
    let x = product_le (n.nu - 1) (n.nv - 1) 31 31 (omega (arith, f.u_most)) (omega (arith, f.v_most)) in
    (x, product_le ((n.nu - 1) * (n.nv - 1)) (n.nw - 1) 961 31 x (omega (arith, f.w_most)))

pub cells-most : (n : Sides) → SidesFit n → cells n ≤ 29791
unfolding cells
cells-most n f = (cells-room n f).1

-- ---- numbers and coordinates

module _ (n : Sides) where
  digits : (u v w : ℕ) → site_of n u v w ≡ (w * n.nv + v) * n.nu + u
  unfolding site_of
  digits u v w =
      omega (
        arith,
        mul_comm n.nu (v + n.nv * w),
        mul_comm n.nv w,
        ap (λ (x : ℕ). (v + x) * n.nu) (mul_comm n.nv w),
        ap (λ (x : ℕ). x * n.nu) (add_comm v (w * n.nv)),
      )

  sites-digits : sites n ≡ (n.nw * n.nv) * n.nu
  unfolding sites
  sites-digits = mul_comm (n.nu * n.nv) n.nw ∙ ap (λ (x : ℕ). n.nw * x) (mul_comm n.nu n.nv) ∙ sym (mul_assoc n.nw n.nv n.nu)

  -- a site in the box has a number below the count
  pub site-lt : (p : Uvw) → InBox n p → site_of n p.u p.v p.w < sites n
  site-lt p b = rw (digits p.u p.v p.w, sites-digits) (digits_lt (digits_lt b.on_w b.on_v) b.on_u)

  -- from coordinates to the number and back
  pub uvw_site : (p : Uvw) → InBox n p → uvw_of n (site_of n p.u p.v p.w) ≡ p
  unfolding uvw_of
  uvw_site p b =
      let e = digits p.u p.v p.w in
      let x : site_of n p.u p.v p.w % n.nu ≡ p.u = ap (λ (s : ℕ). s % n.nu) e ∙ digits_mod (p.w * n.nv + p.v) b.on_u in
      let d : site_of n p.u p.v p.w / n.nu ≡ p.w * n.nv + p.v = ap (λ (s : ℕ). s / n.nu) e ∙ digits_div (p.w * n.nv + p.v) b.on_u in
      let y : site_of n p.u p.v p.w / n.nu % n.nv ≡ p.v = ap (λ (s : ℕ). s % n.nv) d ∙ digits_mod p.w b.on_v in
      let z : site_of n p.u p.v p.w / n.nu / n.nv ≡ p.w = ap (λ (s : ℕ). s / n.nv) d ∙ digits_div p.w b.on_v in
      λ i. record { u = x i; v = y i; w = z i }

  -- from a number to coordinates and back
  pub site_uvw : (s : ℕ) → site_of n (uvw_of n s).u (uvw_of n s).v (uvw_of n s).w ≡ s
  unfolding uvw_of
  site_uvw s =
      digits (s % n.nu) (s / n.nu % n.nv) (s / n.nu / n.nv)
      ∙ ap (λ (x : ℕ). x * n.nu + s % n.nu) (div-add-mod' (s / n.nu) n.nv) ∙ div-add-mod' s n.nu

  -- the coordinates of a number below the count are in the box
  pub uvw_box : SidesFit n → (s : ℕ) → s < sites n → InBox n (uvw_of n s)
  unfolding uvw_of
  uvw_box f s h =
      let h' : s < (n.nw * n.nv) * n.nu = rw sites-digits at h in
      record {
        on_u = mod-lt s f.u_some;
        on_v = mod-lt (s / n.nu) f.v_some;
        on_w = (div-lt_iff_lt-mul f.v_some).1 ((div-lt_iff_lt-mul f.u_some).1 h');
      }

-- ---- a step of 0 or 1

pub step-add : (d u : ℕ) → d < 2 → step d u ≡ u + d
unfolding step
step-add zero u h = omega arith
step-add (suc zero) u h = omega arith
step-add (suc (suc d)) u h = absurd (omega arith)

pub step-low : (d u : ℕ) → u ≤ step d u
unfolding step
step-low zero u = omega arith
step-low (suc d) u = omega arith

pub step_high : (d u : ℕ) → step d u ≤ suc u
unfolding step
step_high zero u = omega arith
step_high (suc d) u = omega arith

-- one step after another
pub step-step : (d d' u : ℕ) → d + d' < 2 → step d' (step d u) ≡ step (d + d') u
step-step d d' u h = omega (arith, step-add d u (omega arith), step-add d' (step d u) (omega arith), step-add (d + d') u h)

-- ---- ijk: u U + v V + w W, where U, V and W are the deltas of labels 0, 2 and 6

pub ijk_span : (u v w : ℕ)
    → offset (ijk_of u v w).i (ijk_of u v w).j (ijk_of u v w).k ≡ plus (times u (delta 0)) (plus (times v (delta 2)) (times w (delta 6)))
unfolding ijk_of delta deltas
ijk_span u v w =
    offset-eq
    (rep_eq (nat w ⊞ neg (nat (u + v))) (nat u ⊠ minus-suc 0 ⊞ (nat v ⊠ minus-suc 0 ⊞ nat w ⊠ nat 1)) (omega arith))
    (rep_eq (nat u ⊞ neg (nat v)) (nat u ⊠ nat 1 ⊞ (nat v ⊠ minus-suc 0 ⊞ nat w ⊠ nat 0)) (omega arith))
    (rep_eq (nat 0 ⊞ neg (nat w)) (nat u ⊠ nat 0 ⊞ (nat v ⊠ nat 0 ⊞ nat w ⊠ minus-suc 0)) (omega arith))
