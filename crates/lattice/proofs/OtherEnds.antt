-- The site across an edge: it is in the box, the way back leads home, its number, and its owner by ijk. Assumes nothing.
use Rattle.std.specs.Prelude.{Option, None, Some}
use mathlib.Core.Path.{◌≡◌, refl, sym, ap, ◌∙◌, subst}
use mathlib.Core.Bool.{Bool, true, false, ◌&&◌, cond}
use mathlib.Core.Logic.{⊎_elim}
use Prim.Native.Nat.{ℕ, ◌+◌, ◌*◌, ◌-◌, ◌/◌, ◌%◌, ◌≤◌, ◌<◌}
use native.Mathlib.Omega.{arith}
use borrow.Author.Tests.{lt-ltb, le-ltb, ltb-true, le-leb, lt-leb, leb-true}
use lib.Dec.{ltb, leb}
use lib.IntN.{neg_ℤ-neg_ℤ}
use Rattle.laws.proofs.Bools.{and-apart}
use Rattle.laws.proofs.Ranges.{lt-or}
use Rattle.laws.proofs.Ints.{‹◌›, rep_eq, rep_same, nat, minus-suc, neg, ◌⊞◌, ◌⊠◌}
use Rattle.tables.specs.declared.Delta.{Delta}
use Rattle.tables.specs.Edges.{negative, deltas, delta, reverse, corner_of, du, dv, dw}
use Rattle.tables.proofs.Edges.{offset-eq, reverse-delta, label_delta, along, steps_lt}
use Rattle.lattice.specs.declared.Sides.{Sides}
use Rattle.lattice.specs.declared.Uvw.{Uvw}
use Rattle.lattice.specs.declared.Ijk.{Ijk}
use Rattle.lattice.specs.Sites.{SidesFit, sites, in_box, InBox, site_of, uvw_of, step, ijk_of}
use Rattle.lattice.specs.Across.{upward, downward, across_at, across_of}
use Rattle.lattice.specs.Owner.{from_to, label_of, owned, owner_of}
use Rattle.lattice.proofs.Sites.{site-lt, uvw_site, site_uvw, uvw_box, step-add}
use Rattle.lattice.proofs.Owner.{delta_label, label_offset}

-- ---- the two ways

at_one : (b : Bool) (x t : ℕ) → cond b (Some x) None ≡ Some t → (b ≡ true) × (x ≡ t)
at_one true x t e = (refl, cc)
at_one false x t e = let z : ◌≡◌ {A = ℕ} 0 1 = cc in absurd (omega arith)

pub box_in : (n : Sides) (u v w : ℕ) → in_box n u v w ≡ true → InBox n (record { u = u; v = v; w = w })
unfolding in_box
box_in n u v w e =
    let p = and-apart (ltb u n.nu && ltb v n.nv) (ltb w n.nw) e in
    let q = and-apart (ltb u n.nu) (ltb v n.nv) p.0 in
    record { on_u = ltb-true u n.nu q.0; on_v = ltb-true v n.nv q.1; on_w = ltb-true w n.nw p.1 }

pub in_box_lem : (n : Sides) (p : Uvw) → InBox n p → in_box n p.u p.v p.w ≡ true
unfolding in_box
in_box_lem n p b = rw (lt-ltb p.u n.nu b.on_u, lt-ltb p.v n.nv b.on_v, lt-ltb p.w n.nw b.on_w)

-- q is the corner c above p, in the box
pub record Above (n : Sides) (p q : Uvw) (c : ℕ) : Type 0 where
  pub box : InBox n q
  pub on_u : q.u ≡ p.u + du c
  pub on_v : q.v ≡ p.v + dv c
  pub on_w : q.w ≡ p.w + dw c

abbrev stepped : Uvw → ℕ → Uvw
stepped p c = record { u = step (du c) p.u; v = step (dv c) p.v; w = step (dw c) p.w }

abbrev lowered : Uvw → ℕ → Uvw
lowered p c = record { u = p.u - du c; v = p.v - dv c; w = p.w - dw c }

uvw_eq : {a b c x y z : ℕ} → a ≡ x → b ≡ y → c ≡ z → ◌≡◌ {A = Uvw} (record { u = a; v = b; w = c }) (record { u = x; v = y; w = z })
uvw_eq p q r = λ i. record { u = p i; v = q i; w = r i }

module _ (n : Sides) where
  up-found : (p : Uvw) (c t : ℕ) → upward n p.u p.v p.w c ≡ Some t
      → Above n p (stepped p c) c × (site_of n (stepped p c).u (stepped p c).v (stepped p c).w ≡ t)
  unfolding upward
  up-found p c t e =
      let q = at_one (in_box n (step (du c) p.u) (step (dv c) p.v) (step (dw c) p.w)) (site_of n (step (du c) p.u) (step (dv c) p.v) (step (dw c) p.w)) t e in
      let s = steps_lt c in (
        record {
          box = box_in n (step (du c) p.u) (step (dv c) p.v) (step (dw c) p.w) q.0;
          on_u = step-add (du c) p.u s.0;
          on_v = step-add (dv c) p.v s.1;
          on_w = step-add (dw c) p.w s.2;
        },
        q.1,
      )

  -- what is above is found, and the way down from it leads back
  pub up-finds : (p q : Uvw) (c : ℕ) → Above n p q c → upward n p.u p.v p.w c ≡ Some (site_of n q.u q.v q.w)
  unfolding upward
  up-finds p q c a =
      let s = steps_lt c in
      let x : step (du c) p.u ≡ q.u = step-add (du c) p.u s.0 ∙ sym a.on_u in
      let y : step (dv c) p.v ≡ q.v = step-add (dv c) p.v s.1 ∙ sym a.on_v in
      let z : step (dw c) p.w ≡ q.w = step-add (dw c) p.w s.2 ∙ sym a.on_w in
      rw (x, y, z, in_box_lem n q a.box)

  pub down-finds : (p q : Uvw) (c : ℕ) → Above n p q c → downward n q.u q.v q.w c ≡ Some (site_of n p.u p.v p.w)
  unfolding downward
  down-finds p q c a =
      let x : q.u - du c ≡ p.u = omega (arith, a.on_u) in
      let y : q.v - dv c ≡ p.v = omega (arith, a.on_v) in
      let z : q.w - dw c ≡ p.w = omega (arith, a.on_w) in
      rw (le-leb (du c) q.u (omega (arith, a.on_u)), le-leb (dv c) q.v (omega (arith, a.on_v)), le-leb (dw c) q.w (omega (arith, a.on_w)), x, y, z)

  down-found : (q : Uvw) (c t : ℕ) → InBox n q → downward n q.u q.v q.w c ≡ Some t
      → Above n (lowered q c) q c × InBox n (lowered q c) × (site_of n (lowered q c).u (lowered q c).v (lowered q c).w ≡ t)
  unfolding downward
  down-found q c t b e =
      let r = at_one (leb (du c) q.u && leb (dv c) q.v && leb (dw c) q.w) (site_of n (q.u - du c) (q.v - dv c) (q.w - dw c)) t e in
      let g = and-apart (leb (du c) q.u && leb (dv c) q.v) (leb (dw c) q.w) r.0 in
      let h = and-apart (leb (du c) q.u) (leb (dv c) q.v) g.0 in
      let x = leb-true (du c) q.u h.0 in
      let y = leb-true (dv c) q.v h.1 in
      let z = leb-true (dw c) q.w g.1 in (
        record { box = b; on_u = omega arith; on_v = omega arith; on_w = omega arith },
        record { on_u = omega (arith, b.on_u); on_v = omega (arith, b.on_v); on_w = omega (arith, b.on_w) },
        r.1,
      )

-- the tests of the code, one law for each way out
module _ (n : Sides) (p : Uvw) (c : ℕ) where
  moved : upward n p.u p.v p.w c
      ≡ cond (in_box n (p.u + c % 2) (p.v + c / 2 % 2) (p.w + c / 4 % 2)) (Some (site_of n (p.u + c % 2) (p.v + c / 2 % 2) (p.w + c / 4 % 2))) None
  unfolding upward du dv dw
  moved = rw (step-add (c % 2) p.u (omega arith), step-add (c / 2 % 2) p.v (omega arith), step-add (c / 4 % 2) p.w (omega arith))

  pub up_at : (r : ℕ) → p.u + c % 2 < n.nu → p.v + c / 2 % 2 < n.nv → p.w + c / 4 % 2 < n.nw
      → r ≡ site_of n (p.u + c % 2) (p.v + c / 2 % 2) (p.w + c / 4 % 2) → Some r ≡ upward n p.u p.v p.w c
  unfolding in_box
  up_at r a b d e = ap Some e ∙ sym (moved ∙ rw (lt-ltb (p.u + c % 2) n.nu a, lt-ltb (p.v + c / 2 % 2) n.nv b, lt-ltb (p.w + c / 4 % 2) n.nw d))

  pub up_past_w : p.u + c % 2 < n.nu → p.v + c / 2 % 2 < n.nv → n.nw ≤ p.w + c / 4 % 2 → None ≡ upward n p.u p.v p.w c
  unfolding in_box
  up_past_w a b d = sym (moved ∙ rw (lt-ltb (p.u + c % 2) n.nu a, lt-ltb (p.v + c / 2 % 2) n.nv b, le-ltb (p.w + c / 4 % 2) n.nw d))

  pub up_past_v : p.u + c % 2 < n.nu → n.nv ≤ p.v + c / 2 % 2 → None ≡ upward n p.u p.v p.w c
  unfolding in_box
  up_past_v a b = sym (moved ∙ rw (lt-ltb (p.u + c % 2) n.nu a, le-ltb (p.v + c / 2 % 2) n.nv b))

  pub up_past_u : n.nu ≤ p.u + c % 2 → None ≡ upward n p.u p.v p.w c
  unfolding in_box
  up_past_u a = sym (moved ∙ rw (le-ltb (p.u + c % 2) n.nu a))

  pub down-at : (r : ℕ) → c % 2 ≤ p.u → c / 2 % 2 ≤ p.v → c / 4 % 2 ≤ p.w
      → r ≡ site_of n (p.u - c % 2) (p.v - c / 2 % 2) (p.w - c / 4 % 2) → Some r ≡ downward n p.u p.v p.w c
  unfolding downward du dv dw
  down-at r a b d e = rw (le-leb (c % 2) p.u a, le-leb (c / 2 % 2) p.v b, le-leb (c / 4 % 2) p.w d) (ap Some e)

  pub down_past_w : c % 2 ≤ p.u → c / 2 % 2 ≤ p.v → p.w < c / 4 % 2 → None ≡ downward n p.u p.v p.w c
  unfolding downward du dv dw
  down_past_w a b d = rw (le-leb (c % 2) p.u a, le-leb (c / 2 % 2) p.v b, lt-leb (c / 4 % 2) p.w d)

  pub down_past_v : c % 2 ≤ p.u → p.v < c / 2 % 2 → None ≡ downward n p.u p.v p.w c
  unfolding downward du dv dw
  down_past_v a b = rw (le-leb (c % 2) p.u a, lt-leb (c / 2 % 2) p.v b)

  pub down_past_u : p.u < c % 2 → None ≡ downward n p.u p.v p.w c
  unfolding downward du dv dw
  down_past_u a = rw (lt-leb (c % 2) p.u a)

-- ---- the two ways by label and site number

pub across-up : (n : Sides) (s e : ℕ) → e < 7 → across_of n s e ≡ upward n (uvw_of n s).u (uvw_of n s).v (uvw_of n s).w (corner_of e)
unfolding across_of across_at
across-up n s e h = rw (lt-ltb e 7 h)

pub across-down : (n : Sides) (s e : ℕ) → 7 ≤ e → e < 14 → across_of n s e ≡ downward n (uvw_of n s).u (uvw_of n s).v (uvw_of n s).w (corner_of (e - 7))
unfolding across_of across_at
across-down n s e h k = rw (le-ltb e 7 h, lt-ltb e 14 k)

-- past the fourteen edges nothing lies across
pub across_far : (n : Sides) (s e : ℕ) → 14 ≤ e → across_of n s e ≡ None
unfolding across_of across_at
across_far n s e h = rw (le-ltb e 7 (omega arith), le-ltb e 14 h)

pub across-low : (n : Sides) (s e t : ℕ) → across_of n s e ≡ Some t → e < 14
across-low n s e t a = ⊎_elim (λ l. l) (λ l. let z : ◌≡◌ {A = (Option ℕ)} None (Some t) = sym (across_far n s e l) ∙ a in let y : ◌≡◌ {A = ℕ} 0 1 = cc in omega arith) (lt-or e 14)

-- for a site whose coordinates are at hand
pub above-across : (n : Sides) (p : Uvw) (e : ℕ) → InBox n p → e < 7
    → upward n p.u p.v p.w (corner_of e) ≡ across_of n (site_of n p.u p.v p.w) e
above-across n p e b h =
    sym (across-up n (site_of n p.u p.v p.w) e h ∙ ap (λ (q : Uvw). upward n q.u q.v q.w (corner_of e)) (uvw_site n p b))

-- what lies across edge e of site s: the site t, the one above the other by the edge's corner
pub record Joined (n : Sides) (s e t : ℕ) : Type 0 where
  pub label : e < 14
  pub inside : t < sites n
  pub rises : e < 7 → Above n (uvw_of n s) (uvw_of n t) (corner_of e)
  pub falls : 7 ≤ e → Above n (uvw_of n t) (uvw_of n s) (corner_of (e - 7))

pub across-joined : (n : Sides) (s e t : ℕ) → SidesFit n → s < sites n → across_of n s e ≡ Some t → Joined n s e t
across-joined n s e t f h a = ⊎_elim (λ l. low l) (λ l. high l) (lt-or e 7)
  where
    low : e < 7 → Joined n s e t
    low l =
        let p = uvw_of n s in
        let r = up-found n p (corner_of e) t (sym (across-up n s e l) ∙ a) in
        let q : uvw_of n t ≡ stepped p (corner_of e) = ap (uvw_of n) (sym r.1) ∙ uvw_site n (stepped p (corner_of e)) r.0.box in
        record {
          label = across-low n s e t a;
          inside = subst (λ (x : ℕ). x < sites n) r.1 (site-lt n (stepped p (corner_of e)) r.0.box);
          rises = λ k. subst (λ (x : Uvw). Above n p x (corner_of e)) (sym q) r.0;
          falls = λ k. absurd (omega arith);
        }

    high : 7 ≤ e → Joined n s e t
    high l =
        let p = uvw_of n s in
        let r = down-found n p (corner_of (e - 7)) t (uvw_box n f s h) (sym (across-down n s e l (across-low n s e t a)) ∙ a) in
        let q : uvw_of n t ≡ lowered p (corner_of (e - 7)) = ap (uvw_of n) (sym r.2) ∙ uvw_site n (lowered p (corner_of (e - 7))) r.1 in
        record {
          label = across-low n s e t a;
          inside = subst (λ (x : ℕ). x < sites n) r.2 (site-lt n (lowered p (corner_of (e - 7))) r.1);
          rises = λ k. absurd (omega arith);
          falls = λ k. subst (λ (x : Uvw). Above n x p (corner_of (e - 7))) (sym q) r.0;
        }

pub joined-across : (n : Sides) (s e t : ℕ) → Joined n s e t → across_of n s e ≡ Some t
joined-across n s e t j =
    ⊎_elim (λ l. across-up n s e l ∙ up-finds n (uvw_of n s) (uvw_of n t) (corner_of e) (j.rises l) ∙ ap Some (site_uvw n t))
    (λ l. across-down n s e l j.label ∙ down-finds n (uvw_of n t) (uvw_of n s) (corner_of (e - 7)) (j.falls l) ∙ ap Some (site_uvw n t)) (lt-or e 7)

-- the way back
pub across_back : (n : Sides) (s e t : ℕ) → SidesFit n → s < sites n → e < 14 → across_of n s e ≡ Some t → across_of n t (reverse e) ≡ Some s
unfolding reverse
across_back n s e t f h k a =
    let j = across-joined n s e t f h a in
    joined-across n t (reverse e) s (⊎_elim (λ l. low j l) (λ l. high j l) (lt-or e 7))
  where
    low : Joined n s e t → e < 7 → Joined n t (reverse e) s
    low j l =
        let r : (e + 7) % 14 ≡ e + 7 = omega arith in
        let c : (e + 7) % 14 - 7 ≡ e = omega arith in
        record { label = omega arith; inside = h; rises = λ m. absurd (omega arith); falls = λ m. rw c (j.rises l) }

    high : Joined n s e t → 7 ≤ e → Joined n t (reverse e) s
    high j l =
        let c : (e + 7) % 14 ≡ e - 7 = omega arith in
        record { label = omega arith; inside = h; rises = λ m. rw c (j.falls l); falls = λ m. absurd (omega arith) }

-- ---- the number of what lies above: a constant for each label

pub above-number : (n : Sides) (p q : Uvw) (c : ℕ) → Above n p q c
    → site_of n q.u q.v q.w ≡ site_of n p.u p.v p.w + (du c + n.nu * dv c + n.nu * n.nv * dw c)
unfolding site_of
above-number n p q c a = rw (a.on_u, a.on_v, a.on_w) (omega arith)

-- ---- ijk: the offset across an edge is its delta, and the owner by ijk is the owner by `across`

abbrev pub ijk_at : Sides → ℕ → Ijk
ijk_at n s = ijk_of (uvw_of n s).u (uvw_of n s).v (uvw_of n s).w

abbrev ijk_from : Uvw → Ijk
ijk_from p = ijk_of p.u p.v p.w

above-offset : (n : Sides) (p q : Uvw) (c : ℕ) → Above n p q c → from_to (ijk_from p) (ijk_from q) ≡ along c
unfolding ijk_of delta deltas
above-offset n p q c a =
    offset-eq
    (rep_eq (nat q.w ⊞ neg (nat (q.u + q.v)) ⊞ neg (nat p.w ⊞ neg (nat (p.u + p.v))))
    (nat (du c) ⊠ minus-suc 0 ⊞ (nat (dv c) ⊠ minus-suc 0 ⊞ nat (dw c) ⊠ nat 1)) (omega arith))
    (rep_eq (nat q.u ⊞ neg (nat q.v) ⊞ neg (nat p.u ⊞ neg (nat p.v)))
    (nat (du c) ⊠ nat 1 ⊞ (nat (dv c) ⊠ minus-suc 0 ⊞ nat (dw c) ⊠ nat 0)) (omega arith))
    (rep_eq (nat 0 ⊞ neg (nat q.w) ⊞ neg (nat 0 ⊞ neg (nat p.w)))
    (nat (du c) ⊠ nat 0 ⊞ (nat (dv c) ⊠ nat 0 ⊞ nat (dw c) ⊠ minus-suc 0)) (omega arith))

-- the offset the other way round
turned : (x y : Ijk) → from_to x y ≡ negative (from_to y x)
turned x y =
    offset-eq (rep_eq (‹ y.i › ⊞ neg ‹ x.i ›) (neg (‹ x.i › ⊞ neg ‹ y.i ›)) (omega arith))
    (rep_eq (‹ y.j › ⊞ neg ‹ x.j ›) (neg (‹ x.j › ⊞ neg ‹ y.j ›)) (omega arith))
    (rep_eq (‹ y.k › ⊞ neg ‹ x.k ›) (neg (‹ x.k › ⊞ neg ‹ y.k ›)) (omega arith))

-- the delta of a label from 7 on
back_delta : (e : ℕ) → 7 ≤ e → e < 14 → delta e ≡ negative (along (corner_of (e - 7)))
unfolding reverse
back_delta e l k =
    let r : (e - 7 + 7) % 14 ≡ e = omega arith in
    ap delta (sym r) ∙ reverse-delta (e - 7) (omega arith) ∙ ap negative (label_delta (e - 7) (omega arith))

pub across-offset : (n : Sides) (s e t : ℕ) → SidesFit n → s < sites n → e < 14 → across_of n s e ≡ Some t → from_to (ijk_at n s) (ijk_at n t) ≡ delta e
across-offset n s e t f h k a =
    let j = across-joined n s e t f h a in
    ⊎_elim (λ l. above-offset n (uvw_of n s) (uvw_of n t) (corner_of e) (j.rises l) ∙ sym (label_delta e l))
    (λ l.
    turned (ijk_at n s) (ijk_at n t)
    ∙ ap negative (above-offset n (uvw_of n t) (uvw_of n s) (corner_of (e - 7)) (j.falls l))
    ∙ sym (back_delta e l k)) (lt-or e 7)

-- an offset that is a corner's vector leads to that corner
offset-above : (n : Sides) (p q : Uvw) (c : ℕ) → InBox n q → from_to (ijk_from p) (ijk_from q) ≡ along c → Above n p q c
unfolding ijk_of delta deltas
offset-above n p q c b e =
    let x = rep_same (nat q.w ⊞ neg (nat (q.u + q.v)) ⊞ neg (nat p.w ⊞ neg (nat (p.u + p.v))))
    (nat (du c) ⊠ minus-suc 0 ⊞ (nat (dv c) ⊠ minus-suc 0 ⊞ nat (dw c) ⊠ nat 1)) (ap (λ (d : Delta). d.i) e) in
    let y = rep_same (nat q.u ⊞ neg (nat q.v) ⊞ neg (nat p.u ⊞ neg (nat p.v)))
    (nat (du c) ⊠ nat 1 ⊞ (nat (dv c) ⊠ minus-suc 0 ⊞ nat (dw c) ⊠ nat 0)) (ap (λ (d : Delta). d.j) e) in
    let z = rep_same (nat 0 ⊞ neg (nat q.w) ⊞ neg (nat 0 ⊞ neg (nat p.w)))
    (nat (du c) ⊠ nat 0 ⊞ (nat (dv c) ⊠ nat 0 ⊞ nat (dw c) ⊠ minus-suc 0)) (ap (λ (d : Delta). d.k) e) in
    record { box = b; on_u = omega (arith, x, y, z); on_v = omega (arith, x, y, z); on_w = omega (arith, z) }

-- where the offset of two sites of the box is a delta, the one lies across that edge of the other
pub offset-across : (n : Sides) (s e t : ℕ) → SidesFit n → s < sites n → t < sites n → e < 14 → from_to (ijk_at n s) (ijk_at n t) ≡ delta e → across_of n s e ≡ Some t
offset-across n s e t f hs ht k d =
    joined-across n s e t (record {
      label = k;
      inside = ht;
      rises = λ l. offset-above n (uvw_of n s) (uvw_of n t) (corner_of e) (uvw_box n f t ht) (d ∙ label_delta e l);
      falls = λ l. offset-above n (uvw_of n t) (uvw_of n s) (corner_of (e - 7)) (uvw_box n f s hs)
          (turned (ijk_at n t) (ijk_at n s) ∙ ap negative (d ∙ back_delta e l k) ∙ twice (along (corner_of (e - 7))));
    })
  where
    twice : (x : Delta) → negative (negative x) ≡ x
    twice x = offset-eq (neg_ℤ-neg_ℤ x.i) (neg_ℤ-neg_ℤ x.j) (neg_ℤ-neg_ℤ x.k)

pub across-owner : (n : Sides) (s e t : ℕ) → SidesFit n → s < sites n → e < 14 → across_of n s e ≡ Some t
    → owner_of (ijk_at n s) (ijk_at n t) ≡ owned (ijk_at n s) (ijk_at n t) e
unfolding owner_of
across-owner n s e t f h k a = ap (owned (ijk_at n s) (ijk_at n t)) (ap label_of (across-offset n s e t f h k a) ∙ delta_label e k)

-- and the owner by ijk says who lies across
pub owner-across : (n : Sides) (s t : ℕ) → SidesFit n → s < sites n → t < sites n → label_of (from_to (ijk_at n s) (ijk_at n t)) < 14
    → across_of n s (label_of (from_to (ijk_at n s) (ijk_at n t))) ≡ Some t
owner-across n s t f hs ht h =
    offset-across n s (label_of (from_to (ijk_at n s) (ijk_at n t))) t f hs ht h (label_offset (from_to (ijk_at n s) (ijk_at n t)) h)
