-- A mask is flat by the rows of the table exactly where the surface collapses in the paper's words (`flat_collapse`, `collapse_flat`). Assumes nothing.
use Rattle.std.specs.Prelude.{Option, None, Some}
use Rattle.std.proofs.Common.{◌≡◌, ℕ, ◌+◌, ◌^◌, ◌<◌, Bool, true, false, cond, ◌&&◌, ◌||◌, T, eqb, ltb, List, [], ◌∷◌, length, get_or, refl, ap, ◌∙◌, subst, ap₂, ⊎_elim, arith, eqb→eq, ltb→lt, ltb-true, lt-ltb, ne_eqb, eqb-true}
use mathlib.Core.Bool.{false≢true}
use lib.Ieee.{Float}
use lib.Bits.{bit_and, and_le_r}
use lib.Count.{count_trailing_zeros}
use Rattle.laws.specs.Bools.{bit}
use Rattle.laws.specs.Ranges.{each, all}
use Rattle.laws.specs.Digits.{digit}
use Rattle.laws.proofs.Bools.{and_left, and_right, and_yes, and-apart, T_true}
use Rattle.laws.proofs.Ranges.{eq-or, all-at, all_at2, any-one, any_some, each_entry}
use Rattle.laws.proofs.Digits.{digit_lt, digit_and, digit-zero, digit_ext, mask_lt}
use Rattle.tables.specs.declared.FlatHole.{FlatHole}
use Rattle.tables.specs.Edges.{are_neighbours}
use Rattle.tables.specs.FlatHoles.{hole_of, flat_holes, flat_hole}
use Rattle.tables.proofs.FlatHoles.{flat_36}
use Rattle.topology.specs.Walk.{low_bit}
use Rattle.topology.specs.Flat.{two_edges, collapses, collapses_at, end_at, pairs_collapse, row_flat, is_flat, Collapse}
use Rattle.topology.proofs.Rows.{off, on, row-edges, both-on, four}

-- ---- from a row

-- its edges are set in its masks, and are neighbours as the rule says
row_ok : ℕ → Bool
row_ok i =
    let a : ℕ = (off i).first in
    let b : ℕ = (off i).second in
    let c : ℕ = (on i).first in
    let d : ℕ = (on i).second in
    (ltb a b && ltb c d) && ((are_neighbours a b && ((are_neighbours a c && are_neighbours b c) && (are_neighbours a d && are_neighbours b d)))
    && ((eqb (digit (flat_hole i).edges a) 1 && eqb (digit (flat_hole i).edges b) 1) && (eqb (digit (flat_hole i).opposite c) 1 && eqb (digit (flat_hole i).opposite d) 1)))

row_ok_lem : (i : ℕ) → i < 36 → T (row_ok i)
unfolding row_ok all flat_hole flat_holes hole_of are_neighbours bit count_trailing_zeros low_bit digit
row_ok_lem i h = all-at 36 row_ok tt i h

-- all four samples are there
pub record Known (sa sb sc sd : Option Float) (h : Float) : Type 0 where
  pub va : Float
  pub vb : Float
  pub vc : Float
  pub vd : Float
  pub is_a : sa ≡ Some va
  pub is_b : sb ≡ Some vb
  pub is_c : sc ≡ Some vc
  pub is_d : sd ≡ Some vd
  pub falls : collapses va vb vc vd h ≡ true

known : (sa sb sc sd : Option Float) (h : Float) → collapses_at sa sb sc sd h ≡ true → Known sa sb sc sd h
unfolding collapses_at
known (Some a) (Some b) (Some c) (Some d) h e =
    record { va = a; vb = b; vc = c; vd = d; is_a = refl; is_b = refl; is_c = refl; is_d = refl; falls = e }
known None b c d h e = absurd (false≢true e)
known (Some a) None c d h e = absurd (false≢true e)
known (Some a) (Some b) None d h e = absurd (false≢true e)
known (Some a) (Some b) (Some c) None h e = absurd (false≢true e)

unset : (m x e : ℕ) → bit_and m x ≡ 0 → digit x e ≡ 1 → digit m e ≡ 0
unset m x e z s = omega (arith, digit_and m x e, ap (λ (y : ℕ). digit y e) z, digit-zero e, digit_lt m e)

both-set : (m x e : ℕ) → bit_and m x ≡ x → digit x e ≡ 1 → digit m e ≡ 1
both-set m x e z s = omega (arith, digit_and m x e, ap (λ (y : ℕ). digit y e) z, digit_lt m e)

module _ (m : ℕ) (ends : List (Option Float)) (h : Float) where
  row_collapse : (i : ℕ) → i < 36 → row_flat m ends h (flat_hole i) ≡ true → Collapse m ends h
  unfolding row_flat pairs_collapse row_ok
  row_collapse i l t =
      let p = and-apart _ _ t in
      let q = and-apart _ _ p.1 in
      let k = known _ _ _ _ h q.1 in
      let e = eqb-true _ _ p.0 in
      let o = eqb-true _ _ q.0 in
      let r = and-apart _ _ (T_true (row_ok i) (row_ok_lem i l)) in
      let lts = and-apart _ _ r.0 in
      let r1 = and-apart _ _ r.1 in
      let n0 = and-apart _ _ r1.0 in
      let n1 = and-apart _ _ n0.1 in
      let nc = and-apart _ _ n1.0 in
      let nd = and-apart _ _ n1.1 in
      let s = and-apart _ _ r1.1 in
      let se = and-apart _ _ s.0 in
      let so = and-apart _ _ s.1 in
      record {
        a = (off i).first;
        b = (off i).second;
        c = (on i).first;
        d = (on i).second;
        a_b = (ltb-true _ _ lts.0, (row-edges i l).0.1, n0.0);
        c_d = (ltb-true _ _ lts.1, (row-edges i l).1.1);
        to_c = (nc.0, nc.1);
        to_d = (nd.0, nd.1);
        far = (unset m _ _ e (eqb-true _ _ se.0), unset m _ _ e (eqb-true _ _ se.1));
        near = (both-set m _ _ o (eqb-true _ _ so.0), both-set m _ _ o (eqb-true _ _ so.1));
        va = k.va;
        vb = k.vb;
        vc = k.vc;
        vd = k.vd;
        at_a = k.is_a;
        at_b = k.is_b;
        at_c = k.is_c;
        at_d = k.is_d;
        falls = k.falls;
      }

  pub flat_collapse : is_flat m ends h ≡ true → Collapse m ends h
  unfolding is_flat
  flat_collapse t = let r = any-one 36 (λ i. row_flat m ends h (flat_hole i)) t in row_collapse r.0 r.1 r.2

-- ---- to a row

-- x is the mask of p and q, the lower first
mask_of : ℕ → ℕ → ℕ → Bool
mask_of x p q = (eqb (two_edges x).first p && eqb (two_edges x).second q) && all 14 (λ e. eqb (digit x e) (bit (eqb e p || eqb e q)))

abbrev opposite : ℕ → ℕ → ℕ
opposite a b = (hole_of a b).opposite

opposite_d : ℕ → ℕ → ℕ → ℕ → Bool
opposite_d a b c d = cond (ltb c d && (are_neighbours a d && are_neighbours b d)) (mask_of (opposite a b) c d) true

opposite_c : ℕ → ℕ → ℕ → Bool
opposite_c a b c = cond (are_neighbours a c && are_neighbours b c) (all 14 (opposite_d a b c)) true

pair_ok_lem : ℕ → ℕ → Bool
pair_ok_lem a b = cond (ltb a b && are_neighbours a b) (mask_of (2 ^ a + 2 ^ b) a b && all 14 (opposite_c a b)) true

pair_ok : (a b : ℕ) → a < 14 → b < 14 → T (pair_ok_lem a b)
unfolding pair_ok_lem opposite_c opposite_d mask_of all hole_of are_neighbours bit count_trailing_zeros low_bit digit
pair_ok a b ha hb = all_at2 14 14 pair_ok_lem tt a b ha hb

when : (p q : Bool) → p ≡ true → T (cond p q true) → T q
when true q s t = t
when false q s t = absurd (false≢true s)

module _ (m x p q : ℕ) (lt : x < 2 ^ 14) (k : T (mask_of x p q)) where
  names : ((two_edges x).first ≡ p) × ((two_edges x).second ≡ q)
  unfolding mask_of
  names =
      let t = and_left (eqb (two_edges x).first p && eqb (two_edges x).second q) (all 14 (λ e. eqb (digit x e) (bit (eqb e p || eqb e q)))) k in
      (eqb→eq _ _ (and_left (eqb (two_edges x).first p) (eqb (two_edges x).second q) t), eqb→eq _ _ (and_right (eqb (two_edges x).first p) (eqb (two_edges x).second q) t))

  is_digit : (e : ℕ) → e < 14 → digit x e ≡ bit (eqb e p || eqb e q)
  unfolding mask_of
  is_digit e l =
      eqb→eq _ _ (all-at 14 (λ e. eqb (digit x e) (bit (eqb e p || eqb e q)))
      (and_right (eqb (two_edges x).first p && eqb (two_edges x).second q) (all 14 (λ e. eqb (digit x e) (bit (eqb e p || eqb e q)))) k) e l)

  -- at each place it is p, it is q, or the digit is 0
  either : {A : Type 0} (e : ℕ) → e < 14 → (e ≡ p → A) → (e ≡ q → A) → (digit x e ≡ 0 → A) → A
  unfolding bit
  either e l f g z =
      ⊎_elim f (λ n. ⊎_elim g (λ n'. z (is_digit e l ∙ ap bit (ap₂ (λ (x y : Bool). x || y) (ne_eqb e p n) (ne_eqb e q n')))) (eq-or e q)) (eq-or e p)

  none_in : digit m p ≡ 0 → digit m q ≡ 0 → bit_and m x ≡ 0
  none_in zp zq =
      digit_ext 14 (bit_and m x) 0 (omega (arith, and_le_r m x)) (omega arith)
      (λ e l. digit_and m x e ∙ either e l (λ i. omega (arith, ap (digit m) i, digit-zero e)) (λ i. omega (arith, ap (digit m) i, digit-zero e)) (λ z. omega (arith, digit-zero e)))

  all_in : digit m p ≡ 1 → digit m q ≡ 1 → bit_and m x ≡ x
  all_in sp sq =
      digit_ext 14 (bit_and m x) x (omega (arith, and_le_r m x)) lt
      (λ e l. digit_and m x e ∙ either e l (λ i. omega (arith, ap (digit m) i, digit_lt x e)) (λ i. omega (arith, ap (digit m) i, digit_lt x e)) (λ z. omega arith))

-- the row of a pair of neighbours is in the table
inner : ℕ → ℕ → List FlatHole
inner a b = cond (ltb a b && are_neighbours a b) (hole_of a b ∷ []) []

row_of : (a b : ℕ) → a < b → b < 14 → are_neighbours a b ≡ true → (i : ℕ) × (i < 36) × (flat_hole i ≡ hole_of a b)
unfolding flat_hole flat_holes inner
row_of a b l hb n =
    let it : inner a b ≡ hole_of a b ∷ [] = rw (lt-ltb a b l, n) in
    let some : 0 < length (inner a b) = rw it (omega arith) in
    let x = each_entry (record { edges = 0; opposite = 0 }) 14 (inner a) b 0 hb some in
    let y = each_entry (record { edges = 0; opposite = 0 }) 14 (λ a. each 14 (inner a)) a x.0 (omega arith) x.1 in
    (y.0, subst (λ (k : ℕ). y.0 < k) flat_36 y.1, y.2 ∙ x.2 ∙ ap (λ (l : List FlatHole). get_or l 0 (record { edges = 0; opposite = 0 })) it)

pair_lt : (a b : ℕ) → a < 14 → b < 14 → a < b → 2 ^ a + 2 ^ b < 2 ^ 14
unfolding all
pair_lt a b ha hb l =
    ltb→lt _ _ (when (ltb a b) (ltb (2 ^ a + 2 ^ b) (2 ^ 14)) (lt-ltb a b l) (all_at2 14 14 (λ a b. cond (ltb a b) (ltb (2 ^ a + 2 ^ b) (2 ^ 14)) true) tt a b ha hb))

pub collapse_flat : (m : ℕ) (ends : List (Option Float)) (h : Float) → Collapse m ends h → is_flat m ends h ≡ true
unfolding is_flat pair_ok_lem opposite_c opposite_d hole_of collapses_at
collapse_flat m ends h k =
    let a = k.a in
    let b = k.b in
    let c = k.c in
    let d = k.d in
    let ha : a < 14 = omega (arith, k.a_b.0, k.a_b.1) in
    let hb : b < 14 = k.a_b.1 in
    let hc : c < 14 = omega (arith, k.c_d.0, k.c_d.1) in
    let ok = when (ltb a b && are_neighbours a b) (mask_of (2 ^ a + 2 ^ b) a b && all 14 (opposite_c a b)) (and_yes (lt-ltb a b k.a_b.0) k.a_b.2) (pair_ok a b ha hb) in
    let edges = and_left (mask_of (2 ^ a + 2 ^ b) a b) (all 14 (opposite_c a b)) ok in
    let at_c = when (are_neighbours a c && are_neighbours b c) (all 14 (opposite_d a b c)) (and_yes k.to_c.0 k.to_c.1)
    (all-at 14 (opposite_c a b) (and_right (mask_of (2 ^ a + 2 ^ b) a b) (all 14 (opposite_c a b)) ok) c hc) in
    let opp = when (ltb c d && (are_neighbours a d && are_neighbours b d)) (mask_of (opposite a b) c d)
    (and_yes (lt-ltb c d k.c_d.0) (and_yes k.to_d.0 k.to_d.1)) (all-at 14 (opposite_d a b c) at_c d k.c_d.1) in
    let pl = pair_lt a b ha hb k.a_b.0 in
    let ol : opposite a b < 2 ^ 14 = mask_lt 14 (λ c. are_neighbours a c && are_neighbours b c) in
    let ne = names m (2 ^ a + 2 ^ b) a b pl edges in
    let no = names m (opposite a b) c d ol opp in
    let row = row_of a b k.a_b.0 hb k.a_b.2 in
    let flat : row_flat m ends h (hole_of a b) ≡ true =
    both-on m ends h (hole_of a b) (none_in m (2 ^ a + 2 ^ b) a b pl edges k.far.0 k.far.1) (all_in m (opposite a b) c d ol opp k.near.0 k.near.1)
    ∙ four ends h (two_edges (2 ^ a + 2 ^ b)) (two_edges (opposite a b)) (Some k.va) (Some k.vb) (Some k.vc) (Some k.vd)
    (ap (end_at ends) ne.0 ∙ k.at_a) (ap (end_at ends) ne.1 ∙ k.at_b)
    (ap (end_at ends) no.0 ∙ k.at_c) (ap (end_at ends) no.1 ∙ k.at_d)
    ∙ k.falls in
    any_some 36 (λ i. row_flat m ends h (flat_hole i)) row.0 row.1 (ap (row_flat m ends h) row.2 ∙ flat)
