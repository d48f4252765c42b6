-- What the loops do to one bit: it is set where it was, or where an edge marks it. Assumes nothing.
use Rattle.std.specs.Prelude.{Option, None, Some}
use mathlib.Core.Path.{◌≡◌, refl, sym, ap, ap₂, ◌∙◌}
use mathlib.Core.Bool.{Bool, true, false, not, ◌&&◌, ◌||◌, cond, or-false, false≢true}
use mathlib.Core.Logic.{◌⊎◌, inl, inr, ⊎_elim}
use mathlib.Core.List.{List}
use Prim.Native.Nat.{ℕ, ◌+◌, ◌-◌, ◌^◌, ◌≤◌, ◌<◌}
use native.Mathlib.Omega.{arith}
use borrow.Author.Tests.{eq-eqb, ne_eqb, eqb-true, lt-ltb, le-ltb}
use lib.Dec.{eqb}
use lib.Bits.{bit_or}
use lib.ListN.{get_or, set, length}
use lib.Seq.{get_or-set_same, get_or-set_other}
use lib.Ieee.{Float, lt}
use Rattle.laws.specs.Ranges.{any}
use Rattle.laws.specs.Digits.{is_set}
use Rattle.laws.proofs.Bools.{bool_ext, and-apart}
use Rattle.laws.proofs.Ranges.{eq-or, lt-or, fold-or, any-one, any_some}
use Rattle.laws.proofs.Digits.{set-or-pow}
use Rattle.samples.specs.Sides.{half, crossing, near}
use Rattle.tables.specs.Edges.{reverse}
use Rattle.tables.proofs.Edges.{reverse-low, reverse_high}
use Rattle.lattice.specs.declared.Sides.{Sides}
use Rattle.lattice.specs.Sites.{SidesFit, sites}
use Rattle.lattice.specs.Across.{across_of}
use Rattle.lattice.proofs.OtherEnds.{across-joined, across_back}
use Rattle.marks.specs.Marks.{sample, beyond, marked_by, marked}
use Rattle.marks.specs.Inner.Loops.{set_bit, mark_crossing, mark_to, mark_label, mark_site, mark_sites}
use Rattle.marks.proofs.Layers.{length_label, length-site}

-- bit e of entry x
abbrev pub bit_of : List ℕ → ℕ → ℕ → Bool
bit_of m x e = is_set (get_or m x 0) e

set_bit_lem : (m : List ℕ) (at b x e : ℕ) → at < length m → bit_of (set_bit m at b) x e ≡ bit_of m x e || (eqb at x && eqb b e)
unfolding set_bit
set_bit_lem m at b x e h =
    ⊎_elim
    (λ p.
    rw (eq-eqb at x p) (ap (λ (y : ℕ). is_set (get_or (set m at (bit_or (get_or m at 0) (2 ^ b))) y 0) e) (sym p)
    ∙ ap (λ (y : ℕ). is_set y e) (get_or-set_same m at (bit_or (get_or m at 0) (2 ^ b)) 0 h)
    ∙ set-or-pow (get_or m at 0) b e ∙ ap (λ (y : ℕ). is_set (get_or m y 0) e || eqb b e) p))
    (λ p.
    rw (ne_eqb at x p) (ap (λ (y : ℕ). is_set y e) (get_or-set_other m at x (bit_or (get_or m at 0) (2 ^ b)) 0 (λ q. p (sym q))) ∙ sym (or-false (bit_of m x e)))) (eq-or at x)

-- ---- which edge sets which bit

unfoldable pub hit_by : ℕ → ℕ → ℕ → Option Float → ℕ → ℕ → Bool
hit_by s t l None x e = false
hit_by s t l (Some f) x e = cond (lt f half) (eqb s x && eqb l e) (eqb t x && eqb (l + 7) e)

unfoldable pub hit_to : List Float → Float → ℕ → ℕ → Option ℕ → ℕ → ℕ → Bool
hit_to S h s l None x e = false
hit_to S h s l (Some t) x e = hit_by s t l (crossing (sample S s) (sample S t) h) x e

unfoldable pub hits : Sides → List Float → Float → ℕ → ℕ → ℕ → ℕ → Bool
hits n S h s l x e = hit_to S h s l (across_of n s l) x e

crossing-bit : (s t l : ℕ) (c : Option Float) (m : List ℕ) (x e : ℕ) → s < length m → t < length m
    → bit_of (mark_crossing s t l c m) x e ≡ bit_of m x e || hit_by s t l c x e
unfolding mark_crossing hit_by
crossing-bit s t l None m x e hs ht = sym (or-false (bit_of m x e))
crossing-bit s t l (Some f) m x e hs ht = go (lt f half)
  where
    go : (b : Bool) → bit_of (cond b (set_bit m s l) (set_bit m t (l + 7))) x e ≡ bit_of m x e || cond b (eqb s x && eqb l e) (eqb t x && eqb (l + 7) e)
    go true = set_bit_lem m s l x e hs
    go false = set_bit_lem m t (l + 7) x e ht

to-bit : (S : List Float) (h : Float) (s l : ℕ) (o : Option ℕ) (m : List ℕ) (x e : ℕ) → s < length m → ((t : ℕ) → o ≡ Some t → t < length m)
    → bit_of (mark_to S h s l o m) x e ≡ bit_of m x e || hit_to S h s l o x e
unfolding mark_to hit_to
to-bit S h s l None m x e hs ht = sym (or-false (bit_of m x e))
to-bit S h s l (Some t) m x e hs ht = crossing-bit s t l (crossing (sample S s) (sample S t) h) m x e hs (ht t refl)

module _ (n : Sides) (S : List Float) (h : Float) (f : SidesFit n) where
  label_bit : (s l : ℕ) (m : List ℕ) (x e : ℕ) → s < sites n → sites n ≤ length m
      → bit_of (mark_label n S h s l m) x e ≡ bit_of m x e || hits n S h s l x e
  unfolding mark_label hits
  label_bit s l m x e hs k =
      to-bit S h s l (across_of n s l) m x e (omega (arith, hs, k)) (λ t a. omega (arith, (across-joined n s l t f hs a).inside, k))

  site-bit : (s : ℕ) (m : List ℕ) (x e : ℕ) → s < sites n → sites n ≤ length m
      → bit_of (mark_site n S h s m) x e ≡ bit_of m x e || any 7 (λ l. hits n S h s l x e)
  unfolding mark_site
  site-bit s m x e hs k =
      (fold-or (λ (y : List ℕ). sites n ≤ length y) (λ (y : List ℕ). bit_of y x e) (mark_label n S h s) (λ l. hits n S h s l x e) 7 m
      (λ l y hl p. omega (arith, length_label n S h f s l y, p)) (λ l y hl p. label_bit s l y x e hs p) k).1

  pub sites-bit : (m : List ℕ) (x e : ℕ) → sites n ≤ length m
      → bit_of (mark_sites n S h (sites n) m) x e ≡ bit_of m x e || any (sites n) (λ s. any 7 (λ l. hits n S h s l x e))
  unfolding mark_sites
  sites-bit m x e k =
      (fold-or (λ (y : List ℕ). sites n ≤ length y) (λ (y : List ℕ). bit_of y x e) (mark_site n S h) (λ s. any 7 (λ l. hits n S h s l x e)) (sites n) m
      (λ s y hs p. omega (arith, length-site n S h f s y, p)) (λ s y hs p. site-bit s y x e hs p) k).1

-- ---- the one edge that a bit is about

-- an edge that sets the bit: it is the site's own and near, or it comes from below and is not
pub record Hit (S : List Float) (h : Float) (s l : ℕ) (o : Option ℕ) (x e : ℕ) : Type 0 where
  pub other : ℕ
  pub across : o ≡ Some other
  pub how : ((near (crossing (sample S s) (sample S other) h) ≡ true) × (s ≡ x) × (l ≡ e))
      ⊎ ((beyond (crossing (sample S s) (sample S other) h) ≡ true) × (other ≡ x) × (l + 7 ≡ e))

by_apart : (s t l : ℕ) (c : Option Float) (x e : ℕ) → hit_by s t l c x e ≡ true
    → ((near c ≡ true) × (s ≡ x) × (l ≡ e)) ⊎ ((beyond c ≡ true) × (t ≡ x) × (l + 7 ≡ e))
unfolding hit_by
by_apart s t l None x e q = absurd (false≢true q)
by_apart s t l (Some f) x e q = go (lt f half) q
  where
    go : (b : Bool) → cond b (eqb s x && eqb l e) (eqb t x && eqb (l + 7) e) ≡ true
        → ((b ≡ true) × (s ≡ x) × (l ≡ e)) ⊎ ((not b ≡ true) × (t ≡ x) × (l + 7 ≡ e))
    go true q = let p = and-apart (eqb s x) (eqb l e) q in inl (refl, eqb-true s x p.0, eqb-true l e p.1)
    go false q = let p = and-apart (eqb t x) (eqb (l + 7) e) q in inr (refl, eqb-true t x p.0, eqb-true (l + 7) e p.1)

hit_apart : (S : List Float) (h : Float) (s l : ℕ) (o : Option ℕ) (x e : ℕ) → hit_to S h s l o x e ≡ true → Hit S h s l o x e
unfolding hit_to
hit_apart S h s l None x e q = absurd (false≢true q)
hit_apart S h s l (Some t) x e q = record { other = t; across = refl; how = by_apart s t l (crossing (sample S s) (sample S t) h) x e q }

near-hits : (s t l : ℕ) (c : Option Float) → near c ≡ true → hit_by s t l c s l ≡ true
unfolding hit_by
near-hits s t l None q = absurd (false≢true q)
near-hits s t l (Some f) q = rw (q, eq-eqb s s refl, eq-eqb l l refl)

beyond-hits : (s t l : ℕ) (c : Option Float) → beyond c ≡ true → hit_by s t l c t (l + 7) ≡ true
unfolding hit_by
beyond-hits s t l None q = absurd (false≢true q)
beyond-hits s t l (Some f) q = go (lt f half) q
  where
    go : (b : Bool) → not b ≡ true → cond b (eqb s t && eqb l (l + 7)) (eqb t t && eqb (l + 7) (l + 7)) ≡ true
    go true q = absurd (false≢true q)
    go false q = rw (eq-eqb t t refl, eq-eqb (l + 7) (l + 7) refl)

module _ (n : Sides) (S : List Float) (h : Float) (f : SidesFit n) (x e : ℕ) (hx : x < sites n) (he : e < 14) where
  low-marked : (t : ℕ) → e < 7 → across_of n x e ≡ Some t → near (crossing (sample S x) (sample S t) h) ≡ true → marked n S h x e ≡ true
  unfolding marked marked_by
  low-marked t l a q = rw (a, lt-ltb e 7 l) q

  high_marked : (t : ℕ) → 7 ≤ e → across_of n x e ≡ Some t → beyond (crossing (sample S t) (sample S x) h) ≡ true → marked n S h x e ≡ true
  unfolding marked marked_by
  high_marked t l a q = rw (a, le-ltb e 7 l) q

  hit_marked : (s l : ℕ) → s < sites n → l < 7 → hits n S h s l x e ≡ true → marked n S h x e ≡ true
  unfolding hits
  hit_marked s l hs hl q =
      let r = hit_apart S h s l (across_of n s l) x e q in
      ⊎_elim
      (λ p.
      let a : across_of n x e ≡ Some r.other = ap₂ (across_of n) (sym p.1) (sym p.2) ∙ r.across in
      low-marked r.other (omega (arith, p.2)) a (ap (λ (y : ℕ). near (crossing (sample S y) (sample S r.other) h)) (sym p.1) ∙ p.0))
      (λ p.
      let b : across_of n r.other (reverse l) ≡ Some s = across_back n s l r.other f hs (omega arith) r.across in
      let a : across_of n x e ≡ Some s = ap₂ (across_of n) (sym p.1) (sym (reverse-low l hl ∙ p.2)) ∙ b in
      high_marked s (omega (arith, p.2)) a (ap (λ (y : ℕ). beyond (crossing (sample S s) (sample S y) h)) (sym p.1) ∙ p.0)) r.how

  -- the edges that mark site x along e
  own-hits : (t : ℕ) → across_of n x e ≡ Some t → near (crossing (sample S x) (sample S t) h) ≡ true → hits n S h x e x e ≡ true
  unfolding hits hit_to
  own-hits t a q = ap (λ (o : Option ℕ). hit_to S h x e o x e) a ∙ near-hits x t e (crossing (sample S x) (sample S t) h) q

  back_hits : (t : ℕ) → 7 ≤ e → across_of n x e ≡ Some t → beyond (crossing (sample S t) (sample S x) h) ≡ true → hits n S h t (e - 7) x e ≡ true
  unfolding hits hit_to
  back_hits t l a q =
      let b : across_of n t (e - 7) ≡ Some x = ap (across_of n t) (sym (reverse_high e l he)) ∙ across_back n x e t f hx he a in
      let r : e - 7 + 7 ≡ e = omega arith in
      ap (λ (o : Option ℕ). hit_to S h t (e - 7) o x e) b
      ∙ ap (hit_by t x (e - 7) (crossing (sample S t) (sample S x) h) x) (sym r) ∙ beyond-hits t x (e - 7) (crossing (sample S t) (sample S x) h) q

  marked_from : (o : Option ℕ) → across_of n x e ≡ o → marked_by S h x e o ≡ true → any (sites n) (λ s. any 7 (λ l. hits n S h s l x e)) ≡ true
  unfolding marked_by
  marked_from None a q = absurd (false≢true q)
  marked_from (Some t) a q =
      ⊎_elim
      (λ l.
      any_some (sites n) (λ s. any 7 (λ l. hits n S h s l x e)) x hx
      (any_some 7 (λ l. hits n S h x l x e) e l (own-hits t a (ap (λ (b : Bool). cond b (near (crossing (sample S x) (sample S t) h)) (beyond (crossing (sample S t) (sample S x) h))) (sym (lt-ltb e 7 l)) ∙ q))))
      (λ l.
      any_some (sites n) (λ s. any 7 (λ l. hits n S h s l x e)) t (across-joined n x e t f hx a).inside
      (any_some 7 (λ l. hits n S h t l x e) (e - 7) (omega arith)
      (back_hits t l a (ap (λ (b : Bool). cond b (near (crossing (sample S x) (sample S t) h)) (beyond (crossing (sample S t) (sample S x) h))) (sym (le-ltb e 7 l)) ∙ q)))) (lt-or e 7)

  -- A BIT IS SET BY SOME EDGE EXACTLY IF IT IS MARKED
  pub hits-marked : any (sites n) (λ s. any 7 (λ l. hits n S h s l x e)) ≡ marked n S h x e
  unfolding marked
  hits-marked =
      bool_ext (any (sites n) (λ s. any 7 (λ l. hits n S h s l x e))) (marked n S h x e)
      (λ q.
      let a = any-one (sites n) (λ s. any 7 (λ l. hits n S h s l x e)) q in
      let b = any-one 7 (λ l. hits n S h a.0 l x e) a.2 in
      hit_marked a.0 b.0 a.1 b.1 b.2)
      (λ q. marked_from (across_of n x e) refl q)
