-- E, the crossed edges, is the number of set bits of all masks: each crossed edge is marked once, at one of its ends. Assumes nothing.
use Rattle.std.specs.Prelude.{Option, None, Some}
use mathlib.Core.Path.{◌≡◌, refl, sym, ap, ap₂, ◌∙◌}
use mathlib.Core.Bool.{Bool, true, false, not, cond}
use mathlib.Core.List.{List}
use Prim.Native.Nat.{ℕ, ◌+◌, ◌-◌, ◌*◌, ◌≤◌, ◌<◌}
use native.Mathlib.Omega.{arith}
use borrow.Author.Tests.{lt-ltb, le-ltb}
use lib.Dec.{ltb}
use lib.Count.{ones_in}
use lib.Ieee.{Float, lt}
use Rattle.laws.specs.Bools.{bit}
use Rattle.laws.specs.Ranges.{sum}
use Rattle.laws.proofs.Sums.{sum_same, sum-plus, sum-add, sum-swap, sum_shift, mask_ones}
use Rattle.samples.specs.Sides.{half, crossing, near, crosses}
use Rattle.tables.specs.Edges.{reverse, corner_of, du, dv, dw}
use Rattle.tables.proofs.Edges.{reverse-low, reverse_high}
use Rattle.lattice.specs.declared.Sides.{Sides}
use Rattle.lattice.specs.Sites.{SidesFit, sites, uvw_of}
use Rattle.lattice.specs.Across.{across_of}
use Rattle.lattice.proofs.Sites.{site_uvw}
use Rattle.lattice.proofs.OtherEnds.{across-joined, across_back, above-number}
use Rattle.marks.specs.Marks.{sample, beyond, marked_by, marked, mask_at, crossed_by, is_crossed, crossed_count}

-- the mark at the other end of an owned edge
beyond_by : List Float → Float → ℕ → Option ℕ → Bool
beyond_by S h s None = false
beyond_by S h s (Some t) = beyond (crossing (sample S s) (sample S t) h)

-- a crossed edge has one of its two marks, any other none
one-mark : (c : Option Float) → bit (near c) + bit (beyond c) ≡ bit (crosses c)
unfolding bit
one-mark None = refl
one-mark (Some f) = go (lt f half)
  where
    go : (b : Bool) → bit b + bit (not b) ≡ 1
    go true = refl
    go false = refl

-- the weight of the edge e of a site, where W gives that of each owned edge by its owner and label: labels from 7 on belong to the other end
unfoldable pub owner_weight : (ℕ → ℕ → ℕ) → ℕ → ℕ → Option ℕ → ℕ
owner_weight W s e None = 0
owner_weight W s e (Some t) = cond (ltb e 7) (W s e) (W t (e - 7))

one_by : (S : List Float) (h : Float) (W : ℕ → ℕ → ℕ) (s l : ℕ) (o : Option ℕ) → l < 7
    → bit (marked_by S h s l o) * owner_weight W s l o + bit (beyond_by S h s o) * W s l ≡ bit (crossed_by S h s o) * W s l
unfolding marked_by beyond_by crossed_by owner_weight bit
one_by S h W s l None hl = omega arith
one_by S h W s l (Some t) hl =
    let c = crossing (sample S s) (sample S t) h in
    let d : bit (near c) * W s l + bit (beyond c) * W s l ≡ (bit (near c) + bit (beyond c)) * W s l = omega arith in
    rw (lt-ltb l 7 hl) (d ∙ ap (λ (x : ℕ). x * W s l) (one-mark c))

no_mark : (S : List Float) (h : Float) (W : ℕ → ℕ → ℕ) (s e : ℕ) → bit (marked_by S h s e None) * owner_weight W s e None ≡ 0
unfolding marked_by owner_weight bit
no_mark S h W s e = refl

none-beyond : (S : List Float) (h : Float) (s w : ℕ) → bit (beyond_by S h s None) * w ≡ 0
unfolding beyond_by bit
none-beyond S h s w = omega arith

is-beyond : (S : List Float) (h : Float) (s t : ℕ) → bit (beyond_by S h s (Some t)) ≡ bit (beyond (crossing (sample S s) (sample S t) h))
unfolding beyond_by
is-beyond S h s t = refl

beyond-mark : (S : List Float) (h : Float) (W : ℕ → ℕ → ℕ) (x t l : ℕ)
    → bit (marked_by S h x (7 + l) (Some t)) * owner_weight W x (7 + l) (Some t) ≡ bit (beyond (crossing (sample S t) (sample S x) h)) * W t l
unfolding marked_by owner_weight
beyond-mark S h W x t l = let e : 7 + l - 7 ≡ l = omega arith in rw (le-ltb (7 + l) 7 (omega arith), e)

no_end : {t : ℕ} → None ≡ Some t → ⊥
no_end e = let z : ◌≡◌ {A = ℕ} 0 1 = cc in omega arith

module _ (n : Sides) (S : List Float) (h : Float) (f : SidesFit n) where
  -- the site across an owned edge has a number larger by the edge's own constant
  far : ℕ → ℕ
  far l = du (corner_of l) + n.nu * dv (corner_of l) + n.nu * n.nv * dw (corner_of l)

  up-number : (s l t : ℕ) → s < sites n → l < 7 → across_of n s l ≡ Some t → t ≡ s + far l
  unfolding far
  up-number s l t hs hl a =
      sym (site_uvw n t) ∙ above-number n (uvw_of n s) (uvw_of n t) (corner_of l) ((across-joined n s l t f hs a).rises hl)
      ∙ ap (λ (x : ℕ). x + (du (corner_of l) + n.nu * dv (corner_of l) + n.nu * n.nv * dw (corner_of l))) (site_uvw n s)

  module _ (W : ℕ → ℕ → ℕ) (l : ℕ) (hl : l < 7) where
    -- the mark at the other end, and at the owner
    there : ℕ → ℕ
    there x = bit (marked n S h x (7 + l)) * owner_weight W x (7 + l) (across_of n x (7 + l))

    here : ℕ → ℕ
    here y = bit (beyond_by S h y (across_of n y l)) * W y l

    -- what lies below site x along the edge: its owner
    down : (x t : ℕ) → x < sites n → across_of n x (7 + l) ≡ Some t → (t < sites n) × (across_of n t l ≡ Some x) × (x ≡ t + far l)
    down x t hx a =
        let i = (across-joined n x (7 + l) t f hx a).inside in
        let r : reverse (7 + l) ≡ l = reverse_high (7 + l) (omega arith) (omega arith) ∙ omega arith in
        let b : across_of n t l ≡ Some x = ap (across_of n t) (sym r) ∙ across_back n x (7 + l) t f hx (omega arith) a in
        (i, b, up-number t l x i hl b)

    there-is : (x : ℕ) (o : Option ℕ) → across_of n x (7 + l) ≡ o → there x ≡ bit (marked_by S h x (7 + l) o) * owner_weight W x (7 + l) o
    unfolding there marked
    there-is x o a = ap (λ (p : Option ℕ). bit (marked_by S h x (7 + l) p) * owner_weight W x (7 + l) p) a

    here-is : (y : ℕ) (o : Option ℕ) → across_of n y l ≡ o → here y ≡ bit (beyond_by S h y o) * W y l
    unfolding here
    here-is y o a = ap (λ (p : Option ℕ). bit (beyond_by S h y p) * W y l) a

    low-from : (x : ℕ) (o : Option ℕ) → x < far l → x < sites n → across_of n x (7 + l) ≡ o → there x ≡ 0
    low-from x None k hx a = there-is x None a ∙ no_mark S h W x (7 + l)
    low-from x (Some t) k hx a = absurd (omega (arith, (down x t hx a).2))

    high_from : (y : ℕ) (o : Option ℕ) → y < sites n → sites n ≤ y + far l → across_of n y l ≡ o → here y ≡ 0
    high_from y None hy k a = here-is y None a ∙ none-beyond S h y (W y l)
    high_from y (Some t) hy k a = absurd (omega (arith, up-number y l t hy hl a, (across-joined n y l t f hy a).inside))

    mid_from : (y : ℕ) (o p : Option ℕ) → y + far l < sites n → across_of n y l ≡ o → across_of n (y + far l) (7 + l) ≡ p → there (y + far l) ≡ here y
    mid_from y None None k a b =
        there-is (y + far l) None b ∙ no_mark S h W (y + far l) (7 + l) ∙ sym (here-is y None a ∙ none-beyond S h y (W y l))
    mid_from y None (Some t) k a b =
        let d = down (y + far l) t k b in
        let q : t ≡ y = omega (arith, d.2) in
        absurd (no_end (sym a ∙ ap (λ (z : ℕ). across_of n z l) (sym q) ∙ d.1))
    mid_from y (Some t) None k a b =
        let q : t ≡ y + far l = up-number y l t (omega arith) hl a in
        let c : across_of n t (reverse l) ≡ Some y = across_back n y l t f (omega arith) (omega arith) a in
        let r : reverse l ≡ 7 + l = reverse-low l hl ∙ omega arith in
        absurd (no_end (sym b ∙ ap₂ (across_of n) (sym q) (sym r) ∙ c))
    mid_from y (Some t) (Some z) k a b =
        let q : t ≡ y + far l = up-number y l t (omega arith) hl a in
        let d = down (y + far l) z k b in
        let e : z ≡ y = omega (arith, d.2) in
        there-is (y + far l) (Some z) b ∙ beyond-mark S h W (y + far l) z l
        ∙ ap₂ (λ (i j : ℕ). bit (beyond (crossing (sample S i) (sample S j) h)) * W i l) e (sym q)
        ∙ sym (here-is y (Some t) a ∙ ap (λ (x : ℕ). x * W y l) (is-beyond S h y t))

    -- the marks at the other ends, counted at the owners
    moved : sum (sites n) there ≡ sum (sites n) here
    moved =
        sum_shift here there (far l) (sites n) (λ x k hx. low-from x (across_of n x (7 + l)) k hx refl)
        (λ y k. mid_from y (across_of n y l) (across_of n (y + far l) (7 + l)) k refl refl) (λ y hy k. high_from y (across_of n y l) hy k refl)

    -- an edge's two marks are its crossing
    both : (s : ℕ) → bit (marked n S h s l) * owner_weight W s l (across_of n s l) + here s ≡ bit (is_crossed n S h s l) * W s l
    unfolding here marked is_crossed
    both s = one_by S h W s l (across_of n s l) hl

    label_total : sum (sites n) (λ s. bit (marked n S h s l) * owner_weight W s l (across_of n s l)) + sum (sites n) there ≡ sum (sites n) (λ s. bit (is_crossed n S h s l) * W s l)
    label_total =
        ap (λ (x : ℕ). sum (sites n) (λ s. bit (marked n S h s l) * owner_weight W s l (across_of n s l)) + x) moved
        ∙ sym (sum-plus (sites n) (λ s. bit (marked n S h s l) * owner_weight W s l (across_of n s l)) here)
        ∙ sum_same (sites n) (λ s. bit (marked n S h s l) * owner_weight W s l (across_of n s l) + here s) (λ s. bit (is_crossed n S h s l) * W s l) (λ s hs. both s)

  -- THE MARKED EDGES OF ALL SITES ARE THE CROSSED EDGES, EACH ONCE: any sum over the ones is the same sum over the others
  pub marks_weigh : (W : ℕ → ℕ → ℕ)
      → sum (sites n) (λ s. sum 14 (λ e. bit (marked n S h s e) * owner_weight W s e (across_of n s e))) ≡ sum (sites n) (λ s. sum 7 (λ l. bit (is_crossed n S h s l) * W s l))
  unfolding there
  marks_weigh W =
      let m : ℕ → ℕ → ℕ = λ s e. bit (marked n S h s e) * owner_weight W s e (across_of n s e) in
      let c : ℕ → ℕ → ℕ = λ s l. bit (is_crossed n S h s l) * W s l in
      sum_same (sites n) (λ s. sum 14 (m s)) (λ s. sum 7 (m s) + sum 7 (λ l. m s (7 + l))) (λ s hs. sum-add 7 7 (m s))
      ∙ sum-plus (sites n) (λ s. sum 7 (m s)) (λ s. sum 7 (λ l. m s (7 + l)))
      ∙ ap₂ (λ (x y : ℕ). x + y) (sum-swap (sites n) 7 m) (sum-swap (sites n) 7 (λ s l. m s (7 + l)))
      ∙ sym (sum-plus 7 (λ l. sum (sites n) (λ s. m s l)) (λ l. sum (sites n) (λ s. m s (7 + l))))
      ∙ sum_same 7 (λ l. sum (sites n) (λ s. m s l) + sum (sites n) (λ s. m s (7 + l))) (λ l. sum (sites n) (λ s. c s l)) (λ l hl. label_total W l hl)
      ∙ sym (sum-swap (sites n) 7 c)

  mark-one : (s e : ℕ) (o : Option ℕ) → bit (marked_by S h s e o) ≡ bit (marked_by S h s e o) * owner_weight (λ t l. 1) s e o
  unfolding marked_by owner_weight bit
  mark-one s e None = refl
  mark-one s e (Some t) = go (ltb e 7)
    where
      go : (b : Bool) → bit (marked_by S h s e (Some t)) ≡ bit (marked_by S h s e (Some t)) * cond b 1 1
      go true = omega arith
      go false = omega arith

  -- THE SET BITS OF ALL MASKS ARE THE CROSSED EDGES
  pub marks_count : sum (sites n) (λ s. ones_in 14 (mask_at n S h s)) ≡ crossed_count n S h
  unfolding crossed_count mask_at marked
  marks_count =
      sum_same (sites n) (λ s. ones_in 14 (mask_at n S h s)) (λ s. sum 14 (λ e. bit (marked n S h s e) * owner_weight (λ t l. 1) s e (across_of n s e)))
      (λ s hs.
      mask_ones 14 (marked n S h s)
      ∙ sum_same 14 (λ e. bit (marked n S h s e)) (λ e. bit (marked n S h s e) * owner_weight (λ t l. 1) s e (across_of n s e)) (λ e he. mark-one s e (across_of n s e)))
      ∙ marks_weigh (λ t l. 1)
      ∙ sum_same (sites n) (λ s. sum 7 (λ l. bit (is_crossed n S h s l) * 1)) (λ s. sum 7 (λ l. bit (is_crossed n S h s l)))
      (λ s hs. sum_same 7 (λ l. bit (is_crossed n S h s l) * 1) (λ l. bit (is_crossed n S h s l)) (λ l hl. omega arith))
