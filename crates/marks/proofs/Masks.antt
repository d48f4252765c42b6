-- The masks of the box, entry by entry and as a list: exactly those of the definition, and all that lies past the sites as it was. Assumes nothing.
use Rattle.std.specs.Prelude.{Option, None, Some}
use mathlib.Core.Path.{◌≡◌, refl, sym, ap, ◌∙◌}
use mathlib.Core.Bool.{Bool, true, false, ◌||◌, cond}
use mathlib.Core.Logic.{⊎_elim}
use mathlib.Core.List.{List, [], ◌∷◌, ◌++◌}
use Prim.Native.Nat.{ℕ, ◌+◌, ◌-◌, ◌^◌, ◌≤◌, ◌<◌}
use native.Mathlib.Omega.{arith}
use lib.Bits.{bit_or, or_lt}
use lib.Pow.{pow-lt}
use lib.ListN.{get_or, set, length, drop, replicate, length-set, length-replicate, length-append, get_or-replicate, get_or-append}
use lib.Seq.{get_or-set_same, get_or-set_other, get_or-append-add, ext_get_or}
use lib.Ieee.{Float, lt}
use Rattle.laws.specs.Bools.{bit}
use Rattle.laws.specs.Ranges.{any, each}
use Rattle.laws.specs.Digits.{is_set, mask}
use Rattle.laws.proofs.Ranges.{eq-or, lt-or, fold_inv, each-one-length, each-one-at}
use Rattle.laws.proofs.Digits.{digit-is, digit-zero, digit_unset, digit_ext, mask-digit, mask_lt}
use Rattle.samples.specs.Sides.{half, crossing}
use Rattle.lattice.specs.declared.Sides.{Sides}
use Rattle.lattice.specs.Sites.{SidesFit, sites}
use Rattle.lattice.specs.Across.{across_of}
use Rattle.lattice.proofs.OtherEnds.{across-joined}
use Rattle.marks.specs.Marks.{sample, marked, mask_at, masks_of}
use Rattle.marks.specs.Inner.Loops.{set_bit, mark_crossing, mark_to, mark_label, mark_site, mark_sites, mark_layers, zeroed}
use Rattle.marks.proofs.Layers.{layers_are}
use Rattle.marks.proofs.Bits.{bit_of, hits, sites-bit, hits-marked}

-- what every mark keeps: the length, the entries past the sites, and that a site's entry has fourteen bits
pub record Kept (n : Sides) (m₀ m : List ℕ) : Type 0 where
  pub len : length m ≡ length m₀
  pub past : (x : ℕ) → sites n ≤ x → get_or m x 0 ≡ get_or m₀ x 0
  pub short : (x : ℕ) → x < sites n → get_or m x 0 < 2 ^ 14

module _ (n : Sides) (m₀ : List ℕ) (room : sites n ≤ length m₀) where
  bit_kept : (m : List ℕ) (at b : ℕ) → at < sites n → b < 14 → Kept n m₀ m → Kept n m₀ (set_bit m at b)
  unfolding set_bit
  bit_kept m at b ha hb k =
      let v = bit_or (get_or m at 0) (2 ^ b) in
      let small : v < 2 ^ 14 = or_lt 14 (get_or m at 0) (2 ^ b) (k.short at ha) (pow-lt hb) in
      record {
        len = length-set m at v ∙ k.len;
        past = λ x hx. get_or-set_other m at x v 0 (λ q. omega (arith, q, ha, hx)) ∙ k.past x hx;
        short = λ x hx.
            ⊎_elim
            (λ p. let g : get_or (set m at v) x 0 ≡ v = ap (λ (y : ℕ). get_or (set m at v) y 0) p ∙ get_or-set_same m at v 0 (omega (arith, k.len, ha, room)) in omega (arith, g, small))
            (λ p. omega (arith, get_or-set_other m at x v 0 p, k.short x hx)) (eq-or x at);
      }

  crossing_kept : (s t l : ℕ) (c : Option Float) (m : List ℕ) → s < sites n → t < sites n → l < 7 → Kept n m₀ m → Kept n m₀ (mark_crossing s t l c m)
  unfolding mark_crossing
  crossing_kept s t l None m hs ht hl k = k
  crossing_kept s t l (Some f) m hs ht hl k = go (lt f half)
    where
      go : (b : Bool) → Kept n m₀ (cond b (set_bit m s l) (set_bit m t (l + 7)))
      go true = bit_kept m s l hs (omega arith) k
      go false = bit_kept m t (l + 7) ht (omega arith) k

  to_kept : (S : List Float) (h : Float) (s l : ℕ) (o : Option ℕ) (m : List ℕ) → s < sites n → ((t : ℕ) → o ≡ Some t → t < sites n) → l < 7
      → Kept n m₀ m → Kept n m₀ (mark_to S h s l o m)
  unfolding mark_to
  to_kept S h s l None m hs ht hl k = k
  to_kept S h s l (Some t) m hs ht hl k = crossing_kept s t l (crossing (sample S s) (sample S t) h) m hs (ht t refl) hl k

  module _ (S : List Float) (h : Float) (f : SidesFit n) where
    label_kept : (s l : ℕ) (m : List ℕ) → s < sites n → l < 7 → Kept n m₀ m → Kept n m₀ (mark_label n S h s l m)
    unfolding mark_label
    label_kept s l m hs hl k = to_kept S h s l (across_of n s l) m hs (λ t a. (across-joined n s l t f hs a).inside) hl k

    site_kept : (s : ℕ) (m : List ℕ) → s < sites n → Kept n m₀ m → Kept n m₀ (mark_site n S h s m)
    unfolding mark_site
    site_kept s m hs k = fold_inv (Kept n m₀) (mark_label n S h s) 7 m k (λ l y hl p. label_kept s l y hs hl p)

    sites_kept : (m : List ℕ) → Kept n m₀ m → Kept n m₀ (mark_sites n S h (sites n) m)
    unfolding mark_sites
    sites_kept m k = fold_inv (Kept n m₀) (mark_site n S h) (sites n) m k (λ s y hs p. site_kept s y hs p)

-- ---- from zeros over the sites

-- what is lent, with zeros over the sites
abbrev pub cleared : Sides → List ℕ → List ℕ
cleared n rest = replicate (sites n) 0 ++ rest

module _ (n : Sides) (rest : List ℕ) where
  zeros : length (replicate {A = ℕ} (sites n) 0) ≡ sites n
  zeros = length-replicate {A = ℕ} (sites n) 0

  pub cleared-room : sites n ≤ length (cleared n rest)
  cleared-room = omega (arith, length-append (replicate (sites n) 0) rest, zeros)

  cleared_at : (x : ℕ) → x < sites n → get_or (cleared n rest) x 0 ≡ 0
  cleared_at x h = get_or-append (replicate (sites n) 0) rest 0 x (omega (arith, zeros)) ∙ get_or-replicate (sites n) x 0 0 h

  cleared_kept : Kept n (cleared n rest) (cleared n rest)
  cleared_kept = record { len = refl; past = λ x h. refl; short = λ x h. omega (arith, cleared_at x h) }

  module _ (S : List Float) (h : Float) (f : SidesFit n) where
    done : List ℕ
    done = mark_sites n S h (sites n) (cleared n rest)

    kept : Kept n (cleared n rest) done
    unfolding done
    kept = sites_kept n (cleared n rest) cleared-room S h f (cleared n rest) cleared_kept

    mask-bit : (x e : ℕ) → x < sites n → e < 14 → is_set (get_or done x 0) e ≡ marked n S h x e
    unfolding done
    mask-bit x e hx he =
        let z : bit_of (cleared n rest) x e ≡ false = ap (λ (y : ℕ). is_set y e) (cleared_at x hx) ∙ digit_unset 0 e (digit-zero e) in
        sites-bit n S h f (cleared n rest) x e cleared-room
        ∙ ap (λ (b : Bool). b || any (sites n) (λ s. any 7 (λ l. hits n S h s l x e))) z ∙ hits-marked n S h f x e hx he

    -- THE MASK OF EACH SITE
    mask_is : (x : ℕ) → x < sites n → get_or done x 0 ≡ mask_at n S h x
    unfolding mask_at
    mask_is x hx =
        digit_ext 14 (get_or done x 0) (mask 14 (marked n S h x)) (kept.short x hx) (mask_lt 14 (marked n S h x))
        (λ e he. digit-is (get_or done x 0) e ∙ ap bit (mask-bit x e hx he) ∙ sym (mask-digit 14 (marked n S h x) e he))

    -- THE WHOLE LIST
    table : List ℕ
    table = each (sites n) (λ s. mask_at n S h s ∷ [])

    table-length : length table ≡ sites n
    unfolding table
    table-length = each-one-length (sites n) (mask_at n S h)

    same_length : length done ≡ length (table ++ rest)
    same_length = kept.len ∙ omega (arith, length-append (replicate (sites n) 0) rest, zeros, length-append table rest, table-length)

    behind : (l : List ℕ) (x : ℕ) → length l ≡ sites n → sites n ≤ x → get_or (l ++ rest) x 0 ≡ get_or rest (x - sites n) 0
    behind l x e h =
        let q : length l + (x - sites n) ≡ x = omega (arith, e) in
        ap (λ (y : ℕ). get_or (l ++ rest) y 0) (sym q) ∙ get_or-append-add l rest (x - sites n) 0

    same_at : (x : ℕ) → get_or done x 0 ≡ get_or (table ++ rest) x 0
    unfolding table
    same_at x =
        ⊎_elim
        (λ l. mask_is x l ∙ sym (get_or-append (each (sites n) (λ s. mask_at n S h s ∷ [])) rest 0 x (omega (arith, table-length)) ∙ each-one-at 0 (sites n) (mask_at n S h) x l))
        (λ g. kept.past x g ∙ behind (replicate (sites n) 0) x zeros g ∙ sym (behind table x table-length g)) (lt-or x (sites n))

    pub masks_are : mark_sites n S h (sites n) (cleared n rest) ≡ masks_of n S h ++ rest
    unfolding masks_of done table
    masks_are = ext_get_or 0 done (table ++ rest) same_length (λ x hx. same_at x)

-- THE CODE: the sites' masks are cleared, then marked layer by layer
pub box-done : (n : Sides) (S : List Float) (h : Float) (k : ℕ) (m m₁ m₂ : List ℕ) → SidesFit n → k ≡ sites n
    → m₁ ≡ zeroed k m → m₂ ≡ mark_layers n S h n.nw m₁ → m₂ ≡ masks_of n S h ++ drop (sites n) m
box-done n S h k m m₁ m₂ f e p q =
    q ∙ ap (mark_layers n S h n.nw) (p ∙ ap (λ (j : ℕ). zeroed j m) e)
    ∙ layers_are n S h f (cleared n (drop (sites n) m)) (cleared-room n (drop (sites n) m)) ∙ masks_are n (drop (sites n) m) S h f
