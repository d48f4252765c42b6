-- The edges of a mask one by one: the loop of `do_not_cluster`, and what the list of them says of the mask. Assumes nothing.
use Rattle.std.proofs.Common.{◌≡◌, ℕ, ◌+◌, ◌*◌, ◌%◌, ◌^◌, ◌<◌, ◌≤◌, Bool, true, false, cond, List, [], ◌∷◌, map, length, set, replicate, sym, refl, ap, ◌∙◌, subst, ap₂, arith}
use lib.Bits.{bit_xor, mask_lt}
use lib.Count.{ones_in}
use Rattle.laws.specs.Lists.{keep}
use Rattle.laws.specs.Filling.{Filling}
use Rattle.laws.specs.Digits.{digit, is_set}
use Rattle.laws.specs.Inner.Visits.{set_places}
use Rattle.laws.proofs.Ranges.{each_keep, each_map, each_same, each-le}
use Rattle.laws.proofs.Filling.{fill_start, fill-room, fill-turn, fill_end}
use Rattle.laws.proofs.Digits.{digit_set, digit_unset}
use Rattle.laws.proofs.Visits.{places_none, places_low, places_turn, low-here, low_bit_lem, off-short, off_less}
use Rattle.topology.specs.Parts.{low}
use Rattle.topology.specs.Walk.{fourteen, low_bit}
use Rattle.topology.specs.Topology.{singles, clusters_of}
use Rattle.topology.proofs.Walk.{low_bit_pos}

-- what edge e of the mask gives
abbrev pub at : ℕ → ℕ → List ℕ
at m e = cond (is_set m e) (2 ^ e ∷ []) []

pub at_set : (m e : ℕ) → digit m e ≡ 1 → at m e ≡ 2 ^ e ∷ []
at_set m e h = rw (digit_set m e h)

pub at_unset : (m e : ℕ) → digit m e ≡ 0 → at m e ≡ []
at_unset m e h = rw (digit_unset m e h)

at-le : (m e : ℕ) → length (at m e) ≤ 1
at-le m e = short (is_set m e)
  where
    short : (b : Bool) → length (cond b (2 ^ e ∷ []) []) ≤ 1
    short true = omega arith
    short false = omega arith

-- at most fourteen
pub singles-le : (m : ℕ) → length (singles m) ≤ 14
unfolding singles
singles-le m = omega (arith, each-le 1 14 (at m) (at-le m))

-- they are the places of the mask's digits
singles_places : (m : ℕ) → singles m ≡ map (λ e. 2 ^ e) (set_places 14 m)
unfolding singles set_places keep
singles_places m =
    each_same 14 (at m) (λ e. map (λ i. 2 ^ i) (cond (is_set m e) (e ∷ []) [])) (λ e l. one e (is_set m e))
    ∙ sym (ap (map (λ e. 2 ^ e)) (each_keep (is_set m) 14 (λ e. e ∷ [])) ∙ each_map (λ e. 2 ^ e) 14 (λ e. cond (is_set m e) (e ∷ []) []))
  where
    one : (e : ℕ) (b : Bool) → cond b (2 ^ e ∷ []) [] ≡ map (λ i. 2 ^ i) (cond b (e ∷ []) [])
    one e true = refl
    one e false = refl

-- the fourteen edges alone count
pub singles-low : (m : ℕ) → singles (fourteen m) ≡ singles m
singles-low m = singles_places (fourteen m) ∙ ap (map (λ e. 2 ^ e)) (places_low 14 m) ∙ sym (singles_places m)

singles-none : singles 0 ≡ []
singles-none = singles_places 0 ∙ ap (map (λ e. 2 ^ e)) (places_none 14)

-- the lowest edge is the first
singles-turn : (m : ℕ) → 0 < m → m < 2 ^ 14 → singles m ≡ 2 ^ low m ∷ singles (bit_xor m (2 ^ low m))
singles-turn m p h =
    singles_places m ∙ ap (map (λ e. 2 ^ e)) (places_turn 16 14 m (omega arith) p h)
    ∙ ap (λ (x : List ℕ). 2 ^ low m ∷ x) (sym (singles_places (bit_xor m (2 ^ low m))))

-- ---- the loop

pub record Left (m rem : ℕ) (masks : List ℕ) (n : ℕ) : Type 0 where
  pub short : rem < 2 ^ 14
  pub fill : Filling 14 0 (singles m) (singles rem) masks n

pub left-start : (m : ℕ) → Left m (fourteen m) (replicate 14 0) 0
left-start m = record { short = mask_lt m 14; fill = rw (singles-low m) (fill_start 14 0 (singles m)) }

module _ (m rem : ℕ) (masks : List ℕ) (n : ℕ) (more : rem ≡ 0 → ⊥) (o : Left m rem masks n) where
  p : 0 < rem
  p = omega arith

  pub left-low : low rem < 14
  left-low = low-here 16 14 rem (omega arith) p o.short

  pub left-bit : 1 * 2 ^ low rem % 65536 ≡ low_bit rem
  left-bit = low_bit_lem 16 14 rem (omega arith) p o.short ∙ sym (low_bit_pos rem p)

  step : Filling 14 0 (singles m) (2 ^ low rem ∷ singles (bit_xor rem (2 ^ low rem))) masks n
  step = subst (λ (x : List ℕ). Filling 14 0 (singles m) x masks n) (singles-turn rem p o.short) o.fill

  pub left-room : n < 14
  left-room = fill-room step (singles-le m) (omega arith)

  module _ (b : ℕ) (e : b ≡ low_bit rem) where
    pub left-turn : Left m (bit_xor rem b) (set masks n b) (n + 1)
    left-turn = rw (e, low_bit_pos rem p) (record {
      short = off-short 16 14 rem (omega arith) p o.short;
      fill = fill-turn left-room step;
    })

    pub left_less : ones_in 14 (bit_xor rem b) < ones_in 14 rem
    left_less = rw (e, low_bit_pos rem p) (off_less 16 14 rem (omega arith) p o.short)

pub left_end : (m rem : ℕ) (masks : List ℕ) (n : ℕ) → rem ≡ 0 → Left m rem masks n → record { count = n; masks = masks } ≡ clusters_of (singles m)
left_end m rem masks n z o =
    let done = fill_end (subst (λ (x : List ℕ). Filling 14 0 (singles m) x masks n) (ap singles z ∙ singles-none) o.fill) in
    ap₂ (λ (x : ℕ) (y : List ℕ). record { count = x; masks = y }) done.0 done.1
