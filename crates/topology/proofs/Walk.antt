-- The walk from the lowest edge of a mask finds that edge's component: digits of a turn, what every turn keeps, and the end. Assumes nothing.
use Rattle.std.proofs.Common.{◌≡◌, ℕ, zero, suc, ◌+◌, ◌%◌, ◌^◌, ◌<◌, ◌≤◌, min, max, T, ◌⊎◌, sym, refl, ap, ◌∙◌, subst, ap₂, inl, inr, ⊎_elim, arith}
use lib.Bits.{bit_and, bit_xor, or_lt, xor_lt, and_lt}
use lib.Count.{ones_in}
use lib.Pow.{pow-lt}
use Rattle.laws.specs.Digits.{digit}
use Rattle.laws.proofs.Bools.{bit_T, T-bit}
use Rattle.laws.proofs.Ranges.{eq-or}
use Rattle.laws.proofs.Digits.{digit_lt, digit_and, digit_or, digit_xor, digit-zero, digit-pow-same, digit-pow_other, digit-below, digit-or-not, low-set, low-lt, and_neg, ones_le, ones_sum, ones_sum3, ones_zero, ones_pow, ones_pos}
use Rattle.tables.specs.Edges.{are_neighbours, neighbour_mask}
use Rattle.tables.proofs.Edges.{neighbour_rule, neighbour_lt}
use Rattle.topology.specs.Parts.{low, Path, here, next}
use Rattle.topology.specs.Walk.{low_bit, found, rem_turn, fr_turn, comp_turn, walk, first}

-- ---- x & -x is the lowest edge

pub low_bit_law : (x r : ℕ) → x < 2 ^ 16 → r < 2 ^ 16 → (r + x) % 2 ^ 16 ≡ 0 → bit_and x r ≡ low_bit x
unfolding low_bit
low_bit_law zero r p q h = refl
low_bit_law (suc x) r p q h = and_neg 16 (suc x) r (omega arith) (omega arith) (omega arith)

pub low_bit_pos : (x : ℕ) → 0 < x → low_bit x ≡ 2 ^ low x
unfolding low_bit
low_bit_pos zero p = absurd (omega arith)
low_bit_pos (suc x) p = refl

-- the lowest edge is in the mask, and is one of the fourteen
pub low_in : (m : ℕ) → 0 < m → m < 2 ^ 14 → digit m (low m) ≡ 1
low_in m p h = low-set 16 m p (omega arith)

pub low_14 : (m : ℕ) → 0 < m → m < 2 ^ 14 → low m < 14
low_14 m p h = low-lt 16 14 m p (omega arith) h

-- ---- one turn, digit by digit: r remains, f is the frontier's, c the component's, n the neighbours', b the taken edge's, R the mask's

part-taken : (r f c n b R : ℕ) → r + f + c ≡ R → R < 2 → n < 2 → b ≡ 1 → f ≡ 1 → (r + min n r) % 2 + max ((f + b) % 2) (min n r) + max c b ≡ R
part-taken r f c n b R h l m hb hf = omega arith

part_other : (r f c n b R : ℕ) → r + f + c ≡ R → R < 2 → n < 2 → b ≡ 0 → (r + min n r) % 2 + max ((f + b) % 2) (min n r) + max c b ≡ R
part_other zero f c n b R h l m hb = omega arith
part_other (suc zero) f c zero b R h l m hb = omega arith
part_other (suc zero) f c (suc zero) b R h l m hb = omega arith
part_other (suc zero) f c (suc (suc n)) b R h l m hb = omega arith
part_other (suc (suc r)) f c n b R h l m hb = omega arith

module _ (rem fr comp e : ℕ) where
  d_found : digit (found rem fr) e ≡ min (digit (neighbour_mask (low fr)) e) (digit rem e)
  unfolding found
  d_found = digit_and (neighbour_mask (low fr)) rem e

  d_rem : digit (rem_turn rem fr) e ≡ (digit rem e + min (digit (neighbour_mask (low fr)) e) (digit rem e)) % 2
  unfolding rem_turn
  d_rem = digit_xor rem (found rem fr) e ∙ ap (λ (x : ℕ). (digit rem e + x) % 2) d_found

  d_fr : digit (fr_turn rem fr) e ≡ max ((digit fr e + digit (2 ^ low fr) e) % 2) (min (digit (neighbour_mask (low fr)) e) (digit rem e))
  unfolding fr_turn
  d_fr = digit_or (bit_xor fr (2 ^ low fr)) (found rem fr) e ∙ ap₂ max (digit_xor fr (2 ^ low fr) e) d_found

  d_comp : digit (comp_turn fr comp) e ≡ max (digit comp e) (digit (2 ^ low fr) e)
  unfolding comp_turn
  d_comp = digit_or comp (2 ^ low fr) e

-- ---- what the walk from s over the mask R keeps

pub record Walking (R s rem fr comp : ℕ) : Type 0 where
  pub rem_short : rem < 2 ^ 14
  pub fr_short : fr < 2 ^ 14
  pub comp_short : comp < 2 ^ 14
  pub part : (e : ℕ) → digit rem e + digit fr e + digit comp e ≡ digit R e
  pub seed : digit fr s + digit comp s ≡ 1
  pub reach : (e : ℕ) → digit fr e + digit comp e ≡ 1 → Path R s e
  pub closed : (e f : ℕ) → digit comp e ≡ 1 → T (are_neighbours e f) → digit rem f ≡ 1 → ⊥

module _ (R s rem fr comp : ℕ) (p : 0 < fr) (i : Walking R s rem fr comp) where
  abbrev nbrs : ℕ
  nbrs = neighbour_mask (low fr)

  is_set : digit fr (low fr) ≡ 1
  is_set = low_in fr p i.fr_short

  is_lt : low fr < 14
  is_lt = low_14 fr p i.fr_short

  -- the digit at e of the edge that is taken
  taken : (e : ℕ) → ((low fr ≡ e) × (digit (2 ^ low fr) e ≡ 1) × (digit fr e ≡ 1)) ⊎ (digit (2 ^ low fr) e ≡ 0)
  taken e =
      ⊎_elim (λ q. inl (q, sym (ap (digit (2 ^ low fr)) q) ∙ digit-pow-same (low fr), sym (ap (digit fr) q) ∙ is_set))
      (λ n. inr (digit-pow_other (low fr) e n)) (eq-or (low fr) e)

  part' : (e : ℕ) → digit (rem_turn rem fr) e + digit (fr_turn rem fr) e + digit (comp_turn fr comp) e ≡ digit R e
  part' e =
      rw (d_rem rem fr comp e, d_fr rem fr comp e, d_comp rem fr comp e)
      (⊎_elim
      (λ t. part-taken (digit rem e) (digit fr e) (digit comp e) (digit nbrs e) (digit (2 ^ low fr) e) (digit R e) (i.part e) (digit_lt R e) (digit_lt nbrs e) t.1 t.2)
      (λ t. part_other (digit rem e) (digit fr e) (digit comp e) (digit nbrs e) (digit (2 ^ low fr) e) (digit R e) (i.part e) (digit_lt R e) (digit_lt nbrs e) t) (taken e))

  -- what remains after the turn remained before, and is no neighbour of the edge taken
  rem_sub : (e : ℕ) → digit (rem_turn rem fr) e ≡ 1 → (digit rem e ≡ 1) × (digit nbrs e ≡ 0)
  rem_sub e h = sub (digit rem e) (digit nbrs e) (digit_lt rem e) (digit_lt nbrs e) (sym (d_rem rem fr comp e) ∙ h)
    where
      sub : (r n : ℕ) → r < 2 → n < 2 → (r + min n r) % 2 ≡ 1 → (r ≡ 1) × (n ≡ 0)
      sub zero n l m h = absurd (omega arith)
      sub (suc zero) zero l m h = (refl, refl)
      sub (suc zero) (suc n) l m h = absurd (omega arith)
      sub (suc (suc r)) n l m h = absurd (omega arith)

  closed' : (e f : ℕ) → digit (comp_turn fr comp) e ≡ 1 → T (are_neighbours e f) → digit (rem_turn rem fr) f ≡ 1 → ⊥
  closed' e f h a r =
      let q = rem_sub f r in
      ⊎_elim
      (λ t.
      let hf : f < 14 = digit-below 14 rem f i.rem_short q.0 in
      let a' : T (are_neighbours (low fr) f) = subst (λ (x : ℕ). T (are_neighbours x f)) (sym t.0) a in
      omega (arith, neighbour_rule (low fr) f hf, T-bit (are_neighbours (low fr) f) a', q.1))
      (λ t. i.closed e f (omega (arith, d_comp rem fr comp e, h, t)) a q.0) (taken e)

  -- an edge of the frontier or the component after the turn was one before, or is a neighbour that remained
  grown : (e : ℕ) → digit (fr_turn rem fr) e + digit (comp_turn fr comp) e ≡ 1 → (digit fr e + digit comp e ≡ 1) ⊎ ((digit nbrs e ≡ 1) × (digit rem e ≡ 1))
  grown e h =
      ⊎_elim (λ r. inl (omega (arith, r, i.part e, part' e, digit_lt R e, h)))
      (λ r.
      ⊎_elim (λ n. absurd (omega (arith, r, n, d_rem rem fr comp e, part' e, digit_lt R e, h)))
      (λ n. inr (n, r)) (digit-or-not nbrs e)) (digit-or-not rem e)

  reach' : (e : ℕ) → digit (fr_turn rem fr) e + digit (comp_turn fr comp) e ≡ 1 → Path R s e
  reach' e h =
      ⊎_elim (λ q. i.reach e q)
      (λ q.
      let hf : e < 14 = digit-below 14 rem e i.rem_short q.1 in
      let was : digit fr (low fr) + digit comp (low fr) ≡ 1 = omega (arith, i.part (low fr), digit_lt R (low fr), is_set) in
      next (i.reach (low fr) was) (bit_T (are_neighbours (low fr) e) (sym (neighbour_rule (low fr) e hf) ∙ q.0))
      (omega (arith, q.1, i.part e, digit_lt R e))) (grown e h)

  seed' : digit (fr_turn rem fr) s + digit (comp_turn fr comp) s ≡ 1
  seed' =
      let z : digit rem s ≡ 0 = omega (arith, i.part s, i.seed, digit_lt R s) in
      let z' : digit (rem_turn rem fr) s ≡ 0 = d_rem rem fr comp s ∙ ap (λ (x : ℕ). (x + min (digit nbrs s) x) % 2) z ∙ zero-min (digit nbrs s) in
      omega (arith, part' s, i.part s, i.seed, digit_lt R s)
    where
      zero-min : (n : ℕ) → (0 + min n 0) % 2 ≡ 0
      zero-min n = omega arith

  found_lt : found rem fr < 2 ^ 14
  unfolding found
  found_lt = and_lt 14 nbrs rem (neighbour_lt (low fr)) i.rem_short

  bit-lt : 2 ^ low fr < 2 ^ 14
  bit-lt = pow-lt is_lt

  pub walking-turn : Walking R s (rem_turn rem fr) (fr_turn rem fr) (comp_turn fr comp)
  unfolding rem_turn fr_turn comp_turn
  walking-turn = record {
    rem_short = xor_lt 14 rem (found rem fr) i.rem_short found_lt;
    fr_short = or_lt 14 (bit_xor fr (2 ^ low fr)) (found rem fr) (xor_lt 14 fr (2 ^ low fr) i.fr_short bit-lt) found_lt;
    comp_short = or_lt 14 comp (2 ^ low fr) i.comp_short bit-lt;
    part = part';
    seed = seed';
    reach = reach';
    closed = closed';
  }

  -- the component has one edge more
  pub ones_turn : ones_in 14 comp + 1 ≡ ones_in 14 (comp_turn fr comp)
  ones_turn =
      ap (λ (x : ℕ). ones_in 14 comp + x) (sym (ones_pow 14 (low fr) is_lt))
      ∙ ones_sum 14 comp (2 ^ low fr) (comp_turn fr comp)
      (λ e.
      ⊎_elim (λ t. omega (arith, t.1, t.2, d_comp rem fr comp e, i.part e, digit_lt R e))
      (λ t. omega (arith, t, d_comp rem fr comp e)) (taken e))

-- a mask that is not 0 has an edge; so, while the frontier is not empty, an edge of the mask is still to come
pub ones_some : (m : ℕ) → 0 < m → m < 2 ^ 14 → 0 < ones_in 14 m
ones_some m p h = ones_pos 14 m (low m) (low_14 m p h) (low_in m p h)

pub ones_more : (R s rem fr comp : ℕ) → 0 < fr → Walking R s rem fr comp → ones_in 14 comp < ones_in 14 R
ones_more R s rem fr comp p i = omega (arith, ones_sum3 14 rem fr comp R i.part, ones_some fr p i.fr_short)

-- ---- the whole walk

pub walk-stop : (n rem comp v : ℕ) → walk n rem 0 comp v ≡ record { comp = comp; rest = rem; visits = v }
unfolding walk
walk-stop zero rem comp v = refl
walk-stop (suc n) rem comp v = refl

pub walk_turn : (n rem fr comp v : ℕ) → 0 < fr → walk (suc n) rem fr comp v ≡ walk n (rem_turn rem fr) (fr_turn rem fr) (comp_turn fr comp) (suc v)
unfolding walk
walk_turn n rem zero comp v p = absurd (omega arith)
walk_turn n rem (suc f) comp v p = refl

-- at the end the frontier is empty, and there was a visit for each edge that was found
walk_end : (n R s rem fr comp v : ℕ) → ones_in 14 R ≤ n + ones_in 14 comp → Walking R s rem fr comp → v ≡ ones_in 14 comp
    → Walking R s (walk n rem fr comp v).rest 0 (walk n rem fr comp v).comp × ((walk n rem fr comp v).visits ≡ ones_in 14 (walk n rem fr comp v).comp)
walk_end zero R s rem zero comp v l i e = rw walk-stop (i, e)
walk_end (suc n) R s rem zero comp v l i e = rw walk-stop (i, e)
walk_end zero R s rem (suc f) comp v l i e = absurd (omega (arith, ones_more R s rem (suc f) comp (omega arith) i))
walk_end (suc n) R s rem (suc f) comp v l i e =
    let more = ones_turn R s rem (suc f) comp (omega arith) i in
    rw (walk_turn n rem (suc f) comp v (omega arith))
    (walk_end n R s (rem_turn rem (suc f)) (fr_turn rem (suc f)) (comp_turn (suc f) comp) (suc v) (omega (arith, more))
    (walking-turn R s rem (suc f) comp (omega arith) i) (omega (arith, more)))

-- ---- from the lowest edge

pub walking_start : (m : ℕ) → 0 < m → m < 2 ^ 14 → Walking m (low m) (bit_xor m (2 ^ low m)) (2 ^ low m) 0
walking_start m p h =
    let is : digit m (low m) ≡ 1 = low_in m p h in
    let lt : low m < 14 = low_14 m p h in
    record {
      rem_short = xor_lt 14 m (2 ^ low m) h (pow-lt lt);
      fr_short = pow-lt lt;
      comp_short = omega arith;
      part = λ e.
          ⊎_elim
          (λ q. omega (arith, is, digit-pow-same (low m), digit-zero e, digit_xor m (2 ^ low m) e, ap (digit m) q, ap (digit (2 ^ low m)) q))
          (λ q. omega (arith, digit-pow_other (low m) e q, digit-zero e, digit_xor m (2 ^ low m) e, digit_lt m e)) (eq-or (low m) e);
      seed = omega (arith, digit-pow-same (low m), digit-zero (low m));
      reach = λ e q.
          ⊎_elim (λ r. subst (λ (x : ℕ). Path m (low m) x) r here)
          (λ r. absurd (omega (arith, digit-pow_other (low m) e r, digit-zero e))) (eq-or (low m) e);
      closed = λ e f q. absurd (omega (arith, digit-zero e));
    }

module _ (m : ℕ) (p : 0 < m) (h : m < 2 ^ 14) where
  whole : Walking m (low m) (first m).rest 0 (first m).comp × ((first m).visits ≡ ones_in 14 (first m).comp)
  unfolding first
  whole = walk_end 14 m (low m) (bit_xor m (2 ^ low m)) (2 ^ low m) 0 0 (omega (arith, ones_le 14 m)) (walking_start m p h) (sym (ones_zero 14))

  pub first_end_lem : Walking m (low m) (first m).rest 0 (first m).comp
  first_end_lem = whole.0

  -- what it visits and what is left are the mask
  pub first-visits : (first m).visits + ones_in 14 (first m).rest ≡ ones_in 14 m
  first-visits = omega (arith, whole.1, ones_sum3 14 (first m).rest 0 (first m).comp m first_end_lem.part, ones_zero 14)

  -- what is left has fewer edges
  pub rest-less : ones_in 14 (first m).rest < ones_in 14 m
  rest-less =
      let sc : digit (first m).comp (low m) ≡ 1 = omega (arith, first_end_lem.seed, digit-zero (low m)) in
      omega (arith, first-visits, whole.1, ones_pos 14 (first m).comp (low m) (low_14 m p h) sc)
