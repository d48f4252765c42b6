-- The two loops of `connected_components_masks`: what each keeps, and a law for each place where it is asked. Assumes nothing.
use Rattle.std.proofs.Common.{◌≡◌, ℕ, zero, suc, ◌+◌, ◌-◌, ◌^◌, ◌<◌, ◌≤◌, List, [], ◌∷◌, map, length, set, replicate, sym, refl, ap, ◌∙◌, subst, arith}
use lib.Bits.{bit_and, bit_or, bit_xor, mask_lt}
use lib.Count.{count_trailing_zeros, ones_in}
use lib.Pow.{pow-lt}
use Rattle.laws.specs.Filling.{Filling}
use Rattle.laws.specs.Lists.{total}
use Rattle.laws.proofs.Filling.{fill_start, fill-room, fill-turn, fill_end}
use Rattle.laws.proofs.Digits.{xor_back, ones_le, ones_zero, low-pow}
use Rattle.tables.specs.Edges.{neighbour_mask}
use Rattle.topology.specs.Parts.{low}
use Rattle.topology.specs.Walk.{fourteen, low_bit, found, rem_turn, fr_turn, comp_turn, Walked, walk, first, walks_in, walks, components, visits, components_of}
use Rattle.topology.proofs.Walk.{low_bit_pos, low_14, Walking, walking_start, walking-turn, ones_turn, ones_some, ones_more, walk-stop, walk_turn, first_end_lem, rest-less}
use Rattle.topology.proofs.Visits.{taken, visits-most}

-- ---- the inner loop: the walk goes on from here to what it finds from the lowest edge of m; before it there were u visits, now v

pub record Inner (m rem comp fr u v : ℕ) : Type 0 where
  pub walking : Walking m (low m) rem fr comp
  pub fuel : ℕ
  pub enough : ones_in 14 m ≤ fuel + ones_in 14 comp
  pub own : ℕ
  pub own_ones : own ≡ ones_in 14 comp
  pub is_visits : v ≡ u + own
  pub ends : walk fuel rem fr comp own ≡ first m

-- the count of the lowest bit's zeros is the lowest edge
zeros : (x b : ℕ) → 0 < x → x < 2 ^ 14 → b ≡ low_bit x → count_trailing_zeros 16 b ≡ low x
zeros x b p h e = ap (count_trailing_zeros 16) (e ∙ low_bit_pos x p) ∙ low-pow 16 (low x) (omega (arith, low_14 x p h))

pub zeros-lt : (x b : ℕ) → (x ≡ 0 → ⊥) → x < 2 ^ 14 → b ≡ low_bit x → count_trailing_zeros 16 b < 14
zeros-lt x b some h e = let p : 0 < x = omega arith in omega (arith, zeros x b p h e, low_14 x p h)

pub inner_start : (m b u : ℕ) → 0 < m → m < 2 ^ 14 → b ≡ low_bit m → Inner (bit_xor (bit_xor m b) b) (bit_xor m b) 0 b u u
unfolding first
inner_start m b u p h e =
    let q : b ≡ 2 ^ low m = e ∙ low_bit_pos m p in
    rw (q, xor_back 14 m (2 ^ low m) h (pow-lt (low_14 m p h)))
    (record {
      walking = walking_start m p h;
      fuel = 14;
      enough = omega (arith, ones_le 14 m);
      own = 0;
      own_ones = sym (ones_zero 14);
      is_visits = omega arith;
      ends = refl;
    })

pub inner_turn : (m rem comp fr b ns u v : ℕ) → 0 < fr → b ≡ low_bit fr → ns ≡ bit_and (neighbour_mask (count_trailing_zeros 16 b)) rem → Inner m rem comp fr u v
    → Inner m (bit_xor rem ns) (bit_or comp b) (bit_or (bit_xor fr b) ns) u (v + 1)
unfolding found rem_turn fr_turn comp_turn
inner_turn m rem comp fr b ns u v p e en j =
    rw (en, zeros fr b p j.walking.fr_short e, e ∙ low_bit_pos fr p) (go j.fuel j.enough j.ends)
  where
    more : ones_in 14 comp + 1 ≡ ones_in 14 (comp_turn fr comp)
    more = ones_turn m (low m) rem fr comp p j.walking

    go : (n : ℕ) → ones_in 14 m ≤ n + ones_in 14 comp → walk n rem fr comp j.own ≡ first m → Inner m (rem_turn rem fr) (comp_turn fr comp) (fr_turn rem fr) u (v + 1)
    go zero l h = absurd (omega (arith, ones_more m (low m) rem fr comp p j.walking))
    go (suc n) l h = record {
      walking = walking-turn m (low m) rem fr comp p j.walking;
      fuel = n;
      enough = omega (arith, more);
      own = suc j.own;
      own_ones = omega (arith, more, j.own_ones);
      is_visits = omega (arith, j.is_visits);
      ends = sym (walk_turn n rem fr comp j.own p) ∙ h;
    }

-- the walk has not made more than fourteen
pub inner_few : (m rem comp fr u v : ℕ) → Inner m rem comp fr u v → v ≤ u + 14
inner_few m rem comp fr u v j = omega (arith, j.is_visits, j.own_ones, ones_le 14 comp)

pub inner_less : (m rem comp fr b : ℕ) {u v : ℕ} → 0 < fr → b ≡ low_bit fr → Inner m rem comp fr u v → 14 - ones_in 14 (bit_or comp b) < 14 - ones_in 14 comp
unfolding comp_turn
inner_less m rem comp fr b p e j =
    let q : ones_in 14 comp + 1 ≡ ones_in 14 (bit_or comp b) =
    ones_turn m (low m) rem fr comp p j.walking ∙ ap (λ (x : ℕ). ones_in 14 (bit_or comp x)) (sym (e ∙ low_bit_pos fr p)) in
    omega (arith, ones_le 14 (bit_or comp b))

-- at the end of the walk
pub inner_end : (m b rem comp fr u v : ℕ) → 0 < m → m < 2 ^ 14 → b ≡ low_bit m → fr ≡ 0 → Inner (bit_xor (bit_xor m b) b) rem comp fr u v
    → (own : ℕ) × (v ≡ u + own) × (first m ≡ record { comp = comp; rest = rem; visits = own })
inner_end m b rem comp fr u v p h e z j =
    let lt : b < 2 ^ 14 = subst (λ (x : ℕ). x < 2 ^ 14) (sym (e ∙ low_bit_pos m p)) (pow-lt (low_14 m p h)) in (
      j.own,
      j.is_visits,
      sym (j.ends ∙ ap first (xor_back 14 m b h lt)) ∙ ap (λ (x : ℕ). walk j.fuel rem x comp j.own) z ∙ walk-stop j.fuel rem comp j.own,
    )

-- ---- the outer loop: the components found are in the array, those of what remains are to come, and so are the visits

-- what some walks find
abbrev finds : List Walked → List ℕ
finds ws = map (λ w. w.comp) ws

pub record Outer (m rem : ℕ) (masks : List ℕ) (n v : ℕ) : Type 0 where
  pub short : rem < 2 ^ 14
  pub fuel : ℕ
  pub enough : ones_in 14 rem ≤ fuel
  pub fill : Filling 14 0 (components m) (finds (walks_in fuel rem)) masks n
  pub to_come : v + taken (walks_in fuel rem) ≡ visits m

pub outer_start : (m : ℕ) → Outer m (fourteen m) (replicate 14 0) 0 0
unfolding components walks visits
outer_start m = record { short = mask_lt m 14; fuel = 14; enough = ones_le 14 (fourteen m); fill = fill_start 14 0 (components m); to_come = omega arith }

pub outer_few : (m rem : ℕ) (masks : List ℕ) (n v : ℕ) → Outer m rem masks n v → v ≤ 14
outer_few m rem masks n v o = omega (arith, o.to_come, visits-most m)

stop : (n : ℕ) → walks_in n 0 ≡ []
unfolding walks_in
stop zero = refl
stop (suc n) = refl

turn : (n x : ℕ) → 0 < x → walks_in (suc n) x ≡ first x ∷ walks_in n (first x).rest
unfolding walks_in
turn n zero p = absurd (omega arith)
turn n (suc x) p = refl

in_le : (n x : ℕ) → length (finds (walks_in n x)) ≤ n
unfolding walks_in
in_le zero x = omega arith
in_le (suc n) zero = omega arith
in_le (suc n) (suc x) = omega (arith, in_le n (first (suc x)).rest)

-- at most fourteen
pub components-le : (m : ℕ) → length (components m) ≤ 14
unfolding components walks
components-le m = in_le 14 (fourteen m)

module _ (m rem : ℕ) (masks : List ℕ) (n v : ℕ) (more : rem ≡ 0 → ⊥) (o : Outer m rem masks n v) where
  p : 0 < rem
  p = omega arith

  -- the next walk, and those after it
  record Following : Type 0 where
    fuel : ℕ
    enough : ones_in 14 rem ≤ suc fuel
    fill : Filling 14 0 (components m) ((first rem).comp ∷ finds (walks_in fuel (first rem).rest)) masks n
    to_come : v + ((first rem).visits + taken (walks_in fuel (first rem).rest)) ≡ visits m

  following : Following
  unfolding total
  following = go o.fuel o.enough o.fill o.to_come
    where
      go : (f : ℕ) → ones_in 14 rem ≤ f → Filling 14 0 (components m) (finds (walks_in f rem)) masks n → v + taken (walks_in f rem) ≡ visits m → Following
      go zero l h c = absurd (omega (arith, ones_some rem p o.short))
      go (suc f) l h c = record { fuel = f; enough = l; fill = rw (turn f rem p) at h; to_come = rw (turn f rem p) at c }

  pub outer_room : n < 14
  outer_room = fill-room following.fill (components-le m) (omega arith)

  outer_turn : (comp rest own v' : ℕ) → v' ≡ v + own → first rem ≡ record { comp = comp; rest = rest; visits = own } → Outer m rest (set masks n comp) (n + 1) v'
  outer_turn comp rest own v' ev e =
      subst (λ (x : ℕ). Outer m rest (set masks n comp) (n + 1) x) (sym ev)
      (subst (λ (w : Walked). Outer m w.rest (set masks n w.comp) (n + 1) (v + w.visits)) e
      (record {
        short = (first_end_lem rem p o.short).rem_short;
        fuel = following.fuel;
        enough = omega (arith, following.enough, rest-less rem p o.short);
        fill = fill-turn outer_room following.fill;
        to_come = omega (arith, following.to_come);
      }))

  outer_less : (comp rest own : ℕ) → first rem ≡ record { comp = comp; rest = rest; visits = own } → ones_in 14 rest < ones_in 14 rem
  outer_less comp rest own e = subst (λ (w : Walked). ones_in 14 w.rest < ones_in 14 rem) e (rest-less rem p o.short)

  -- after a walk from the lowest edge b to an empty frontier
  module _ (b comp rest fr v' : ℕ) (e : b ≡ low_bit rem) (z : fr ≡ 0) (j : Inner (bit_xor (bit_xor rem b) b) rest comp fr v v') where
    walked : (own : ℕ) × (v' ≡ v + own) × (first rem ≡ record { comp = comp; rest = rest; visits = own })
    walked = inner_end rem b rest comp fr v v' p o.short e z j

    pub outer_next : Outer m rest (set masks n comp) (n + 1) v'
    outer_next = outer_turn comp rest walked.0 v' walked.1 walked.2

    pub outer_fewer : ones_in 14 rest < ones_in 14 rem
    outer_fewer = outer_less comp rest walked.0 walked.2

pub outer_end : (m rem : ℕ) (masks : List ℕ) (n v : ℕ) → rem ≡ 0 → Outer m rem masks n v → record { clusters = record { count = n; masks = masks }; visits = v } ≡ components_of m
unfolding total
outer_end m rem masks n v z o =
    let none : walks_in o.fuel rem ≡ [] = ap (walks_in o.fuel) z ∙ stop o.fuel in
    let done = fill_end (subst (λ (x : List Walked). Filling 14 0 (components m) (finds x) masks n) none o.fill) in
    let all : v ≡ visits m = omega (arith, o.to_come, ap taken none) in
    λ i. record { clusters = record { count = done.0 i; masks = done.1 i }; visits = all i }
