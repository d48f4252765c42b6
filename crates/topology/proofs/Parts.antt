-- The walks find the components of a mask (`components_parts`), and there is no other list of them (`parts_unique`). Assumes nothing.
use Rattle.std.proofs.Common.{◌≡◌, ℕ, zero, suc, ◌+◌, ◌-◌, ◌^◌, ◌<◌, ◌≤◌, T, List, [], ◌∷◌, map, sym, refl, ap, ◌∙◌, subst, ap₂, ⊎_elim, arith}
use lib.Bits.{bit_xor, xor_lt, mask_lt}
use lib.Count.{ones_in}
use Rattle.laws.specs.Lists.{All, total}
use Rattle.laws.specs.Digits.{digit}
use Rattle.laws.proofs.Lists.{all_map}
use Rattle.laws.proofs.Ranges.{lt-or, eq-or}
use Rattle.laws.proofs.Digits.{digit_lt, digit_xor, digit-zero, digit-below, digit-or-not, digit_ext, digit-short, low-least, ones_le}
use Rattle.tables.specs.Edges.{are_neighbours}
use Rattle.tables.proofs.Edges.{neighbours_sym}
use Rattle.topology.specs.Parts.{low, Path, here, next, Component, Ascending, Parts}
use Rattle.topology.specs.Walk.{fourteen, first, walks_in, walks, components}
use Rattle.topology.proofs.Walk.{Walking, low_in, ones_some, first_end_lem, rest-less}

-- ---- lowest edges

-- no edge of a mask is below its lowest
pub low-le : (m e : ℕ) → digit m e ≡ 1 → low m ≤ e
low-le m e s = ⊎_elim (λ l. omega (arith, low-least 16 m e l)) (λ l. l) (lt-or e (low m))

-- a mask with an edge is not 0
pub some_pos : (m e : ℕ) → digit m e ≡ 1 → 0 < m
some_pos zero e s = omega (arith, digit-zero e)
some_pos (suc m) e s = omega arith

-- an edge that is in a part c of m and is the lowest of m is the lowest of c
low_part : (m c : ℕ) → c < 2 ^ 14 → ((e : ℕ) → digit c e ≡ 1 → digit m e ≡ 1) → digit c (low m) ≡ 1 → low c ≡ low m
low_part m c h sub s = omega (arith, low-le c (low m) s, low-le m (low c) (sub (low c) (low_in c (some_pos c (low m) s) h)))

-- ---- members of a list whose digits add up to those of m are parts of m

abbrev pub In : ℕ → ℕ → Type 0
In m c = (e : ℕ) → digit c e ≡ 1 → digit m e ≡ 1

cover_in : (m : ℕ) (cs : List ℕ) → ((e : ℕ) → total (λ c. digit c e) cs ≤ digit m e) → All (In m) cs
unfolding total All
cover_in m [] h = tt
cover_in m (c ∷ cs) h = (λ e s. omega (arith, h e, digit_lt m e), cover_in m cs (λ e. omega (arith, h e)))

-- a part of a mask of fourteen edges is one
pub in_short : (m c : ℕ) → m < 2 ^ 14 → In m c → c < 2 ^ 14
in_short m c h i = digit-short 14 c (λ e l. ⊎_elim (λ z. z) (λ o. absurd (omega (arith, digit-below 14 m e h (i e o)))) (digit-or-not c e))

-- ---- a path in m from an edge of a closed part of m stays in the part

path_stays : (m c s f : ℕ) → digit c s ≡ 1 → ((e f : ℕ) → digit c e ≡ 1 → T (are_neighbours e f) → digit m f ≡ 1 → digit c f ≡ 1)
    → Path m s f → Path c s f × (digit c f ≡ 1)
path_stays m c s f hs cl here = (here, hs)
path_stays m c s g hs cl (next {f = f} q a h) =
    let r = path_stays m c s f hs cl q in
    let i : digit c g ≡ 1 = cl f g r.1 a h in
    (next r.0 a i, i)

-- ---- the walks' list is one of components

-- m is c and rest, c is the component of the lowest edge; then c and the components of the rest are those of m
module _ (m rest c : ℕ) (i : Walking m (low m) rest 0 c) where
  split : (e : ℕ) → digit c e + digit rest e ≡ digit m e
  split e = omega (arith, i.part e, digit-zero e)

  has-low : digit c (low m) ≡ 1
  has-low = omega (arith, i.seed, digit-zero (low m))

  sub : In m c
  sub e s = omega (arith, split e, digit_lt m e)

  shut : (e f : ℕ) → digit c e ≡ 1 → T (are_neighbours e f) → digit m f ≡ 1 → digit c f ≡ 1
  shut e f hc a hm = ⊎_elim (λ z. omega (arith, split f)) (λ o. absurd (i.closed e f hc a o)) (digit-or-not rest f)

  lowest : low c ≡ low m
  lowest = low_part m c i.comp_short sub has-low

  head_is : Component m c
  head_is = record {
    some = some_pos c (low m) has-low;
    joined = λ f s. subst (λ (x : ℕ). Path c x f) (sym lowest) (path_stays m c (low m) f has-low shut (i.reach f (omega (arith, digit-zero f)))).0;
    closed = shut;
  }

  -- no edge of the rest is a neighbour of one of c
  apart : (e f : ℕ) → digit rest e ≡ 1 → T (are_neighbours e f) → digit c f ≡ 1 → ⊥
  apart e f he a hf =
      let le : e < 14 = digit-below 14 rest e i.rem_short he in
      let lf : f < 14 = digit-below 14 c f i.comp_short hf in
      i.closed f e hf (subst T (neighbours_sym e f le lf) a) he

  widen : (d : ℕ) → Component rest d × In rest d → Component m d
  widen d (k, n) = record {
    some = k.some;
    joined = k.joined;
    closed = λ e f s a hm.
        ⊎_elim (λ z. k.closed e f s a (omega (arith, split f))) (λ o. absurd (apart e f (n e s) a o)) (digit-or-not c f);
  }

  above : (d : ℕ) → Component rest d × In rest d → low c < low d
  above d (k, n) =
      let short : d < 2 ^ 14 = in_short rest d i.rem_short n in
      let in_rest : digit rest (low d) ≡ 1 = n (low d) (low_in d k.some short) in
      ⊎_elim (λ e. absurd (omega (arith, split (low d), digit_lt m (low d), ap (digit c) e, has-low, lowest)))
      (λ n. omega (arith, lowest, low-le m (low d) (omega (arith, split (low d), digit_lt m (low d))))) (eq-or (low m) (low d))

  pub parts_cons : (cs : List ℕ) → Parts rest cs → Parts m (c ∷ cs)
  unfolding total All Ascending
  parts_cons cs k =
      let both = pair cs k.each (cover_in rest cs (λ e. omega (arith, k.cover e))) in
      record {
        cover = λ e. omega (arith, k.cover e, split e);
        each = (head_is, all_map (λ d. Component rest d × In rest d) (Component m) widen cs both);
        order = (all_map (λ d. Component rest d × In rest d) (λ d. low c < low d) above cs both, k.order);
      }
    where
      pair : (ds : List ℕ) → All (Component rest) ds → All (In rest) ds → All (λ d. Component rest d × In rest d) ds
      pair [] a b = tt
      pair (d ∷ ds) a b = ((a.0, b.0), pair ds a.1 b.1)

parts_none : Parts 0 []
unfolding total All Ascending
parts_none = record { cover = λ e. sym (digit-zero e); each = tt; order = tt }

in_parts : (n m : ℕ) → m < 2 ^ 14 → ones_in 14 m ≤ n → Parts m (map (λ w. w.comp) (walks_in n m))
unfolding walks_in
in_parts zero zero h l = parts_none
in_parts zero (suc m) h l = absurd (omega (arith, ones_some (suc m) (omega arith) h))
in_parts (suc n) zero h l = parts_none
in_parts (suc n) (suc m) h l =
    let w = first (suc m) in
    let e = first_end_lem (suc m) (omega arith) h in
    parts_cons (suc m) w.rest w.comp e (map (λ w. w.comp) (walks_in n w.rest))
    (in_parts n w.rest e.rem_short (omega (arith, rest-less (suc m) (omega arith) h)))

pub components_parts : (m : ℕ) → Parts (fourteen m) (components m)
unfolding components walks
components_parts m = in_parts 14 (fourteen m) (mask_lt m 14) (ones_le 14 (fourteen m))

-- ---- any two lists of the components of a mask are equal

-- an edge of the list is in a member of it
member : (cs : List ℕ) (e k : ℕ) → 0 < total (λ c. digit c e) cs → All (λ d. k < low d) cs → k < e
unfolding total All
member [] e k p a = absurd (omega arith)
member (c ∷ cs) e k p a =
    ⊎_elim (λ z. member cs e k (omega arith) a.1) (λ o. omega (arith, low-le c e o, a.0)) (digit-or-not c e)

-- the first component has the lowest edge
head_low : (m c : ℕ) (cs : List ℕ) → m < 2 ^ 14 → Parts m (c ∷ cs) → (low c ≡ low m) × (digit c (low m) ≡ 1) × In m c × (c < 2 ^ 14) × (0 < m)
unfolding total All Ascending
head_low m c cs h k =
    let sub : In m c = λ e s. omega (arith, k.cover e, digit_lt m e) in
    let short : c < 2 ^ 14 = in_short m c h sub in
    let lc : digit c (low c) ≡ 1 = low_in c k.each.0.some short in
    let p : 0 < m = some_pos m (low c) (sub (low c) lc) in
    let has : digit c (low m) ≡ 1 =
    ⊎_elim (λ z. absurd (omega (
      arith,
      low-le m (low c) (sub (low c) lc),
      member cs (low m) (low c) (omega (arith, k.cover (low m), low_in m p h)) k.order.0,
    ))) (λ o. o) (digit-or-not c (low m)) in
    (low_part m c short sub has, has, sub, short, p)

-- of two first components, one is a part of the other
head_in : (m c d : ℕ) → In m c → low c ≡ low m → digit d (low m) ≡ 1 → Component m c → Component m d → In d c
head_in m c d sub e s k j f h =
    (path_stays c d (low m) f s (λ x y hx a hy. j.closed x y hx a (sub y hy)) (subst (λ (x : ℕ). Path c x f) e (k.joined f h))).1

-- the rest of the list is that of the rest of the mask
tail_parts : (m c : ℕ) (cs : List ℕ) → Parts m (c ∷ cs) → Parts (bit_xor m c) cs
unfolding total All Ascending
tail_parts m c cs k = record {
  cover = λ e. sym (rest e ∙ omega (arith, k.cover e));
  each = all_map (Component m) (Component (bit_xor m c))
      (λ d j. record { some = j.some; joined = j.joined; closed = λ e f s a hf. j.closed e f s a (omega (arith, hf, back f, digit_lt m f)) }) cs k.each.1;
  order = k.order.1;
}
  where
    back : (e : ℕ) → digit (bit_xor m c) e + digit c e ≡ digit m e
    back e = ⊎_elim (λ z. omega (arith, digit_xor m c e, digit_lt m e)) (λ o. omega (arith, digit_xor m c e, k.cover e, digit_lt m e)) (digit-or-not c e)

    rest : (e : ℕ) → digit (bit_xor m c) e ≡ digit m e - digit c e
    rest e = omega (arith, back e)

pub parts_unique : (m : ℕ) (cs ds : List ℕ) → m < 2 ^ 14 → Parts m cs → Parts m ds → cs ≡ ds
unfolding total All
parts_unique m [] [] h p q = refl
parts_unique m [] (d ∷ ds) h p q =
    let l = head_low m d ds h q in absurd (omega (arith, p.cover (low m), low_in m l.4 h))
parts_unique m (c ∷ cs) [] h p q =
    let l = head_low m c cs h p in absurd (omega (arith, q.cover (low m), low_in m l.4 h))
parts_unique m (c ∷ cs) (d ∷ ds) h p q =
    let l = head_low m c cs h p in
    let r = head_low m d ds h q in
    let cd : In d c = head_in m c d l.2 l.0 r.1 p.each.0 q.each.0 in
    let dc : In c d = head_in m d c r.2 r.0 l.1 q.each.0 p.each.0 in
    let e : d ≡ c = digit_ext 14 d c r.3 l.3 (λ f b. ⊎_elim
    (λ z. ⊎_elim (λ y. omega arith) (λ y. omega (arith, cd f y)) (digit-or-not c f)) (λ o. omega (arith, dc f o)) (digit-or-not d f)) in
    ap₂ (λ (x : ℕ) (xs : List ℕ). x ∷ xs) (sym e)
    (parts_unique (bit_xor m c) cs ds (xor_lt 14 m c h l.3) (tail_parts m c cs p)
    (subst (λ (x : ℕ). Parts (bit_xor m x) ds) e (tail_parts m d ds q)))
