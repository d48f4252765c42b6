-- Laws of the sides as records: each by its number, how many have one pair, and the room that they are put in. Assumes nothing.
use mathlib.Core.Path.{◌≡◌, refl, sym, ap, ap₂, ◌∙◌}
use mathlib.Core.Bool.{Bool, true, ◌&&◌, ◌||◌, or-true}
use mathlib.Core.Logic.{⊎_elim}
use mathlib.Core.List.{List, [], ◌∷◌, ◌++◌}
use Prim.Native.Nat.{ℕ, zero, suc, ◌+◌, ◌*◌, ◌%◌, ◌-◌, ◌≤◌, ◌<◌, min, max}
use native.Mathlib.Nat.{zero-add}
use native.Mathlib.Numerals.{add-one}
use native.Mathlib.Omega.{arith}
use native.Mathlib.Decide.{ℕ_discrete}
use lib.Dec.{eqb}
use lib.ListN.{length, get_or, take, drop, replicate, length-drop}
use lib.Seq.{length-take-le, take-suc, take_all, take_at, drop-drop}
use borrow.Author.Tests.{eqb-true, eq-eqb}
use Rattle.laws.specs.Bools.{bit}
use Rattle.laws.specs.Lists.{count}
use Rattle.laws.specs.Couples.{Pair, from_to}
use Rattle.laws.proofs.Bools.{and-apart, or_apart, bool_ext}
use Rattle.sort.specs.declared.Rec.{Rec}
use Rattle.sort.specs.Records.{none, recs, words, stored}
use Rattle.sort.specs.Order.{Arranged}
use Rattle.pairs.specs.Sides.{directed, joins, pair_count, next}
use Rattle.pairs.specs.Inner.Listing.{side_of, numbered, sides, filled, Listed}
use Rattle.pairs.specs.Inner.Runs.{same_pair}
use Rattle.sort.proofs.Records.{rec_same, recs-words, words-length, stored_next}
use Rattle.pairs.proofs.Runs.{same_ends, ends_same}
use Rattle.pairs.proofs.Sides.{directed-length, directed-at}

-- ---- each record by its number

numbered-length : (n : ℕ) (ps : List Pair) → length (numbered n ps) ≡ length ps
unfolding numbered
numbered-length n [] = refl
numbered-length n (p ∷ ps) = ap suc (numbered-length (suc n) ps)

numbered-at : (n : ℕ) (ps : List Pair) (k : ℕ) → k < length ps → get_or (numbered n ps) k none ≡ side_of (n + k) (get_or ps k (0, 0))
unfolding numbered
numbered-at n [] k h = let z : ⊥ = omega arith in absurd z
numbered-at n (p ∷ ps) zero h = let e : n ≡ n + 0 = omega arith in ap (λ (j : ℕ). side_of j p) e
numbered-at n (p ∷ ps) (suc k) h =
    let e : suc n + k ≡ n + suc k = omega arith in
    numbered-at (suc n) ps k (omega arith) ∙ ap (λ (j : ℕ). side_of j (get_or ps k (0, 0))) e

numbered-count : (p : Rec → Bool) (q : Pair → Bool) → ((k : ℕ) (x : Pair) → p (side_of k x) ≡ q x) → (n : ℕ) (ps : List Pair) → count p (numbered n ps) ≡ count q ps
unfolding numbered count
numbered-count p q e n [] = refl
numbered-count p q e n (x ∷ ps) = ap₂ (λ (c : Bool) (k : ℕ). bit c + k) (e n x) (numbered-count p q e (suc n) ps)

module _ (s : List ℕ) (whole : length s % 3 ≡ 0) where
  pub sides-length : length (sides s) ≡ length s
  unfolding sides
  sides-length = numbered-length 0 (directed s) ∙ omega (arith, directed-length s, whole)

  pub sides-at : (k : ℕ) → k < length s → get_or (sides s) k none ≡ side_of k (get_or s k 0, get_or s (next k) 0)
  unfolding sides
  sides-at k h =
      numbered-at 0 (directed s) k (omega (arith, directed-length s, whole))
      ∙ ap₂ (λ (j : ℕ) (p : Pair). side_of j p) (zero-add k) (directed-at s k (omega (arith, whole)))

  -- side k from its two corners, the lower one first
  pub side_by_corners : (k n low high : ℕ) → k < length s → n ≡ next k → low ≡ min (get_or s k 0) (get_or s n 0) → high ≡ max (get_or s k 0) (get_or s n 0)
      → record { low = low; high = high; side = k } ≡ get_or (sides s) k none
  unfolding side_of
  side_by_corners k n low high h e a b =
      let q : get_or s n 0 ≡ get_or s (next k) 0 = ap (λ (j : ℕ). get_or s j 0) e in
      rec_same (record { low = low; high = high; side = k }) (side_of k (get_or s k 0, get_or s (next k) 0)) (omega (arith, a, q)) (omega (arith, b, q)) refl
      ∙ sym (sides-at k h)

  -- the records of the first k sides in front of the room: one more, and all
  module _ (room : List ℕ) (nine : length s * 3 ≤ length room) where
    pub filled_more : (t : List ℕ) (k : ℕ) → k < length s → t ≡ words (take k (sides s)) ++ drop (k * 3) room
        → stored t k (get_or (sides s) k none) ≡ words (take (k + 1) (sides s)) ++ drop ((k + 1) * 3) room
    filled_more t k h e =
        let l : List Rec = take k (sides s) in
        let x : Rec = get_or (sides s) k none in
        let b : List ℕ = drop (k * 3) room in
        let size : length l ≡ k = length-take-le k (sides s) (omega (arith, sides-length)) in
        let more : take (k + 1) (sides s) ≡ l ++ x ∷ [] = rw (add-one k) (take-suc (sides s) k none (omega (arith, sides-length))) in
        let behind : (k + 1) * 3 ≡ k * 3 + 3 = omega arith in
        ap (λ (q : List ℕ). stored q k x) e ∙ ap (λ (j : ℕ). stored (words l ++ b) j x) (sym size)
        ∙ stored_next l b x (omega (arith, length-drop (k * 3) room))
        ∙ ap₂ (λ (m : List Rec) (q : List ℕ). words m ++ q) (sym more) (drop-drop 3 (k * 3) room ∙ ap (λ (j : ℕ). drop j room) (sym behind))

    pub filled-all : (t : List ℕ) (k : ℕ) → k ≡ length s → t ≡ words (take k (sides s)) ++ drop (k * 3) room → t ≡ filled s room
    unfolding filled
    filled-all t k h e =
        e ∙ ap (λ (l : List Rec). words l ++ drop (k * 3) room) (take_all k (sides s) (omega (arith, sides-length)))
        ∙ ap (λ (j : ℕ). words (sides s) ++ drop (j * 3) room) h

    pub filled_front : take (length s * 3) (filled s room) ≡ words (sides s)
    unfolding filled
    filled_front = take_at (words (sides s)) (drop (length s * 3) room) (length s * 3) (omega (arith, words-length (sides s), sides-length))

    -- and then sorted
    pub listed : (f t : List ℕ) → f ≡ filled s room → length f ≡ length room → Arranged (length s) f t → Listed s room t
    listed f t e k a =
        let front : recs (take (length s * 3) f) ≡ sides s = ap (λ (q : List ℕ). recs (take (length s * 3) q)) e ∙ ap recs filled_front ∙ recs-words (sides s) in
        record { done = rw front at a.done; zeros = a.zeros ∙ ap (λ (j : ℕ). replicate (j - length s * 3) 0) k }

-- ---- how many have one pair

-- the side p has the ends x and y just where its record has the pair of the side from x to y
pub joins-same : (x y j k : ℕ) (p : Pair) → joins x y p ≡ same_pair (side_of j (x, y)) (side_of k p)
unfolding joins from_to side_of
joins-same x y j k p =
    let u : ℕ = p.0 in
    let v : ℕ = p.1 in
    bool_ext (eqb u x && eqb v y || eqb u y && eqb v x) (same_pair (side_of j (x, y)) (side_of k p))
    (λ e.
    ⊎_elim
    (λ f. (let g = and-apart (eqb u x) (eqb v y) f in
    let eu : u ≡ x = eqb-true u x g.0 in
    let ev : v ≡ y = eqb-true v y g.1 in
    ends_same (side_of j (x, y)) (side_of k p) (omega arith) (omega arith)))
    (λ f. (let g = and-apart (eqb u y) (eqb v x) f in
    let eu : u ≡ y = eqb-true u y g.0 in
    let ev : v ≡ x = eqb-true v x g.1 in
    ends_same (side_of j (x, y)) (side_of k p) (omega arith) (omega arith)))
    (or_apart (eqb u x && eqb v y) (eqb u y && eqb v x) e))
    (λ e. back (same_ends (side_of j (x, y)) (side_of k p) e).0 (same_ends (side_of j (x, y)) (side_of k p) e).1)
  where
    back : min x y ≡ min p.0 p.1 → max x y ≡ max p.0 p.1 → eqb p.0 x && eqb p.1 y || eqb p.0 y && eqb p.1 x ≡ true
    back e f =
        elim (ℕ_discrete p.0 x) [
          | yes q ↦ rw (eq-eqb p.0 x q, eq-eqb p.1 y (omega (arith, q)))
          | no n ↦
              rw (eq-eqb p.0 y (omega (arith, n)), eq-eqb p.1 x (omega (arith, n))) (or-true (eqb p.0 x && eqb p.1 y))
        ]

-- the records with one pair are as many as the sides with its ends
pub pair_count_lem : (x y j : ℕ) (s : List ℕ) → count (same_pair (side_of j (x, y))) (sides s) ≡ pair_count x y s
unfolding sides pair_count
pair_count_lem x y j s = numbered-count (same_pair (side_of j (x, y))) (joins x y) (λ k p. sym (joins-same x y j k p)) 0 (directed s)
