-- A list of couples that cancel has as many pairs p to q as q to p, whatever names its ends are given; lists with equal counts have equal sums. Assumes nothing.
use mathlib.Core.Path.{◌≡◌, refl, ap, ap₂, ◌∙◌}
use mathlib.Core.Bool.{Bool, true, false, ◌&&◌, cond, and_comm}
use mathlib.Core.List.{List, [], ◌∷◌, map}
use Prim.Native.Nat.{ℕ, ◌+◌}
use native.Mathlib.Omega.{arith}
use borrow.Author.Tests.{eqb-true, eq-eqb}
use lib.Dec.{T, eqb, eqb→eq}
use Rattle.laws.specs.Bools.{bit}
use Rattle.laws.specs.Lists.{count, weigh}
use Rattle.laws.specs.Couples.{Pair, turn, on_both, from_to, against, push, left, is_nil, cancels}
use Rattle.laws.proofs.Bools.{and_left, and_right, and-apart, and_yes}
use Rattle.laws.proofs.Lists.{count_map, count_same}
use Rattle.laws.proofs.Weighing.{weigh-same}

pub from-ends : (p q : ℕ) (x : Pair) → from_to p q x ≡ true → (x.0 ≡ p) × (x.1 ≡ q)
unfolding from_to
from-ends p q x e = let r = and-apart (eqb x.0 p) (eqb x.1 q) e in (eqb-true x.0 p r.0, eqb-true x.1 q r.1)

pub ends-from : (p q : ℕ) (x : Pair) → x.0 ≡ p → x.1 ≡ q → from_to p q x ≡ true
unfolding from_to
ends-from p q x e f = and_yes (eq-eqb x.0 p e) (eq-eqb x.1 q f)

pub turn-from : (p q : ℕ) (x : Pair) → from_to p q (turn x) ≡ from_to q p x
unfolding from_to turn
turn-from p q x = and_comm (eqb x.1 p) (eqb x.0 q)

pub turn-count : (p q : ℕ) (l : List Pair) → count (from_to p q) (map turn l) ≡ count (from_to q p) l
turn-count p q l = count_map (from_to p q) turn l ∙ count_same (λ x. from_to p q (turn x)) (from_to q p) (turn-from p q) l

pub on_both-turn : (h : ℕ → ℕ) (l : List Pair) → map (on_both h) (map turn l) ≡ map turn (map (on_both h) l)
unfolding on_both turn
on_both-turn h [] = refl
on_both-turn h (x ∷ l) = ap {B = List Pair} (λ r. (h x.1, h x.0) ∷ r) (on_both-turn h l)

module _ (h : ℕ → ℕ) where
  -- pairs from p to q among those of l, under the names h
  runs : ℕ → ℕ → List Pair → ℕ
  runs p q l = count (from_to p q) (map (on_both h) l)

  against_hit : (p q : ℕ) (x y : Pair) → T (against x y) → bit (from_to p q (on_both h x)) ≡ bit (from_to q p (on_both h y))
  unfolding against on_both from_to
  against_hit p q x y t =
      let e : x.0 ≡ y.1 = eqb→eq x.0 y.1 (and_left (eqb x.0 y.1) (eqb x.1 y.0) t) in
      let f : x.1 ≡ y.0 = eqb→eq x.1 y.0 (and_right (eqb x.0 y.1) (eqb x.1 y.0) t) in
      ap₂ (λ (a b : ℕ). bit (eqb (h a) p && eqb (h b) q)) e f ∙ ap bit (and_comm (eqb (h y.1) p) (eqb (h y.0) q))

  module _ (p q : ℕ) where
    push_even : (x : Pair) (acc : List Pair) → runs p q (push x acc) + runs q p (x ∷ acc) ≡ runs q p (push x acc) + runs p q (x ∷ acc)
    unfolding runs push count
    push_even x [] = omega arith
    push_even x (y ∷ ys) = go (against x y) (against_hit p q x y) (against_hit q p x y) (push_even x ys)
      where
        go : (b : Bool) → (T b → bit (from_to p q (on_both h x)) ≡ bit (from_to q p (on_both h y))) → (T b → bit (from_to q p (on_both h x)) ≡ bit (from_to p q (on_both h y)))
            → runs p q (push x ys) + runs q p (x ∷ ys) ≡ runs q p (push x ys) + runs p q (x ∷ ys)
            → runs p q (cond b ys (y ∷ push x ys)) + runs q p (x ∷ y ∷ ys) ≡ runs q p (cond b ys (y ∷ push x ys)) + runs p q (x ∷ y ∷ ys)
        go true e f ih = omega (arith, e tt, f tt)
        go false e f ih = omega (arith, ih)

    left_even : (acc l : List Pair) → runs p q (left acc l) + (runs q p acc + runs q p l) ≡ runs q p (left acc l) + (runs p q acc + runs p q l)
    unfolding runs left count
    left_even acc [] = omega arith
    left_even acc (x ∷ l) = omega (arith, left_even (push x acc) l, push_even x acc)

    pub cancels_even : (l : List Pair) → T (cancels l) → count (from_to p q) (map (on_both h) l) ≡ count (from_to q p) (map (on_both h) l)
    unfolding cancels is_nil runs count
    cancels_even l t = go (left [] l) t (left_even [] l)
      where
        go : (r : List Pair) → T (is_nil r) → runs p q r + (0 + runs q p l) ≡ runs q p r + (0 + runs p q l) → runs p q l ≡ runs q p l
        go [] t e = omega arith
        go (x ∷ r) t e = absurd t

-- ---- two lists with the same counts have the same sum, whatever is added, if its order does not matter

like : Pair → Pair → Bool
like x = from_to x.0 x.1

from-eq : (x y : Pair) → like x y ≡ true → y ≡ x
unfolding like
from-eq x y e = let r = from-ends x.0 x.1 y e in ap₂ {C = Pair} (λ (a b : ℕ). (a, b)) r.0 r.1

from_self : (x : Pair) → like x x ≡ true
unfolding like
from_self x = ends-from x.0 x.1 x refl refl

module _ {A : Type 0} (add : A → A → A) (nought : A) (assoc : (a b c : A) → add (add a b) c ≡ add a (add b c)) (comm : (a b : A) → add a b ≡ add b a)
    (f : Pair → A) where
  pub same-weigh : (l m : List Pair) → ((p q : ℕ) → count (from_to p q) l ≡ count (from_to p q) m) → weigh add nought f l ≡ weigh add nought f m
  unfolding like
  same-weigh l m e = weigh-same like from-eq from_self add nought assoc comm f l m (λ x. e x.0 x.1)
