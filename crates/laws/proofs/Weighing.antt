-- Sums over lists, whatever is added: of lists one after the other, and of two lists in which every element stands equally often, if the order does not
-- matter. Assumes nothing.
use mathlib.Core.Path.{◌≡◌, refl, sym, ap, ◌∙◌}
use mathlib.Core.Bool.{Bool, true, false, cond}
use mathlib.Core.List.{List, [], ◌∷◌, ◌++◌}
use Prim.Native.Nat.{◌+◌, ◌<◌}
use native.Mathlib.Omega.{arith}
use Rattle.laws.specs.Bools.{bit}
use Rattle.laws.specs.Lists.{count, weigh}

pub weigh-append : {A B : Type 0} (add : A → A → A) (nought : A) → ((a b c : A) → add (add a b) c ≡ add a (add b c)) → ((a : A) → add nought a ≡ a) → (f : B → A) (xs ys : List B)
    → weigh add nought f (xs ++ ys) ≡ add (weigh add nought f xs) (weigh add nought f ys)
unfolding weigh
weigh-append add nought assoc idl f [] ys = sym (idl (weigh add nought f ys))
weigh-append add nought assoc idl f (x ∷ xs) ys =
    ap (add (f x)) (weigh-append add nought assoc idl f xs ys) ∙ sym (assoc (f x) (weigh add nought f xs) (weigh add nought f ys))

-- ---- the same elements

-- the first that is like x taken out
without : {B : Type 0} → (B → B → Bool) → B → List B → List B
without like x [] = []
without like x (y ∷ ys) = cond (like x y) ys (y ∷ without like x ys)

-- `like x y` tells whether y is x
module _ {B : Type 0} (like : B → B → Bool) (alike : (x y : B) → like x y ≡ true → y ≡ x) (self : (x : B) → like x x ≡ true) where
  self_bit : (x : B) → bit (like x x) ≡ 1
  unfolding bit
  self_bit x = ap bit (self x)

  without_count : (x : B) (l : List B) → 0 < count (like x) l → (p : B → Bool) → count p l ≡ bit (p x) + count p (without like x l)
  unfolding without count bit
  without_count x [] h p = absurd (omega arith)
  without_count x (y ∷ l) h p = go (like x y) refl (λ m. without_count x l m p)
    where
      go : (b : Bool) → like x y ≡ b → (0 < count (like x) l → count p l ≡ bit (p x) + count p (without like x l))
          → bit (p y) + count p l ≡ bit (p x) + count p (cond b l (y ∷ without like x l))
      go true e k = ap (λ (z : B). bit (p z) + count p l) (alike x y e)
      go false e k = omega (arith, k (omega (arith, ap bit e)))

  module _ {A : Type 0} (add : A → A → A) (nought : A) (assoc : (a b c : A) → add (add a b) c ≡ add a (add b c)) (comm : (a b : A) → add a b ≡ add b a)
      (f : B → A) where
    without_weigh : (x : B) (l : List B) → 0 < count (like x) l → weigh add nought f l ≡ add (f x) (weigh add nought f (without like x l))
    unfolding weigh without count bit
    without_weigh x [] h = absurd (omega arith)
    without_weigh x (y ∷ l) h = go (like x y) refl (λ m. without_weigh x l m)
      where
        rest : A
        rest = weigh add nought f (without like x l)

        go : (b : Bool) → like x y ≡ b → (0 < count (like x) l → weigh add nought f l ≡ add (f x) rest)
            → add (f y) (weigh add nought f l) ≡ add (f x) (weigh add nought f (cond b l (y ∷ without like x l)))
        go true e k = ap (λ (z : B). add (f z) (weigh add nought f l)) (alike x y e)
        go false e k =
            ap (add (f y)) (k (omega (arith, ap bit e)))
            ∙ sym (assoc (f y) (f x) rest) ∙ ap (λ (a : A). add a rest) (comm (f y) (f x)) ∙ assoc (f x) (f y) rest

    pub weigh-same : (l m : List B) → ((x : B) → count (like x) l ≡ count (like x) m) → weigh add nought f l ≡ weigh add nought f m
    unfolding weigh count
    weigh-same [] [] e = refl
    weigh-same [] (y ∷ m) e = absurd (omega (arith, e y, self_bit y))
    weigh-same (x ∷ l) m e =
        let h : 0 < count (like x) m = omega (arith, e x, self_bit x) in
        ap (add (f x)) (weigh-same l (without like x m) (λ y. omega (arith, e y, without_count x m h (like y)))) ∙ sym (without_weigh x m h)
