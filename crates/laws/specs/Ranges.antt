-- What is done, joined, added or tested at the numbers 0, 1, .. n - 1, in this order. Assumes nothing.
use Rattle.std.specs.Prelude.{Bool, true, false, ◌&&◌, ◌||◌, List, [], ◌++◌, ℕ, zero, suc, ◌+◌}

module _ {A : Type 0} where
  -- what a loop does that counts from 0: turn 0, then turn 1, .. up to turn n - 1
  unfoldable pub fold : (ℕ → A → A) → ℕ → A → A
  fold f zero a = a
  fold f (suc n) a = f n (fold f n a)

  -- the lists f 0, f 1, .. f (n - 1), joined
  unfoldable pub each : ℕ → (ℕ → List A) → List A
  each zero f = []
  each (suc n) f = each n f ++ f n

-- f 0 + f 1 + .. + f (n - 1)
unfoldable pub sum : ℕ → (ℕ → ℕ) → ℕ
sum zero f = 0
sum (suc n) f = sum n f + f n

-- whether the test passes at some number below n, and at every one
unfoldable pub any : ℕ → (ℕ → Bool) → Bool
any zero p = false
any (suc n) p = any n p || p n

unfoldable pub all : ℕ → (ℕ → Bool) → Bool
all zero p = true
all (suc n) p = p n && all n p
