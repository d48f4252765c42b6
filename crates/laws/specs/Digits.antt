-- The binary digits of a mask. A digit is the number 0 or 1, so that sets of edges are reasoned on by arithmetic. Assumes nothing.
-- How many of the k lowest digits are set is `lib.Count.ones_in k`, the place of the lowest set digit `lib.Count.count_trailing_zeros`.
use Rattle.std.specs.Prelude.{Bool, ℕ, zero, suc, ◌+◌, ◌*◌, ◌/◌, ◌%◌, eqb}
use Rattle.laws.specs.Bools.{bit}

-- the digit at place e, counted from the lowest
unfoldable pub digit : ℕ → ℕ → ℕ
digit m zero = m % 2
digit m (suc e) = digit (m / 2) e

-- whether it is set
unfoldable pub is_set : ℕ → ℕ → Bool
is_set m e = eqb (digit m e) 1

-- the mask of the places below n that pass a test
unfoldable pub mask : ℕ → (ℕ → Bool) → ℕ
mask zero p = 0
mask (suc n) p = bit (p 0) + 2 * mask n (λ e. p (suc e))
