-- Whole numbers in decimal: with a minus where they are below 0, and with digits behind a point. Assumes nothing.
use Rattle.std.specs.Prelude.{List, [], ◌∷◌, ◌++◌, ℕ, zero, suc, ◌+◌, ◌/◌, ◌%◌, ℤ, pos, negsuc}
use Rattle.laws.specs.Ints.{size_of}
use Rattle.lines.specs.Numbers.{dec}

-- a minus, or nothing
unfoldable pub sign_of : ℤ → List ℕ
sign_of (pos n) = []
sign_of (negsuc n) = 45 ∷ []

unfoldable pub signed_dec : ℤ → List ℕ
signed_dec z = sign_of z ++ dec (size_of z)

-- n with its last k digits behind a point, and at least one before it: the last digit comes behind those of n / 10
unfoldable pub pointed : ℕ → ℕ → List ℕ
pointed zero n = dec n ++ (46 ∷ [])
pointed (suc k) n = pointed k (n / 10) ++ ((48 + n % 10) ∷ [])

-- the same, without a point where no digit stands behind it
unfoldable pub decimal : ℕ → ℕ → List ℕ
decimal zero n = dec n
decimal (suc k) n = pointed (suc k) n
