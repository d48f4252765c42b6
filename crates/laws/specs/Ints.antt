-- An integer by its sign and its size. Assumes nothing.
use Rattle.std.specs.Prelude.{Bool, true, false, ℕ, suc, ℤ, pos, negsuc, neg_ℤ}

-- without its sign
unfoldable pub size_of : ℤ → ℕ
size_of (pos n) = n
size_of (negsuc n) = suc n

-- n, with a minus where `minus` says so
unfoldable pub signed : Bool → ℕ → ℤ
signed false n = pos n
signed true n = neg_ℤ (pos n)
