-- What a reader of a whole number answers, said by the printer alone: the number whose decimal the bytes are, or that they are none of 64 bits. Assumes nothing.
use Rattle.std.specs.Prelude.{◌≡◌, List, ℕ, ℤ, Option, Some, None}
use Rattle.std.specs.Int.{w64}
use Rattle.std.proofs.Common.{SFits}
use Rattle.lines.specs.Numbers.{dec}
use Rattle.lines.specs.Lines.{Word}
use Rattle.decimals.specs.Decimals.{signed_dec}

pub data NaturalOf (s : List ℕ) : Option ℕ → Type 0 where
  is : (n : ℕ) → Word n → s ≡ dec n → NaturalOf s (Some n)
  none : ((n : ℕ) → Word n → s ≡ dec n → ⊥) → NaturalOf s None

pub data SignedOf (s : List ℕ) : Option ℤ → Type 0 where
  is : (z : ℤ) → SFits w64 z → s ≡ signed_dec z → SignedOf s (Some z)
  none : ((z : ℤ) → SFits w64 z → s ≡ signed_dec z → ⊥) → SignedOf s None
