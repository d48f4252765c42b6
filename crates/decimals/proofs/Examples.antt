-- The table of examples holds: computed, by reading as a function of the bytes. Assumes nothing.
use mathlib.Core.Path.{refl}
use Rattle.lines.specs.Numbers.{digits, dec}
use Rattle.decimals.specs.Decimals.{pointed, decimal}
use Rattle.decimals.specs.Examples.{Examples}
use Rattle.decimals.proofs.Meaning.{read_more, read_dec, upward, downward, read_signed, natural_of, signed_of}

pub examples : Examples
unfolding digits dec pointed decimal read_more read_dec upward downward read_signed
examples = record {
  nought = signed_of _ _ refl;
  seven = signed_of _ _ refl;
  minus_one = signed_of _ _ refl;
  most = signed_of _ _ refl;
  over_most = signed_of _ _ refl;
  least = signed_of _ _ refl;
  under-least = signed_of _ _ refl;
  minus_nought = signed_of _ _ refl;
  zeros = signed_of _ _ refl;
  minus_zeros = signed_of _ _ refl;
  minus_alone = signed_of _ _ refl;
  plus = signed_of _ _ refl;
  nothing = signed_of _ _ refl;
  space_before = signed_of _ _ refl;
  space_behind = signed_of _ _ refl;
  letter = signed_of _ _ refl;
  widest = natural_of _ _ refl;
  wider = natural_of _ _ refl;
  no_minus = natural_of _ _ refl;
  whole = refl;
  milli = refl;
  small = refl;
  none = refl;
}
