-- `lattice::ijk_of` meets its contract. Assumes nothing.
use mathlib.Core.Path.{◌∙◌}
use Rattle.lattice.proofs.Owner.{read_back}
use Rattle.lattice.specs.Sites.{ijk_of}
use Rattle.lattice.proofs.ijk_of.Goals as goal

pub returns : goal.returns
unfolding ijk_of
returns c = λ i. record {
  i = (read_back c.signed_difference-i.result c.signed_difference-i.type_inv ∙ c.signed_difference-i.ensures) i;
  j = (read_back c.signed_difference-j.result c.signed_difference-j.type_inv ∙ c.signed_difference-j.ensures) i;
  k = (read_back c.signed_difference-k.result c.signed_difference-k.type_inv ∙ c.signed_difference-k.ensures) i;
}
