-- `volume::volume_of` meets its contract. Assumes nothing.
use mathlib.Core.Path.{refl, sym}
use Rattle.volume.specs.Volume.{told}
use Rattle.volume.proofs.Answers.{answer_ten, answer_twelve, answer-sum}
use Rattle.volume.proofs.volume_of.Goals as goal

pub returns-then-not-lists_ok : goal.returns-then-not-lists_ok
unfolding told
returns-then-not-lists_ok c = answer_ten _ _ _ _ _ (sym c.if-not-lists_ok.ensures) refl

pub returns-then-not-scale_ok : goal.returns-then-not-scale_ok
unfolding told
returns-then-not-scale_ok c = answer_twelve _ _ _ _ _ (sym c.if-not-lists_ok.ensures) (sym c.if-not-scale_ok.ensures) refl

pub sum_of-requires : goal.sum_of-requires
sum_of-requires c = sym c.if-not-lists_ok.ensures

pub returns : goal.returns
returns c = answer-sum _ _ _ _ _ (sym c.if-not-lists_ok.ensures) (sym c.if-not-scale_ok.ensures) c.sum_of.ensures
