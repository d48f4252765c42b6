-- `pairs::gather` meets its contract. Assumes nothing.
use Rattle.std.proofs.Common.{refl, sym}
use Rattle.laws.proofs.Ranges.{fold-none, fold-turn}
use Rattle.pairs.specs.Inner.Flags.{pulled}
use Rattle.pairs.proofs.gather.Goals as goal

pub loop-k-init : goal.loop-k-init
loop-k-init c = sym (fold-none pulled c.args.s.now)

pub loop-k-preserved : goal.loop-k-preserved
unfolding pulled
loop-k-preserved c = let l = c.loop-k in
    fold-turn pulled l.k c.args.s.now l.s _ l.invariant refl
