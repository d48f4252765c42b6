-- `pairs::scatter` meets its contract. Assumes nothing.
use Rattle.std.proofs.Common.{ℕ, ◌+◌, ◌*◌, List, get_or, sym, ap, arith}
use Rattle.laws.proofs.Ranges.{fold-none, fold-turn}
use Rattle.pairs.specs.Inner.Flags.{sent}
use Rattle.pairs.proofs.Flags.{sent-side}
use Rattle.pairs.proofs.scatter.Goals as goal

pub loop-j-init : goal.loop-j-init
loop-j-init c = sym (fold-none sent c.args.s.now)

pub send-requires : goal.send-requires
send-requires c = let l = c.loop-j in
    let s₀ = c.args.s.now in
    (omega arith, omega (arith, ap (λ (q : List ℕ). get_or q (l.j * 3 + 2) 0) l.invariant, sent-side l.j l.j s₀, c.requires l.j (omega arith)))

pub loop-j-preserved : goal.loop-j-preserved
loop-j-preserved c = let l = c.loop-j in
    fold-turn sent l.j c.args.s.now l.s c.send.new.s l.invariant c.send.ensures
