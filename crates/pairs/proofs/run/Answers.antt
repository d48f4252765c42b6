-- `pairs::run` meets its contract. Assumes nothing.
use Rattle.std.proofs.Common.{sym, ◌∙◌, arith}
use Rattle.sort.specs.Records.{recs}
use Rattle.sort.proofs.Records.{recs-length}
use Rattle.sort.proofs.Order.{words-fit}
use Rattle.pairs.proofs.Runs.{front_found}
use Rattle.pairs.proofs.run.Goals as goal

pub returns-then-pair_at-p : goal.returns-then-pair_at-p
returns-then-pair_at-p c = let l = c.loop-i in
    let s = c.args.s.now in
    front_found (recs s) c.requires.1 (words-fit s (λ k. omega (arith, c.type_inv.s k))) l.i (omega arith) (omega (arith, recs-length s)) l.invariant (λ h e. c.if-pair_at-p.true (c.pair_at.ensures ∙ e ∙ sym c.pair_at-p.ensures))

pub returns : goal.returns
returns c = let l = c.loop-i in
    let s = c.args.s.now in
    front_found (recs s) c.requires.1 (words-fit s (λ k. omega (arith, c.type_inv.s k))) _ (omega arith) (omega (arith, recs-length s)) (λ j h. l.invariant j (omega arith)) (λ h e. omega (arith, recs-length s))
