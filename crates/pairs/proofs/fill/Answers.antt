-- `pairs::fill` meets its contract. Assumes nothing.
use Rattle.std.proofs.Common.{refl, ◌∙◌, arith}
use Rattle.sort.specs.Records.{words}
use Rattle.pairs.proofs.Listing.{filled_more, filled-all}
use Rattle.pairs.proofs.fill.Goals as goal

pub loop-k-init : goal.loop-k-init
unfolding words
loop-k-init c = refl

pub loop-k-preserved : goal.loop-k-preserved
loop-k-preserved c = let l = c.loop-k in
    c.put.ensures ∙ filled_more c.args.tris.now c.requires.whole c.args.room.now c.requires.nine l.room l.k (omega arith) l.invariant

pub returns : goal.returns
returns c = let l = c.loop-k in
    filled-all c.args.tris.now c.requires.whole c.args.room.now c.requires.nine l.room l.k (omega arith) l.invariant
