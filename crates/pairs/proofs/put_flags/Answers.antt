-- `pairs::put_flags` meets its contract. Assumes nothing.
use Rattle.std.proofs.Common.{◌<◌, List, ◌++◌, map, length, get_or, set, take, drop, ap, ◌∙◌, arith}
use Rattle.laws.proofs.Lists.{front_map-at, front_map-more}
use Rattle.sort.specs.declared.Rec.{Rec}
use Rattle.sort.specs.Records.{none, recs}
use Rattle.pairs.specs.Inner.Runs.{flagged}
use Rattle.sort.proofs.Records.{recs-length}
use Rattle.pairs.proofs.put_flags.Goals as goal

pub loop-i-preserved : goal.loop-i-preserved
loop-i-preserved c = let l = c.loop-i in
    let a = c.args in
    let q : List Rec = recs a.s.now in
    let h : l.i < length q = omega (arith, recs-length a.s.now) in
    c.put_flag.ensures ∙ ap (λ (m : List Rec). set m l.i (flagged a.f (get_or m l.i none))) l.invariant
    ∙ ap (λ (x : Rec). set (map (flagged a.f) (take l.i q) ++ drop l.i q) l.i (flagged a.f x)) (front_map-at none (flagged a.f) q l.i h)
    ∙ front_map-more none (flagged a.f) q l.i h
