-- `pairs::put_flag` meets its contract. Assumes nothing.
use Rattle.std.proofs.Common.{set, ap, ◌∙◌}
use Rattle.sort.specs.declared.Rec.{Rec}
use Rattle.sort.specs.Records.{recs}
use Rattle.sort.proofs.Records.{stored-recs}
use Rattle.pairs.proofs.Runs.{flag_set}
use Rattle.pairs.proofs.put_flag.Goals as goal

pub returns : goal.returns
returns c = let a = c.args in
    stored-recs a.s.now a.i _ c.requires c.store.ensures ∙ ap (λ (r : Rec). set (recs a.s.now) a.i r) (flag_set a.f _ c.from.ensures c.load-x.ensures)
