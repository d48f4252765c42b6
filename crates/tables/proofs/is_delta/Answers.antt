-- `tables::is_delta` meets its contract. Assumes nothing.
use Rattle.std.proofs.Common.{◌∙◌, rules}
use Rattle.tables.proofs.Neighbours.{told_no, told_second, told-third}
use Rattle.tables.proofs.is_delta.Goals as goal
use Rattle.tables.proofs.is_delta.Goals.{then-i-j-eq2, else-i-j-eq2}

pub returns-then-j-lt2 : goal.returns-then-j-lt2
returns-then-j-lt2 c =
    told-third c.args.d (search rules) (search rules) (search rules) _ _ _ c.size-i.ensures c.size-j.ensures c.size-k.ensures c.if-j-lt2.true.0 c.if-j-lt2.true.1

pub returns-else-j-lt2 : goal.returns-else-j-lt2
returns-else-j-lt2 c =
    elim c.if-i-j-eq2.branch [
      | then-i-j-eq2 w ↦
          w.t-7-is
          ∙ told_second c.args.d (search rules) (search rules) (search rules) _ _ _ c.size-i.ensures c.size-j.ensures c.size-k.ensures w.if-i-j-eq2.true c.if-j-lt2.either
      | else-i-j-eq2 w ↦
          w.t-7-is ∙ told_no c.args.d (search rules) (search rules) (search rules) _ _ _ c.size-i.ensures c.size-j.ensures c.size-k.ensures w.if-i-j-eq2.false
    ]
