-- `pairs::flag_home` meets its contract. Assumes nothing.
use Rattle.pairs.proofs.Flags.{marked_homed, home_is}
use Rattle.pairs.proofs.flag_home.Goals as goal

pub scatter-requires : goal.scatter-requires
scatter-requires c = let r = c.flag_runs in
    marked_homed c.args.s.now r.new.s r.auto.s r.ensures c.requires.2

pub returns : goal.returns
returns c = let runs = c.flag_runs in
    let moved = c.scatter in
    let front = c.gather in
    home_is c.args.s.now runs.new.s moved.new.s front.new.s c.requires.0 runs.auto.s runs.ensures moved.ensures front.ensures
