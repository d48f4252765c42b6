-- `count_file::put_counts` meets its contract: the string of keys says the fields of the answer, by computing. Assumes nothing.
use mathlib.Core.Path.{◌≡◌}
use lib.ListN.{length}
use Rattle.lines.specs.Inner.Forms.{first_key, field_of, form_of}
use Rattle.count_file.proofs.put_counts.Goals as goal

pub returns : goal.returns
unfolding first_key field_of form_of
returns c =
    let n : length c.args.counts ≡ 11 = c.well_formed.1.1.0.1.0.1 in
    rw n at c.put_run.ensures
