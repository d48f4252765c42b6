-- `count::count_text` meets its contract. Assumes nothing.
use mathlib.Core.Path.{◌≡◌}
use Rattle.std.proofs.Common.{rules}
use Rattle.std.specs.Option.{option_map_or}
use Rattle.count_file.specs.declared.Parsed.{Parsed}
use Rattle.file_build.proofs.Building.{blank-lengths}
use Rattle.count.proofs.Shown.{built-counted, answered-at}
use Rattle.count.proofs.count_text.Goals as goal

pub returns : goal.returns
returns c =
    let k : c.map_or-sites.result ≡ option_map_or (λ (p : Parsed). p.sites) c.build-built.result.file 0 = search rules in
    answered-at c.told-out (built-counted (blank-lengths c.new-space.ensures) c.build-built.ensures) (rw k at c.print.ensures)
