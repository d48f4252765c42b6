-- `api::ends_at` meets its contract: each end is known. Assumes nothing.
use Rattle.std.proofs.Common.{rules, sym, ap, ◌∙◌, ◌≡◌, ℕ}
use Rattle.std.specs.Prelude.{Some, Float, Option, List, [], ◌∷◌}
use Rattle.std.specs.Float.{nan}
use Rattle.laws.specs.Ranges.{each}
use Rattle.laws.proofs.Arrays.{mapped, map_each}
use Rattle.marks.specs.Marks.{sample}
use Rattle.api.specs.Calls.{ends_at}
use Rattle.api.proofs.ends_at.Goals as goal

pub returns : goal.returns
unfolding ends_at
returns c = mapped _ _ Some nan c.args.ends.now c.map.result 14 c.told-ends c.map.ensures.items (λ p q x y k. search rules)
    ∙ map_each Some nan c.args.ends.now
    ∙ ap (λ (n : ℕ). each n (λ e. Some (sample c.args.ends.now e) ∷ [])) c.told-ends
