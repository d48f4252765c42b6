-- `marks::Site::across` meets its contract. Assumes nothing.
use mathlib.Core.Path.{sym, ap, ◌∙◌}
use Prim.Native.Nat.{ℕ}
use Rattle.lattice.specs.Across.{across_of}
use Rattle.marks.proofs.Rooms.{end_inside}
use Rattle.marks.proofs.Site.across.Goals as goal

pub returns-clause-inside : goal.returns-clause-inside
returns-clause-inside c = let p = c.args.self.now in
    end_inside p.field.sides p.number c.args.label c.above.result p.field.sampled.fit p.inside
    (c.above.ensures ∙ ap (λ (s : ℕ). across_of p.field.sides s c.args.label) (sym p.numbered))
