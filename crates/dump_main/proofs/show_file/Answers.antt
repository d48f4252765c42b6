-- A build that is done has a sample for each site.
use Rattle.std.proofs.Common.{◌≡◌, ◌≤◌, length, sym, ap, ◌∙◌}
use native.Mathlib.Nat.{le_of_eq}
use Rattle.lattice.specs.Sites.{sites}
use Rattle.marks.specs.Inner.Loops.{Sampled}
use Rattle.refusals.proofs.Granted.{granted}
use Rattle.build.specs.declared.Answer.{Answer}
use Rattle.build.specs.Answer.{Order, Lists, BuildOf}
use Rattle.build.proofs.Fronts.{answer-status}
use Rattle.file_build.proofs.Building.{built-read}
use Rattle.dump_main.proofs.show_file.Goals as goal

sampled : (o : Order) (l l' : Lists) (a : Answer) → BuildOf o l l' a → a.status ≡ 0 → Sampled o.sides o.samples × (length o.samples ≤ sites o.sides)
sampled o l l' a b z =
    let g = granted o.sides o.method o.rounds o.frame o.samples o.lent o.threshold (sym (answer-status o) ∙ ap (λ (x : Answer). x.status) (sym b.answer) ∙ z) in
    (record { fit = g.fit; samples = le_of_eq (sym g.samples) }, le_of_eq g.samples)

pub dump-requires : goal.dump-requires
dump-requires g c =
    rw c.floats_of-samples.ensures (sampled _ _ _ _ (built-read c.in-Some.file c.in-Some.is c.build-built.ensures) c.if-answer-eq0.true)
