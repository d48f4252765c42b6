-- `marks::Site::mark_label` meets its contract. Assumes nothing.
use Rattle.marks.specs.Inner.Loops.{mark_to, mark_label}
use Rattle.marks.proofs.Site.mark_label.Goals as goal

pub returns-in-Some : goal.returns-in-Some
unfolding mark_label mark_to
returns-in-Some c = rw (← c.across.ensures.is, c.in-Some.is, ← c.args.self.now.valued, ← c.sample.ensures, ← c.crossing_alpha-c.ensures) c.mark_crossing.ensures

pub returns-in_default : goal.returns-in_default
unfolding mark_label mark_to
returns-in_default c = rw (← c.across.ensures.is, c.in_default.is)
