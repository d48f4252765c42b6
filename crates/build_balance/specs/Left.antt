-- A build as its caller sees it: the order was granted, and the answer and the lists are what was promised. Assumes nothing.
use Rattle.std.specs.Prelude.{◌≡◌}
use Rattle.build.specs.declared.Answer.{Answer}
use Rattle.build.specs.Answer.{Order, Lists, BuildOf, status}

-- what the build left in the lists l
pub record Left (o : Order) (l l' : Lists) (z : Answer) : Type 0 where
  pub granted : status o ≡ 0
  pub built : BuildOf o l l' z
