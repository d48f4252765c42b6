-- The invariant of the loop of `pairs::fill`: the records of the first k sides are in front of the room. Assumes nothing.
use Rattle.std.proofs.Common.{◌≡◌, ◌*◌, ◌++◌, take, drop}
use Rattle.sort.specs.Records.{words}
use Rattle.pairs.specs.Inner.Listing.{sides}
use Rattle.pairs.proofs.fill.Given as goal

abbrev pub invariant-loop-k : goal.invariant-loop-k
invariant-loop-k l = l.room ≡ words (take l.k (sides l.tris)) ++ drop (l.k * 3) l.initial.room
