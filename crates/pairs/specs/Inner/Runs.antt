-- Runs of one pair in a list of records.
use Rattle.std.specs.Prelude.{◌≡◌, Bool, true, false, ◌&&◌, List, ◌++◌, map, ℕ, ◌≤◌, ◌<◌, eqb, ltb, length, get_or, take, drop}
use Rattle.laws.specs.Bools.{bit}
use Rattle.laws.specs.Lists.{count, All}
use Rattle.sort.specs.declared.Rec.{Rec}
use Rattle.sort.specs.Records.{none}

-- the two have the same ends
unfoldable pub same_pair : Rec → Rec → Bool
same_pair x y = eqb x.low y.low && eqb x.high y.high

-- the first r records of l have one pair, and no other has it
pub record Front (l : List Rec) (r : ℕ) : Type 0 where
  pub some : 0 < r
  pub within : r ≤ length l
  pub same : All (λ x. same_pair (get_or l 0 none) x ≡ true) (take r l)
  pub after : All (λ x. same_pair (get_or l 0 none) x ≡ false) (drop r l)

-- the record with a flag in place of its higher end
unfoldable pub flagged : Bool → Rec → Rec
flagged f x = record { low = x.low; high = bit f; side = x.side }

-- the flag of a record of l: its pair stands in more than two records
unfoldable pub crowded_among : List Rec → Rec → Bool
crowded_among l x = ltb 2 (count (same_pair x) l)

unfoldable pub marked : List Rec → List Rec → List Rec
marked l m = map (λ x. flagged (crowded_among l x) x) m

-- the front run of l has its flags in m, and nothing else is changed
pub record FrontMarked (l m : List Rec) (r : ℕ) : Type 0 where
  pub front : Front l r
  pub flags : m ≡ map (flagged (ltb 2 r)) (take r l) ++ drop r l
