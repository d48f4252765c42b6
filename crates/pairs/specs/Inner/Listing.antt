-- The sides as records, numbered from 0, and the room in which they are listed.
use Rattle.std.specs.Prelude.{◌≡◌, List, [], ◌∷◌, ◌++◌, ℕ, suc, ◌*◌, ◌-◌, ◌%◌, ◌≤◌, min, max, length, take, drop, replicate}
use Rattle.laws.specs.Couples.{Pair}
use Rattle.sort.specs.declared.Rec.{Rec}
use Rattle.sort.specs.Records.{words_each, recs, words}
use Rattle.sort.specs.Order.{Done}
use Rattle.pairs.specs.Sides.{directed}

-- side k as a record, and the sides as records, numbered from 0
unfoldable pub side_of : ℕ → Pair → Rec
side_of k p = record { low = min p.0 p.1; high = max p.0 p.1; side = k }

unfoldable pub numbered : ℕ → List Pair → List Rec
numbered k [] = []
numbered k (p ∷ ps) = side_of k p ∷ numbered (suc k) ps

unfoldable pub sides : List ℕ → List Rec
sides s = numbered 0 (directed s)

-- Working room for the sides: whole triangles, nine words for each and perhaps more behind them, and side numbers that fit a word.
pub record Room (s room : List ℕ) : Type 0 where
  pub whole : length s % 3 ≡ 0
  pub nine : length s * words_each ≤ length room
  pub fits : length s ≤ 4294967296

-- the room with the records of the sides in front; the words behind them stay
unfoldable pub filled : List ℕ → List ℕ → List ℕ
filled s room = words (sides s) ++ drop (length s * words_each) room

-- the room t has these records in front, sorted, and zeros behind them
pub record Listed (s room t : List ℕ) : Type 0 where
  pub done : Done (sides s) (recs (take (length s * words_each) t))
  pub zeros : drop (length s * words_each) t ≡ replicate (length room - length s * words_each) 0
