-- The flags of the records brought to the places of their sides, in words: three words a record, the flag in the second and the side's number in the third.
use Rattle.std.specs.Prelude.{List, ℕ, ◌+◌, ◌*◌, ◌/◌, ◌<◌, length, get_or, set}
use Rattle.laws.specs.Ranges.{fold}
use Rattle.sort.specs.Records.{words_each, recs, words}
use Rattle.pairs.specs.Inner.Runs.{marked}

-- the flag of record j goes to the first word of the record that stands at the place of j's side
unfoldable pub sent : ℕ → List ℕ → List ℕ
sent j s = set s (get_or s (j * words_each + 2) 0 * words_each) (get_or s (j * words_each + 1) 0)

-- the first word of record k goes to word k
unfoldable pub pulled : ℕ → List ℕ → List ℕ
pulled k s = set s k (get_or s (k * words_each) 0)

-- the side numbers are below the number of records
abbrev pub Homed : List ℕ → Type 0
Homed s = (j : ℕ) → j < length s / words_each → get_or s (j * words_each + 2) 0 < length s / words_each

-- the flags of the records of s, sent and pulled
unfoldable pub home_flags : List ℕ → List ℕ
home_flags s = fold pulled (length s / words_each) (fold sent (length s / words_each) (words (marked (recs s) (recs s))))
