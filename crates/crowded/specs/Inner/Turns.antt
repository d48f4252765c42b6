-- What one turn of a loop does: side k flags its two ends, corner k flags the site that owns its vertex. Assumes nothing.
use Rattle.std.specs.Prelude.{◌≡◌, Bool, ◌&&◌, ◌||◌, cond, List, ℕ, ◌+◌, ◌*◌, ◌%◌, ◌≤◌, ◌<◌, eqb, ltb, length, get_or, set}
use Rattle.laws.specs.Bools.{bit}
use Rattle.pairs.specs.Sides.{next, crowded}

-- the flags of the sides are in front of a
pub record Ready (s room : List ℕ) (a : ℕ) : Type 0 where
  pub whole : length s % 3 ≡ 0
  pub front : length s ≤ a
  pub within : a ≤ length room
  pub fits : length s ≤ 4294967296
  pub flags : (k : ℕ) → k < length s → get_or room k 0 ≡ bit (crowded s k)

-- the number x gets its flag where b holds
unfoldable pub mark : ℕ → Bool → ℕ → List ℕ → List ℕ
mark a b x l = cond b (set l (a + x) 1) l

-- both ends of side k get theirs
unfoldable pub end_turn : List ℕ → ℕ → ℕ → List ℕ → List ℕ
end_turn s a k l = mark a (crowded s k) (get_or s (next k) 0) (mark a (crowded s k) (get_or s k 0) l)

-- the triangle of corner k has a side with flag 1; it has a side that is crowded
unfoldable pub flagged : List ℕ → ℕ → Bool
flagged l k = eqb (get_or l k 0) 1 || eqb (get_or l (next k) 0) 1 || eqb (get_or l (next (next k)) 0) 1

unfoldable pub crowded_at : List ℕ → ℕ → Bool
crowded_at s k = crowded s k || crowded s (next k) || crowded s (next (next k))

-- and the corner's vertex is a live cluster vertex: its site gets its flag
unfoldable pub wanted : List ℕ → List ℕ → ℕ → Bool
wanted s book k = crowded_at s k && ltb 1 (get_or book (4 * get_or s k 0 + 1) 0)

unfoldable pub owner_turn : List ℕ → List ℕ → ℕ → ℕ → List ℕ → List ℕ
owner_turn s book a k l = mark a (wanted s book k) (get_or book (4 * get_or s k 0) 0) l
