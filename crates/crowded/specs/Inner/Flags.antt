-- The working list of a build: in front the flags of the sides of a flat list of triangles, from word a on the flags of vertices or of sites. Assumes nothing.
use Rattle.std.specs.Prelude.{◌≡◌, Bool, ◌&&◌, ◌||◌, List, [], ◌∷◌, ◌++◌, ℕ, ◌+◌, ◌*◌, ◌-◌, ◌/◌, ◌%◌, ◌≤◌, ◌<◌, min, eqb, ltb, length, get_or, take, drop, replicate}
use Rattle.laws.specs.Bools.{bit}
use Rattle.laws.specs.Ranges.{any, each}
use Rattle.pairs.specs.Sides.{next, crowded, crowded_flags}

-- The triangles s are whole and their sides have numbers that fit a word; the list has nine words for each triangle, and their flags lie before a.
pub record Flaggable (s room : List ℕ) (a : ℕ) : Type 0 where
  pub whole : length s % 3 ≡ 0
  pub nine : length s * 3 ≤ length room
  pub front : length s ≤ a
  pub within : a ≤ length room
  pub fits : length s ≤ 4294967296

-- every vertex of s has a word behind a
abbrev pub EndsFit : List ℕ → List ℕ → ℕ → Type 0
EndsFit s room a = (k : ℕ) → k < length s → a + get_or s k 0 < length room

-- there are m vertices
abbrev pub EndsUnder : List ℕ → ℕ → Type 0
EndsUnder s m = (k : ℕ) → k < length s → get_or s k 0 < m

-- every vertex of s has a row in the book, and its site a word behind a
abbrev pub OwnersFit : List ℕ → List ℕ → List ℕ → ℕ → Type 0
OwnersFit s book room a = (k : ℕ) → k < length s → (4 * get_or s k 0 + 3 < length book) × (a + get_or book (4 * get_or s k 0) 0 < length room)

-- there are m sites
abbrev pub OwnersUnder : List ℕ → List ℕ → ℕ → Type 0
OwnersUnder s book m = (k : ℕ) → k < length s → get_or book (4 * get_or s k 0) 0 < m

-- ---- what is flagged

-- of m flags from a on, those that have room
abbrev pub fitting : ℕ → ℕ → List ℕ → ℕ
fitting m a room = min m (length room - a)

-- the words that `pairs::over_sides` is lent: nine a triangle and v more, or all
abbrev pub reach : List ℕ → ℕ → List ℕ → ℕ
reach s v room = length s * 3 + fitting v (length s * 3) room

-- what it leaves
unfoldable pub side_flags : List ℕ → ℕ → List ℕ → List ℕ
side_flags s v room = crowded_flags s ++ replicate (reach s v room - length s) 0 ++ drop (reach s v room) room

-- the first a words of l, then m flags, then the words of l behind them
abbrev pub front_flags : List ℕ → ℕ → ℕ → (ℕ → Bool) → List ℕ
front_flags l a m p = take a l ++ each m (λ v. bit (p v) ∷ [])

abbrev pub with_flags : List ℕ → ℕ → ℕ → (ℕ → Bool) → List ℕ
with_flags l a m p = front_flags l a m p ++ drop (a + m) l

-- v is an end of a side that is crowded
unfoldable pub end_in : List ℕ → ℕ → Bool
end_in s v = any (length s) (λ k. crowded s k && (eqb v (get_or s k 0) || eqb v (get_or s (next k) 0)))

-- by its row in the book, v is a live cluster vertex of the site
unfoldable pub cluster_in : List ℕ → ℕ → ℕ → Bool
cluster_in book site v = ltb 1 (get_or book (4 * v + 1) 0) && eqb site (get_or book (4 * v) 0)

-- the site owns such a vertex in a triangle with a side that is crowded
unfoldable pub owner_in : List ℕ → List ℕ → ℕ → Bool
owner_in s book site =
    any (length s / 3) (λ t. (crowded s (3 * t) || crowded s (3 * t + 1) || crowded s (3 * t + 2))
    && (cluster_in book site (get_or s (3 * t) 0) || cluster_in book site (get_or s (3 * t + 1) 0) || cluster_in book site (get_or s (3 * t + 2) 0)))

-- ---- the promises: r is whether there is one, and the room gets the flags of the sides and behind them those of the ends, or of the owners

pub record EndsFlagged (s : List ℕ) (a m : ℕ) (room room' : List ℕ) (r : Bool) : Type 0 where
  pub found : r ≡ any (length s) (crowded s)
  pub flags : room' ≡ with_flags (side_flags s m room) a (fitting m a room) (end_in s)

pub record OwnersFlagged (s book : List ℕ) (a m v : ℕ) (room room' : List ℕ) (r : Bool) : Type 0 where
  pub found : r ≡ any (fitting m a room) (owner_in s book)
  pub flags : room' ≡ with_flags (side_flags s v room) a (fitting m a room) (owner_in s book)
