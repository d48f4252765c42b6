-- A list in an array of fixed length, behind it the array's empty value; and such an array while it is filled front to back. Assumes nothing.
use Rattle.std.specs.Prelude.{◌≡◌, List, ◌++◌, ℕ, ◌+◌, ◌-◌, length, replicate}

module _ {A : Type 0} where
  -- n places: the list, then d
  abbrev pub padded : ℕ → A → List A → List A
  padded n d l = l ++ replicate (n - length l) d

  -- k of the entries of `whole` are in the array of n places, and those of `rest` are to come
  pub record Filling (n : ℕ) (d : A) (whole rest array : List A) (k : ℕ) : Type 0 where
    pub done : List A
    pub room : ℕ
    pub is_count : length done ≡ k
    pub is_room : k + room ≡ n
    pub is_array : array ≡ done ++ replicate room d
    pub ends : whole ≡ done ++ rest
