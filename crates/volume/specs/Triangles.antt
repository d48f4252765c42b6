-- What the theorems of the volume speak of: triangles reversed, their corners turned, lists with the same triangles. Assumes nothing.
use Rattle.std.specs.Prelude.{◌≡◌, Bool, ◌&&◌, List, [], ◌∷◌, ℕ, zero, suc, eqb, neg_ℤ}
use Rattle.laws.specs.Lists.{count}
use Rattle.laws.specs.Triangles.{Tri}
use Rattle.volume.specs.Volume.{Volume}

-- the other way round
unfoldable pub reversed : Tri → Tri
reversed t = (t.0, t.2, t.1)

-- the same status, the sum with the other sign
unfoldable pub negated : Volume → Volume
negated v = record { status = v.status; six = neg_ℤ v.six }

-- the corners moved on by n places
unfoldable pub turn_by : ℕ → Tri → Tri
turn_by zero t = t
turn_by (suc n) t = turn_by n (t.1, t.2, t.0)

-- the first triangle turned by the first number, the second by the second, and so on
unfoldable pub turned_by : List ℕ → List Tri → List Tri
turned_by [] ts = ts
turned_by (n ∷ ns) [] = []
turned_by (n ∷ ns) (t ∷ ts) = turn_by n t ∷ turned_by ns ts

unfoldable pub is_tri : Tri → Tri → Bool
is_tri t u = eqb t.0 u.0 && eqb t.1 u.1 && eqb t.2 u.2

-- every triangle stands in both as often
pub record SameTris (ts us : List Tri) : Type 0 where
  pub same : (t : Tri) → count (is_tri t) ts ≡ count (is_tri t) us
