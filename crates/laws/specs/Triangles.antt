-- Triangles: three corners each, the flat list of their corners and back, and their directed sides. Assumes nothing.
use Rattle.std.specs.Prelude.{◌≡◌, List, [], ◌∷◌, ℕ}
use Rattle.laws.specs.Lists.{count}
use Rattle.laws.specs.Couples.{Pair, from_to}

-- a triangle: three corners in cyclic order
abbrev pub Tri : Type 0
Tri = ℕ × ℕ × ℕ

-- the corners one after the other
unfoldable pub flat : List Tri → List ℕ
flat [] = []
flat (t ∷ ts) = t.0 ∷ t.1 ∷ t.2 ∷ flat ts

-- the triangles of a flat list, three entries each; one or two entries at its end are none
unfoldable pub tris_of : List ℕ → List Tri
tris_of [] = []
tris_of (a ∷ []) = []
tris_of (a ∷ b ∷ []) = []
tris_of (a ∷ b ∷ c ∷ l) = (a, b, c) ∷ tris_of l

-- the directed sides
unfoldable pub sides_of : List Tri → List Pair
sides_of [] = []
sides_of (t ∷ ts) = (t.0, t.1) ∷ (t.1, t.2) ∷ (t.2, t.0) ∷ sides_of ts

-- as many sides run from p to q as back
pub record Balanced (ts : List Tri) : Type 0 where
  pub even : (p q : ℕ) → count (from_to p q) (sides_of ts) ≡ count (from_to q p) (sides_of ts)
