-- The walks over a mask, turn by turn: what they find, of which `Parts` says what it is, and how many edges they take. Assumes nothing.
use Rattle.std.specs.Prelude.{ℕ, zero, suc, ◌^◌, List, [], ◌∷◌, map, length, bit_and, bit_or, bit_xor}
use Rattle.laws.specs.Filling.{padded}
use Rattle.laws.specs.Lists.{total}
use Rattle.tables.specs.Edges.{neighbour_mask}
use Rattle.topology.specs.declared.Components.{Components}
use Rattle.topology.specs.Parts.{low}

-- the fourteen edges of a mask: its other bits count for nothing
abbrev pub fourteen : ℕ → ℕ
fourteen m = bit_and m 0x3FFF

-- the lowest edge of a mask, as a mask; 0 for 0
unfoldable pub low_bit : ℕ → ℕ
low_bit zero = 0
low_bit (suc m) = 2 ^ low (suc m)

-- One turn takes the lowest edge from the frontier into the component; those of its neighbours that remain go to the frontier.
unfoldable pub found : ℕ → ℕ → ℕ
found rem fr = bit_and (neighbour_mask (low fr)) rem

unfoldable pub rem_turn : ℕ → ℕ → ℕ
rem_turn rem fr = bit_xor rem (found rem fr)

unfoldable pub fr_turn : ℕ → ℕ → ℕ
fr_turn rem fr = bit_or (bit_xor fr (2 ^ low fr)) (found rem fr)

unfoldable pub comp_turn : ℕ → ℕ → ℕ
comp_turn fr comp = bit_or comp (2 ^ low fr)

pub record Walked : Type 0 where
  pub comp : ℕ
  pub rest : ℕ
  pub visits : ℕ

-- turns until the frontier is empty, at most n of them; a turn that takes an edge from the frontier is a visit
unfoldable pub walk : ℕ → ℕ → ℕ → ℕ → ℕ → Walked
walk zero rem fr comp v = record { comp = comp; rest = rem; visits = v }
walk (suc n) rem zero comp v = record { comp = comp; rest = rem; visits = v }
walk (suc n) rem (suc f) comp v = walk n (rem_turn rem (suc f)) (fr_turn rem (suc f)) (comp_turn (suc f) comp) (suc v)

-- the walk from the lowest edge of a mask; fourteen turns are enough (`first_end_lem` of proofs/Walk: the frontier is empty at the end)
unfoldable pub first : ℕ → Walked
first m = walk 14 (bit_xor m (2 ^ low m)) (2 ^ low m) 0 0

-- the walks one after the other, each over what the one before has left, at most n of them
unfoldable pub walks_in : ℕ → ℕ → List Walked
walks_in zero m = []
walks_in (suc n) zero = []
walks_in (suc n) (suc m) = first (suc m) ∷ walks_in n (first (suc m)).rest

-- those over a mask's fourteen edges
unfoldable pub walks : ℕ → List Walked
walks m = walks_in 14 (fourteen m)

-- what they find: the components (`components_parts` of proofs/Parts)
unfoldable pub components : ℕ → List ℕ
components m = map (λ w. w.comp) (walks m)

-- how many edges they take from their frontiers, together: as many as the mask has (`visits_ones` of proofs/Visits)
unfoldable pub visits : ℕ → ℕ
visits m = total (λ w. w.visits) (walks m)

-- as the walk answers: how many components, in fourteen places, and the visits
abbrev pub components_of : ℕ → Components
components_of m = record { clusters = record { count = length (components m); masks = padded 14 0 (components m) }; visits = visits m }
