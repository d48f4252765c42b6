-- The source's table of labels by gaps, beside its rule. Assumes nothing.
use mathlib.Core.Path.{◌≡◌}
use mathlib.Core.Bool.{Bool}
use mathlib.Core.List.{List, [], ◌∷◌}
use Prim.Native.Nat.{ℕ, ◌+◌, ◌*◌, ◌<◌}
use lib.Dec.{eqb, eqb→eq}
use lib.ListN.{get_or}
use Rattle.laws.specs.Ranges.{all}
use Rattle.laws.proofs.Ranges.{all-at, all_at2}
use Rattle.tables.specs.Edges.{deltas}
use Rattle.lattice.specs.Owner.{gap, gap_place, gap_label}

abbrev labels : List ℕ
labels =
    14 ∷ 14 ∷ 14 ∷ 14 ∷ 14 ∷ 14
    ∷ 14 ∷ 14 ∷ 14 ∷ 14 ∷ 14 ∷ 14
    ∷ 14 ∷ 14 ∷ 14 ∷ 14 ∷ 14 ∷ 14
    ∷ 14 ∷ 14 ∷ 14 ∷ 14 ∷ 14 ∷ 14
    ∷ 14 ∷ 14 ∷ 14 ∷ 14 ∷ 14 ∷ 14
    ∷ 14 ∷ 14 ∷ 14 ∷ 14 ∷ 14 ∷ 14
    ∷ 14 ∷ 14 ∷ 14 ∷ 14 ∷ 14 ∷ 14
    ∷ 14 ∷ 14 ∷ 5 ∷ 14 ∷ 14 ∷ 14
    ∷ 14 ∷ 4 ∷ 14 ∷ 6 ∷ 14 ∷ 14
    ∷ 14 ∷ 14 ∷ 3 ∷ 14 ∷ 14 ∷ 14
    ∷ 14 ∷ 14 ∷ 14 ∷ 14 ∷ 14 ∷ 14
    ∷ 14 ∷ 14 ∷ 14 ∷ 14 ∷ 14 ∷ 14
    ∷ 14 ∷ 14 ∷ 14 ∷ 14 ∷ 14 ∷ 14
    ∷ 14 ∷ 2 ∷ 14 ∷ 7 ∷ 14 ∷ 14
    ∷ 1 ∷ 14 ∷ 14 ∷ 14 ∷ 8 ∷ 14
    ∷ 14 ∷ 0 ∷ 14 ∷ 9 ∷ 14 ∷ 14
    ∷ 14 ∷ 14 ∷ 14 ∷ 14 ∷ 14 ∷ 14
    ∷ 14 ∷ 14 ∷ 14 ∷ 14 ∷ 14 ∷ 14
    ∷ 14 ∷ 14 ∷ 14 ∷ 14 ∷ 14 ∷ 14
    ∷ 14 ∷ 14 ∷ 10 ∷ 14 ∷ 14 ∷ 14
    ∷ 14 ∷ 13 ∷ 14 ∷ 11 ∷ 14 ∷ 14
    ∷ 14 ∷ 14 ∷ 12 ∷ 14 ∷ 14 ∷ 14
    ∷ 14 ∷ 14 ∷ 14 ∷ 14 ∷ 14 ∷ 14
    ∷ 14 ∷ 14 ∷ 14 ∷ 14 ∷ 14 ∷ 14
    ∷ 14 ∷ 14 ∷ 14 ∷ 14 ∷ 14 ∷ 14
    ∷ 14 ∷ 14 ∷ 14 ∷ 14 ∷ 14 ∷ 14
    ∷ 14 ∷ 14 ∷ 14 ∷ 14 ∷ 14 ∷ 14
    ∷ 14 ∷ 14 ∷ 14 ∷ 14 ∷ 14 ∷ 14
    ∷ 14 ∷ 14 ∷ 14 ∷ 14 ∷ 14 ∷ 14
    ∷ 14 ∷ 14 ∷ 14 ∷ 14 ∷ 14 ∷ 14
    ∷ 14 ∷ 14 ∷ 14 ∷ 14 ∷ 14 ∷ 14
    ∷ 14 ∷ 14 ∷ 14 ∷ 14 ∷ 14 ∷ 14
    ∷ 14 ∷ 14 ∷ 14 ∷ 14 ∷ 14 ∷ 14
    ∷ 14 ∷ 14 ∷ 14 ∷ 14 ∷ 14 ∷ 14
    ∷ 14 ∷ 14 ∷ 14 ∷ 14 ∷ 14 ∷ 14
    ∷ 14 ∷ 14 ∷ 14 ∷ 14 ∷ 14 ∷ 14
    ∷ []

abbrev right : ℕ → ℕ → ℕ → Bool
right x y z = eqb (get_or labels (x + 6 * y + 36 * z) 0) (gap_label x y z)

pub label_at : (x y z : ℕ) → x < 6 → y < 6 → z < 6 → get_or labels (x + 6 * y + 36 * z) 0 ≡ gap_label x y z
unfolding all gap_label gap_place gap deltas
label_at x y z hx hy hz =
    eqb→eq _ _ (all-at 6 (λ z. right x y z) (all_at2 6 6 (λ x y. all 6 (λ z. right x y z)) tt x y hx hy) z hz)
