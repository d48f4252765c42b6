-- The slabs of cells, each from its two layers alone, joined in order: balanced as the whole march is. Assumes nothing.
use mathlib.Core.Path.{◌≡◌}
use mathlib.Core.Bool.{Bool}
use Prim.Native.Nat.{ℕ, pred}
use Rattle.laws.specs.Ranges.{each}
use Rattle.laws.specs.Lists.{count}
use Rattle.march.specs.March.{Field, slab}
use Rattle.march.specs.Runs.{runs}
use Rattle.march.specs.Lists.{layers}
use Rattle.march.proofs.March.{march_pairs}
use Rattle.march_balance.specs.Fit.{Fit}
use Rattle.march_balance.proofs.Balance.{balance}

pub slabs_balance : (F : Field) (o : Bool) → Fit F o → (p q : ℕ)
    → count (runs p q) (each (pred F.box.nw) (λ w. slab (layers F w 2) 0)) ≡ count (runs q p) (each (pred F.box.nw) (λ w. slab (layers F w 2) 0))
slabs_balance F o P p q = rw (march_pairs F) at (balance F o P p q)
