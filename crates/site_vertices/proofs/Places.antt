-- The room of an edge's place in the edge table. Assumes nothing.
use Prim.Native.Nat.{ℕ, ◌*◌, ◌≤◌, ◌<◌}
use native.Mathlib.Omega.{arith}
use Rattle.lattice.specs.declared.Sides.{Sides}
use Rattle.lattice.specs.Sites.{SidesFit}
use Rattle.lattice.proofs.Sites.{product_le, layer_most}

pub record Room (n : Sides) (b d : ℕ) : Type 0 where
  pub row : n.nu * b ≤ 32
  pub layers : n.nu * n.nv ≤ 1024
  pub layer : n.nu * n.nv * d ≤ 1024

pub reach-room : (n : Sides) (b d : ℕ) → SidesFit n → b < 2 → d < 2 → Room n b d
reach-room n b d f hb hd =
    record { row = product_le n.nu b 32 1 f.u_most (omega arith); layers = layer_most n f; layer = product_le (n.nu * n.nv) d 1024 1 (layer_most n f) (omega arith) }
