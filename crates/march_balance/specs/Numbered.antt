-- The plainest lookup of vertices: each owned edge has a number of its own, 7 times its site and its label. Assumes nothing.
use Rattle.std.specs.Prelude.{Bool, true, ℕ, ◌+◌, ◌*◌}
use Rattle.lattice.specs.declared.Sides.{Sides}
use Rattle.march.specs.March.{Field}

-- a box of finite samples with these sides, whose vertices are so numbered
unfoldable pub numbered : Sides → (ℕ → Bool) → Field
numbered n side = record { box = n; finite = λ s. true; side = side; vertex = λ s l. 7 * s + l }
