-- The check of the volume (docs/SCOPE.md, S12.5), computed from the samples: 3 x 3 x 3, centre -3, others 1, step 4 on each axis, frame origin 0, scale 1 gives 1296, with
-- method 0 and with method 1, from the whole origin 0 and from (5, -7, 11). Assumes nothing.
use mathlib.Core.Path.{◌≡◌, refl}
use mathlib.Core.List.{List, [], ◌∷◌, ◌++◌, map}
use Prim.Native.Nat.{ℕ}
use lib.IntN.{ℤ, pos, negsuc}
use lib.ListN.{replicate}
use lib.Ieee.{Float, binary64, of_bits}
use Rattle.samples.specs.Sides.{base}
use Rattle.stages.proofs.Examples.{stages_key, words, frame}
use Rattle.build.specs.Answer.{Order, order, order_box, order_vertices, order_positions, order_triangles}
use Rattle.volume.specs.Volume.{Volume, volume_of}
use Rattle.volume.proofs.Examples.{volume_key}

-- 1.0 and 4.0
abbrev one : ℕ
one = 0x3FF0000000000000

abbrev four : ℕ
four = 0x4010000000000000

-- the centre is site 13
abbrev samples : List Float
samples = words (replicate 13 one ++ (0xC008000000000000 ∷ replicate 13 one))

abbrev box : ℕ → Order
box method = order (record { nu = 3; nv = 3; nw = 3 }) method 4 base (frame 0 0 0 four four four) samples (record { masks = 27; table = 189; vertices = 42; book = 56; triangles = 288; edges = 864 })

abbrev six : ℕ → ℤ → ℤ → ℤ → Volume
six method x y z = volume_of (order_positions (box method)) (order_triangles (box method)) (of_bits binary64 one) (record { x = x; y = y; z = z })

pub volume_check :
    map (λ (method : ℕ). six method (pos 0) (pos 0) (pos 0)) (0 ∷ 1 ∷ []) ++ map (λ (method : ℕ). six method (pos 5) (negsuc 6) (pos 11)) (0 ∷ 1 ∷ [])
    ≡ replicate 4 (record { status = 0; six = pos 1296 })
unfolding stages_key volume_key order_box order_vertices
volume_check = refl
