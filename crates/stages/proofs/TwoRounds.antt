-- The definition computes the oracle's answer of a box that takes two rounds, from its samples. Written by tools/oracle/examples: change that, not this. Assumes nothing.
use mathlib.Core.Path.{◌≡◌, refl}
use mathlib.Core.Bool.{true}
use mathlib.Core.List.{[], ◌∷◌}
use Rattle.march.specs.March.{none}
use Rattle.stages.proofs.Examples.{Input, words, frame, answer_of, answer, stages_key}

-- two rounds: 3 x 4 x 3, 52 vertices, 74 triangles, 2 split, rounds done 2
unfoldable two-rounds : Input
two-rounds = record {
  sides = record { nu = 3; nv = 4; nw = 3 };
  cluster = true;
  rounds = 4;
  frame = frame 0x0000000000000000 0x0000000000000000 0x0000000000000000 0x3FF0000000000000 0x3FF0000000000000 0x3FF0000000000000;
  samples = words
      (0x4008000000000000 ∷ 0x4008000000000000 ∷ 0x4008000000000000 ∷ 0xBFE0000000000000 ∷ 0x3FE0000000000000 ∷ 0x4008000000000000 ∷ 0x4008000000000000
      ∷ 0x4008000000000000 ∷ 0x4008000000000000 ∷ 0x4008000000000000 ∷ 0x4008000000000000 ∷ 0x4008000000000000 ∷ 0x4008000000000000 ∷ 0x4008000000000000
      ∷ 0x4008000000000000 ∷ 0x4008000000000000 ∷ 0xBFF0000000000000 ∷ 0x4008000000000000 ∷ 0x4008000000000000 ∷ 0xBFE0000000000000 ∷ 0xBFF0000000000000
      ∷ 0x4008000000000000 ∷ 0x4008000000000000 ∷ 0x4008000000000000 ∷ 0x4008000000000000 ∷ 0x4008000000000000 ∷ 0x4008000000000000 ∷ 0xC008000000000000
      ∷ 0xBFE0000000000000 ∷ 0x4008000000000000 ∷ 0x4008000000000000 ∷ 0x3FE0000000000000 ∷ 0x3FF0000000000000 ∷ 0x4008000000000000 ∷ 0x4008000000000000
      ∷ 0x4008000000000000 ∷ []);
}

two-rounds-is : answer two-rounds ≡ record {
  crossed = 48;
  masks =
      (0 ∷ 0 ∷ 0 ∷ 614 ∷ 208 ∷ 0 ∷ 0 ∷ 0 ∷ 0 ∷ 0 ∷ 0 ∷ 0 ∷ 0 ∷ 0 ∷ 0 ∷ 0 ∷ 7049 ∷ 0 ∷ 0 ∷ 13758 ∷ 13860 ∷ 0 ∷ 0 ∷ 0 ∷ 0 ∷ 0 ∷ 0 ∷ 12800 ∷ 7939 ∷ 0 ∷ 512 ∷ 13056
      ∷ 10240 ∷ 0 ∷ 0 ∷ 0 ∷ []);
  clusters =
      ([] ∷ [] ∷ [] ∷ ((1 ∷ 2 ∷ 5 ∷ 6 ∷ 9 ∷ []) ∷ []) ∷ ((4 ∷ 6 ∷ 7 ∷ []) ∷ []) ∷ [] ∷ [] ∷ [] ∷ [] ∷ [] ∷ [] ∷ [] ∷ [] ∷ [] ∷ [] ∷ []
      ∷ ((0 ∷ 3 ∷ 7 ∷ 8 ∷ 9 ∷ 11 ∷ 12 ∷ []) ∷ []) ∷ [] ∷ [] ∷ ((1 ∷ 2 ∷ 3 ∷ 4 ∷ 5 ∷ 7 ∷ 8 ∷ 10 ∷ 12 ∷ 13 ∷ []) ∷ []) ∷ ((2 ∷ 5 ∷ 9 ∷ 10 ∷ 12 ∷ 13 ∷ []) ∷ [])
      ∷ [] ∷ [] ∷ [] ∷ [] ∷ [] ∷ [] ∷ ((9 ∷ 12 ∷ 13 ∷ []) ∷ []) ∷ ((0 ∷ 1 ∷ 8 ∷ 9 ∷ 10 ∷ 11 ∷ 12 ∷ []) ∷ []) ∷ [] ∷ ((9 ∷ []) ∷ [])
      ∷ ((8 ∷ 9 ∷ 12 ∷ 13 ∷ []) ∷ []) ∷ ((11 ∷ 13 ∷ []) ∷ []) ∷ [] ∷ [] ∷ [] ∷ []);
  split = 2;
  rounds = 2;
  table =
      (none ∷ none ∷ 42 ∷ none ∷ 24 ∷ none ∷ none ∷ none ∷ none ∷ none ∷ none ∷ none ∷ 25 ∷ none ∷ none ∷ none ∷ none ∷ none ∷ none ∷ none ∷ none ∷ 45 ∷ 38 ∷ 39
      ∷ none ∷ none ∷ 40 ∷ 41 ∷ none ∷ none ∷ none ∷ none ∷ 43 ∷ 34 ∷ 44 ∷ none ∷ none ∷ none ∷ none ∷ none ∷ 50 ∷ none ∷ none ∷ none ∷ none ∷ 33 ∷ none ∷ none
      ∷ none ∷ none ∷ none ∷ none ∷ 49 ∷ none ∷ none ∷ 35 ∷ none ∷ none ∷ none ∷ none ∷ none ∷ none ∷ 51 ∷ none ∷ none ∷ none ∷ none ∷ none ∷ none ∷ none ∷ none
      ∷ none ∷ none ∷ none ∷ none ∷ none ∷ none ∷ none ∷ none ∷ none ∷ none ∷ none ∷ none ∷ none ∷ none ∷ 22 ∷ none ∷ none ∷ 11 ∷ 5 ∷ none ∷ none ∷ none ∷ 23
      ∷ none ∷ none ∷ 12 ∷ none ∷ none ∷ none ∷ none ∷ none ∷ none ∷ none ∷ none ∷ 21 ∷ 32 ∷ none ∷ 10 ∷ none ∷ none ∷ 5 ∷ 19 ∷ none ∷ none ∷ 20 ∷ 36 ∷ 16 ∷ none
      ∷ none ∷ none ∷ 48 ∷ none ∷ none ∷ none ∷ none ∷ 31 ∷ none ∷ none ∷ none ∷ none ∷ none ∷ none ∷ none ∷ 26 ∷ 27 ∷ 28 ∷ 29 ∷ 30 ∷ 17 ∷ none ∷ none ∷ 46
      ∷ none ∷ none ∷ 47 ∷ 37 ∷ none ∷ none ∷ none ∷ none ∷ none ∷ none ∷ none ∷ none ∷ none ∷ none ∷ none ∷ none ∷ none ∷ none ∷ none ∷ none ∷ none ∷ none
      ∷ none ∷ none ∷ none ∷ none ∷ 8 ∷ 5 ∷ none ∷ none ∷ none ∷ none ∷ none ∷ none ∷ 9 ∷ none ∷ none ∷ none ∷ none ∷ none ∷ none ∷ none ∷ none ∷ none ∷ none
      ∷ none ∷ none ∷ 14 ∷ 13 ∷ none ∷ none ∷ none ∷ none ∷ 6 ∷ 7 ∷ 15 ∷ none ∷ none ∷ none ∷ none ∷ none ∷ none ∷ none ∷ none ∷ none ∷ none ∷ none ∷ none ∷ none
      ∷ none ∷ none ∷ none ∷ none ∷ none ∷ none ∷ none ∷ none ∷ none ∷ none ∷ none ∷ none ∷ none ∷ none ∷ none ∷ none ∷ none ∷ none ∷ none ∷ none ∷ none ∷ none
      ∷ none ∷ none ∷ none ∷ none ∷ none ∷ none ∷ none ∷ none ∷ none ∷ none ∷ none ∷ none ∷ none ∷ none ∷ none ∷ none ∷ none ∷ none ∷ []);
  book =
      (3 ∷ 0 ∷ 5 ∷ 0 ∷ 4 ∷ 0 ∷ 3 ∷ 0 ∷ 16 ∷ 0 ∷ 7 ∷ 0 ∷ 19 ∷ 0 ∷ 10 ∷ 0 ∷ 20 ∷ 0 ∷ 6 ∷ 0 ∷ 27 ∷ 3 ∷ 3 ∷ 0 ∷ 28 ∷ 1 ∷ 1 ∷ 0 ∷ 28 ∷ 1 ∷ 1 ∷ 0 ∷ 28 ∷ 1 ∷ 1 ∷ 0 ∷ 28
      ∷ 1 ∷ 1 ∷ 0 ∷ 28 ∷ 1 ∷ 1 ∷ 0 ∷ 28 ∷ 1 ∷ 1 ∷ 0 ∷ 28 ∷ 1 ∷ 1 ∷ 0 ∷ 30 ∷ 1 ∷ 1 ∷ 0 ∷ 31 ∷ 1 ∷ 1 ∷ 0 ∷ 31 ∷ 1 ∷ 1 ∷ 0 ∷ 31 ∷ 1 ∷ 1 ∷ 0 ∷ 31 ∷ 1 ∷ 1 ∷ 0 ∷ 32
      ∷ 0 ∷ 2 ∷ 0 ∷ 16 ∷ 1 ∷ 1 ∷ 1 ∷ 16 ∷ 1 ∷ 1 ∷ 1 ∷ 16 ∷ 1 ∷ 1 ∷ 1 ∷ 16 ∷ 1 ∷ 1 ∷ 1 ∷ 16 ∷ 1 ∷ 1 ∷ 1 ∷ 16 ∷ 1 ∷ 1 ∷ 1 ∷ 16 ∷ 1 ∷ 1 ∷ 1 ∷ 19 ∷ 1 ∷ 1 ∷ 1 ∷ 19
      ∷ 1 ∷ 1 ∷ 1 ∷ 19 ∷ 1 ∷ 1 ∷ 1 ∷ 19 ∷ 1 ∷ 1 ∷ 1 ∷ 19 ∷ 1 ∷ 1 ∷ 1 ∷ 19 ∷ 1 ∷ 1 ∷ 1 ∷ 19 ∷ 1 ∷ 1 ∷ 1 ∷ 19 ∷ 1 ∷ 1 ∷ 1 ∷ 19 ∷ 1 ∷ 1 ∷ 1 ∷ 19 ∷ 1 ∷ 1 ∷ 1 ∷ 32
      ∷ 1 ∷ 1 ∷ 1 ∷ 32 ∷ 1 ∷ 1 ∷ 1 ∷ 3 ∷ 1 ∷ 1 ∷ 2 ∷ 3 ∷ 1 ∷ 1 ∷ 2 ∷ 3 ∷ 1 ∷ 1 ∷ 2 ∷ 3 ∷ 1 ∷ 1 ∷ 2 ∷ 3 ∷ 1 ∷ 1 ∷ 2 ∷ 4 ∷ 1 ∷ 1 ∷ 2 ∷ 4 ∷ 1 ∷ 1 ∷ 2 ∷ 4 ∷ 1 ∷ 1
      ∷ 2 ∷ 20 ∷ 1 ∷ 1 ∷ 2 ∷ 20 ∷ 1 ∷ 1 ∷ 2 ∷ 20 ∷ 1 ∷ 1 ∷ 2 ∷ 20 ∷ 1 ∷ 1 ∷ 2 ∷ 20 ∷ 1 ∷ 1 ∷ 2 ∷ 20 ∷ 1 ∷ 1 ∷ 2 ∷ []);
  triangles =
      (24 ∷ 25 ∷ 44 ∷ 24 ∷ 23 ∷ 25 ∷ 24 ∷ 22 ∷ 23 ∷ 45 ∷ 42 ∷ 24 ∷ 45 ∷ 24 ∷ 44 ∷ 21 ∷ 24 ∷ 42 ∷ 21 ∷ 42 ∷ 41 ∷ 24 ∷ 21 ∷ 22 ∷ 25 ∷ 19 ∷ 44 ∷ 25 ∷ 23 ∷ 19 ∷ 35
      ∷ 38 ∷ 45 ∷ 35 ∷ 45 ∷ 34 ∷ 45 ∷ 44 ∷ 34 ∷ 41 ∷ 32 ∷ 21 ∷ 33 ∷ 39 ∷ 38 ∷ 33 ∷ 38 ∷ 35 ∷ 31 ∷ 40 ∷ 39 ∷ 31 ∷ 39 ∷ 33 ∷ 32 ∷ 41 ∷ 40 ∷ 32 ∷ 40 ∷ 31 ∷ 43 ∷ 50
      ∷ 51 ∷ 43 ∷ 48 ∷ 50 ∷ 48 ∷ 43 ∷ 44 ∷ 48 ∷ 44 ∷ 19 ∷ 43 ∷ 51 ∷ 49 ∷ 35 ∷ 34 ∷ 43 ∷ 35 ∷ 43 ∷ 49 ∷ 43 ∷ 34 ∷ 44 ∷ 33 ∷ 35 ∷ 27 ∷ 33 ∷ 27 ∷ 31 ∷ 49 ∷ 51 ∷ 46
      ∷ 26 ∷ 35 ∷ 49 ∷ 26 ∷ 49 ∷ 46 ∷ 35 ∷ 26 ∷ 27 ∷ 23 ∷ 22 ∷ 11 ∷ 23 ∷ 11 ∷ 12 ∷ 11 ∷ 9 ∷ 12 ∷ 11 ∷ 8 ∷ 9 ∷ 10 ∷ 11 ∷ 22 ∷ 10 ∷ 22 ∷ 21 ∷ 5 ∷ 11 ∷ 10 ∷ 8 ∷ 11
      ∷ 5 ∷ 23 ∷ 20 ∷ 19 ∷ 20 ∷ 23 ∷ 12 ∷ 20 ∷ 12 ∷ 6 ∷ 12 ∷ 9 ∷ 6 ∷ 16 ∷ 21 ∷ 32 ∷ 16 ∷ 32 ∷ 17 ∷ 15 ∷ 10 ∷ 21 ∷ 15 ∷ 21 ∷ 16 ∷ 14 ∷ 5 ∷ 10 ∷ 14 ∷ 10 ∷ 15 ∷ 32
      ∷ 31 ∷ 17 ∷ 5 ∷ 14 ∷ 13 ∷ 48 ∷ 19 ∷ 36 ∷ 48 ∷ 36 ∷ 37 ∷ 19 ∷ 20 ∷ 36 ∷ 7 ∷ 36 ∷ 20 ∷ 7 ∷ 20 ∷ 6 ∷ 36 ∷ 28 ∷ 37 ∷ 28 ∷ 36 ∷ 16 ∷ 28 ∷ 16 ∷ 17 ∷ 15 ∷ 16 ∷ 36
      ∷ 15 ∷ 36 ∷ 7 ∷ 31 ∷ 27 ∷ 30 ∷ 31 ∷ 30 ∷ 17 ∷ 47 ∷ 29 ∷ 26 ∷ 47 ∷ 26 ∷ 46 ∷ 37 ∷ 28 ∷ 29 ∷ 37 ∷ 29 ∷ 47 ∷ 28 ∷ 17 ∷ 29 ∷ 26 ∷ 29 ∷ 27 ∷ 27 ∷ 29 ∷ 30 ∷ 29
      ∷ 17 ∷ 30 ∷ []);
  positions = words
      (0xBFF0750750750750 ∷ 0xBFF0750750750750 ∷ 0xBFAD41D41D41D41D ∷ 0xBFFD555555555555 ∷ 0xBFC5555555555555 ∷ 0xBFCC71C71C71C71C ∷ 0xBFEB6DB6DB6DB6DB
      ∷ 0x3FBB6DB6DB6DB6DB ∷ 0xBFEEDB6DB6DB6DB6 ∷ 0xC0003A83A83A83A8 ∷ 0xBFEF297297297297 ∷ 0xBFEF777777777778 ∷ 0xC008555555555555 ∷ 0xBFA5555555555555
      ∷ 0xBFED555555555555 ∷ 0x3FF0000000000000 ∷ 0xBFE5555555555555 ∷ 0xBFFAAAAAAAAAAAAA ∷ 0xBFC2492492492492 ∷ 0x3FC2492492492492 ∷ 0xC000000000000000
      ∷ 0xBFE5555555555555 ∷ 0x0000000000000000 ∷ 0xC000000000000000 ∷ 0x3FD2492492492492 ∷ 0x0000000000000000 ∷ 0xC000000000000000 ∷ 0x3FC2492492492492
      ∷ 0x3FC2492492492492 ∷ 0xC000000000000000 ∷ 0x0000000000000000 ∷ 0xBFC2492492492492 ∷ 0xBFFDB6DB6DB6DB6E ∷ 0x3FC2492492492492 ∷ 0x0000000000000000
      ∷ 0xBFFDB6DB6DB6DB6E ∷ 0x0000000000000000 ∷ 0x3FC2492492492492 ∷ 0xBFFDB6DB6DB6DB6E ∷ 0x3FE0000000000000 ∷ 0xBFF8000000000000 ∷ 0xC000000000000000
      ∷ 0xBFE6DB6DB6DB6DB7 ∷ 0xBFF0000000000000 ∷ 0xC000000000000000 ∷ 0xBFE0000000000000 ∷ 0xBFE0000000000000 ∷ 0xC000000000000000 ∷ 0xBFF0000000000000
      ∷ 0xBFE5555555555556 ∷ 0xBFFAAAAAAAAAAAAB ∷ 0xBFF8000000000000 ∷ 0xBFF0000000000000 ∷ 0xBFF8000000000000 ∷ 0xC000000000000000 ∷ 0x0000000000000000
      ∷ 0xBFF8000000000000 ∷ 0xBFF4000000000000 ∷ 0x3FD0000000000000 ∷ 0xBFF0000000000000 ∷ 0xBFF0000000000000 ∷ 0x3FD0000000000000 ∷ 0xBFF4000000000000
      ∷ 0xBFE8000000000000 ∷ 0xBFD0000000000000 ∷ 0xBFF0000000000000 ∷ 0xBFE0000000000000 ∷ 0x0000000000000000 ∷ 0xBFF0000000000000 ∷ 0xBFE8000000000000
      ∷ 0x3FD0000000000000 ∷ 0xBFF0000000000000 ∷ 0xBFE8000000000000 ∷ 0x0000000000000000 ∷ 0xBFE8000000000000 ∷ 0xBFF0000000000000 ∷ 0x3FD0000000000000
      ∷ 0xBFE8000000000000 ∷ 0xC002492492492492 ∷ 0xBFF0000000000000 ∷ 0xBFF0000000000000 ∷ 0xC001249249249249 ∷ 0xBFF2492492492492 ∷ 0xBFF0000000000000
      ∷ 0xC000000000000000 ∷ 0xBFE5555555555556 ∷ 0xBFF5555555555555 ∷ 0xC001249249249249 ∷ 0xBFF0000000000000 ∷ 0xBFF2492492492492 ∷ 0xC000000000000000
      ∷ 0xBFF2492492492492 ∷ 0xBFF2492492492492 ∷ 0xBFFDB6DB6DB6DB6E ∷ 0xBFF2492492492492 ∷ 0xBFF0000000000000 ∷ 0xBFFB6DB6DB6DB6DC ∷ 0xBFF0000000000000
      ∷ 0xBFF0000000000000 ∷ 0xC000000000000000 ∷ 0xBFF2492492492492 ∷ 0xBFEB6DB6DB6DB6DC ∷ 0xC000000000000000 ∷ 0xBFE0000000000000 ∷ 0xBFE0000000000000
      ∷ 0xC001249249249249 ∷ 0xBFF0000000000000 ∷ 0xBFEB6DB6DB6DB6DC ∷ 0xBFF8000000000000 ∷ 0x0000000000000000 ∷ 0xBFF8000000000000 ∷ 0xC004000000000000
      ∷ 0x0000000000000000 ∷ 0xBFF8000000000000 ∷ 0xBFF4924924924924 ∷ 0xBFF0000000000000 ∷ 0x0000000000000000 ∷ 0xBFF2492492492492 ∷ 0xBFF2492492492492
      ∷ 0x0000000000000000 ∷ 0xBFF0000000000000 ∷ 0xBFF2492492492492 ∷ 0xBFC2492492492492 ∷ 0xBFEB6DB6DB6DB6DC ∷ 0xBFF0000000000000 ∷ 0xBFC2492492492492
      ∷ 0xBFEB6DB6DB6DB6DC ∷ 0xBFEB6DB6DB6DB6DC ∷ 0x0000000000000000 ∷ 0xC002AAAAAAAAAAAB ∷ 0x0000000000000000 ∷ 0xBFD5555555555555 ∷ 0xBFFAAAAAAAAAAAAB
      ∷ 0x0000000000000000 ∷ 0xBFD5555555555555 ∷ 0xBFF8000000000000 ∷ 0xBFE0000000000000 ∷ 0x0000000000000000 ∷ 0xC00A000000000000 ∷ 0xBFD0000000000000
      ∷ 0xBFF0000000000000 ∷ 0xC008000000000000 ∷ 0xBFD0000000000000 ∷ 0xBFF4000000000000 ∷ 0xC006000000000000 ∷ 0x3FD0000000000000 ∷ 0xBFF0000000000000
      ∷ 0xC008000000000000 ∷ 0xBFD0000000000000 ∷ 0xBFE8000000000000 ∷ 0xC008000000000000 ∷ 0x3FD0000000000000 ∷ 0xBFE8000000000000 ∷ 0xC00A000000000000
      ∷ 0x0000000000000000 ∷ 0xBFE8000000000000 ∷ []);
}
unfolding two-rounds answer answer_of stages_key
two-rounds-is = refl
