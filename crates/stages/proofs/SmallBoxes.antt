-- The definition computes the oracle's answers of small boxes, from their samples. Written by tools/oracle/examples: change that, not this. Assumes nothing.
use mathlib.Core.Path.{◌≡◌, refl}
use mathlib.Core.Bool.{true, false}
use mathlib.Core.List.{[], ◌∷◌}
use Rattle.march.specs.March.{none}
use Rattle.stages.proofs.Examples.{Input, words, frame, answer_of, answer, stages_key}

-- centre -1, all others 1: 3 x 3 x 3, 8 vertices, 12 triangles, 0 split, rounds done 0
unfoldable centre : Input
centre = record {
  sides = record { nu = 3; nv = 3; nw = 3 };
  cluster = true;
  rounds = 4;
  frame = frame 0x0000000000000000 0x0000000000000000 0x0000000000000000 0x3FF0000000000000 0x3FF0000000000000 0x3FF0000000000000;
  samples = words
      (0x3FF0000000000000 ∷ 0x3FF0000000000000 ∷ 0x3FF0000000000000 ∷ 0x3FF0000000000000 ∷ 0x3FF0000000000000 ∷ 0x3FF0000000000000 ∷ 0x3FF0000000000000
      ∷ 0x3FF0000000000000 ∷ 0x3FF0000000000000 ∷ 0x3FF0000000000000 ∷ 0x3FF0000000000000 ∷ 0x3FF0000000000000 ∷ 0x3FF0000000000000 ∷ 0xBFF0000000000000
      ∷ 0x3FF0000000000000 ∷ 0x3FF0000000000000 ∷ 0x3FF0000000000000 ∷ 0x3FF0000000000000 ∷ 0x3FF0000000000000 ∷ 0x3FF0000000000000 ∷ 0x3FF0000000000000
      ∷ 0x3FF0000000000000 ∷ 0x3FF0000000000000 ∷ 0x3FF0000000000000 ∷ 0x3FF0000000000000 ∷ 0x3FF0000000000000 ∷ 0x3FF0000000000000 ∷ []);
}

centre-is : answer centre ≡ record {
  crossed = 14;
  masks =
      (0 ∷ 0 ∷ 0 ∷ 0 ∷ 0 ∷ 0 ∷ 0 ∷ 0 ∷ 0 ∷ 0 ∷ 0 ∷ 0 ∷ 0 ∷ 16256 ∷ 128 ∷ 0 ∷ 512 ∷ 256 ∷ 0 ∷ 0 ∷ 0 ∷ 0 ∷ 8192 ∷ 1024 ∷ 0 ∷ 4096 ∷ 2048 ∷ []);
  clusters =
      ([] ∷ [] ∷ [] ∷ [] ∷ [] ∷ [] ∷ [] ∷ [] ∷ [] ∷ [] ∷ [] ∷ [] ∷ [] ∷ ((7 ∷ 8 ∷ 9 ∷ 10 ∷ 11 ∷ 12 ∷ 13 ∷ []) ∷ []) ∷ ((7 ∷ []) ∷ []) ∷ [] ∷ ((9 ∷ []) ∷ [])
      ∷ ((8 ∷ []) ∷ []) ∷ [] ∷ [] ∷ [] ∷ [] ∷ ((13 ∷ []) ∷ []) ∷ ((10 ∷ []) ∷ []) ∷ [] ∷ ((12 ∷ []) ∷ []) ∷ ((11 ∷ []) ∷ []) ∷ []);
  split = 0;
  rounds = 0;
  table =
      (none ∷ none ∷ none ∷ none ∷ 0 ∷ none ∷ none ∷ none ∷ none ∷ none ∷ none ∷ none ∷ 0 ∷ none ∷ none ∷ none ∷ none ∷ none ∷ none ∷ none ∷ none ∷ none ∷ none
      ∷ none ∷ 0 ∷ none ∷ none ∷ none ∷ none ∷ none ∷ none ∷ none ∷ none ∷ none ∷ 0 ∷ none ∷ none ∷ none ∷ none ∷ none ∷ none ∷ none ∷ none ∷ none ∷ none ∷ none
      ∷ none ∷ none ∷ none ∷ none ∷ none ∷ none ∷ none ∷ none ∷ none ∷ none ∷ none ∷ none ∷ none ∷ none ∷ none ∷ none ∷ none ∷ none ∷ 0 ∷ none ∷ none ∷ none
      ∷ none ∷ none ∷ none ∷ none ∷ 0 ∷ none ∷ none ∷ none ∷ none ∷ none ∷ none ∷ none ∷ none ∷ none ∷ none ∷ none ∷ 0 ∷ none ∷ none ∷ none ∷ none ∷ none ∷ none
      ∷ 1 ∷ 3 ∷ 2 ∷ 5 ∷ 7 ∷ 6 ∷ 4 ∷ none ∷ none ∷ none ∷ none ∷ none ∷ none ∷ none ∷ none ∷ none ∷ none ∷ none ∷ none ∷ none ∷ none ∷ none ∷ none ∷ none ∷ none
      ∷ none ∷ none ∷ none ∷ none ∷ none ∷ none ∷ none ∷ none ∷ none ∷ none ∷ none ∷ none ∷ none ∷ none ∷ none ∷ none ∷ none ∷ none ∷ none ∷ none ∷ none ∷ none
      ∷ none ∷ none ∷ none ∷ none ∷ none ∷ none ∷ none ∷ none ∷ none ∷ none ∷ none ∷ none ∷ none ∷ none ∷ none ∷ none ∷ none ∷ none ∷ none ∷ none ∷ none ∷ none
      ∷ none ∷ none ∷ none ∷ none ∷ none ∷ none ∷ none ∷ none ∷ none ∷ none ∷ none ∷ none ∷ none ∷ none ∷ none ∷ none ∷ none ∷ none ∷ none ∷ none ∷ none ∷ none
      ∷ none ∷ none ∷ none ∷ none ∷ none ∷ none ∷ none ∷ []);
  book =
      (13 ∷ 7 ∷ 7 ∷ 0 ∷ 14 ∷ 1 ∷ 1 ∷ 0 ∷ 16 ∷ 1 ∷ 1 ∷ 0 ∷ 17 ∷ 1 ∷ 1 ∷ 0 ∷ 22 ∷ 1 ∷ 1 ∷ 0 ∷ 23 ∷ 1 ∷ 1 ∷ 0 ∷ 25 ∷ 1 ∷ 1 ∷ 0 ∷ 26 ∷ 1 ∷ 1 ∷ 0 ∷ []);
  triangles =
      (0 ∷ 1 ∷ 3 ∷ 0 ∷ 3 ∷ 2 ∷ 0 ∷ 5 ∷ 1 ∷ 0 ∷ 4 ∷ 5 ∷ 0 ∷ 2 ∷ 6 ∷ 0 ∷ 6 ∷ 4 ∷ 1 ∷ 7 ∷ 3 ∷ 1 ∷ 5 ∷ 7 ∷ 5 ∷ 4 ∷ 7 ∷ 3 ∷ 7 ∷ 2 ∷ 2 ∷ 7 ∷ 6 ∷ 7 ∷ 4 ∷ 6 ∷ []);
  positions = words
      (0xBFE6DB6DB6DB6DB6 ∷ 0x0000000000000000 ∷ 0xBFE6DB6DB6DB6DB6 ∷ 0xBFF8000000000000 ∷ 0x3FE0000000000000 ∷ 0xBFF0000000000000 ∷ 0xBFF8000000000000
      ∷ 0xBFE0000000000000 ∷ 0xBFF0000000000000 ∷ 0xC000000000000000 ∷ 0x0000000000000000 ∷ 0xBFF0000000000000 ∷ 0xBFE0000000000000 ∷ 0x0000000000000000
      ∷ 0xBFF8000000000000 ∷ 0xBFF0000000000000 ∷ 0x3FE0000000000000 ∷ 0xBFF8000000000000 ∷ 0xBFF0000000000000 ∷ 0xBFE0000000000000 ∷ 0xBFF8000000000000
      ∷ 0xBFF8000000000000 ∷ 0x0000000000000000 ∷ 0xBFF8000000000000 ∷ []);
}
unfolding centre answer answer_of stages_key
centre-is = refl

-- centre -3, all others 1: 3 x 3 x 3, 14 vertices, 24 triangles, 0 split, rounds done 0
unfoldable deep : Input
deep = record {
  sides = record { nu = 3; nv = 3; nw = 3 };
  cluster = true;
  rounds = 4;
  frame = frame 0x0000000000000000 0x0000000000000000 0x0000000000000000 0x3FF0000000000000 0x3FF0000000000000 0x3FF0000000000000;
  samples = words
      (0x3FF0000000000000 ∷ 0x3FF0000000000000 ∷ 0x3FF0000000000000 ∷ 0x3FF0000000000000 ∷ 0x3FF0000000000000 ∷ 0x3FF0000000000000 ∷ 0x3FF0000000000000
      ∷ 0x3FF0000000000000 ∷ 0x3FF0000000000000 ∷ 0x3FF0000000000000 ∷ 0x3FF0000000000000 ∷ 0x3FF0000000000000 ∷ 0x3FF0000000000000 ∷ 0xC008000000000000
      ∷ 0x3FF0000000000000 ∷ 0x3FF0000000000000 ∷ 0x3FF0000000000000 ∷ 0x3FF0000000000000 ∷ 0x3FF0000000000000 ∷ 0x3FF0000000000000 ∷ 0x3FF0000000000000
      ∷ 0x3FF0000000000000 ∷ 0x3FF0000000000000 ∷ 0x3FF0000000000000 ∷ 0x3FF0000000000000 ∷ 0x3FF0000000000000 ∷ 0x3FF0000000000000 ∷ []);
}

deep_is : answer deep ≡ record {
  crossed = 14;
  masks =
      (16 ∷ 32 ∷ 0 ∷ 8 ∷ 64 ∷ 0 ∷ 0 ∷ 0 ∷ 0 ∷ 2 ∷ 4 ∷ 0 ∷ 1 ∷ 0 ∷ 128 ∷ 0 ∷ 512 ∷ 256 ∷ 0 ∷ 0 ∷ 0 ∷ 0 ∷ 8192 ∷ 1024 ∷ 0 ∷ 4096 ∷ 2048 ∷ []);
  clusters =
      (((4 ∷ []) ∷ []) ∷ ((5 ∷ []) ∷ []) ∷ [] ∷ ((3 ∷ []) ∷ []) ∷ ((6 ∷ []) ∷ []) ∷ [] ∷ [] ∷ [] ∷ [] ∷ ((1 ∷ []) ∷ []) ∷ ((2 ∷ []) ∷ []) ∷ [] ∷ ((0 ∷ []) ∷ [])
      ∷ [] ∷ ((7 ∷ []) ∷ []) ∷ [] ∷ ((9 ∷ []) ∷ []) ∷ ((8 ∷ []) ∷ []) ∷ [] ∷ [] ∷ [] ∷ [] ∷ ((13 ∷ []) ∷ []) ∷ ((10 ∷ []) ∷ []) ∷ [] ∷ ((12 ∷ []) ∷ [])
      ∷ ((11 ∷ []) ∷ []) ∷ []);
  split = 0;
  rounds = 0;
  table =
      (none ∷ none ∷ none ∷ none ∷ 0 ∷ none ∷ none ∷ none ∷ none ∷ none ∷ none ∷ none ∷ 1 ∷ none ∷ none ∷ none ∷ none ∷ none ∷ none ∷ none ∷ none ∷ none ∷ none
      ∷ none ∷ 2 ∷ none ∷ none ∷ none ∷ none ∷ none ∷ none ∷ none ∷ none ∷ none ∷ 3 ∷ none ∷ none ∷ none ∷ none ∷ none ∷ none ∷ none ∷ none ∷ none ∷ none ∷ none
      ∷ none ∷ none ∷ none ∷ none ∷ none ∷ none ∷ none ∷ none ∷ none ∷ none ∷ none ∷ none ∷ none ∷ none ∷ none ∷ none ∷ none ∷ none ∷ 4 ∷ none ∷ none ∷ none
      ∷ none ∷ none ∷ none ∷ none ∷ 5 ∷ none ∷ none ∷ none ∷ none ∷ none ∷ none ∷ none ∷ none ∷ none ∷ none ∷ none ∷ 6 ∷ none ∷ none ∷ none ∷ none ∷ none ∷ none
      ∷ 7 ∷ 9 ∷ 8 ∷ 11 ∷ 13 ∷ 12 ∷ 10 ∷ none ∷ none ∷ none ∷ none ∷ none ∷ none ∷ none ∷ none ∷ none ∷ none ∷ none ∷ none ∷ none ∷ none ∷ none ∷ none ∷ none
      ∷ none ∷ none ∷ none ∷ none ∷ none ∷ none ∷ none ∷ none ∷ none ∷ none ∷ none ∷ none ∷ none ∷ none ∷ none ∷ none ∷ none ∷ none ∷ none ∷ none ∷ none ∷ none
      ∷ none ∷ none ∷ none ∷ none ∷ none ∷ none ∷ none ∷ none ∷ none ∷ none ∷ none ∷ none ∷ none ∷ none ∷ none ∷ none ∷ none ∷ none ∷ none ∷ none ∷ none ∷ none
      ∷ none ∷ none ∷ none ∷ none ∷ none ∷ none ∷ none ∷ none ∷ none ∷ none ∷ none ∷ none ∷ none ∷ none ∷ none ∷ none ∷ none ∷ none ∷ none ∷ none ∷ none ∷ none
      ∷ none ∷ none ∷ none ∷ none ∷ none ∷ none ∷ none ∷ none ∷ []);
  book =
      (0 ∷ 1 ∷ 1 ∷ 0 ∷ 1 ∷ 1 ∷ 1 ∷ 0 ∷ 3 ∷ 1 ∷ 1 ∷ 0 ∷ 4 ∷ 1 ∷ 1 ∷ 0 ∷ 9 ∷ 1 ∷ 1 ∷ 0 ∷ 10 ∷ 1 ∷ 1 ∷ 0 ∷ 12 ∷ 1 ∷ 1 ∷ 0 ∷ 14 ∷ 1 ∷ 1 ∷ 0 ∷ 16 ∷ 1 ∷ 1 ∷ 0 ∷ 17 ∷ 1
      ∷ 1 ∷ 0 ∷ 22 ∷ 1 ∷ 1 ∷ 0 ∷ 23 ∷ 1 ∷ 1 ∷ 0 ∷ 25 ∷ 1 ∷ 1 ∷ 0 ∷ 26 ∷ 1 ∷ 1 ∷ 0 ∷ []);
  triangles =
      (0 ∷ 1 ∷ 3 ∷ 0 ∷ 5 ∷ 1 ∷ 0 ∷ 4 ∷ 5 ∷ 0 ∷ 3 ∷ 2 ∷ 0 ∷ 2 ∷ 6 ∷ 0 ∷ 6 ∷ 4 ∷ 1 ∷ 7 ∷ 3 ∷ 1 ∷ 5 ∷ 7 ∷ 2 ∷ 3 ∷ 8 ∷ 2 ∷ 8 ∷ 6 ∷ 3 ∷ 7 ∷ 9 ∷ 3 ∷ 9 ∷ 8 ∷ 4 ∷ 10 ∷ 5
      ∷ 4 ∷ 6 ∷ 10 ∷ 5 ∷ 11 ∷ 7 ∷ 5 ∷ 10 ∷ 11 ∷ 6 ∷ 8 ∷ 12 ∷ 6 ∷ 12 ∷ 10 ∷ 7 ∷ 13 ∷ 9 ∷ 7 ∷ 11 ∷ 13 ∷ 11 ∷ 10 ∷ 13 ∷ 9 ∷ 13 ∷ 8 ∷ 8 ∷ 13 ∷ 12 ∷ 13 ∷ 10 ∷ 12 ∷ []);
  positions = words
      (0xBFD0000000000000 ∷ 0x0000000000000000 ∷ 0xBFD0000000000000 ∷ 0xBFF0000000000000 ∷ 0x3FE8000000000000 ∷ 0xBFD0000000000000 ∷ 0xBFF0000000000000
      ∷ 0xBFE8000000000000 ∷ 0xBFD0000000000000 ∷ 0xBFFC000000000000 ∷ 0x0000000000000000 ∷ 0xBFD0000000000000 ∷ 0x3FE0000000000000 ∷ 0x0000000000000000
      ∷ 0xBFF0000000000000 ∷ 0xBFD0000000000000 ∷ 0x3FE8000000000000 ∷ 0xBFF0000000000000 ∷ 0xBFD0000000000000 ∷ 0xBFE8000000000000 ∷ 0xBFF0000000000000
      ∷ 0xBFFC000000000000 ∷ 0x3FE8000000000000 ∷ 0xBFF0000000000000 ∷ 0xBFFC000000000000 ∷ 0xBFE8000000000000 ∷ 0xBFF0000000000000 ∷ 0xC004000000000000
      ∷ 0x0000000000000000 ∷ 0xBFF0000000000000 ∷ 0xBFD0000000000000 ∷ 0x0000000000000000 ∷ 0xBFFC000000000000 ∷ 0xBFF0000000000000 ∷ 0x3FE8000000000000
      ∷ 0xBFFC000000000000 ∷ 0xBFF0000000000000 ∷ 0xBFE8000000000000 ∷ 0xBFFC000000000000 ∷ 0xBFFC000000000000 ∷ 0x0000000000000000 ∷ 0xBFFC000000000000 ∷ []);
}
unfolding deep answer answer_of stages_key
deep_is = refl

-- a split: 2 x 3 x 2, 8 vertices, 8 triangles, 1 split, rounds done 0
unfoldable parted : Input
parted = record {
  sides = record { nu = 2; nv = 3; nw = 2 };
  cluster = true;
  rounds = 4;
  frame = frame 0x0000000000000000 0x0000000000000000 0x0000000000000000 0x3FF0000000000000 0x3FF0000000000000 0x3FF0000000000000;
  samples = words
      (0x3FE0000000000000 ∷ 0x4008000000000000 ∷ 0x3FE0000000000000 ∷ 0x4008000000000000 ∷ 0x4008000000000000 ∷ 0x4008000000000000 ∷ 0x4008000000000000
      ∷ 0x4008000000000000 ∷ 0x4008000000000000 ∷ 0xC008000000000000 ∷ 0x4008000000000000 ∷ 0x4008000000000000 ∷ []);
}

parted-is : answer parted ≡ record {
  crossed = 8;
  masks =
      (16 ∷ 0 ∷ 8 ∷ 0 ∷ 0 ∷ 0 ∷ 0 ∷ 0 ∷ 0 ∷ 13184 ∷ 0 ∷ 512 ∷ []);
  clusters =
      (((4 ∷ []) ∷ []) ∷ [] ∷ ((3 ∷ []) ∷ []) ∷ [] ∷ [] ∷ [] ∷ [] ∷ [] ∷ [] ∷ ((7 ∷ 8 ∷ 9 ∷ 12 ∷ 13 ∷ []) ∷ []) ∷ [] ∷ ((9 ∷ []) ∷ []) ∷ []);
  split = 1;
  rounds = 0;
  table =
      (none ∷ none ∷ none ∷ none ∷ 0 ∷ none ∷ none ∷ none ∷ none ∷ none ∷ none ∷ none ∷ 5 ∷ none ∷ none ∷ none ∷ none ∷ 1 ∷ none ∷ none ∷ none ∷ none ∷ none
      ∷ none ∷ none ∷ none ∷ none ∷ 6 ∷ none ∷ none ∷ none ∷ none ∷ none ∷ none ∷ none ∷ none ∷ none ∷ none ∷ none ∷ none ∷ none ∷ none ∷ none ∷ 3 ∷ none ∷ none
      ∷ none ∷ none ∷ none ∷ none ∷ none ∷ 4 ∷ none ∷ none ∷ none ∷ none ∷ 2 ∷ none ∷ none ∷ none ∷ none ∷ none ∷ none ∷ none ∷ none ∷ 7 ∷ none ∷ none ∷ none
      ∷ none ∷ none ∷ none ∷ none ∷ none ∷ none ∷ none ∷ none ∷ none ∷ none ∷ none ∷ none ∷ none ∷ none ∷ none ∷ []);
  book =
      (0 ∷ 1 ∷ 1 ∷ 0 ∷ 2 ∷ 1 ∷ 1 ∷ 0 ∷ 9 ∷ 1 ∷ 1 ∷ 0 ∷ 9 ∷ 1 ∷ 1 ∷ 0 ∷ 9 ∷ 1 ∷ 1 ∷ 0 ∷ 9 ∷ 1 ∷ 1 ∷ 0 ∷ 9 ∷ 1 ∷ 1 ∷ 0 ∷ 11 ∷ 1 ∷ 1 ∷ 0 ∷ []);
  triangles =
      (0 ∷ 5 ∷ 6 ∷ 0 ∷ 4 ∷ 5 ∷ 0 ∷ 3 ∷ 4 ∷ 0 ∷ 6 ∷ 1 ∷ 0 ∷ 1 ∷ 2 ∷ 0 ∷ 2 ∷ 3 ∷ 1 ∷ 6 ∷ 7 ∷ 1 ∷ 7 ∷ 2 ∷ []);
  positions = words
      (0xBFC2492492492492 ∷ 0x0000000000000000 ∷ 0xBFC2492492492492 ∷ 0xBFF0000000000000 ∷ 0xBFEB6DB6DB6DB6DC ∷ 0xBFC2492492492492 ∷ 0xBFE0000000000000
      ∷ 0xBFE0000000000000 ∷ 0xBFF0000000000000 ∷ 0x0000000000000000 ∷ 0x0000000000000000 ∷ 0xBFF0000000000000 ∷ 0xBFE0000000000000 ∷ 0x3FE0000000000000
      ∷ 0xBFF0000000000000 ∷ 0xBFF0000000000000 ∷ 0x3FE0000000000000 ∷ 0xBFE0000000000000 ∷ 0xBFF8000000000000 ∷ 0x0000000000000000 ∷ 0xBFE0000000000000
      ∷ 0xBFF8000000000000 ∷ 0xBFE0000000000000 ∷ 0xBFF0000000000000 ∷ []);
}
unfolding parted answer answer_of stages_key
parted-is = refl

-- a split and a round, in another frame: 3 x 2 x 2, 16 vertices, 17 triangles, 2 split, rounds done 1
unfoldable one_round : Input
one_round = record {
  sides = record { nu = 3; nv = 2; nw = 2 };
  cluster = true;
  rounds = 4;
  frame = frame 0x3FE0000000000000 0xC002000000000000 0x408F40CCCCCCCCCD 0x3FB999999999999A 0x3FE6666666666666 0x4008000000000000;
  samples = words
      (0x3FF0000000000000 ∷ 0xBFF0000000000000 ∷ 0xC008000000000000 ∷ 0xC008000000000000 ∷ 0x3FE0000000000000 ∷ 0x4008000000000000 ∷ 0xC008000000000000
      ∷ 0x4008000000000000 ∷ 0xC008000000000000 ∷ 0xC008000000000000 ∷ 0xBFF0000000000000 ∷ 0x4008000000000000 ∷ []);
}

one_round-is : answer one_round ≡ record {
  crossed = 18;
  masks =
      (100 ∷ 210 ∷ 0 ∷ 0 ∷ 704 ∷ 512 ∷ 0 ∷ 128 ∷ 128 ∷ 0 ∷ 2561 ∷ 4608 ∷ []);
  clusters =
      (((2 ∷ 5 ∷ 6 ∷ []) ∷ []) ∷ ((1 ∷ 4 ∷ 6 ∷ 7 ∷ []) ∷ []) ∷ [] ∷ [] ∷ ((6 ∷ 7 ∷ 9 ∷ []) ∷ []) ∷ ((9 ∷ []) ∷ []) ∷ [] ∷ ((7 ∷ []) ∷ []) ∷ ((7 ∷ []) ∷ []) ∷ []
      ∷ ((0 ∷ 9 ∷ 11 ∷ []) ∷ []) ∷ ((9 ∷ 12 ∷ []) ∷ []) ∷ []);
  split = 2;
  rounds = 1;
  table =
      (15 ∷ none ∷ 0 ∷ none ∷ 10 ∷ 0 ∷ 0 ∷ none ∷ 12 ∷ 4 ∷ none ∷ 13 ∷ none ∷ 14 ∷ none ∷ none ∷ 5 ∷ none ∷ none ∷ 11 ∷ none ∷ 3 ∷ none ∷ none ∷ none ∷ none
      ∷ none ∷ none ∷ none ∷ none ∷ none ∷ none ∷ none ∷ none ∷ 2 ∷ none ∷ none ∷ none ∷ none ∷ none ∷ none ∷ none ∷ 6 ∷ none ∷ none ∷ none ∷ none ∷ none ∷ none
      ∷ 7 ∷ none ∷ 9 ∷ none ∷ none ∷ none ∷ none ∷ none ∷ none ∷ 11 ∷ none ∷ none ∷ none ∷ none ∷ none ∷ none ∷ none ∷ none ∷ none ∷ none ∷ none ∷ 8 ∷ none
      ∷ none ∷ none ∷ none ∷ none ∷ none ∷ none ∷ none ∷ none ∷ none ∷ none ∷ none ∷ none ∷ []);
  book =
      (0 ∷ 3 ∷ 3 ∷ 0 ∷ 1 ∷ 0 ∷ 4 ∷ 0 ∷ 4 ∷ 1 ∷ 1 ∷ 0 ∷ 4 ∷ 1 ∷ 1 ∷ 0 ∷ 4 ∷ 1 ∷ 1 ∷ 0 ∷ 5 ∷ 1 ∷ 1 ∷ 0 ∷ 7 ∷ 1 ∷ 1 ∷ 0 ∷ 8 ∷ 1 ∷ 1 ∷ 0 ∷ 10 ∷ 1 ∷ 1 ∷ 0 ∷ 10 ∷ 1
      ∷ 1 ∷ 0 ∷ 10 ∷ 1 ∷ 1 ∷ 0 ∷ 11 ∷ 2 ∷ 2 ∷ 0 ∷ 1 ∷ 1 ∷ 1 ∷ 1 ∷ 1 ∷ 1 ∷ 1 ∷ 1 ∷ 1 ∷ 1 ∷ 1 ∷ 1 ∷ 1 ∷ 1 ∷ 1 ∷ 1 ∷ []);
  triangles =
      (2 ∷ 10 ∷ 15 ∷ 2 ∷ 15 ∷ 4 ∷ 14 ∷ 15 ∷ 10 ∷ 14 ∷ 10 ∷ 9 ∷ 9 ∷ 10 ∷ 0 ∷ 9 ∷ 0 ∷ 6 ∷ 3 ∷ 0 ∷ 10 ∷ 3 ∷ 10 ∷ 2 ∷ 11 ∷ 13 ∷ 12 ∷ 11 ∷ 12 ∷ 5 ∷ 7 ∷ 14 ∷ 13 ∷ 7
      ∷ 13 ∷ 11 ∷ 12 ∷ 13 ∷ 4 ∷ 2 ∷ 4 ∷ 13 ∷ 2 ∷ 13 ∷ 8 ∷ 8 ∷ 13 ∷ 14 ∷ 8 ∷ 14 ∷ 9 ∷ []);
  positions = words
      (0x3FE0000000000000 ∷ 0xC002EEEEEEEEEEEE ∷ 0x408F3CCCCCCCCCCD ∷ 0x3FD9999999999999 ∷ 0xBFFA333333333334 ∷ 0x408F3DCCCCCCCCCD ∷ 0x3FD5555555555555
      ∷ 0xC002000000000000 ∷ 0x408F38CCCCCCCCCD ∷ 0x3FD41D41D41D41D4 ∷ 0xC002CCCCCCCCCCCD ∷ 0x408F40CCCCCCCCCD ∷ 0x3FD5555555555555 ∷ 0xC000222222222222
      ∷ 0x408F40CCCCCCCCCD ∷ 0x3FCFFFFFFFFFFFFF ∷ 0xBFF3333333333334 ∷ 0x408F40CCCCCCCCCD ∷ 0x3FE199999999999A ∷ 0xBFFE666666666666 ∷ 0x408F28CCCCCCCCCD
      ∷ 0x3FDCCCCCCCCCCCCD ∷ 0xBFF3333333333334 ∷ 0x408F28CCCCCCCCCD ∷ 0x3FD8000000000000 ∷ 0xC00099999999999A ∷ 0x408F28CCCCCCCCCD ∷ 0x3FDB333333333334
      ∷ 0xC00099999999999A ∷ 0x408F28CCCCCCCCCD ∷ 0x3FDCCCCCCCCCCCCD ∷ 0xC002000000000000 ∷ 0x408F34CCCCCCCCCD ∷ 0x3FD4CCCCCCCCCCCC ∷ 0xBFF3333333333334
      ∷ 0x408F2ECCCCCCCCCD ∷ 0x3FD6666666666666 ∷ 0xBFF8CCCCCCCCCCCD ∷ 0x408F40CCCCCCCCCD ∷ 0x3FD8000000000000 ∷ 0xBFF8CCCCCCCCCCCD ∷ 0x408F3ACCCCCCCCCD
      ∷ 0x3FDB333333333334 ∷ 0xBFF8CCCCCCCCCCCD ∷ 0x408F3ACCCCCCCCCD ∷ 0x3FDCCCCCCCCCCCCD ∷ 0xBFFE666666666666 ∷ 0x408F40CCCCCCCCCD ∷ []);
}
unfolding one_round answer answer_of stages_key
one_round-is = refl

-- an infinite sample, a split and a round: 2 x 2 x 3, 15 vertices, 12 triangles, 2 split, rounds done 1
unfoldable beyond : Input
beyond = record {
  sides = record { nu = 2; nv = 2; nw = 3 };
  cluster = true;
  rounds = 4;
  frame = frame 0x0000000000000000 0x0000000000000000 0x0000000000000000 0x3FF0000000000000 0x3FF0000000000000 0x3FF0000000000000;
  samples = words
      (0xBFF0000000000000 ∷ 0xC008000000000000 ∷ 0xC008000000000000 ∷ 0xC008000000000000 ∷ 0x3FF0000000000000 ∷ 0xBFE0000000000000 ∷ 0xFFF0000000000000
      ∷ 0x3FF0000000000000 ∷ 0xC008000000000000 ∷ 0x4008000000000000 ∷ 0xC008000000000000 ∷ 0xC008000000000000 ∷ []);
}

beyond-is : answer beyond ≡ record {
  crossed = 16;
  masks =
      (0 ∷ 0 ∷ 0 ∷ 0 ∷ 8308 ∷ 196 ∷ 0 ∷ 15552 ∷ 0 ∷ 128 ∷ 0 ∷ 512 ∷ []);
  clusters =
      ([] ∷ [] ∷ [] ∷ [] ∷ ((2 ∷ 4 ∷ 5 ∷ 6 ∷ 13 ∷ []) ∷ []) ∷ ((2 ∷ 6 ∷ 7 ∷ []) ∷ []) ∷ [] ∷ ((6 ∷ 7 ∷ 10 ∷ 11 ∷ 12 ∷ 13 ∷ []) ∷ []) ∷ [] ∷ ((7 ∷ []) ∷ []) ∷ []
      ∷ ((9 ∷ []) ∷ []) ∷ []);
  split = 2;
  rounds = 1;
  table =
      (none ∷ none ∷ none ∷ none ∷ 12 ∷ none ∷ 3 ∷ none ∷ none ∷ none ∷ none ∷ none ∷ 13 ∷ none ∷ none ∷ none ∷ none ∷ 11 ∷ none ∷ none ∷ none ∷ none ∷ none
      ∷ none ∷ none ∷ none ∷ none ∷ 14 ∷ 6 ∷ none ∷ none ∷ none ∷ 0 ∷ 1 ∷ 2 ∷ none ∷ none ∷ 4 ∷ none ∷ none ∷ none ∷ 5 ∷ none ∷ none ∷ none ∷ none ∷ none ∷ none
      ∷ none ∷ none ∷ none ∷ none ∷ none ∷ none ∷ none ∷ 10 ∷ 8 ∷ none ∷ none ∷ none ∷ none ∷ none ∷ none ∷ none ∷ none ∷ 9 ∷ none ∷ none ∷ none ∷ none ∷ none
      ∷ none ∷ none ∷ none ∷ none ∷ none ∷ none ∷ none ∷ none ∷ none ∷ none ∷ none ∷ none ∷ none ∷ []);
  book =
      (4 ∷ 1 ∷ 1 ∷ 0 ∷ 4 ∷ 1 ∷ 1 ∷ 0 ∷ 4 ∷ 1 ∷ 1 ∷ 0 ∷ 4 ∷ 1 ∷ 1 ∷ 0 ∷ 5 ∷ 1 ∷ 1 ∷ 0 ∷ 5 ∷ 1 ∷ 1 ∷ 0 ∷ 5 ∷ 1 ∷ 1 ∷ 0 ∷ 7 ∷ 0 ∷ 5 ∷ 0 ∷ 9 ∷ 1 ∷ 1 ∷ 0 ∷ 11 ∷ 1 ∷ 1
      ∷ 0 ∷ 7 ∷ 1 ∷ 1 ∷ 1 ∷ 7 ∷ 1 ∷ 1 ∷ 1 ∷ 7 ∷ 1 ∷ 1 ∷ 1 ∷ 7 ∷ 1 ∷ 1 ∷ 1 ∷ 7 ∷ 1 ∷ 1 ∷ 1 ∷ []);
  triangles =
      (12 ∷ 14 ∷ 13 ∷ 12 ∷ 13 ∷ 4 ∷ 6 ∷ 3 ∷ 12 ∷ 6 ∷ 12 ∷ 4 ∷ 12 ∷ 11 ∷ 14 ∷ 10 ∷ 0 ∷ 6 ∷ 10 ∷ 6 ∷ 4 ∷ 5 ∷ 6 ∷ 0 ∷ 5 ∷ 0 ∷ 9 ∷ 9 ∷ 0 ∷ 2 ∷ 9 ∷ 2 ∷ 8 ∷ 0 ∷ 1 ∷ 2
      ∷ []);
  positions = words
      (0x3FE8000000000000 ∷ 0x0000000000000000 ∷ 0xBFF4000000000000 ∷ 0x3FF0000000000000 ∷ 0xBFD0000000000000 ∷ 0xBFF4000000000000 ∷ 0x3FF4000000000000
      ∷ 0x0000000000000000 ∷ 0xBFF4000000000000 ∷ 0x3FE0000000000000 ∷ 0x0000000000000000 ∷ 0xBFE0000000000000 ∷ 0xBFD5555555555555 ∷ 0x3FE5555555555556
      ∷ 0xBFF0000000000000 ∷ 0x3FC2492492492492 ∷ 0x3FF0000000000000 ∷ 0xBFF2492492492492 ∷ 0x3FD5555555555555 ∷ 0x3FE5555555555556 ∷ 0xBFF0000000000000
      ∷ 0xBFECCCCCCCCCCCCD ∷ 0x0000000000000000 ∷ 0xBFE999999999999A ∷ 0x3FF8000000000000 ∷ 0x3FE0000000000000 ∷ 0xC000000000000000 ∷ 0x3FE0000000000000
      ∷ 0x3FE0000000000000 ∷ 0xC000000000000000 ∷ 0xBFE8000000000000 ∷ 0x0000000000000000 ∷ 0xBFF4000000000000 ∷ 0xBFF0000000000000 ∷ 0xBFD0000000000000
      ∷ 0xBFE8000000000000 ∷ 0xBFE0000000000000 ∷ 0x0000000000000000 ∷ 0xBFE0000000000000 ∷ 0xBFF0000000000000 ∷ 0x3FD0000000000000 ∷ 0xBFE8000000000000
      ∷ 0xBFF4000000000000 ∷ 0x0000000000000000 ∷ 0xBFE8000000000000 ∷ []);
}
unfolding beyond answer answer_of stages_key
beyond-is = refl

-- a cluster with edges that have no point: 2 x 2 x 1, 1 vertices, 0 triangles, 0 split, rounds done 0
unfoldable pointless : Input
pointless = record {
  sides = record { nu = 2; nv = 2; nw = 1 };
  cluster = true;
  rounds = 4;
  frame = frame 0x0000000000000000 0x0000000000000000 0x0000000000000000 0x3FF0000000000000 0x3FF0000000000000 0x3FF0000000000000;
  samples = words
      (0x7FF0000000000000 ∷ 0x4008000000000000 ∷ 0x4008000000000000 ∷ 0xBFE0000000000000 ∷ []);
}

pointless-is : answer pointless ≡ record {
  crossed = 3;
  masks =
      (0 ∷ 0 ∷ 0 ∷ 896 ∷ []);
  clusters =
      ([] ∷ [] ∷ [] ∷ ((7 ∷ 8 ∷ 9 ∷ []) ∷ []) ∷ []);
  split = 0;
  rounds = 0;
  table =
      (none ∷ none ∷ none ∷ none ∷ none ∷ none ∷ none ∷ none ∷ none ∷ 0 ∷ none ∷ none ∷ none ∷ none ∷ 0 ∷ none ∷ none ∷ none ∷ none ∷ none ∷ none ∷ none ∷ none
      ∷ none ∷ none ∷ none ∷ none ∷ none ∷ []);
  book =
      (3 ∷ 2 ∷ 2 ∷ 0 ∷ []);
  triangles =
      ([]);
  positions = words
      (0xBFFDB6DB6DB6DB6E ∷ 0x0000000000000000 ∷ 0x0000000000000000 ∷ []);
}
unfolding pointless answer answer_of stages_key
pointless-is = refl

-- not clustered, twelve triangles in a cell: 2 x 2 x 2, 12 vertices, 12 triangles, 0 split, rounds done 0
unfoldable plain : Input
plain = record {
  sides = record { nu = 2; nv = 2; nw = 2 };
  cluster = false;
  rounds = 4;
  frame = frame 0x0000000000000000 0x0000000000000000 0x0000000000000000 0x3FF0000000000000 0x3FF0000000000000 0x3FF0000000000000;
  samples = words
      (0xBFF0000000000000 ∷ 0x3FF0000000000000 ∷ 0x3FF0000000000000 ∷ 0x3FF0000000000000 ∷ 0x3FF0000000000000 ∷ 0x3FF0000000000000 ∷ 0x3FF0000000000000
      ∷ 0xBFF0000000000000 ∷ []);
}

plain-is : answer plain ≡ record {
  crossed = 12;
  masks =
      (0 ∷ 128 ∷ 512 ∷ 256 ∷ 8192 ∷ 1024 ∷ 4096 ∷ 14208 ∷ []);
  clusters =
      ([] ∷ ((7 ∷ []) ∷ []) ∷ ((9 ∷ []) ∷ []) ∷ ((8 ∷ []) ∷ []) ∷ ((13 ∷ []) ∷ []) ∷ ((10 ∷ []) ∷ []) ∷ ((12 ∷ []) ∷ [])
      ∷ ((7 ∷ []) ∷ (8 ∷ []) ∷ (9 ∷ []) ∷ (10 ∷ []) ∷ (12 ∷ []) ∷ (13 ∷ []) ∷ []) ∷ []);
  split = 0;
  rounds = 0;
  table =
      (0 ∷ 2 ∷ 1 ∷ 4 ∷ none ∷ 5 ∷ 3 ∷ none ∷ none ∷ none ∷ none ∷ none ∷ 10 ∷ none ∷ none ∷ none ∷ none ∷ 9 ∷ none ∷ none ∷ none ∷ none ∷ none ∷ none ∷ none
      ∷ none ∷ none ∷ 11 ∷ none ∷ 7 ∷ none ∷ none ∷ none ∷ none ∷ none ∷ none ∷ none ∷ 8 ∷ none ∷ none ∷ none ∷ none ∷ 6 ∷ none ∷ none ∷ none ∷ none ∷ none
      ∷ none ∷ none ∷ none ∷ none ∷ none ∷ none ∷ none ∷ none ∷ []);
  book =
      (1 ∷ 1 ∷ 1 ∷ 0 ∷ 2 ∷ 1 ∷ 1 ∷ 0 ∷ 3 ∷ 1 ∷ 1 ∷ 0 ∷ 4 ∷ 1 ∷ 1 ∷ 0 ∷ 5 ∷ 1 ∷ 1 ∷ 0 ∷ 6 ∷ 1 ∷ 1 ∷ 0 ∷ 7 ∷ 1 ∷ 1 ∷ 0 ∷ 7 ∷ 1 ∷ 1 ∷ 0 ∷ 7 ∷ 1 ∷ 1 ∷ 0 ∷ 7 ∷ 1 ∷ 1
      ∷ 0 ∷ 7 ∷ 1 ∷ 1 ∷ 0 ∷ 7 ∷ 1 ∷ 1 ∷ 0 ∷ []);
  triangles =
      (11 ∷ 2 ∷ 0 ∷ 11 ∷ 0 ∷ 10 ∷ 10 ∷ 0 ∷ 4 ∷ 10 ∷ 4 ∷ 8 ∷ 8 ∷ 4 ∷ 3 ∷ 8 ∷ 3 ∷ 7 ∷ 9 ∷ 1 ∷ 2 ∷ 9 ∷ 2 ∷ 11 ∷ 6 ∷ 5 ∷ 1 ∷ 6 ∷ 1 ∷ 9 ∷ 7 ∷ 3 ∷ 5 ∷ 7 ∷ 5 ∷ 6 ∷ []);
  positions = words
      (0xBFE0000000000000 ∷ 0x3FE0000000000000 ∷ 0x0000000000000000 ∷ 0xBFE0000000000000 ∷ 0xBFE0000000000000 ∷ 0x0000000000000000 ∷ 0xBFF0000000000000
      ∷ 0x0000000000000000 ∷ 0x0000000000000000 ∷ 0x3FE0000000000000 ∷ 0x0000000000000000 ∷ 0xBFE0000000000000 ∷ 0x0000000000000000 ∷ 0x3FE0000000000000
      ∷ 0xBFE0000000000000 ∷ 0x0000000000000000 ∷ 0xBFE0000000000000 ∷ 0xBFE0000000000000 ∷ 0xBFE0000000000000 ∷ 0xBFE0000000000000 ∷ 0xBFF0000000000000
      ∷ 0x0000000000000000 ∷ 0x0000000000000000 ∷ 0xBFF0000000000000 ∷ 0xBFE0000000000000 ∷ 0x3FE0000000000000 ∷ 0xBFF0000000000000 ∷ 0xBFF0000000000000
      ∷ 0xBFE0000000000000 ∷ 0xBFE0000000000000 ∷ 0xBFF0000000000000 ∷ 0x3FE0000000000000 ∷ 0xBFE0000000000000 ∷ 0xBFF8000000000000 ∷ 0x0000000000000000
      ∷ 0xBFE0000000000000 ∷ []);
}
unfolding plain answer answer_of stages_key
plain-is = refl

-- both samples negative, one inside by a hair: the fraction is held, and the vertex stands at a site: 2 x 1 x 1, 1 vertices, 0 triangles, 0 split, rounds done 0
unfoldable waterline : Input
waterline = record {
  sides = record { nu = 2; nv = 1; nw = 1 };
  cluster = true;
  rounds = 4;
  frame = frame 0x0000000000000000 0x0000000000000000 0x0000000000000000 0x3FF0000000000000 0x3FF0000000000000 0x3FF0000000000000;
  samples = words
      (0xBE112E0BE826D695 ∷ 0xBE112E0BE826D696 ∷ []);
}

waterline-is : answer waterline ≡ record {
  crossed = 1;
  masks =
      (1 ∷ 0 ∷ []);
  clusters =
      (((0 ∷ []) ∷ []) ∷ [] ∷ []);
  split = 0;
  rounds = 0;
  table =
      (0 ∷ none ∷ none ∷ none ∷ none ∷ none ∷ none ∷ none ∷ none ∷ none ∷ none ∷ none ∷ none ∷ none ∷ []);
  book =
      (0 ∷ 1 ∷ 1 ∷ 0 ∷ []);
  triangles =
      ([]);
  positions = words
      (0x0000000000000000 ∷ 0x0000000000000000 ∷ 0x0000000000000000 ∷ []);
}
unfolding waterline answer answer_of stages_key
waterline-is = refl

-- an owner is rolled back that is the third corner of a triangle on a crowded pair only: 3 x 3 x 3, 26 vertices, 35 triangles, 2 split, rounds done 1
unfoldable third : Input
third = record {
  sides = record { nu = 3; nv = 3; nw = 3 };
  cluster = true;
  rounds = 4;
  frame = frame 0x0000000000000000 0x0000000000000000 0x0000000000000000 0x3FF0000000000000 0x3FF0000000000000 0x3FF0000000000000;
  samples = words
      (0x3FE0000000000000 ∷ 0xBFE0000000000000 ∷ 0xC008000000000000 ∷ 0xC008000000000000 ∷ 0x3FF0000000000000 ∷ 0xC008000000000000 ∷ 0xC008000000000000
      ∷ 0xC008000000000000 ∷ 0xC008000000000000 ∷ 0xC008000000000000 ∷ 0xC008000000000000 ∷ 0xC008000000000000 ∷ 0xC008000000000000 ∷ 0x3FE0000000000000
      ∷ 0x3FF0000000000000 ∷ 0xC008000000000000 ∷ 0xC008000000000000 ∷ 0xC008000000000000 ∷ 0xC008000000000000 ∷ 0xC008000000000000 ∷ 0xC008000000000000
      ∷ 0xC008000000000000 ∷ 0xC008000000000000 ∷ 0x4008000000000000 ∷ 0xC008000000000000 ∷ 0xC008000000000000 ∷ 0x4008000000000000 ∷ []);
}

third-is : answer third ≡ record {
  crossed = 36;
  masks =
      (108 ∷ 148 ∷ 0 ∷ 0 ∷ 183 ∷ 0 ∷ 0 ∷ 0 ∷ 0 ∷ 0 ∷ 0 ∷ 0 ∷ 0 ∷ 6118 ∷ 13060 ∷ 0 ∷ 0 ∷ 0 ∷ 0 ∷ 0 ∷ 0 ∷ 0 ∷ 0 ∷ 7040 ∷ 0 ∷ 0 ∷ 9600 ∷ []);
  clusters =
      (((2 ∷ 3 ∷ 5 ∷ 6 ∷ []) ∷ []) ∷ ((2 ∷ 4 ∷ 7 ∷ []) ∷ []) ∷ [] ∷ [] ∷ ((0 ∷ 1 ∷ 2 ∷ 4 ∷ 5 ∷ 7 ∷ []) ∷ []) ∷ [] ∷ [] ∷ [] ∷ [] ∷ [] ∷ [] ∷ [] ∷ []
      ∷ ((1 ∷ 2 ∷ 5 ∷ 6 ∷ 7 ∷ 8 ∷ 9 ∷ 10 ∷ 12 ∷ []) ∷ []) ∷ ((2 ∷ 8 ∷ 9 ∷ 12 ∷ 13 ∷ []) ∷ []) ∷ [] ∷ [] ∷ [] ∷ [] ∷ [] ∷ [] ∷ [] ∷ []
      ∷ ((7 ∷ 8 ∷ 9 ∷ 11 ∷ 12 ∷ []) ∷ []) ∷ [] ∷ [] ∷ ((7 ∷ 8 ∷ 10 ∷ 13 ∷ []) ∷ []) ∷ []);
  split = 2;
  rounds = 1;
  table =
      (25 ∷ none ∷ 19 ∷ 20 ∷ none ∷ 21 ∷ 22 ∷ none ∷ none ∷ 23 ∷ none ∷ 24 ∷ 11 ∷ none ∷ none ∷ none ∷ none ∷ none ∷ none ∷ 15 ∷ none ∷ 2 ∷ none ∷ none ∷ 10
      ∷ none ∷ none ∷ none ∷ 2 ∷ 2 ∷ 2 ∷ none ∷ 2 ∷ 2 ∷ none ∷ none ∷ none ∷ none ∷ none ∷ none ∷ none ∷ 16 ∷ none ∷ none ∷ none ∷ none ∷ none ∷ none ∷ none
      ∷ none ∷ none ∷ none ∷ none ∷ none ∷ none ∷ none ∷ none ∷ none ∷ none ∷ none ∷ none ∷ none ∷ none ∷ none ∷ 8 ∷ none ∷ none ∷ none ∷ none ∷ none ∷ none ∷ 13
      ∷ 9 ∷ none ∷ 17 ∷ none ∷ none ∷ none ∷ none ∷ 14 ∷ none ∷ none ∷ 17 ∷ none ∷ 7 ∷ none ∷ none ∷ none ∷ none ∷ none ∷ none ∷ none ∷ 3 ∷ 4 ∷ none ∷ none ∷ 5
      ∷ 6 ∷ none ∷ none ∷ 12 ∷ none ∷ none ∷ none ∷ none ∷ none ∷ none ∷ none ∷ none ∷ none ∷ none ∷ none ∷ none ∷ none ∷ none ∷ 18 ∷ none ∷ none ∷ none ∷ none
      ∷ none ∷ none ∷ none ∷ none ∷ none ∷ 18 ∷ none ∷ none ∷ none ∷ none ∷ none ∷ none ∷ none ∷ none ∷ 17 ∷ none ∷ none ∷ none ∷ none ∷ none ∷ none ∷ none ∷ 17
      ∷ none ∷ none ∷ none ∷ none ∷ none ∷ none ∷ none ∷ none ∷ none ∷ none ∷ none ∷ 17 ∷ 18 ∷ none ∷ none ∷ none ∷ none ∷ none ∷ none ∷ none ∷ none ∷ none
      ∷ none ∷ none ∷ none ∷ none ∷ none ∷ none ∷ none ∷ none ∷ none ∷ none ∷ 18 ∷ none ∷ none ∷ none ∷ none ∷ none ∷ none ∷ none ∷ none ∷ none ∷ none ∷ none
      ∷ none ∷ none ∷ []);
  book =
      (0 ∷ 0 ∷ 4 ∷ 0 ∷ 1 ∷ 0 ∷ 3 ∷ 0 ∷ 4 ∷ 6 ∷ 6 ∷ 0 ∷ 13 ∷ 1 ∷ 1 ∷ 0 ∷ 13 ∷ 1 ∷ 1 ∷ 0 ∷ 13 ∷ 1 ∷ 1 ∷ 0 ∷ 13 ∷ 1 ∷ 1 ∷ 0 ∷ 13 ∷ 1 ∷ 1 ∷ 0 ∷ 13 ∷ 1 ∷ 1 ∷ 0 ∷ 13
      ∷ 1 ∷ 1 ∷ 0 ∷ 13 ∷ 1 ∷ 1 ∷ 0 ∷ 13 ∷ 1 ∷ 1 ∷ 0 ∷ 14 ∷ 1 ∷ 1 ∷ 0 ∷ 14 ∷ 1 ∷ 1 ∷ 0 ∷ 14 ∷ 1 ∷ 1 ∷ 0 ∷ 14 ∷ 1 ∷ 1 ∷ 0 ∷ 14 ∷ 1 ∷ 1 ∷ 0 ∷ 23 ∷ 5 ∷ 5 ∷ 0 ∷ 26
      ∷ 4 ∷ 4 ∷ 0 ∷ 0 ∷ 1 ∷ 1 ∷ 1 ∷ 0 ∷ 1 ∷ 1 ∷ 1 ∷ 0 ∷ 1 ∷ 1 ∷ 1 ∷ 0 ∷ 1 ∷ 1 ∷ 1 ∷ 1 ∷ 1 ∷ 1 ∷ 1 ∷ 1 ∷ 1 ∷ 1 ∷ 1 ∷ 1 ∷ 1 ∷ 1 ∷ 1 ∷ []);
  triangles =
      (25 ∷ 23 ∷ 11 ∷ 9 ∷ 20 ∷ 25 ∷ 9 ∷ 25 ∷ 11 ∷ 8 ∷ 22 ∷ 20 ∷ 8 ∷ 20 ∷ 9 ∷ 19 ∷ 10 ∷ 2 ∷ 10 ∷ 19 ∷ 21 ∷ 10 ∷ 21 ∷ 7 ∷ 7 ∷ 21 ∷ 22 ∷ 7 ∷ 22 ∷ 8 ∷ 24 ∷ 16 ∷ 15
      ∷ 24 ∷ 15 ∷ 14 ∷ 24 ∷ 14 ∷ 13 ∷ 16 ∷ 24 ∷ 23 ∷ 16 ∷ 23 ∷ 2 ∷ 23 ∷ 24 ∷ 11 ∷ 9 ∷ 11 ∷ 24 ∷ 9 ∷ 24 ∷ 13 ∷ 2 ∷ 10 ∷ 4 ∷ 10 ∷ 7 ∷ 4 ∷ 16 ∷ 2 ∷ 12 ∷ 2 ∷ 3 ∷ 12
      ∷ 3 ∷ 2 ∷ 4 ∷ 8 ∷ 9 ∷ 6 ∷ 8 ∷ 6 ∷ 7 ∷ 17 ∷ 13 ∷ 14 ∷ 13 ∷ 17 ∷ 9 ∷ 6 ∷ 9 ∷ 17 ∷ 7 ∷ 5 ∷ 4 ∷ 7 ∷ 6 ∷ 5 ∷ 3 ∷ 18 ∷ 12 ∷ 6 ∷ 17 ∷ 18 ∷ 18 ∷ 3 ∷ 4 ∷ 18 ∷ 4 ∷ 5
      ∷ 18 ∷ 5 ∷ 6 ∷ []);
  positions = words
      (0x0000000000000000 ∷ 0xBFA2492492492492 ∷ 0xBFBB6DB6DB6DB6DB ∷ 0xBFF0E38E38E38E38 ∷ 0x3FE71C71C71C71C8 ∷ 0xBFBC71C71C71C71C ∷ 0xC001555555555555
      ∷ 0xBFB5555555555555 ∷ 0xBFB5555555555555 ∷ 0xBFF4924924924924 ∷ 0x0000000000000000 ∷ 0xBFF0000000000000 ∷ 0xBFF2492492492492 ∷ 0xBFC2492492492492
      ∷ 0xBFF0000000000000 ∷ 0xBFF0000000000000 ∷ 0xBFC2492492492492 ∷ 0xBFF2492492492492 ∷ 0xBFEB6DB6DB6DB6DC ∷ 0x0000000000000000 ∷ 0xBFF2492492492492
      ∷ 0xBFEB6DB6DB6DB6DC ∷ 0xBFC2492492492492 ∷ 0xBFF0000000000000 ∷ 0xBFE6DB6DB6DB6DB7 ∷ 0x0000000000000000 ∷ 0xBFF0000000000000 ∷ 0xBFEB6DB6DB6DB6DC
      ∷ 0x3FC2492492492492 ∷ 0xBFF0000000000000 ∷ 0xBFF0000000000000 ∷ 0xBFC2492492492492 ∷ 0xBFEB6DB6DB6DB6DC ∷ 0xBFF0000000000000 ∷ 0x3FE0000000000000
      ∷ 0xBFE0000000000000 ∷ 0xC002000000000000 ∷ 0x3FE8000000000000 ∷ 0xBFF0000000000000 ∷ 0xBFF8000000000000 ∷ 0x3FF0000000000000 ∷ 0xBFF0000000000000
      ∷ 0xBFFC000000000000 ∷ 0x3FF4000000000000 ∷ 0xBFF0000000000000 ∷ 0xC000000000000000 ∷ 0x3FF4000000000000 ∷ 0xBFE8000000000000 ∷ 0xC002000000000000
      ∷ 0x3FF0000000000000 ∷ 0xBFE8000000000000 ∷ 0xBFE0000000000000 ∷ 0x3FF199999999999A ∷ 0xBFFCCCCCCCCCCCCD ∷ 0xBFFC000000000000 ∷ 0xBFD0000000000000
      ∷ 0xBFFC000000000000 ∷ 0xBFC2492492492492 ∷ 0xBFC2492492492492 ∷ 0x0000000000000000 ∷ 0x0000000000000000 ∷ 0x3FC2492492492492 ∷ 0xBFC2492492492492
      ∷ 0x0000000000000000 ∷ 0xBFC2492492492492 ∷ 0xBFC2492492492492 ∷ 0x3FC2492492492492 ∷ 0x0000000000000000 ∷ 0xBFC2492492492492 ∷ 0xBFF5555555555555
      ∷ 0x3FE5555555555556 ∷ 0x0000000000000000 ∷ 0xBFF5555555555555 ∷ 0x3FF0000000000000 ∷ 0xBFD5555555555555 ∷ 0xBFE0000000000000 ∷ 0x3FE0000000000000
      ∷ 0x0000000000000000 ∷ []);
}
unfolding third answer answer_of stages_key
third-is = refl
