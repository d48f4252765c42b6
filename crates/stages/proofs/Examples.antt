-- What an example asks and says: masks, clusters, splits, rounds, edge table, vertex book, triangles and positions of a box, computed from its samples.
-- SmallBoxes and TwoRounds hold the oracle's answers. Assumes nothing.
use mathlib.Core.Bool.{Bool}
use mathlib.Core.List.{List, map}
use Prim.Native.Nat.{ℕ}
use lib.Count.{count_trailing_zeros}
use lib.Ieee.{Float, binary64, lt, neg, add, sub, mul, div, of_int, of_bits}
use Rattle.laws.specs.Bools.{bit}
use Rattle.laws.specs.Ranges.{each, any, sum}
use Rattle.laws.specs.Lists.{keep, count, joined}
use Rattle.laws.specs.Digits.{digit, is_set, mask}
use Rattle.laws.specs.Triangles.{flat, sides_of}
use Rattle.tables.specs.Edges.{corners, corner_of, label_to, du, dv, dw, are_neighbours, neighbour_mask}
use Rattle.tables.specs.Tets.{tet_label, tet_corner, tet_pairs, tet_pair, edge_of, edge_in}
use Rattle.tables.specs.Cases.{mt_table, mt_row}
use Rattle.tables.specs.FlatHoles.{hole_of, flat_holes, flat_hole}
use Rattle.samples.specs.Sides.{base, inside, finite, when_finite, known, mark_fraction, hold, point_fraction, crossing, is_near}
use Rattle.lattice.specs.declared.Sides.{Sides}
use Rattle.lattice.specs.Sites.{sites, in_box, site_of, uvw_of, step, ijk_of}
use Rattle.lattice.specs.Across.{upward, downward, across_at, across_of}
use Rattle.march.specs.Cells.{at, case_of, tet_ok, case_no, on_each, tet_tris, cell_tris}
use Rattle.march.specs.March.{none, ok_at, side_at, vertex_at, corners_of, vertex_in, resolved, proper, emitted, site_tris, slab, march}
use Rattle.march.specs.Runs.{runs, touches}
use Rattle.marks.specs.Marks.{marked_by, marked, mask_at, masks_of, crossed_by, is_crossed, crossed_count}
use Rattle.topology.specs.Walk.{low_bit, found, rem_turn, fr_turn, comp_turn, walk, first, walks_in, walks, components}
use Rattle.topology.specs.Flat.{collapses, collapses_at, pairs_collapse, row_flat, is_flat}
use Rattle.topology.specs.Topology.{kind_of, singles, topology_of}
use Rattle.topology.specs.Topology as topology
use Rattle.points.specs.declared.Frame.{Frame}
use Rattle.points.specs.Positions.{frame_of, along, position}
use Rattle.points.specs.EdgePoints.{interpolate, edge_point}
use Rattle.points.specs.Means.{mean_of}
use Rattle.stages.specs.Boxes.{Box, reach, owned}
use Rattle.stages.specs.Vertices.{Vertex, fresh, nobody, held, keys, several, apart, filled, site_vertices, candidates}
use Rattle.stages.specs.Meshes.{numbers, holds, find, table_of, book_of, positions_of, field_of, mesh_of}
use Rattle.stages.specs.Splits.{is_crowded, crowded_sides, some, end_of, place_by, split_by, split_count, crowded_pairs, split}
use Rattle.stages.specs.Rounds.{on_crowded, crowded_tris, cluster_of, owns, owners, is_in, rolled, retired, retire, live_at, regrown, rollback, given, rounds, rounds_done, built}
use Rattle.stages.specs.Samples.{end_by, ends_of, edges_of, clusters_at, point_by, box_of, place_of, points_of, position_at}

-- `unfolding stages_key` opens the definition, so that a build computes
unfoldable pub stages_key : Unit {0}
unfolding lt neg add sub mul div of_int of_bits count_trailing_zeros bit each any sum keep count joined digit is_set mask corners corner_of du dv dw are_neighbours neighbour_mask label_to tet_label tet_corner tet_pairs tet_pair edge_of edge_in flat sides_of mt_table mt_row hole_of flat_holes flat_hole inside finite when_finite known mark_fraction hold point_fraction crossing is_near sites in_box site_of uvw_of step ijk_of upward downward across_at across_of at case_of tet_ok case_no on_each tet_tris cell_tris none ok_at side_at vertex_at corners_of vertex_in resolved proper emitted site_tris slab march runs touches marked_by marked mask_at masks_of crossed_by is_crossed crossed_count low_bit found rem_turn fr_turn comp_turn walk first walks walks_in components collapses collapses_at pairs_collapse row_flat is_flat kind_of singles topology.case_of topology_of reach owned fresh nobody held keys several apart filled site_vertices candidates numbers holds find table_of book_of field_of mesh_of is_crowded crowded_sides some end_of place_by split_by crowded_pairs split on_crowded crowded_tris cluster_of owns owners is_in rolled retired retire live_at regrown rollback given rounds rounds_done built end_by ends_of edges_of clusters_at point_by box_of frame_of along position interpolate edge_point mean_of positions_of place_of points_of position_at
stages_key = tt

-- numbers by their bits
abbrev pub words : List ℕ → List Float
words l = map (of_bits binary64) l

abbrev pub frame : (a b c d e f : ℕ) → Frame
frame a b c d e f =
    frame_of (record { x = of_bits binary64 a; y = of_bits binary64 b; z = of_bits binary64 c }) (record { x = of_bits binary64 d; y = of_bits binary64 e; z = of_bits binary64 f })

pub record Input : Type 0 where
  pub sides : Sides
  pub cluster : Bool
  pub rounds : ℕ
  -- the frame: the origin's three coordinates, then the step's
  pub frame : Frame
  pub samples : List Float

pub record Answer : Type 0 where
  pub crossed : ℕ
  pub masks : List ℕ
  pub clusters : List (List (List ℕ))
  pub split : ℕ
  pub rounds : ℕ
  pub table : List ℕ
  pub book : List ℕ
  pub triangles : List ℕ
  pub positions : List Float

-- of a box and its vertices at the end
unfoldable pub answer_of : Input → Box → List Vertex → Answer
answer_of i b vs = record {
  crossed = crossed_count i.sides i.samples base;
  masks = masks_of i.sides i.samples base;
  clusters = map b.clusters (numbers (sites i.sides));
  split = split_count (crowded_pairs b) 0 (candidates b);
  rounds = rounds_done b i.rounds 1 (split b);
  table = table_of b vs;
  book = book_of vs;
  triangles = flat (mesh_of b vs);
  positions = positions_of (position_at i.frame i.sides i.samples) vs;
}

unfoldable pub answer : Input → Answer
answer i =
    let b = box_of i.sides i.samples base i.cluster in
    answer_of i b (built b i.rounds)
