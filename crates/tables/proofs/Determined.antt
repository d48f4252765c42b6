-- What each public function promises, as its source states it, determines the answer and every entry of what it is lent. Assumes nothing.
use mathlib.Core.Path.{sym, ◌∙◌}
use Rattle.laws.specs.Promises.{OneAnswer}
use Rattle.tables.proofs.edge_delta.Reads as edge-delta
use Rattle.tables.proofs.reverse_edge.Reads as reverse-edge
use Rattle.tables.proofs.is_delta.Reads as is-delta
use Rattle.tables.proofs.are_neighbours.Reads as are-neighbours
use Rattle.tables.proofs.neighbours_in.Reads as neighbours-in
use Rattle.tables.proofs.neighbour_mask.Reads as neighbour-mask
use Rattle.tables.proofs.flat_hole_rows.Reads as flat-hole-rows
use Rattle.tables.proofs.flat_hole.Reads as flat-hole
use Rattle.tables.proofs.label_corner.Reads as label_corner
use Rattle.tables.proofs.tet_label.Reads as tet-label
use Rattle.tables.proofs.tet_corner.Reads as tet-corner
use Rattle.tables.proofs.tet_edge_pair.Reads as tet-edge-pair
use Rattle.tables.proofs.tet_slot.Reads as tet-slot
use Rattle.tables.proofs.mt_count.Reads as mt-count
use Rattle.tables.proofs.mt_edge.Reads as mt-edge

pub edge_delta_determined : OneAnswer edge-delta.Post
edge_delta_determined κ a y z e f p q = p ∙ sym q

pub reverse_edge_determined : OneAnswer reverse-edge.Post
reverse_edge_determined κ a y z e f p q = p ∙ sym q

pub is_delta_determined : OneAnswer is-delta.Post
is_delta_determined κ a y z e f p q = p ∙ sym q

pub are_neighbours_determined : OneAnswer are-neighbours.Post
are_neighbours_determined κ a y z e f p q = p ∙ sym q

pub neighbours_in_determined : OneAnswer neighbours-in.Post
neighbours_in_determined κ a y z e f p q = p ∙ sym q

pub neighbour_mask_determined : OneAnswer neighbour-mask.Post
neighbour_mask_determined κ a y z e f p q = p ∙ sym q

pub flat_hole_rows_determined : OneAnswer flat-hole-rows.Post
flat_hole_rows_determined κ a y z e f p q = p ∙ sym q

pub flat_hole_determined : OneAnswer flat-hole.Post
flat_hole_determined κ a y z e f p q = p ∙ sym q

pub label_corner_determined : OneAnswer label_corner.Post
label_corner_determined κ a y z e f p q = p ∙ sym q

pub tet_label_determined : OneAnswer tet-label.Post
tet_label_determined κ a y z e f p q = p ∙ sym q

pub tet_corner_determined : OneAnswer tet-corner.Post
tet_corner_determined κ a y z e f p q = p ∙ sym q

pub tet_edge_pair_determined : OneAnswer tet-edge-pair.Post
tet_edge_pair_determined κ a y z e f p q = p ∙ sym q

pub tet_slot_determined : OneAnswer tet-slot.Post
tet_slot_determined κ a y z e f p q = p ∙ sym q

pub mt_count_determined : OneAnswer mt-count.Post
mt_count_determined κ a y z e f p q = p ∙ sym q

pub mt_edge_determined : OneAnswer mt-edge.Post
mt_edge_determined κ a y z e f p q = p ∙ sym q
