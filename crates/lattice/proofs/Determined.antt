-- What each public function promises, as its source states it, determines the answer and every entry of what it is lent. Assumes nothing.
use mathlib.Core.Path.{sym, ◌∙◌}
use Rattle.laws.specs.Promises.{OneAnswer}
use Rattle.lattice.proofs.sides_ok.Reads as sides-ok
use Rattle.lattice.proofs.site_count.Reads as site-count
use Rattle.lattice.proofs.cell_count.Reads as cell-count
use Rattle.lattice.proofs.site_number.Reads as site-number
use Rattle.lattice.proofs.coordinates.Reads as coordinates
use Rattle.lattice.proofs.is_border.Reads as is-border
use Rattle.lattice.proofs.ijk_of.Reads as ijk-of
use Rattle.lattice.proofs.above.Reads as above
use Rattle.lattice.proofs.across.Reads as across
use Rattle.lattice.proofs.get_edge_owner.Reads as get-edge-owner

pub sides_ok_determined : OneAnswer sides-ok.Post
sides_ok_determined κ a y z e f p q = p ∙ sym q

pub site_count_determined : OneAnswer site-count.Post
site_count_determined κ a y z e f p q = p ∙ sym q

pub cell_count_determined : OneAnswer cell-count.Post
cell_count_determined κ a y z e f p q = p ∙ sym q

pub site_number_determined : OneAnswer site-number.Post
site_number_determined κ a y z e f p q = p ∙ sym q

pub coordinates_determined : OneAnswer coordinates.Post
coordinates_determined κ a y z e f p q = p ∙ sym q

pub is_border_determined : OneAnswer is-border.Post
is_border_determined κ a y z e f p q = p ∙ sym q

pub ijk_of_determined : OneAnswer ijk-of.Post
ijk_of_determined κ a y z e f p q = p ∙ sym q

pub above_determined : OneAnswer above.Post
above_determined κ a y z e f p q = p ∙ sym q

pub across_determined : OneAnswer across.Post
across_determined κ a y z e f p q = p ∙ sym q

pub get_edge_owner_determined : OneAnswer get-edge-owner.Post
get_edge_owner_determined κ a y z e f p q = p ∙ sym q
