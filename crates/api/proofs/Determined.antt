-- What each public function promises, as its source states it, determines the answer and every entry of what it is lent. Assumes nothing.
use mathlib.Core.Path.{sym, ◌∙◌}
use mathlib.Core.List.{List}
use Prim.Native.Nat.{ℕ}
use Rattle.laws.specs.Promises.{OneAnswer, OneOutcome, OneLeftAsked}
use Rattle.build.specs.Answer.{Lists, lists}
use Rattle.sort.proofs.Unique.{sort_unique}
use Rattle.sort.proofs.Determined.{Words}
use Rattle.api.proofs.spoonthicket_sort.Reads as spoonthicket-sort
use Rattle.api.proofs.Unique.{call_unique, topology_unique, ply_written_unique, ply_sized_unique, ply_read_unique, volume_told_unique}
use Rattle.api.proofs.spoonthicket_build.Reads as spoonthicket-build
use Rattle.api.proofs.spoonthicket_topology.Reads as spoonthicket-topology
use Rattle.api.proofs.spoonthicket_visits.Reads as spoonthicket-visits
use Rattle.api.proofs.spoonthicket_ply_length.Reads as spoonthicket-ply-length
use Rattle.api.proofs.spoonthicket_ply_write.Reads as spoonthicket-ply-write
use Rattle.api.proofs.spoonthicket_ply_mesh.Reads as spoonthicket-ply-mesh
use Rattle.api.proofs.spoonthicket_ply_sizes.Reads as spoonthicket-ply-sizes
use Rattle.api.proofs.spoonthicket_ply_read.Reads as spoonthicket-ply-read
use Rattle.api.proofs.spoonthicket_volume.Reads as spoonthicket-volume

pub spoonthicket_build_determined : OneOutcome {B = Lists × List ℕ} (λ κ e. (lists e.1.1.1.1.1.1.1.1.0.now e.1.1.1.1.1.1.1.1.1.0.now e.1.1.1.1.1.1.1.1.1.1.0.now e.1.1.1.1.1.1.1.1.1.1.1.0.now e.1.1.1.1.1.1.1.1.1.1.1.1.0.now e.1.1.1.1.1.1.1.1.1.1.1.1.1.0.now, e.1.1.1.1.1.1.1.1.1.1.1.1.1.1.0.now)) spoonthicket-build.Post
spoonthicket_build_determined κ a y z e f p q = let u = call_unique p q in (u.1, λ i. (u.0 i, u.2 i))

pub spoonthicket_topology_determined : OneOutcome {B = List ℕ × List ℕ} (λ κ e. (e.1.1.1.1.0.now, e.1.1.1.1.1.0.now)) spoonthicket-topology.Post
spoonthicket_topology_determined κ a y z e f p q = let u = topology_unique p q in (u.0, λ i. (u.1 i, u.2 i))

pub spoonthicket_visits_determined : OneAnswer spoonthicket-visits.Post
spoonthicket_visits_determined κ a y z e f p q = p ∙ sym q

pub spoonthicket_ply_length_determined : OneAnswer spoonthicket-ply-length.Post
spoonthicket_ply_length_determined κ a y z e f p q = p ∙ sym q

pub spoonthicket_ply_write_determined : OneOutcome {B = List ℕ × List ℕ} (λ κ e. (e.1.1.0.now, e.1.1.1.0.now)) spoonthicket-ply-write.Post
spoonthicket_ply_write_determined κ a y z e f p q = let u = ply_written_unique p q in (u.1, λ i. (u.0 i, u.2 i))

pub spoonthicket_ply_mesh_determined : OneOutcome {B = List ℕ × List ℕ} (λ κ e. (e.1.1.0.now, e.1.1.1.0.now)) spoonthicket-ply-mesh.Post
spoonthicket_ply_mesh_determined κ a y z e f p q = let u = ply_written_unique p q in (u.1, λ i. (u.0 i, u.2 i))

pub spoonthicket_ply_sizes_determined : OneOutcome (λ κ e. e.1.0.now) spoonthicket-ply-sizes.Post
spoonthicket_ply_sizes_determined κ a y z e f p q = ply_sized_unique p q

pub spoonthicket_ply_read_determined : OneOutcome {B = List ℕ × List ℕ × List ℕ} (λ κ e. (e.1.0.now, e.1.1.0.now, e.1.1.1.0.now)) spoonthicket-ply-read.Post
spoonthicket_ply_read_determined κ a y z e f p q = let u = ply_read_unique p q in (u.2, λ i. (u.0 i, u.1 i, u.3 i))

pub spoonthicket_volume_determined : OneOutcome (λ κ e. e.1.1.1.1.0.now) spoonthicket-volume.Post
spoonthicket_volume_determined κ a y z e f p q = volume_told_unique p q

-- of words below 2^32
pub spoonthicket_sort_determined : OneLeftAsked (λ κ e. e.0.now) spoonthicket-sort.Pre Words spoonthicket-sort.Post
spoonthicket_sort_determined κ a y z e f r x w p q = sort_unique _ _ _ x w p q
