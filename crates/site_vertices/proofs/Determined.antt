-- What each public function promises, as its source states it, determines the answer and every entry of what it is lent. Assumes nothing.
use mathlib.Core.Path.{sym, ◌∙◌}
use mathlib.Core.List.{List}
use Prim.Native.Nat.{ℕ}
use lib.Ieee.{Float}
use Rattle.laws.specs.Promises.{OneAnswer, OneLeft, OneOutcome}
use Rattle.site_vertices.proofs.Appending.{appended_unique}
use Rattle.site_vertices.proofs.ends_of.Reads as ends_of
use Rattle.site_vertices.proofs.edge_place.Reads as edge-place
use Rattle.site_vertices.proofs.Source.draw_cluster.Reads as draw-cluster
use Rattle.site_vertices.proofs.put_vertex.Reads as put-vertex
use Rattle.site_vertices.proofs.Source.draw_singles.Reads as draw-singles

pub ends_of_determined : OneAnswer ends_of.Post
ends_of_determined κ a y z e f p q = p ∙ sym q

pub edge_place_determined : OneAnswer edge-place.Post
edge_place_determined κ a y z e f p q = p ∙ sym q

pub draw_cluster_determined : OneOutcome (λ κ e. e.1.0.now) draw-cluster.Post
draw_cluster_determined κ a y z e f p q = (p.sum ∙ sym q.sum, p.table ∙ sym q.table)

pub put_vertex_determined : OneLeft {B = List Float × List ℕ} (λ κ e. (e.0.now, e.1.0.now)) put-vertex.Post
put_vertex_determined κ a y z e f p q = λ i. ((p.positions ∙ sym q.positions) i, (p.book ∙ sym q.book) i)

pub draw_singles_determined : OneOutcome {B = List ℕ × List Float × List ℕ} (λ κ e. (e.1.0.now, e.1.1.0.now, e.1.1.1.0.now)) draw-singles.Post
draw_singles_determined κ a y z e f p q = let u = appended_unique _ _ _ p q in (u.0, λ i. (u.1 i, u.2 i, u.3 i))
