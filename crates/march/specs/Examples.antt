-- The march of a small box: 3 x 3 x 3, the centre inside, each edge with a vertex of its own. Assumes nothing.
use Rattle.std.specs.Prelude.{◌≡◌, refl, true, ◌+◌, ◌*◌, eqb, length}
use Rattle.laws.specs.Bools.{bit}
use Rattle.laws.specs.Ranges.{each}
use Rattle.laws.specs.Lists.{keep}
use Rattle.tables.specs.Edges.{du, dv, dw, corner_of, label_to}
use Rattle.tables.specs.Tets.{tet_label, tet_corner, tet_pair, tet_pairs, edge_of, edge_in}
use Rattle.tables.specs.Cases.{mt_row}
use Rattle.lattice.specs.Sites.{in_box, site_of, step}
use Rattle.march.specs.Cells.{at, case_of, tet_ok, case_no, on_each, tet_tris, cell_tris}
use Rattle.march.specs.March.{Field, none, ok_at, side_at, vertex_at, corners_of, vertex_in, resolved, proper, emitted, site_tris, slab, march}

unfoldable pub ball : Field
ball = record {
  box = record { nu = 3; nv = 3; nw = 3 };
  finite = λ s. true;
  side = λ s. eqb s 13;
  vertex = λ s l. 7 * s + l;
}

pub ball-march : length (march ball) ≡ 24
unfolding ball march slab site_tris each keep emitted resolved proper none vertex_in vertex_at corners_of ok_at side_at in_box site_of step
    cell_tris tet_tris case_no tet_ok case_of on_each at bit mt_row edge_in edge_of tet_corner tet_label tet_pair tet_pairs corner_of label_to du dv dw
ball-march = refl
