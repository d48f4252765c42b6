-- `refusals::request` meets its contract. Assumes nothing.
use native.Mathlib.Omega.{arith}
use mathlib.Core.Path.{sym, ◌∙◌}
use Rattle.lattice.proofs.Sites.{sides-fit, sites-most}
use Rattle.refusals.specs.declared.Refusal.{Refusal}
use Rattle.refusals.specs.Refusals.{most, number}
use Rattle.refusals.proofs.Status.{sized, stored, crossed-most, refused-settings, refused-sides, refused-samples, refused-frame, refused-inside, refused-site_room, refused-vertex_room, refused-cell_room, not-refused, replied, replied_done}
use Rattle.refusals.proofs.request.Goals as goal

pub returns-then-not-settings_ok : goal.returns-then-not-settings_ok
unfolding number
returns-then-not-settings_ok c = replied _ _ _ _ _ _ _ Refusal.Settings (refused-settings _ _ _ _ _ _ _ (sym c.settings_ok.ensures ∙ c.if-not-settings_ok.true))

pub returns-then-not-sides_ok : goal.returns-then-not-sides_ok
unfolding number
returns-then-not-sides_ok c = replied _ _ _ _ _ _ _ Refusal.Sides (refused-sides _ _ _ _ _ _ _ (sym c.settings_ok.ensures ∙ c.if-not-settings_ok.false) (sym c.sides_ok.ensures ∙ c.if-not-sides_ok.true))

pub site_count-sites-requires : goal.site_count-sites-requires
site_count-sites-requires c = sides-fit _ (sym c.sides_ok.ensures ∙ c.if-not-sides_ok.false)

pub returns-then-samples-sites : goal.returns-then-samples-sites
unfolding number
returns-then-samples-sites c = replied _ _ _ _ _ _ _ Refusal.SampleCount (refused-samples _ _ _ _ _ _ _ (sym c.settings_ok.ensures ∙ c.if-not-settings_ok.false) (sym c.sides_ok.ensures ∙ c.if-not-sides_ok.false) (λ e. c.if-samples-sites.true (e ∙ sym c.site_count-sites.ensures)))

pub returns-then-not-frame_ok : goal.returns-then-not-frame_ok
unfolding number
returns-then-not-frame_ok c = let z = sized c.settings_ok.ensures c.if-not-settings_ok.false c.sides_ok.ensures c.if-not-sides_ok.false c.if-samples-sites.false c.site_count-sites.ensures in
    replied _ _ _ _ _ _ _ Refusal.Frame (refused-frame _ _ _ _ _ _ _ z (sym c.frame_ok.ensures ∙ c.if-not-frame_ok.true))

pub returns-then-not-inside_ok : goal.returns-then-not-inside_ok
unfolding number
returns-then-not-inside_ok c = let z = sized c.settings_ok.ensures c.if-not-settings_ok.false c.sides_ok.ensures c.if-not-sides_ok.false c.if-samples-sites.false c.site_count-sites.ensures in
    replied _ _ _ _ _ _ _ Refusal.Threshold (refused-inside _ _ _ _ _ _ _ z (sym c.frame_ok.ensures ∙ c.if-not-frame_ok.false) (sym c.inside_ok.ensures ∙ c.if-not-inside_ok.true))

pub site_room-requires : goal.site_room-requires
site_room-requires c = omega (arith, c.site_count-sites.ensures, sites-most _ (sides-fit _ (sym c.sides_ok.ensures ∙ c.if-not-sides_ok.false)))

pub returns-then-not-site_room : goal.returns-then-not-site_room
unfolding number
returns-then-not-site_room c = let z = sized c.settings_ok.ensures c.if-not-settings_ok.false c.sides_ok.ensures c.if-not-sides_ok.false c.if-samples-sites.false c.site_count-sites.ensures in
    replied _ _ _ _ _ _ _ Refusal.SiteRoom (refused-site_room _ _ _ _ _ _ _ z (sym c.frame_ok.ensures ∙ c.if-not-frame_ok.false) (sym c.inside_ok.ensures ∙ c.if-not-inside_ok.false) (rw c.site_count-sites.ensures at (sym c.site_room.ensures ∙ c.if-not-site_room.true)))

pub count_crossed-crossed-requires : goal.count_crossed-crossed-requires
count_crossed-crossed-requires c = let z = sized c.settings_ok.ensures c.if-not-settings_ok.false c.sides_ok.ensures c.if-not-sides_ok.false c.if-samples-sites.false c.site_count-sites.ensures in
    record { fit = sides-fit _ z.sides; samples = omega (arith, z.samples) }

pub vertex_room-requires : goal.vertex_room-requires
vertex_room-requires c = let a = c.args in
    omega (arith, c.count_crossed-crossed.ensures, crossed-most a.n a.samples.now a.h (sides-fit _ (sym c.sides_ok.ensures ∙ c.if-not-sides_ok.false)))

pub returns-then-not-vertex_room : goal.returns-then-not-vertex_room
unfolding most number
returns-then-not-vertex_room c = let z = sized c.settings_ok.ensures c.if-not-settings_ok.false c.sides_ok.ensures c.if-not-sides_ok.false c.if-samples-sites.false c.site_count-sites.ensures in
    let w = stored z c.frame_ok.ensures c.if-not-frame_ok.false c.inside_ok.ensures c.if-not-inside_ok.false c.site_count-sites.ensures c.site_room.ensures c.if-not-site_room.false in
    replied _ _ _ _ _ _ _ Refusal.VertexRoom (refused-vertex_room _ _ _ _ _ _ _ w (rw c.count_crossed-crossed.ensures at (sym c.vertex_room.ensures ∙ c.if-not-vertex_room.true)))

pub cell_room-requires : goal.cell_room-requires
cell_room-requires c = sides-fit _ (sym c.sides_ok.ensures ∙ c.if-not-sides_ok.false)

pub returns-then-not-cell_room : goal.returns-then-not-cell_room
unfolding most number
returns-then-not-cell_room c = let z = sized c.settings_ok.ensures c.if-not-settings_ok.false c.sides_ok.ensures c.if-not-sides_ok.false c.if-samples-sites.false c.site_count-sites.ensures in
    let w = stored z c.frame_ok.ensures c.if-not-frame_ok.false c.inside_ok.ensures c.if-not-inside_ok.false c.site_count-sites.ensures c.site_room.ensures c.if-not-site_room.false in
    replied _ _ _ _ _ _ _ Refusal.CellRoom (refused-cell_room _ _ _ _ _ _ _ w (rw c.count_crossed-crossed.ensures at (sym c.vertex_room.ensures ∙ c.if-not-vertex_room.false)) (sym c.cell_room.ensures ∙ c.if-not-cell_room.true))

pub returns : goal.returns
unfolding most
returns c = let z = sized c.settings_ok.ensures c.if-not-settings_ok.false c.sides_ok.ensures c.if-not-sides_ok.false c.if-samples-sites.false c.site_count-sites.ensures in
    let w = stored z c.frame_ok.ensures c.if-not-frame_ok.false c.inside_ok.ensures c.if-not-inside_ok.false c.site_count-sites.ensures c.site_room.ensures c.if-not-site_room.false in
    replied_done _ _ _ _ _ _ _ _ c.count_crossed-crossed.ensures (not-refused _ _ _ _ _ _ _ w (rw c.count_crossed-crossed.ensures at (sym c.vertex_room.ensures ∙ c.if-not-vertex_room.false)) (sym c.cell_room.ensures ∙ c.if-not-cell_room.false))
