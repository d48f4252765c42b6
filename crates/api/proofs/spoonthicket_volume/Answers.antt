-- What is told is the volume from the whole origin.
use Rattle.std.proofs.Common.{rules, w64, [], ◌∷◌, ap, ◌∙◌}
use Rattle.std.specs.Prelude.{ℤ}
use mir.Val.{SFits}
use mir.ValLaws.{to_z-of_z}
use Rattle.volume.specs.Volume.{Volume, told, refused, volume_of}
use Rattle.api.proofs.spoonthicket_volume.Goals as goal

pub returns-in-Ok : goal.returns-in-Ok
unfolding told
returns-in-Ok c =
    let e = c.in-Ok.ensures ∙ ap (volume_of c.args.vertices.now c.args.triangles.now c.args.scale) c.whole_at-at.ensures in
    let f : SFits w64 c.in-Ok.n = search rules in
    record {
      status = ap (λ (x : Volume). x.status) e;
      six = ap (λ (z : ℤ). z ∷ []) (to_z-of_z w64 _ f ∙ ap (λ (x : Volume). x.six) e);
    }

pub returns-in-Err : goal.returns-in-Err
unfolding told refused
returns-in-Err c =
    let e = c.in-Err.ensures ∙ ap (volume_of c.args.vertices.now c.args.triangles.now c.args.scale) c.whole_at-at.ensures in
    record {
      status = c.number.ensures ∙ ap (λ (x : Volume). x.status) e;
      six = ap (λ (x : Volume). x.six ∷ []) e;
    }
