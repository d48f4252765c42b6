-- The call is the build in the frame of the six numbers.
use Rattle.std.proofs.Common.{◌≡◌, ℕ, List, refl, subst}
use Rattle.std.specs.Prelude.{Float}
use Rattle.lattice.specs.declared.Sides.{Sides}
use Rattle.points.specs.declared.Frame.{Frame}
use Rattle.build.specs.declared.Answer.{Answer}
use Rattle.build.specs.Answer.{Lists, BuildIn}
use Rattle.api.proofs.spoonthicket_build.Goals as goal

framed : {n : Sides} {method R : ℕ} {h : Float} {f g : Frame} {S : List Float} {l l' : Lists} {a : Answer} → f ≡ g → BuildIn n method R h f S l l' a → BuildIn n method R h g S l l' a
framed {n} {method} {R} {h} {S = S} {l} {l'} {a} e b = subst (λ (x : Frame). BuildIn n method R h x S l l' a) e b

pub returns : goal.returns
returns c =
    record { answer = c.build-answer.result; is = framed c.frame_at-at.ensures c.build-answer.ensures; status = refl; counts = c.counts_of.ensures }
