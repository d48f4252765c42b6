-- `volume::lists_ok` meets its contract. Assumes nothing.
use mathlib.Core.Bool.{◌&&◌}
use mathlib.Core.Path.{◌≡◌, sym, ◌∙◌}
use Prim.Native.Nat.{◌/◌, ◌%◌}
use lib.Dec.{eqb, leb}
use lib.ListN.{length}
use borrow.Author.Tests.{eq-eqb, ne_eqb}
use Rattle.laws.proofs.Lists.{every-below}
use Rattle.volume.specs.Volume.{lists_ok}
use Rattle.volume.proofs.lists_ok.Goals as goal
use Rattle.volume.proofs.lists_ok.Goals.{then-positions-eq0, else-positions-eq0, then-triangles-eq0, else-triangles-eq0}

pub returns-then-triangles-le-MOST : goal.returns-then-triangles-le-MOST
unfolding lists_ok
returns-then-triangles-le-MOST c =
    let p = eqb (length c.args.positions.now % 3) 0 in
    let t = eqb (length c.args.triangles.now % 3) 0 in
    let one : c.if-positions-eq0.value ≡ p && t = elim c.if-positions-eq0.branch [
      | then-positions-eq0 w ↦ rw (eq-eqb _ _ w.if-positions-eq0.true) w.value-is
      | else-positions-eq0 w ↦ w.value-is ∙ rw (ne_eqb _ _ w.if-positions-eq0.false)
    ] in
    let two : c.if-triangles-eq0.value ≡ p && t && leb (length c.args.triangles.now / 3) 357492 = elim c.if-triangles-eq0.branch [
      | then-triangles-eq0 w ↦ rw (sym one ∙ w.if-triangles-eq0.true) w.value-is
      | else-triangles-eq0 w ↦ rw (sym one ∙ w.if-triangles-eq0.false) (w.value-is ∙ w.if-triangles-eq0.false)
    ] in
    rw (sym two ∙ c.if-triangles-le-MOST.true) (every-below _ _ _ c.named.ensures)

pub returns-else-triangles-le-MOST : goal.returns-else-triangles-le-MOST
unfolding lists_ok
returns-else-triangles-le-MOST c =
    let p = eqb (length c.args.positions.now % 3) 0 in
    let t = eqb (length c.args.triangles.now % 3) 0 in
    let one : c.if-positions-eq0.value ≡ p && t = elim c.if-positions-eq0.branch [
      | then-positions-eq0 w ↦ rw (eq-eqb _ _ w.if-positions-eq0.true) w.value-is
      | else-positions-eq0 w ↦ w.value-is ∙ rw (ne_eqb _ _ w.if-positions-eq0.false)
    ] in
    let two : c.if-triangles-eq0.value ≡ p && t && leb (length c.args.triangles.now / 3) 357492 = elim c.if-triangles-eq0.branch [
      | then-triangles-eq0 w ↦ rw (sym one ∙ w.if-triangles-eq0.true) w.value-is
      | else-triangles-eq0 w ↦ rw (sym one ∙ w.if-triangles-eq0.false) (w.value-is ∙ w.if-triangles-eq0.false)
    ] in
    rw (sym two ∙ c.if-triangles-le-MOST.false) c.if-triangles-le-MOST.false
