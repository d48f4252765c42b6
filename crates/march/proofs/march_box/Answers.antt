-- `march::march_box` meets its contract.
use Rattle.std.proofs.Common.{rules, arith, ◌*◌, ◌-◌}
use Rattle.laws.proofs.Ranges.{each_none}
use Rattle.laws.proofs.Written.{written_none, written-turn, written-done, written-room}
use Rattle.laws.proofs.Tails.{tail_is}
use Rattle.march.specs.Lists.{field_of}
use Rattle.march.proofs.Walk.{layer_room, layer_lent, tail_flat, tail_le, box-layers, box-room, third}
use Rattle.march.proofs.march_box.Goals as goal

pub loop-w-init : goal.loop-w-init
loop-w-init c = (search rules, rw each_none (written_none _ _))

pub slice_bounds-march_layer-count : goal.slice_bounds-march_layer-count
slice_bounds-march_layer-count c = omega (arith, layer_room c.args.n c.args.samples.now c.args.edges.now c.args.tris.now c.loop-w.w c.requires c.loop-w-test.true)

pub slice_bounds-march_layer-start : goal.slice_bounds-march_layer-start
slice_bounds-march_layer-start c = omega (arith, layer_room c.args.n c.args.samples.now c.args.edges.now c.args.tris.now c.loop-w.w c.requires c.loop-w-test.true)

pub slice_bounds-march_layer-count-in-loop-w : goal.slice_bounds-march_layer-count-in-loop-w
slice_bounds-march_layer-count-in-loop-w c = omega (arith, layer_room c.args.n c.args.samples.now c.args.edges.now c.args.tris.now c.loop-w.w c.requires c.loop-w-test.true)

pub slice_bounds-march_layer-start-in-loop-w : goal.slice_bounds-march_layer-start-in-loop-w
slice_bounds-march_layer-start-in-loop-w c = omega (arith, layer_room c.args.n c.args.samples.now c.args.edges.now c.args.tris.now c.loop-w.w c.requires c.loop-w-test.true)

pub march_layer-next-requires : goal.march_layer-next-requires
march_layer-next-requires c = let at = c.loop-w in
    let a = c.args in
    let w-in = c.loop-w-test.true in record {
      lent = rw (tail_is, tail_is) (layer_lent a.n a.samples.now a.edges.now a.tris.now at.w c.requires w-in);
      nu_in_bounds = written-room (tail_flat a.n.nu a.n.nv a.samples.now a.h a.edges.now) ((a.n.nv - 1) * ((a.n.nu - 1) * 36))
          (tail_le a.n a.samples.now a.h a.edges.now) at.w (a.n.nw - 1) at.invariant.1 w-in
          (box-room a.n a.samples.now a.edges.now a.tris.now c.requires);
    }

pub loop-w-preserved : goal.loop-w-preserved
unfolding tail_flat
loop-w-preserved c = let at = c.loop-w in
    (omega arith, written-turn _ at.w at.invariant.1 (rw (tail_is, tail_is) at c.march_layer-next.ensures))

pub returns : goal.returns
returns c = let at = c.loop-w in
    let a = c.args in
    let w = rw (box-layers a.n a.samples.now a.h a.edges.now) at (written-done _ at.w _ at.invariant.1 at.invariant.0 c.loop-w-test.false) in
    rw (third (field_of a.n a.samples.now a.h a.edges.now) at.next w.next) w
