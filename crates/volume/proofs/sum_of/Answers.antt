-- `volume::sum_of` meets its contract. Assumes nothing.
use Rattle.std.proofs.Common.{◌∙◌, ap, sym, arith, length, length-append, ◌+◌, ◌*◌}
use Rattle.std.specs.Slice.Iter.{chunks_exact_size, chunks_exact_rest}
use Rattle.std.proofs.lemmas.Result.{err_from_is_err_and}
use Rattle.volume.specs.Volume.{told}
use Rattle.volume.proofs.Answers.{lists-fit}
use Rattle.volume.proofs.Sums.{summed-none, named, sum_room, sum-turn, sum_done, sum-stop, term_missing, term_six, stopped, chunk_names, chunk-next, chunks-all}
use Rattle.volume.proofs.sum_of.Goals as goal

pub loop-t-init : goal.loop-t-init
loop-t-init c =
    let e = c.chunks_exact-t-items.ensures in
    let i = c.into_iter-t-iterator.ensures.into_iter_gives in
    record {
      threes = ap chunks_exact_size i ∙ e.size;
      rest = ap chunks_exact_rest i ∙ e.rest;
      within = omega arith;
      sum = summed-none _ _ _ _;
    }

pub triangle_of-requires : goal.triangle_of-requires
triangle_of-requires c =
    let s = c.in-Some.ensures.steps in
    let k = length c.loop-t.yielded in
    let w = chunk_names c.args.triangles.now k _ _ _ c.loop-t.invariant.rest s.1.0 (s.1.1 ∙ c.loop-t.invariant.threes) c.index-a.ensures c.index-b.ensures c.index-c.ensures in
    let fit = (lists-fit c.args.positions.now c.args.triangles.now c.requires).named in
    let n = named c.args.positions.now c.args.triangles.now in
    (n (3 * k) _ fit (omega (arith, w.inside)) w.is_a, n (3 * k + 1) _ fit (omega (arith, w.inside)) w.is_b, n (3 * k + 2) _ fit (omega (arith, w.inside)) w.is_c)

pub returns-in_err-six : goal.returns-in_err-six
returns-in_err-six c =
    let s = c.in-Some.ensures.steps in
    let k = length c.loop-t.yielded in
    let w = chunk_names c.args.triangles.now k _ _ _ c.loop-t.invariant.rest s.1.0 (s.1.1 ∙ c.loop-t.invariant.threes) c.index-a.ensures c.index-b.ensures c.index-c.ensures in
    let p = err_from_is_err_and c.from_residual.result c.from_residual.ensures.1 in
    let e = c.in_err-six.ensures in
    let no =
    term_missing c.args.positions.now c.args.scale c.args.origin c.args.triangles.now k _ _ _ w.is_a w.is_b w.is_c
    (sym e.ok_part ∙ c.triangle_of.ensures) in
    ap told (stopped _ _ _ _ p.1 p.2 e.value e.ok_part) ∙ sum-stop _ _ _ _ k w.inside no

pub overflow_add-six : goal.overflow_add-six
overflow_add-six c =
    let s = c.in-Some.ensures.steps in
    let k = length c.loop-t.yielded in
    let w = chunk_names c.args.triangles.now k _ _ _ c.loop-t.invariant.rest s.1.0 (s.1.1 ∙ c.loop-t.invariant.threes) c.index-a.ensures c.index-b.ensures c.index-c.ensures in
    let fit = lists-fit c.args.positions.now c.args.triangles.now c.requires in
    let x =
    term_six c.args.positions.now c.args.scale c.args.origin c.args.triangles.now k _ _ _ w.is_a w.is_b w.is_c _
    (sym c.in_ok-six.ensures.ok_part ∙ c.triangle_of.ensures) in
    sum_room c.args.positions.now c.args.scale c.args.origin c.args.triangles.now _ k _ _ fit.few w.inside c.loop-t.invariant.sum x

pub loop-t-preserved : goal.loop-t-preserved
loop-t-preserved c =
    let s = c.in-Some.ensures.steps in
    let k = length c.loop-t.yielded in
    let w = chunk_names c.args.triangles.now k _ _ _ c.loop-t.invariant.rest s.1.0 (s.1.1 ∙ c.loop-t.invariant.threes) c.index-a.ensures c.index-b.ensures c.index-c.ensures in
    let fit = lists-fit c.args.positions.now c.args.triangles.now c.requires in
    let x =
    term_six c.args.positions.now c.args.scale c.args.origin c.args.triangles.now k _ _ _ w.is_a w.is_b w.is_c _
    (sym c.in_ok-six.ensures.ok_part ∙ c.triangle_of.ensures) in
    let more = sum-turn c.args.positions.now c.args.scale c.args.origin c.args.triangles.now _ k _ _ fit.few w.inside c.loop-t.invariant.sum x in
    simp length-append (record {
      threes = s.0 ∙ c.loop-t.invariant.threes;
      rest = chunk-next c.args.triangles.now k _ _ _ c.loop-t.invariant.rest s.1.0 (s.1.1 ∙ c.loop-t.invariant.threes);
      within = omega (arith, w.inside);
      sum = more;
    })

pub returns : goal.returns
returns c =
    let i = c.loop-t.invariant in
    let s = c.in-None.ensures.steps in
    sum_done _ _ _ _ (length c.loop-t.yielded) _ (chunks-all _ _ _ i.rest i.within (omega (arith, s.1.0, i.threes))) i.sum
