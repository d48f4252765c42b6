-- `count_file::read_samples` meets its contract: what has been read are the first lines. Assumes nothing.
use Prim.Native.Nat.{◌<◌}
use native.Mathlib.Omega.{arith}
use mathlib.Core.Path.{◌≡◌}
use mathlib.Core.List.{[], ◌++◌}
use lib.ListN.{replicate, length, drop, length-replicate, get_or-replicate, length-append, take-append-drop}
use lib.Seq.{length-take-le}
use Rattle.std.proofs.lemmas.List.{set-get_or, set-append_left}
use Rattle.lines.specs.Lines.{Dec, line_of, ok_of}
use Rattle.count_file.specs.CountFile.{sample}
use Rattle.lines.proofs.Runs.{run-start, run-turn, run-done}
use Rattle.count_file.proofs.read_samples.Goals as goal

pub loop-place-init : goal.loop-place-init
loop-place-init c = rw take-append-drop (run-start _ _ _ _ c.requires.0)

pub returns-in_err-value : goal.returns-in_err-value
unfolding line_of ok_of
returns-in_err-value c = let n = c.args.n in
    let at = c.loop-place in
    let t : at.place-index < n = omega (arith, length-take-le n c.args.out.now c.requires.1) in
    let h : at.place-index < length (replicate n sample) = rw length-replicate t in
    let f = get_or-replicate n at.place-index sample (Dec []) t in
    rw (c.from_residual.ensures, set-get_or) (record { count = at.place-index; place = at.at; filled = at.invariant; short = h; missing = rw f c.in_err-value.ensures })

pub loop-place-preserved : goal.loop-place-preserved
unfolding line_of ok_of
loop-place-preserved c = let n = c.args.n in
    let at = c.loop-place in
    let t : at.place-index < n = omega (arith, length-take-le n c.args.out.now c.requires.1) in
    let i : at.place-index < length at.place-items = omega arith in
    let h : at.place-index < length (replicate n sample) = rw length-replicate t in
    let g : at.place-index < length (at.place-items ++ drop n c.args.out.now) = rw length-append (omega arith) in
    rw (← set-append_left at.place-items (drop n c.args.out.now) at.place-index c.in_ok-value.field-0.value i)
    (run-turn _ _ _ _ _ _ _ at.invariant sample sample h g (get_or-replicate n at.place-index sample sample t) _ _ c.in_ok-value.ensures)

pub returns : goal.returns
returns c = let at = c.loop-place in
    let n = c.args.n in
    let e : at.place-index ≡ n = omega (arith, length-take-le n c.args.out.now c.requires.1) in
    record { reads = run-done _ _ _ _ _ _ _ at.invariant n (length-replicate n sample) (omega arith); past = rw e at at.invariant.past; full = at.invariant.full }
