-- `lines::read_run` meets its contract: what has been read are the first k lines, and p is where key k starts. Assumes nothing.
use Prim.Native.Nat.{◌<◌}
use native.Mathlib.Omega.{arith}
use mathlib.Core.Path.{◌≡◌}
use mathlib.Core.List.{[]}
use lib.ListN.{length}
use Rattle.lines.specs.Lines.{Dec}
use Rattle.lines.proofs.Runs.{run-start, run-turn, run-done}
use Rattle.lines.specs.Inner.Forms.{form_of}
use Rattle.lines.proofs.Rows.{row-start, row-end, row-turn, row_field, form-length}
use Rattle.lines.proofs.read_run.Goals as goal

pub loop-k-init : goal.loop-k-init
loop-k-init c = (run-start _ _ _ _ c.requires.0, row-start _)

pub slice_bounds-line-end : goal.slice_bounds-line-end
slice_bounds-line-end c = row-end _ _ _ c.loop-k.invariant.1 _ c.key_end-q.ensures

pub returns-in_err-value : goal.returns-in_err-value
returns-in_err-value c = let a = c.loop-k in
    let h : a.k < length (form_of c.args.decs c.args.n c.args.keys.now) = rw form-length c.loop-k-test.true in
    let f = row_field _ _ _ a.invariant.1 _ c.key_end-q.ensures c.args.decs c.args.n (Dec []) c.loop-k-test.true in
    rw c.from_residual.ensures (record { count = a.k; place = a.at; filled = a.invariant.0; short = h; missing = rw f c.in_err-value.ensures })

pub loop-k-preserved : goal.loop-k-preserved
loop-k-preserved c = let a = c.loop-k in
    let h : a.k < length (form_of c.args.decs c.args.n c.args.keys.now) = rw form-length c.loop-k-test.true in
    let g : a.k < length a.out = omega (arith, a.invariant.0.full, c.requires.1, c.loop-k-test.true) in (
      run-turn _ _ _ _ _ _ _ a.invariant.0 (Dec []) _ h g (row_field _ _ _ a.invariant.1 _ c.key_end-q.ensures c.args.decs c.args.n (Dec []) c.loop-k-test.true) _ _ c.in_ok-value.ensures,
      row-turn _ _ _ a.invariant.1 _ c.key_end-q.ensures,
    )

pub returns : goal.returns
returns c = let a = c.loop-k in
    let s = c.args in
    let m = form-length s.decs s.n s.keys.now in
    let e : a.k ≡ s.n = omega arith in
    record { reads = run-done _ _ _ _ _ _ _ a.invariant.0 s.n m c.loop-k-test.false; past = rw e at a.invariant.0.past; full = a.invariant.0.full }
