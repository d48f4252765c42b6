-- `pairs::flag_runs` meets its contract: the first i records are whole runs with their flags. Assumes nothing.
use mathlib.Core.Path.{◌≡◌, refl, ap, ◌∙◌}
use Prim.Native.Nat.{◌*◌, ◌-◌, ◌≤◌}
use native.Mathlib.Omega.{arith}
use lib.ListN.{length, length-drop}
use Rattle.laws.proofs.Tails.{tail_is, tail_back, tail_length}
use Rattle.sort.specs.Records.{recs}
use Rattle.sort.proofs.Records.{recs-length}
use Rattle.sort.proofs.Order.{sorted_drop}
use Rattle.pairs.proofs.Runs.{walked_none, walked_part, walked_within, walked_words, walked_done}
use Rattle.pairs.proofs.flag_runs.Goals as goal

pub loop-i-init : goal.loop-i-init
loop-i-init c = (refl, omega arith, refl, walked_none (recs c.args.s.now))

pub flag_run-i-requires : goal.flag_run-i-requires
flag_run-i-requires c = let l = c.loop-i in
    let s₀ = c.args.s.now in (
      omega (arith, ap length (tail_is (l.i * 3) l.s), length-drop (l.i * 3) l.s),
      rw (walked_part s₀ l.s l.i (omega (arith, recs-length s₀)) (omega arith) l.invariant.3) (sorted_drop l.i (recs s₀) c.requires),
    )

pub overflow_add-i : goal.overflow_add-i
overflow_add-i c = let l = c.loop-i in
    let s₀ = c.args.s.now in
    let r = c.flag_run-i in
    let w = walked_within s₀ l.s l.i (omega (arith, recs-length s₀)) (omega arith) l.invariant.3 r.ensures in
    omega (arith, recs-length s₀)

pub loop-i-smaller : goal.loop-i-smaller
loop-i-smaller c = let l = c.loop-i in
    let s₀ = c.args.s.now in
    let r = c.flag_run-i in
    omega (arith, r.ensures.front.some)

pub loop-i-preserved : goal.loop-i-preserved
loop-i-preserved c = let l = c.loop-i in
    let s₀ = c.args.s.now in
    let r = c.flag_run-i in
    let fits : l.i * 3 ≤ length l.s = omega arith in
    let h : l.i ≤ length (recs s₀) = omega (arith, recs-length s₀) in
    let size : length r.new.s ≡ length l.s - l.i * 3 = r.auto.s ∙ ap length (tail_is (l.i * 3) l.s) ∙ length-drop (l.i * 3) l.s in (
      refl,
      omega (arith, walked_within s₀ l.s l.i h fits l.invariant.3 r.ensures, recs-length s₀),
      ap length (tail_back (l.i * 3) l.s r.new.s) ∙ tail_length (l.i * 3) l.s r.new.s fits size ∙ l.invariant.2,
      walked_words s₀ l.s l.i h fits l.invariant.3 r.new.s r.ensures,
    )

pub shape_of-s : goal.shape_of-s
shape_of-s c = c.loop-i.invariant.2

pub returns : goal.returns
returns c = let l = c.loop-i in
    let s₀ = c.args.s.now in
    walked_done (omega (arith, recs-length s₀)) l.invariant.3 (omega (arith, recs-length s₀))
