-- What each public function promises, as its source states it, determines the answer and every entry of what it is lent. Assumes nothing.
use mathlib.Core.Path.{sym, ◌∙◌}
use mathlib.Core.List.{List}
use Prim.Native.Nat.{ℕ}
use lib.Ieee.{Float}
use Rattle.laws.specs.Promises.{OneAnswer, OneLeft, OneOutcome, OneLeftAsked}
use Rattle.laws.proofs.Written.{written_unique}
use native.Mathlib.Omega.{arith}
use Rattle.site_vertices.proofs.Appending.{appended_unique}
use Rattle.sort.proofs.Unique.{sort_unique}
use Rattle.sort.proofs.Determined.{Words}
use Rattle.phases.proofs.bench_sort.Reads as bench-sort
use Rattle.phases.proofs.phase_count.Reads as phase-count
use Rattle.phases.proofs.phase_mark.Reads as phase-mark
use Rattle.phases.proofs.phase_draw.Reads as phase-draw
use Rattle.phases.proofs.phase_march.Reads as phase-march
use Rattle.phases.proofs.phase_flag.Reads as phase-flag
use Rattle.phases.proofs.phase_clear.Reads as phase-clear
use Rattle.phases.proofs.bench_fill.Reads as bench-fill
use Rattle.phases.proofs.bench_over_sides.Reads as bench-over-sides

pub phase_count_determined : OneAnswer phase-count.Post
phase_count_determined κ a y z e f p q = p ∙ sym q

pub phase_mark_determined : OneLeft (λ κ e. e.1.1.1.1.0.now) phase-mark.Post
phase_mark_determined κ a y z e f p q = p ∙ sym q

pub phase_draw_determined : OneOutcome {B = List ℕ × List Float × List ℕ} (λ κ e. (e.1.1.1.1.1.0.now, e.1.1.1.1.1.1.0.now, e.1.1.1.1.1.1.1.0.now)) phase-draw.Post
phase_draw_determined κ a y z e f p q = let u = appended_unique _ _ _ p q in (u.0, λ i. (u.1 i, u.2 i, u.3 i))

pub phase_march_determined : OneOutcome (λ κ e. e.1.1.1.1.1.0.now) phase-march.Post
phase_march_determined κ a y z e f p q = let w = written_unique p q in (omega (arith, w.1), w.0)

pub phase_flag_determined : OneOutcome (λ κ e. e.1.0.now) phase-flag.Post
phase_flag_determined κ a y z e f p q = (p.found ∙ sym q.found, p.flags ∙ sym q.flags)

pub phase_clear_determined : OneLeft (λ κ e. e.0.now) phase-clear.Post
phase_clear_determined κ a y z e f p q = p ∙ sym q

pub bench_fill_determined : OneLeft (λ κ e. e.1.0.now) bench-fill.Post
bench_fill_determined κ a y z e f p q = p ∙ sym q

pub bench_over_sides_determined : OneLeft (λ κ e. e.1.0.now) bench-over-sides.Post
bench_over_sides_determined κ a y z e f p q = p ∙ sym q

-- of words below 2^32
pub bench_sort_determined : OneLeftAsked (λ κ e. e.0.now) bench-sort.Pre Words bench-sort.Post
bench_sort_determined κ a y z e f r x w p q = sort_unique _ _ _ x w p q
