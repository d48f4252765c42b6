-- `march::CellEdges::march_tet` meets its contract.
use Rattle.std.proofs.Common.{rules, arith, sym, ◌∙◌, ◌≡◌, ◌<◌, ℕ, length}
use native.Mathlib.Nat.{lt_of_lt_of_le}
use lib.ListN.{length-set}
use Rattle.laws.proofs.Ranges.{each_none}
use Rattle.laws.proofs.Written.{written_none, written-turn, written-done, written-room}
use Rattle.tables.specs.Cases.{mt_row}
use Rattle.tables.proofs.Cases.{mt_two}
use Rattle.march.specs.March.{none}
use Rattle.march.specs.Inner.Loop.{tet_flat}
use Rattle.march.proofs.Flat.{has_more, tri_dropped, tri_has, tri_le}
use Rattle.march.proofs.CellEdges.march_tet.Goals as goal

-- a case has two triangles at most
k_small : (case n k : ℕ) → case < 16 → n ≡ length (mt_row case) → k < n → k < 2
k_small case n k small is k-in = omega (arith, mt_two case small, is)

pub tri-init : goal.tri-init
tri-init c = (search rules, rw each_none (written_none _ _))

pub corner_vertex-x-requires : goal.corner_vertex-x-requires
corner_vertex-x-requires c = (c.requires.indices.0, c.requires.indices.1, k_small _ _ _ c.requires.indices.1 c.mt_count-count.ensures c.tri-test.true, c.loop-c-test.true)

pub tri-preserved-then-x : goal.tri-preserved-then-x
unfolding none
tri-preserved-then-x c = let none-there = sym c.corner_vertex-x.ensures ∙ c.if-x.true in
    (omega arith, written-turn _ c.tri.k c.tri.invariant.1 (rw (tri_dropped _ _ _ _ c.loop-c.c c.loop-c-test.true none-there) (written_none _ _)))

pub loop-c-preserved : goal.loop-c-preserved
unfolding none
loop-c-preserved c = let lp = c.loop-c in
    let inside : lp.c < length lp.v = omega arith in
    (omega arith, simp length-set lp.invariant.1, has_more _ lp.v lp.c _ inside lp.invariant.2 c.corner_vertex-x.ensures c.if-x.false)

pub put_triangle-n-requires : goal.put_triangle-n-requires
put_triangle-n-requires c = (
  written-room _ 3 (tri_le _ c.args.t c.args.case) c.tri.k 2 c.tri.invariant.1 (k_small _ _ _ c.requires.indices.1 c.mt_count-count.ensures c.tri-test.true) c.requires.room,
  c.loop-c.invariant.1,
)

pub tri-preserved : goal.tri-preserved
tri-preserved c = let lp = c.loop-c in
    let full = tri_has _ c.args.t c.args.case c.tri.k lp.v (λ j h. lp.invariant.2 j (lt_of_lt_of_le h c.loop-c-test.false)) in
    (omega arith, written-turn _ c.tri.k c.tri.invariant.1 (rw full c.put_triangle-n.ensures))

pub returns : goal.returns
unfolding tet_flat
returns c = let at = c.tri in
    rw (← c.mt_count-count.ensures) (written-done _ at.k _ at.invariant.1 at.invariant.0 c.tri-test.false)
