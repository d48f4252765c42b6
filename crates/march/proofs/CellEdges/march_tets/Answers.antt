-- `march::CellEdges::march_tets` meets its contract.
use Rattle.std.proofs.Common.{rules, arith, ℕ}
use Rattle.laws.proofs.Ranges.{each_none}
use Rattle.laws.proofs.Written.{written_none, written-turn, written-done, written-room}
use Rattle.cases.specs.Inner.Codes.{case_on}
use Rattle.march.specs.Inner.Loop.{tet_flat, cell_flat}
use Rattle.march.specs.Inner.Held.{vertices}
use Rattle.cases.proofs.Codes.{on-lt}
use Rattle.march.proofs.Flat.{tet_le}
use Rattle.march.proofs.CellEdges.march_tets.Goals as goal

pub loop-t-init : goal.loop-t-init
loop-t-init c = (search rules, rw each_none (written_none _ _))

pub march_tet-n-requires : goal.march_tet-n-requires
march_tet-n-requires c = let at = c.loop-t in
    let a = c.args in
    let look = vertices a.self in record {
      indices = (c.loop-t-test.true, rw c.case_at-case.ensures (on-lt a.codes.now _));
      room = written-room (λ (t : ℕ). tet_flat look t (case_on a.codes.now t)) 6 (λ t. tet_le look t (case_on a.codes.now t) (on-lt a.codes.now t)) at.t 6 at.invariant.1 c.loop-t-test.true c.requires.room;
    }

pub loop-t-preserved : goal.loop-t-preserved
loop-t-preserved c = let at = c.loop-t in
    (omega arith, written-turn _ at.t at.invariant.1 (rw c.case_at-case.ensures at c.march_tet-n.ensures))

pub returns : goal.returns
unfolding cell_flat
returns c = let at = c.loop-t in
    written-done _ at.t 6 at.invariant.1 at.invariant.0 c.loop-t-test.false
