-- `rollback::Round::held_mask` meets its contract. Assumes nothing.
use mathlib.Core.Path.{sym, ◌∙◌}
use mathlib.Core.Bool.{true, false}
use native.Mathlib.Omega.{arith}
use lib.ListN.{get_or}
use Rattle.laws.proofs.Visits.{visit_start}
use Rattle.site_vertices.proofs.Drawing.{lowest}
use Rattle.rollback.proofs.Masks.{Holds, held-turn, held-end}
use Rattle.rollback.proofs.Round.held_mask.Goals as goal

pub loop-rest-init : goal.loop-rest-init
loop-rest-init c = let a = c.args in visit_start (Holds a.self.now.source.sides a.table.now a.s a.i) 14 (get_or a.self.now.masks.now a.s 0) 0

pub overflow_cast-e : goal.overflow_cast-e
overflow_cast-e c = omega (arith, (lowest c.loop-rest.rest (omega arith) c.loop-rest.invariant.short).edge)

pub overflow_cast-b : goal.overflow_cast-b
overflow_cast-b c = omega (arith, (lowest c.loop-rest.rest (omega arith) c.loop-rest.invariant.short).edge)

pub overflow_shl-b : goal.overflow_shl-b
overflow_shl-b c = omega (arith, (lowest c.loop-rest.rest (omega arith) c.loop-rest.invariant.short).edge)

pub holds-requires : goal.holds-requires
holds-requires c = (c.requires, (lowest c.loop-rest.rest (omega arith) c.loop-rest.invariant.short).edge)

pub loop-rest-smaller-then-holds : goal.loop-rest-smaller-then-holds
loop-rest-smaller-then-holds c = let l = lowest c.loop-rest.rest (omega arith) c.loop-rest.invariant.short in rw l.bit l.less

pub loop-rest-preserved-then-holds : goal.loop-rest-preserved-then-holds
loop-rest-preserved-then-holds c = rw (lowest c.loop-rest.rest (omega arith) c.loop-rest.invariant.short).bit (held-turn _ c.args.table.now c.args.s c.args.i _ c.loop-rest.rest c.loop-rest.held c.loop-rest.invariant (omega arith) true (sym c.if-holds.true ∙ c.holds.ensures))

pub loop-rest-smaller : goal.loop-rest-smaller
loop-rest-smaller c = let l = lowest c.loop-rest.rest (omega arith) c.loop-rest.invariant.short in rw l.bit l.less

pub loop-rest-preserved : goal.loop-rest-preserved
loop-rest-preserved c = rw (lowest c.loop-rest.rest (omega arith) c.loop-rest.invariant.short).bit (held-turn _ c.args.table.now c.args.s c.args.i _ c.loop-rest.rest c.loop-rest.held c.loop-rest.invariant (omega arith) false (sym c.if-holds.false ∙ c.holds.ensures))

pub returns : goal.returns
returns c = let a = c.args in
    let at = c.loop-rest in
    held-end _ a.table.now a.s a.i _ at.rest at.held at.invariant c.loop-rest-test.false
