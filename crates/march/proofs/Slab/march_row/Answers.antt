-- `march::Slab::march_row` meets its contract.
use Rattle.std.proofs.Common.{rules, arith, ◌≡◌, ap, ◌∙◌, ℕ, ◌+◌, ◌*◌, ◌-◌}
use Rattle.laws.specs.Triangles.{flat}
use Rattle.laws.proofs.Ranges.{each_none}
use Rattle.laws.proofs.Written.{written_none, written-turn, written-done, written-room}
use Rattle.march.specs.March.{site_tris}
use Rattle.march.specs.Lists.{field_of}
use Rattle.march.specs.Inner.Held.{field}
use Rattle.cases.specs.Inner.Codes.{column_at}
use Rattle.march.specs.Inner.Loop.{row_flat}
use Rattle.march.proofs.Walk.{site-flat-le}
use Rattle.cases.proofs.Columns.{column-is, column-room}
use Rattle.march.proofs.Slab.march_row.Goals as goal

pub column-left-requires : goal.column-left-requires
column-left-requires c = let s = c.args.self in
    omega (arith, column-room s.sides s.samples.now s.lent.fit s.lent.two s.lent.samples 0 c.args.v s.lent.fit.u_some c.requires.in_box)

pub loop-u-init : goal.loop-u-init
loop-u-init c = let s = c.args.self in
    let i : s.sides.nu * c.args.v ≡ 0 + s.sides.nu * c.args.v = omega arith in (
      search rules,
      rw each_none (written_none _ _),
      c.column-left.ensures ∙ ap (λ (i : ℕ). column_at s.samples.now s.threshold i s.sides.nu (s.sides.nu * s.sides.nv)) i
          ∙ column-is s.sides s.samples.now s.lent.fit s.lent.two s.lent.samples 0 c.args.v s.lent.fit.u_some c.requires.in_box s.threshold,
    )

pub march_cell-cell-requires-clause-room : goal.march_cell-cell-requires-clause-room
march_cell-cell-requires-clause-room c = let at = c.loop-u in
    let s = c.args.self in
    written-room (λ (u : ℕ). flat (site_tris (field s) u c.args.v 0)) 36 (λ u. site-flat-le (field s) u c.args.v 0) at.u (s.sides.nu - 1) at.invariant.1 c.loop-u-test.true c.requires.room

pub loop-u-preserved : goal.loop-u-preserved
loop-u-preserved c = let at = c.loop-u in
    let cell = c.march_cell-cell in
    (omega arith, written-turn _ at.u at.invariant.1 cell.ensures.written, cell.ensures.right_value)

pub returns : goal.returns
unfolding row_flat field_of
returns c = let at = c.loop-u in
    written-done _ at.u _ at.invariant.1 at.invariant.0 c.loop-u-test.false
