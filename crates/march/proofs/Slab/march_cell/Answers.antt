-- `march::Slab::march_cell` meets its contract: the cell's eight corners are the two columns, and where all are alike it has no triangle.
use Rattle.std.proofs.Common.{◌≡◌, sym, ap, ◌∙◌, List, ℕ, ◌+◌, ◌*◌, ◌<◌}
use mathlib.Core.Logic.{◌⊎◌, inl, inr}
use Rattle.laws.specs.Written.{Written}
use Rattle.laws.specs.Triangles.{flat}
use Rattle.cases.specs.Inner.Codes.{code_sum, codes_of, column_at, column_of, joined, Coded}
use Rattle.cases.proofs.Codes.{codes_coded}
use Rattle.cases.proofs.Columns.{right-room, right_is, cell_codes}
use Rattle.march.specs.declared.Slab.{Slab}
use Rattle.march.specs.March.{site_tris}
use Rattle.march.specs.Inner.Held.{field}
use Rattle.march.proofs.Walk.{cell_in, cell_tris_lem, outside-written, inside-written}
use Rattle.march.proofs.Slab.march_cell.Goals as goal

-- the cell between two columns, the second one read from the samples
module _ (s : Slab) (u v : ℕ) (b : (u + 1 < s.sides.nu) × (v + 1 < s.sides.nv)) (left right : List ℕ)
    (l : left ≡ column_of s.sides s.samples.now s.threshold u v)
    (r : right ≡ column_at s.samples.now s.threshold (u + s.sides.nu * v + 1) s.sides.nu (s.sides.nu * s.sides.nv)) where
  right-column : right ≡ column_of s.sides s.samples.now s.threshold (u + 1) v
  right-column = let p = s.lent in right_is s.sides s.samples.now p.fit p.two p.samples u v b.0 b.1 s.threshold left right l r

  module _ (codes : List ℕ) (j : codes ≡ joined left right) where
    the-corners : codes ≡ codes_of s.sides s.samples.now s.threshold u v
    the-corners = let p = s.lent in cell_codes s.sides s.samples.now p.fit p.two p.samples u v b.0 b.1 s.threshold left right l r codes j

    corners-coded : Coded codes
    corners-coded = rw the-corners (codes_coded s.sides s.samples.now s.threshold u v)

    -- all corners outside, or all inside
    alike : (n : ℕ) → n ≡ code_sum codes → (n ≡ 0) ⊎ ((n ≡ 0 → ⊥) × (n ≡ 8)) → (tris : List ℕ) (at : ℕ) → Written tris at (flat (site_tris (field s) u v 0)) tris at
    alike n e (inl z) tris at = outside-written s.sides s.samples.now s.threshold s.edges.now s.lent u v tris at (ap code_sum (sym the-corners) ∙ sym e ∙ z)
    alike n e (inr z) tris at = inside-written s.sides s.samples.now s.threshold s.edges.now s.lent u v tris at (ap code_sum (sym the-corners) ∙ sym e ∙ z.1)

pub column-right-requires : goal.column-right-requires
column-right-requires c = let s = c.args.self in
    right-room s.sides s.samples.now s.lent.fit s.lent.two s.lent.samples c.args.u c.args.v c.requires.in_box.0 c.requires.in_box.1

pub code_sum-sum-requires : goal.code_sum-sum-requires
code_sum-sum-requires c = corners-coded c.args.self _ _ c.requires.in_box _ _ c.requires.left_value c.column-right.ensures _ c.join-codes.ensures

pub returns-then-sum-eq0 : goal.returns-then-sum-eq0
returns-then-sum-eq0 c = record {
  written = alike c.args.self _ _ c.requires.in_box _ _ c.requires.left_value c.column-right.ensures _ c.join-codes.ensures _ c.code_sum-sum.ensures c.then-sum-eq0.either _ _;
  right_value = right-column c.args.self _ _ c.requires.in_box _ _ c.requires.left_value c.column-right.ensures;
}

pub invariant_of-cell : goal.invariant_of-cell
invariant_of-cell c = let s = c.args.self in
    record { in_table = cell_in s.sides s.samples.now s.edges.now c.args.u c.args.v s.lent c.requires.in_box.0 c.requires.in_box.1 }

pub march_tets-next-requires-clause-coded : goal.march_tets-next-requires-clause-coded
march_tets-next-requires-clause-coded c = corners-coded c.args.self _ _ c.requires.in_box _ _ c.requires.left_value c.column-right.ensures _ c.join-codes.ensures

pub returns : goal.returns
returns c = let s = c.args.self in
    let codes-are = the-corners s _ _ c.requires.in_box _ _ c.requires.left_value c.column-right.ensures _ c.join-codes.ensures in record {
      written = rw (← cell_tris_lem s.sides s.samples.now s.threshold s.edges.now s.lent c.args.u c.args.v, ← codes-are) c.march_tets-next.ensures;
      right_value = right-column s _ _ c.requires.in_box _ _ c.requires.left_value c.column-right.ensures;
    }
