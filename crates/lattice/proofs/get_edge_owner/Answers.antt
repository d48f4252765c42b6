-- `lattice::get_edge_owner` meets its contract. Assumes nothing.
use mathlib.Core.Path.{◌≡◌, sym, subst}
use Prim.Native.Nat.{ℕ, ◌<◌}
use Rattle.lattice.specs.Owner.{from_to, label_of}
use Rattle.lattice.proofs.Owner.{gap-lt, owner_label, own_first, own_other, own-none}
use Rattle.lattice.proofs.get_edge_owner.Goals as goal

pub gap_label-e-requires : goal.gap_label-e-requires
gap_label-e-requires c = (
  subst (λ (x : ℕ). x < 6) (sym c.axis_gap-x.ensures) (gap-lt _),
  subst (λ (x : ℕ). x < 6) (sym c.axis_gap-y.ensures) (gap-lt _),
  subst (λ (x : ℕ). x < 6) (sym c.axis_gap-z.ensures) (gap-lt _),
)

pub returns-then-e-lt-OWNED_EDGES : goal.returns-then-e-lt-OWNED_EDGES
returns-then-e-lt-OWNED_EDGES c = let a = c.args in own_first a.u a.v c.gap_label-e.result (let the_label : c.gap_label-e.result ≡ label_of (from_to c.args.u c.args.v) = let a = c.args in
    let fu = c.struct_told-1.given in
    let fv = c.struct_told-2-1.given in
    owner_label a.u a.v _ _ _ _ fu.0.1 fu.1.0.1 fu.1.1.0.1 fv.0.1 fv.1.0.1 fv.1.1.0.1 c.axis_gap-x.ensures c.axis_gap-y.ensures c.axis_gap-z.ensures c.gap_label-e.ensures in the_label) c.if-e-lt-OWNED_EDGES.true

pub returns-then-e-lt-EDGES : goal.returns-then-e-lt-EDGES
returns-then-e-lt-EDGES c = let a = c.args in own_other a.u a.v c.gap_label-e.result (let the_label : c.gap_label-e.result ≡ label_of (from_to c.args.u c.args.v) = let a = c.args in
    let fu = c.struct_told-1.given in
    let fv = c.struct_told-2-1.given in
    owner_label a.u a.v _ _ _ _ fu.0.1 fu.1.0.1 fu.1.1.0.1 fv.0.1 fv.1.0.1 fv.1.1.0.1 c.axis_gap-x.ensures c.axis_gap-y.ensures c.axis_gap-z.ensures c.gap_label-e.ensures in the_label) c.if-e-lt-OWNED_EDGES.false c.if-e-lt-EDGES.true

pub returns : goal.returns
returns c = let a = c.args in own-none a.u a.v c.gap_label-e.result (let the_label : c.gap_label-e.result ≡ label_of (from_to c.args.u c.args.v) = let a = c.args in
    let fu = c.struct_told-1.given in
    let fv = c.struct_told-2-1.given in
    owner_label a.u a.v _ _ _ _ fu.0.1 fu.1.0.1 fu.1.1.0.1 fv.0.1 fv.1.0.1 fv.1.1.0.1 c.axis_gap-x.ensures c.axis_gap-y.ensures c.axis_gap-z.ensures c.gap_label-e.ensures in the_label) c.if-e-lt-EDGES.false
