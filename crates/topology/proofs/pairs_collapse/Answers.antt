-- `topology::pairs_collapse` meets its contract: a law for each sample that is missing, and one for all four. Assumes nothing.
use Rattle.std.specs.Prelude.{None, Some}
use Rattle.std.proofs.Common.{sym, refl, ◌∙◌}
use Rattle.topology.specs.Flat.{collapses_at}
use Rattle.topology.proofs.Rows.{four}
use Rattle.topology.proofs.pairs_collapse.Goals as goal

pub returns-in_default : goal.returns-in_default
unfolding collapses_at
returns-in_default c = sym (four _ _ _ _ None _ _ _ (sym c.endpoint_value.ensures ∙ c.in_default.is) refl refl refl)

pub returns-in_default-endpoint_value : goal.returns-in_default-endpoint_value
unfolding collapses_at
returns-in_default-endpoint_value c = sym (four _ _ _ _ (Some _) None _ _ (sym c.endpoint_value.ensures ∙ c.in-Some.is) (sym c.endpoint_value-2.ensures ∙ c.in_default-endpoint_value.is) refl refl)

pub returns-in_default-endpoint_value-2 : goal.returns-in_default-endpoint_value-2
unfolding collapses_at
returns-in_default-endpoint_value-2 c = sym (four _ _ _ _ (Some _) (Some _) None _ (sym c.endpoint_value.ensures ∙ c.in-Some.is) (sym c.endpoint_value-2.ensures ∙ c.in-Some-endpoint_value.is)
    (sym c.endpoint_value-3.ensures ∙ c.in_default-endpoint_value-2.is) refl)

pub returns-in_default-endpoint_value-3 : goal.returns-in_default-endpoint_value-3
unfolding collapses_at
returns-in_default-endpoint_value-3 c = sym (four _ _ _ _ (Some _) (Some _) (Some _) None (sym c.endpoint_value.ensures ∙ c.in-Some.is) (sym c.endpoint_value-2.ensures ∙ c.in-Some-endpoint_value.is)
    (sym c.endpoint_value-3.ensures ∙ c.in-Some-endpoint_value-2.is) (sym c.endpoint_value-4.ensures ∙ c.in_default-endpoint_value-3.is))

pub returns : goal.returns
unfolding collapses_at
returns c = c.would_collapse.ensures
    ∙ sym (four _ _ _ _ (Some _) (Some _) (Some _) (Some _) (sym c.endpoint_value.ensures ∙ c.in-Some.is) (sym c.endpoint_value-2.ensures ∙ c.in-Some-endpoint_value.is)
    (sym c.endpoint_value-3.ensures ∙ c.in-Some-endpoint_value-2.is) (sym c.endpoint_value-4.ensures ∙ c.in-Some-endpoint_value-3.is))
