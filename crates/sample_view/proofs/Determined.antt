-- What each public function promises, as its source states it, determines the answer and every entry of what it is lent. Assumes nothing.
use Rattle.std.specs.Prelude.{Option}
use mathlib.Core.Path.{◌≡◌, sym, ◌∙◌}
use mathlib.Core.List.{List}
use Prim.Native.Nat.{ℕ}
use lib.Ieee.{Float}
use denote.Ref.{Bor}
use Rattle.laws.specs.Promises.{OneAnswer}
use Rattle.lattice.specs.declared.Sides.{Sides}
use Rattle.sample_view.specs.declared.SampleView.{SampleView}
use Rattle.sample_view.specs.View.{value_at, value_uvw, value_across}
use Rattle.sample_view.proofs.value_at.Reads as value-at
use Rattle.sample_view.proofs.value_uvw.Reads as value-uvw
use Rattle.sample_view.proofs.value_across.Reads as value-across
use Rattle.sample_view.proofs.sample_uvw.Reads as sample-uvw

pub value_at_determined : OneAnswer value-at.Post
value_at_determined κ a y z e f p q = p ∙ sym q

pub value_uvw_determined : OneAnswer value-uvw.Post
value_uvw_determined κ a y z e f p q = p ∙ sym q

pub value_across_determined : OneAnswer value-across.Post
value_across_determined κ a y z e f p q = p ∙ sym q

pub sample_uvw_determined : OneAnswer sample-uvw.Post
sample_uvw_determined κ a y z e f p q = p ∙ sym q

-- What the functions over a view promise, of the parts of the view.

pub view_of_determined : (s : Bor (List Float)) (n : Sides) (r q : SampleView) → (r.samples ≡ s) × (r.sides ≡ n) → (q.samples ≡ s) × (q.sides ≡ n) → r ≡ q
view_of_determined s n r q a b = λ i. record { samples = (a.0 ∙ sym b.0) i; sides = (a.1 ∙ sym b.1) i }

pub at_determined : (n : Sides) (S : List Float) (s : ℕ) (r q : Option Float) → r ≡ value_at n S s → q ≡ value_at n S s → r ≡ q
at_determined n S s r q a b = a ∙ sym b

pub at_uvw_determined : (n : Sides) (S : List Float) (u v w : ℕ) (r q : Option Float) → r ≡ value_uvw n S u v w → q ≡ value_uvw n S u v w → r ≡ q
at_uvw_determined n S u v w r q a b = a ∙ sym b

pub across_determined : (n : Sides) (S : List Float) (s e : ℕ) (r q : Option Float) → r ≡ value_across n S s e → q ≡ value_across n S s e → r ≡ q
across_determined n S s e r q a b = a ∙ sym b
