-- When a promise determines what a call does: two answers to one call that both meet it are equal, and so is what the two calls leave in what they were lent.
-- A promise is here what a function's source states: of the lifetimes κ, the arguments, the answer, and the arguments at exit. Assumes nothing.
use Rattle.std.specs.Prelude.{◌≡◌}

module _ {K : Type 0} {A R E : K → Type 0} where
  -- the answer
  abbrev pub OneAnswer : ((κ : K) → A κ → R κ → E κ → Type 0) → Type 0
  OneAnswer P = (κ : K) (a : A κ) (y z : R κ) (e f : E κ) → P κ a y e → P κ a z f → y ≡ z

  module _ {B : Type 0} (left : (κ : K) → E κ → B) where
    -- what is left in the lent lists, where there is no answer
    abbrev pub OneLeft : ((κ : K) → A κ → R κ → E κ → Type 0) → Type 0
    OneLeft P = (κ : K) (a : A κ) (y z : R κ) (e f : E κ) → P κ a y e → P κ a z f → left κ e ≡ left κ f

    -- the answer and what is left
    abbrev pub OneOutcome : ((κ : K) → A κ → R κ → E κ → Type 0) → Type 0
    OneOutcome P = (κ : K) (a : A κ) (y z : R κ) (e f : E κ) → P κ a y e → P κ a z f → (y ≡ z) × (left κ e ≡ left κ f)

    -- the same of calls that meet what is asked, and of lists that can be lent at all (of words below 2^32, say)
    abbrev pub OneOutcomeAsked : ((κ : K) → A κ → Type 0) → ((κ : K) → A κ → R κ → E κ → Type 0) → Type 0
    OneOutcomeAsked Q P = (κ : K) (a : A κ) (y z : R κ) (e f : E κ) → Q κ a → P κ a y e → P κ a z f → (y ≡ z) × (left κ e ≡ left κ f)

    abbrev pub OneLeftAsked : ((κ : K) → A κ → Type 0) → (B → Type 0) → ((κ : K) → A κ → R κ → E κ → Type 0) → Type 0
    OneLeftAsked Q L P = (κ : K) (a : A κ) (y z : R κ) (e f : E κ) → Q κ a → L (left κ e) → L (left κ f) → P κ a y e → P κ a z f → left κ e ≡ left κ f
