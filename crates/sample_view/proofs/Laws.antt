-- What the view says of the samples. Assumes nothing.
use Rattle.std.specs.Prelude.{Option, None, Some}
use mathlib.Core.Path.{◌≡◌, refl, sym, ap, ◌∙◌}
use mathlib.Core.Bool.{Bool, true, false, ◌&&◌, cond}
use mathlib.Core.List.{List}
use Prim.Native.Nat.{ℕ, ◌≤◌, ◌<◌}
use native.Mathlib.Omega.{arith}
use borrow.Author.Tests.{lt-ltb}
use lib.Dec.{ltb}
use lib.ListN.{length, get_or}
use lib.Ieee.{Float, nan}
use Rattle.tables.specs.Edges.{reverse}
use Rattle.lattice.specs.declared.Sides.{Sides}
use Rattle.lattice.specs.Sites.{SidesFit, sides_ok, sites, in_box, site_of}
use Rattle.lattice.specs.Across.{across_of}
use Rattle.lattice.proofs.Sites.{fit_sides, site-lt}
use Rattle.lattice.proofs.OtherEnds.{box_in, across-joined, across_back}
use Rattle.sample_view.specs.View.{entry_at, value_at, value_uvw, entry_by, value_across}
use Rattle.sample_view.proofs.Lookups.{entry_there, at_there, across-is}

-- ---- one test in the place of another

both-tests : (a b c : Bool) (x y : Option Float) → (b ≡ true → c ≡ true) → cond (a && b) x y ≡ cond b (cond (a && c) x y) y
both-tests a true c x y h = rw (h refl)
both-tests true false c x y h = refl
both-tests false false c x y h = refl

where_true : (b : Bool) (x y z : Option Float) → (b ≡ true → x ≡ z) → cond b x y ≡ cond b z y
where_true true x y z h = h refl
where_true false x y z h = refl

module _ (n : Sides) (S : List Float) where
  box-lt : (u v w : ℕ) → in_box n u v w ≡ true → site_of n u v w < sites n
  box-lt u v w b = site-lt n (record { u = u; v = v; w = w }) (box_in n u v w b)

  -- at coordinates: the value at the site's number, missing outside the box, whatever the sides and however long the list
  pub value-site : (u v w : ℕ) → value_uvw n S u v w ≡ cond (in_box n u v w) (value_at n S (site_of n u v w)) None
  unfolding value_uvw value_at
  value-site u v w = both-tests (sides_ok n) (in_box n u v w) (ltb (site_of n u v w) (sites n)) (entry_at S (site_of n u v w)) None (λ b. lt-ltb (site_of n u v w) (sites n) (box-lt u v w b))

  -- across an edge: the value at the site that lies there, missing where none does; and the way back
  pub value_across_lem : (s e t : ℕ) → SidesFit n → s < sites n → e < 14 → across_of n s e ≡ Some t → value_across n S s e ≡ value_at n S t
  unfolding entry_by
  value_across_lem s e t f h k a =
      let r = at_there n S t (sites n) (entry_at S t) (fit_sides n f) refl (across-joined n s e t f h a).inside refl in
      across-is n S s e (sites n) (fit_sides n f) refl h k ∙ ap (entry_by S) a ∙ r

  pub value_none : (s e : ℕ) → SidesFit n → s < sites n → e < 14 → across_of n s e ≡ None → value_across n S s e ≡ None
  unfolding entry_by
  value_none s e f h k a = across-is n S s e (sites n) (fit_sides n f) refl h k ∙ ap (entry_by S) a

  pub value_back : (s e t : ℕ) → SidesFit n → s < sites n → e < 14 → across_of n s e ≡ Some t → value_across n S t (reverse e) ≡ value_at n S s
  unfolding reverse
  value_back s e t f h k a = value_across_lem t (reverse e) s f (across-joined n s e t f h a).inside (omega arith) (across_back n s e t f h k a)

  -- for a box that fits and a sample for each site
  module _ (f : SidesFit n) (l : sites n ≤ length S) where
    -- the value is the site's sample
    pub value-sample : (s : ℕ) → s < sites n → value_at n S s ≡ Some (get_or S s nan)
    value-sample s h = sym (at_there n S s (sites n) (Some (get_or S s nan)) (fit_sides n f) refl h (entry_there S s (omega (arith, h, l))))

    -- by coordinates: the sample in the box, missing outside
    pub value-box : (u v w : ℕ) → value_uvw n S u v w ≡ cond (in_box n u v w) (Some (get_or S (site_of n u v w) nan)) None
    value-box u v w = value-site u v w ∙ where_true (in_box n u v w) _ None _ (λ b. value-sample (site_of n u v w) (box-lt u v w b))

    -- across an edge: the sample of the site that lies there
    pub value_far : (s e t : ℕ) → s < sites n → e < 14 → across_of n s e ≡ Some t → value_across n S s e ≡ Some (get_or S t nan)
    value_far s e t h k a = value_across_lem s e t f h k a ∙ value-sample t (across-joined n s e t f h a).inside
