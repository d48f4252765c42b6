-- The lookups' ways out, one law for each. Assumes nothing.
use Rattle.std.specs.Prelude.{Option, None, Some}
use mathlib.Core.Path.{◌≡◌, sym, ap, ◌∙◌}
use mathlib.Core.Bool.{true, false}
use mathlib.Core.List.{List}
use Prim.Native.Nat.{ℕ, ◌≤◌, ◌<◌}
use native.Mathlib.Omega.{arith}
use borrow.Author.Tests.{lt-ltb, le-ltb}
use lib.ListN.{length, get_or}
use lib.Ieee.{Float, nan}
use Rattle.lattice.specs.declared.Sides.{Sides}
use Rattle.lattice.specs.Sites.{sides_ok, sites, in_box, site_of}
use Rattle.lattice.specs.Across.{across_of}
use Rattle.sample_view.specs.View.{entry_at, value_at, value_uvw, entry_by, value_across}

pub entry_there : (S : List Float) (s : ℕ) → s < length S → Some (get_or S s nan) ≡ entry_at S s
unfolding entry_at
entry_there S s h = rw (lt-ltb s (length S) h)

pub entry_past : (S : List Float) (s : ℕ) → length S ≤ s → None ≡ entry_at S s
unfolding entry_at
entry_past S s h = rw (le-ltb s (length S) h)

-- for what the match found
pub by_found : (S : List Float) (o : Option ℕ) (t : ℕ) (r : Option Float) → o ≡ Some t → r ≡ entry_at S t → r ≡ entry_by S o
unfolding entry_by
by_found S o t r a e = e ∙ sym (ap (entry_by S) a)

pub by_none : (S : List Float) (o : Option ℕ) → o ≡ None → None ≡ entry_by S o
unfolding entry_by
by_none S o a = sym (ap (entry_by S) a)

module _ (n : Sides) (S : List Float) where
  -- by number: k is the count of sites
  pub at_there : (s k : ℕ) (r : Option Float) → sides_ok n ≡ true → k ≡ sites n → s < k → r ≡ entry_at S s → r ≡ value_at n S s
  unfolding value_at
  at_there s k r f q h e = rw (f, lt-ltb s (sites n) (omega (arith, q, h))) e

  pub at_past : (s k : ℕ) → sides_ok n ≡ true → k ≡ sites n → k ≤ s → None ≡ value_at n S s
  unfolding value_at
  at_past s k f q h = rw (f, le-ltb s (sites n) (omega (arith, q, h)))

  pub at-unfit : (s : ℕ) → sides_ok n ≡ false → None ≡ value_at n S s
  unfolding value_at
  at-unfit s f = rw f

  -- by coordinates: k is the site's number
  pub uvw_there : (u v w k : ℕ) (r : Option Float) → sides_ok n ≡ true → u < n.nu → v < n.nv → w < n.nw → k ≡ site_of n u v w → r ≡ entry_at S k → r ≡ value_uvw n S u v w
  unfolding value_uvw in_box
  uvw_there u v w k r f hu hv hw q e = rw (f, lt-ltb u n.nu hu, lt-ltb v n.nv hv, lt-ltb w n.nw hw) (e ∙ ap (entry_at S) q)

  pub uvw_past_w : (u v w : ℕ) → sides_ok n ≡ true → u < n.nu → v < n.nv → n.nw ≤ w → None ≡ value_uvw n S u v w
  unfolding value_uvw in_box
  uvw_past_w u v w f hu hv hw = rw (f, lt-ltb u n.nu hu, lt-ltb v n.nv hv, le-ltb w n.nw hw)

  pub uvw_past_v : (u v w : ℕ) → sides_ok n ≡ true → u < n.nu → n.nv ≤ v → None ≡ value_uvw n S u v w
  unfolding value_uvw in_box
  uvw_past_v u v w f hu hv = rw (f, lt-ltb u n.nu hu, le-ltb v n.nv hv)

  pub uvw_past_u : (u v w : ℕ) → sides_ok n ≡ true → n.nu ≤ u → None ≡ value_uvw n S u v w
  unfolding value_uvw in_box
  uvw_past_u u v w f hu = rw (f, le-ltb u n.nu hu)

  pub uvw_unfit : (u v w : ℕ) → sides_ok n ≡ false → None ≡ value_uvw n S u v w
  unfolding value_uvw
  uvw_unfit u v w f = rw f

  -- across an edge: k is the count of sites, o what lies there
  pub across-is : (s e k : ℕ) → sides_ok n ≡ true → k ≡ sites n → s < k → e < 14 → value_across n S s e ≡ entry_by S (across_of n s e)
  unfolding value_across
  across-is s e k f q h g = rw (f, lt-ltb s (sites n) (omega (arith, q, h)), lt-ltb e 14 g)

  pub across-there : (s e k : ℕ) (o : Option ℕ) (r : Option Float) → sides_ok n ≡ true → k ≡ sites n → s < k → e < 14 → o ≡ across_of n s e → r ≡ entry_by S o → r ≡ value_across n S s e
  across-there s e k o r f q h g a b = b ∙ ap (entry_by S) a ∙ sym (across-is s e k f q h g)

  pub across_no_edge : (s e k : ℕ) → sides_ok n ≡ true → k ≡ sites n → s < k → 14 ≤ e → None ≡ value_across n S s e
  unfolding value_across
  across_no_edge s e k f q h g = rw (f, lt-ltb s (sites n) (omega (arith, q, h)), le-ltb e 14 g)

  pub across_past : (s e k : ℕ) → sides_ok n ≡ true → k ≡ sites n → k ≤ s → None ≡ value_across n S s e
  unfolding value_across
  across_past s e k f q h = rw (f, le-ltb s (sites n) (omega (arith, q, h)))

  pub across-unfit : (s e : ℕ) → sides_ok n ≡ false → None ≡ value_across n S s e
  unfolding value_across
  across-unfit s e f = rw f
