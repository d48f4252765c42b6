-- The places of marked edges in the edge table: within it, and no two of a site at one; and which of them have a point. Assumes nothing.
use Rattle.std.specs.Prelude.{Option, None, Some}
use mathlib.Core.Path.{◌≡◌, refl, ap, sym, ◌∙◌}
use mathlib.Core.Logic.{⊎_elim}
use mathlib.Core.Bool.{Bool, true, ◌&&◌, false≢true}
use mathlib.Core.List.{List}
use Prim.Native.Nat.{ℕ, zero, suc, ◌+◌, ◌*◌, ◌-◌, ◌<◌, ◌≤◌}
use native.Mathlib.Omega.{arith}
use borrow.Author.Tests.{lt-ltb, le-ltb}
use Rattle.lattice.specs.declared.Sides.{Sides}
use lib.Ieee.{Float}
use Rattle.stages.specs.Boxes.{owned, reach}
use Rattle.stages.specs.Samples.{box_of, point_by}
use Rattle.stages.specs.Inner.Clustered.{Clustered}
use Rattle.stages.proofs.SampleClusters.{clusters_ascend, clusters_cover, mark-is, mark_label_lem, mark_at}
use Rattle.laws.specs.Bools.{bit}
use Rattle.tables.specs.Edges.{corner_of, corners, du, dv, dw}
use Rattle.lattice.specs.Sites.{SidesFit, sites, uvw_of}
use Rattle.lattice.specs.Across.{across_of}
use Rattle.samples.specs.Sides.{finite}
use Rattle.marks.specs.Marks.{marked, marked_by, sample}
use Rattle.laws.proofs.Bools.{T_true, bit_T}
use Rattle.laws.proofs.Ranges.{lt-or}
use Rattle.lattice.proofs.Sites.{product_le, site_uvw}
use Rattle.lattice.proofs.OtherEnds.{above-number, across-joined}

-- ---- how far an edge reaches

reach-some : (n : Sides) (l : ℕ) → SidesFit n → l < 7 → 0 < reach n l
unfolding reach corner_of corners du dv dw
reach-some n zero f h = omega arith
reach-some n (suc zero) f h = omega (arith, f.u_some)
reach-some n (suc (suc zero)) f h = omega (arith, f.u_some)
reach-some n (suc (suc (suc zero))) f h = omega arith
reach-some n (suc (suc (suc (suc zero)))) f h = omega arith
reach-some n (suc (suc (suc (suc (suc zero))))) f h = omega (arith, f.u_some)
reach-some n (suc (suc (suc (suc (suc (suc zero)))))) f h =
    let p : 1 * 1 ≤ n.nu * n.nv = product_le 1 1 n.nu n.nv f.u_some f.v_some in
    omega (arith, p)
reach-some n (suc (suc (suc (suc (suc (suc (suc l))))))) f h = let z : ⊥ = omega arith in absurd z

pub owned-low : (n : Sides) (s e : ℕ) → e < 7 → owned n s e ≡ 7 * s + e
unfolding owned
owned-low n s e h = rw (lt-ltb e 7 h)

pub owned_high : (n : Sides) (s e : ℕ) → 7 ≤ e → owned n s e ≡ 7 * (s - reach n (e - 7)) + (e - 7)
unfolding owned
owned_high n s e h = rw (le-ltb e 7 h)

-- the owner of an edge from 7 on lies below by the edge's reach
pub below-reach : (n : Sides) (s e t : ℕ) → SidesFit n → s < sites n → 7 ≤ e → across_of n s e ≡ Some t → s ≡ t + reach n (e - 7)
unfolding reach
below-reach n s e t f hs h a =
    sym (site_uvw n s) ∙ above-number n (uvw_of n t) (uvw_of n s) (corner_of (e - 7)) ((across-joined n s e t f hs a).falls h)
    ∙ ap (λ (x : ℕ). x + (du (corner_of (e - 7)) + n.nu * dv (corner_of (e - 7)) + n.nu * n.nv * dw (corner_of (e - 7)))) (site_uvw n t)

-- a marked edge leads to a site of the box
pub record Leads (n : Sides) (s e : ℕ) : Type 0 where
  pub to : ℕ
  pub is : across_of n s e ≡ Some to

no_marks : (S : List Float) (h : Float) (s e : ℕ) → marked_by S h s e None ≡ true → ⊥
unfolding marked_by
no_marks S h s e m = false≢true m

module _ (n : Sides) (S : List Float) (h : Float) where
  pub mark_leads : (s e : ℕ) → marked n S h s e ≡ true → Leads n s e
  unfolding marked
  mark_leads s e m = go (across_of n s e) refl
    where
      go : (o : Option ℕ) → across_of n s e ≡ o → Leads n s e
      go None a = absurd (no_marks S h s e (sym (ap (marked_by S h s e) a) ∙ m))
      go (Some t) a = record { to = t; is = a }

  pub set-marked : (s e : ℕ) → mark_at n S h s e ≡ true → marked n S h s e ≡ true
  unfolding bit
  set-marked s e m =
      let q : bit (mark_at n S h s e) ≡ bit (marked n S h s e) = mark-is n S h s e (mark_label_lem n S h s e m) in
      T_true (marked n S h s e) (bit_T (marked n S h s e) (sym q ∙ ap bit m))

  module _ (f : SidesFit n) where
    low-reach : (s e : ℕ) → s < sites n → 7 ≤ e → mark_at n S h s e ≡ true → reach n (e - 7) ≤ s
    low-reach s e hs k m =
        let l = mark_leads s e (set-marked s e m) in
        omega (arith, below-reach n s e l.to f hs k l.is)

    pub mark-place : (s e : ℕ) → s < sites n → mark_at n S h s e ≡ true → owned n s e < 7 * sites n
    mark-place s e hs m =
        ⊎_elim (λ k. omega (arith, owned-low n s e k)) (λ k. omega (arith, owned_high n s e k, mark_label_lem n S h s e m)) (lt-or e 7)

    mixed : (s d e : ℕ) → s < sites n → mark_at n S h s e ≡ true → d < 7 → 7 ≤ e → owned n s d ≡ owned n s e → ⊥
    mixed s d e hs m k l q =
        omega (arith, q, owned-low n s d k, owned_high n s e l, mark_label_lem n S h s e m, low-reach s e hs l m, reach-some n (e - 7) f (omega (arith, mark_label_lem n S h s e m)))

    pub mark-one : (s d e : ℕ) → s < sites n → mark_at n S h s d ≡ true → mark_at n S h s e ≡ true → owned n s d ≡ owned n s e → d ≡ e
    mark-one s d e hs md me q =
        ⊎_elim
        (λ k. ⊎_elim (λ l. omega (arith, q, owned-low n s d k, owned-low n s e l)) (λ l. absurd (mixed s d e hs me k l q)) (lt-or e 7))
        (λ k.
        ⊎_elim (λ l. absurd (mixed s e d hs md l k (sym q)))
        (λ l. omega (arith, q, owned_high n s d k, owned_high n s e l, mark_label_lem n S h s d md, mark_label_lem n S h s e me)) (lt-or e 7)) (lt-or d 7)

    -- THE CLUSTERS OF THE SAMPLES ARE THEIR MARKS
    pub sample_clustered : (cluster : Bool) → Clustered (box_of n S h cluster) (mark_at n S h)
    unfolding box_of
    sample_clustered cluster = record {
      label = mark_label_lem n S h;
      place = mark-place;
      one = mark-one;
      cover = λ s e hs. clusters_cover n S h cluster s e;
      order = λ s hs. clusters_ascend n S h cluster s;
    }

    -- A MARKED EDGE HAS A POINT WHERE BOTH ITS ENDS ARE FINITE
    pub point-is : (cluster : Bool) (s e t : ℕ) → across_of n s e ≡ Some t → (box_of n S h cluster).point s e ≡ finite (sample S s) && finite (sample S t)
    unfolding box_of point_by
    point-is cluster s e t a = ap (point_by S s) a
