-- Edges drawn one after the other: the two ways out of one edge, and the loop over the edges of a cluster. Assumes nothing.
use Rattle.std.specs.Prelude.{Option, None, Some}
use mathlib.Core.Path.{◌≡◌, refl, sym, ap, ◌∙◌}
use mathlib.Core.Logic.{⊎_elim}
use mathlib.Core.List.{List, [], ◌∷◌, ◌++◌, map, append_assoc}
use Prim.Native.Nat.{ℕ, suc, ◌+◌, ◌*◌, ◌^◌, ◌%◌, ◌≤◌, ◌<◌}
use native.Mathlib.Omega.{arith}
use lib.Bits.{bit_and, bit_xor}
use lib.Count.{count_trailing_zeros, ones_in}
use lib.ListN.{length, set}
use lib.Ieee.{Float}
use Rattle.laws.specs.Inner.Visits.{set_places, Visiting}
use Rattle.laws.specs.Lists.{keep}
use Rattle.laws.proofs.Ranges.{lt-or}
use Rattle.laws.proofs.Lists.{keep_append, map-append}
use Rattle.laws.proofs.Digits.{ones_le}
use Rattle.laws.proofs.Visits.{visit_start, visit_turn, visit_end, low-here, low_bit_lem, off_less}
use Rattle.lattice.specs.declared.Sides.{Sides}
use Rattle.lattice.specs.Sites.{sites}
use Rattle.lattice.specs.Across.{across_of}
use Rattle.points.specs.declared.Frame.{Frame}
use Rattle.points.specs.declared.Point.{Point}
use Rattle.points.specs.declared.Sum.{Sum}
use Rattle.points.specs.Means.{none, more, gather, sum_of}
use Rattle.stages.specs.Boxes.{owned}
use Rattle.stages.specs.Meshes.{numbers}
use Rattle.stages.specs.Samples.{edges_of, point_by, place_of, listed, points_of}
use Rattle.stages.specs.Inner.Steps.{paint}
use Rattle.stages.proofs.SampleMarks.{owned-low, owned_high}
use Rattle.site_vertices.specs.Inner.Appending.{pointed_of}
use Rattle.site_vertices.specs.Inner.Drawing.{EdgesDrawn, ClusterDrawn}
use Rattle.site_vertices.proofs.Points.{is_at, point_at}

-- an edge's place is in the table
pub place-low : (n : Sides) (s e : ℕ) → s < sites n → e < 14 → owned n s e < 7 * sites n
place-low n s e h k = ⊎_elim (λ l. omega (arith, owned-low n s e l)) (λ g. omega (arith, owned_high n s e g)) (lt-or e 7)

-- ---- lists joined

gather_append : (q : Sum) (ps rs : List Point) → gather q (ps ++ rs) ≡ gather (gather q ps) rs
gather_append q [] rs = refl
gather_append q (p ∷ ps) rs = gather_append (more q p) ps rs

paint-append : (i : ℕ) (ks ls t : List ℕ) → paint i (ks ++ ls) t ≡ paint i ls (paint i ks t)
unfolding paint
paint-append i [] ls t = refl
paint-append i (k ∷ ks) ls t = paint-append i ks ls (set t k i)

pub pointed-append : (n : Sides) (S : List Float) (s : ℕ) (xs ys : List ℕ) → pointed_of n S s (xs ++ ys) ≡ pointed_of n S s xs ++ pointed_of n S s ys
unfolding pointed_of
pointed-append n S s xs ys = keep_append (λ e. point_by S s (across_of n s e)) xs ys

module _ (f : Frame) (n : Sides) (S : List Float) (s : ℕ) where
  points-append : (xs ys : List ℕ) → points_of f n S s (xs ++ ys) ≡ points_of f n S s xs ++ points_of f n S s ys
  unfolding points_of
  points-append [] ys = refl
  points-append (e ∷ xs) ys =
      ap (λ (l : List Point). listed (place_of f n S s (across_of n s e)) ++ l) (points-append xs ys)
      ∙ sym (append_assoc (listed (place_of f n S s (across_of n s e))) (points_of f n S s xs) (points_of f n S s ys))

  -- ---- one edge

  module _ (i e : ℕ) (t : List ℕ) (q : Sum) where
    pub edge_none : place_of f n S s (across_of n s e) ≡ None → EdgesDrawn f n S s (e ∷ []) i t t q q
    unfolding points_of pointed_of keep paint is_at
    edge_none a = record { sum = sym (rw a refl); table = sym (rw (point_at f n S s (across_of n s e), a) refl) }

    pub edge-some : (p : Point) (k : ℕ) → place_of f n S s (across_of n s e) ≡ Some p → k ≡ owned n s e → EdgesDrawn f n S s (e ∷ []) i t (set t k i) q (more q p)
    unfolding points_of pointed_of keep paint is_at
    edge-some p k a o = record { sum = sym (rw a refl); table = sym (rw (point_at f n S s (across_of n s e), a, ← o) refl) }

  -- it adds at most one point
  point-count : (o : Option Point) (q : Sum) → (gather q (listed o ++ [])).count ≤ suc q.count
  unfolding more
  point-count None q = omega arith
  point-count (Some p) q = omega arith

  edge_count : {i e : ℕ} {t t' : List ℕ} {q r : Sum} → EdgesDrawn f n S s (e ∷ []) i t t' q r → r.count ≤ suc q.count
  unfolding points_of
  edge_count {i} {e} {t} {t'} {q} {r} d = omega (arith, ap (λ (x : Sum). x.count) d.sum, point-count (place_of f n S s (across_of n s e)) q)

  -- ---- edge after edge

  drawn_none : (i : ℕ) (t : List ℕ) (q : Sum) → EdgesDrawn f n S s [] i t t q q
  unfolding points_of pointed_of keep paint
  drawn_none i t q = record { sum = refl; table = refl }

  drawn_more : {i : ℕ} {xs ys t t' t'' : List ℕ} {q q' q'' : Sum} → EdgesDrawn f n S s xs i t t' q q' → EdgesDrawn f n S s ys i t' t'' q' q''
      → EdgesDrawn f n S s (xs ++ ys) i t t'' q q''
  drawn_more {i} {xs} {ys} {t} {t'} {t''} {q} {q'} {q''} a c = record {
    sum = c.sum ∙ ap (λ (x : Sum). gather x (points_of f n S s ys)) a.sum ∙ sym (gather_append q (points_of f n S s xs) (points_of f n S s ys))
        ∙ ap (gather q) (sym (points-append xs ys));
    table = c.table ∙ ap (paint i (map (owned n s) (pointed_of n S s ys))) a.table
        ∙ sym (paint-append i (map (owned n s) (pointed_of n S s xs)) (map (owned n s) (pointed_of n S s ys)) t)
        ∙ ap (λ (l : List ℕ). paint i l t) (sym (ap (map (owned n s)) (pointed-append n S s xs ys) ∙ map-append (owned n s) (pointed_of n S s xs) (pointed_of n S s ys)));
  }

-- ---- the lowest edge of the mask rest, where an edge is left

pub record Lowest (rest : ℕ) : Type 0 where
  pub edge : count_trailing_zeros 16 rest < 14
  pub bit : 1 * 2 ^ count_trailing_zeros 16 rest % 65536 ≡ 2 ^ count_trailing_zeros 16 rest
  pub less : ones_in 14 (bit_xor rest (2 ^ count_trailing_zeros 16 rest)) < ones_in 14 rest

pub lowest : (rest : ℕ) → 0 < rest → rest < 2 ^ 14 → Lowest rest
lowest rest p h = record { edge = low-here 16 14 rest (omega arith) p h; bit = low_bit_lem 16 14 rest (omega arith) p h; less = off_less 16 14 rest (omega arith) p h }

-- ---- the loop over the edges of the mask m: from the table t₀ to t the sum is q, and the edges of rest are left

abbrev pub Draws : Frame → Sides → List Float → ℕ → ℕ → List ℕ → Sum × List ℕ → Sum × List ℕ → Type 0
Draws f n S s i es a b = EdgesDrawn f n S s es i a.1 b.1 a.0 b.0

pub record Drawing (f : Frame) (n : Sides) (S : List Float) (s m i : ℕ) (t₀ t : List ℕ) (q : Sum) (rest : ℕ) : Type 0 where
  pub visits : Visiting (Draws f n S s i) 14 m (none, t₀) rest (q, t)
  pub long : length t ≡ length t₀
  pub few : q.count + ones_in 14 rest ≤ 14

module _ (f : Frame) (n : Sides) (S : List Float) (s m i : ℕ) (t₀ : List ℕ) where
  pub drawing_start : (q : Sum) → q ≡ none → Drawing f n S s m i t₀ t₀ q (bit_and m 0x3FFF)
  drawing_start q e = rw e (record { visits = visit_start (Draws f n S s i) 14 m (none, t₀); long = refl; few = omega (arith, ones_le 14 (bit_and m 0x3FFF)) })

  module _ (t : List ℕ) (q : Sum) (rest : ℕ) (d : Drawing f n S s m i t₀ t q rest) where
    pub drawing_turn : 0 < rest → (t' : List ℕ) (q' : Sum) → EdgesDrawn f n S s (count_trailing_zeros 16 rest ∷ []) i t t' q q' → length t' ≡ length t
        → Drawing f n S s m i t₀ t' q' (bit_xor rest (2 ^ count_trailing_zeros 16 rest))
    drawing_turn p t' q' a l = record {
      visits = visit_turn (Draws f n S s i) 16 (λ x y z e es. drawn_more f n S s) (omega arith) p d.visits (q', t') a;
      long = l ∙ d.long;
      few = omega (arith, d.few, off_less 16 14 rest (omega arith) p d.visits.short, edge_count f n S s a);
    }

    -- THE SUM AND THE TABLE ARE THE CLUSTER'S
    pub drawing_end : rest ≡ 0 → ClusterDrawn f n S s m i t₀ t q
    unfolding edges_of numbers set_places sum_of
    drawing_end z =
        let a = visit_end (Draws f n S s i) (drawn_none f n S s i t q) z d.visits in
        record { sum = a.sum; table = a.table }
