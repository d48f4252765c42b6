-- Every position of every stage of a build is finite, whatever the samples are: a vertex has some edges, and each of them is crossed and has finite ends. Assumes nothing.
use Rattle.std.specs.Prelude.{Option, None, Some}
use mathlib.Core.Path.{◌≡◌, refl, sym, ap, ◌∙◌}
use mathlib.Core.Bool.{Bool, true, false, beq, cond, false≢true}
use mathlib.Core.List.{List, [], ◌∷◌, map}
use Prim.Native.Nat.{ℕ, suc, ◌≤◌, ◌<◌}
use native.Mathlib.Omega.{arith}
use lib.Dec.{ltb}
use lib.ListN.{length}
use lib.Ieee.{Float}
use Rattle.laws.specs.Lists.{keep, All}
use Rattle.laws.proofs.Bools.{and-apart, beq_sym}
use Rattle.laws.proofs.Ranges.{each_all, each-one-length}
use Rattle.laws.proofs.Lists.{keep-le, keep_pass, all_map}
use Rattle.samples.specs.Sides.{finite, inside, mark_fraction, crossing, near}
use Rattle.lattice.specs.declared.Sides.{Sides}
use Rattle.lattice.specs.Sites.{SidesFit, sites, uvw_of, ijk_of}
use Rattle.lattice.specs.Across.{across_of}
use Rattle.lattice.proofs.Sites.{uvw_box}
use Rattle.lattice.proofs.OtherEnds.{across-joined}
use Rattle.marks.specs.Marks.{sample, beyond, marked_by, marked}
use Rattle.points.specs.declared.Point.{Point}
use Rattle.points.specs.declared.Frame.{Frame}
use Rattle.points.specs.Limits.{frame_ok}
use Rattle.points.specs.Means.{mean_of}
use Rattle.points.specs.Finite.{Under, PointUnder, OnEdge, AllOnEdges}
use Rattle.points.specs.Finite as fine
use Rattle.points.proofs.Sizes.{under-finite}
use Rattle.points.proofs.Finite.{box-low, edge_at, mean-within}
use Rattle.stages.specs.Boxes.{Box}
use Rattle.stages.specs.Vertices.{Vertex, fresh, held, apart, filled, site_vertices, candidates}
use Rattle.stages.specs.Meshes.{numbers, positions_of}
use Rattle.stages.specs.Rounds.{is_in, retired}
use Rattle.stages.specs.Samples.{point_by, box_of, AllDouble, place_of, points_of, position_at}
use Rattle.stages.specs.Stages.{Stage}
use Rattle.stages.specs.Inner.Clustered.{Ascending, Proper}
use Rattle.stages.proofs.Members.{stage_all}
use Rattle.stages.proofs.Readback.{head_in, tail_in, stage_proper}
use Rattle.stages.proofs.SampleClusters.{mark_at}
use Rattle.stages.proofs.SampleMarks.{set-marked, sample_clustered}

-- ---- a vertex was made for some edges, each with a point

record Pointed (b : Box) (x : Vertex) : Type 0 where
  pub some : filled x.edges ≡ true
  pub points : All (λ e. b.point x.site e ≡ true) x.edges

module _ (b : Box) where
  singles-pointed : (r s : ℕ) (es : List ℕ) → All (λ e. b.point s e ≡ true) es → All (Pointed b) (map (λ e. fresh r s (e ∷ [])) es)
  unfolding All fresh filled
  singles-pointed r s [] a = tt
  singles-pointed r s (e ∷ es) a = (record { some = refl; points = (a.0, tt) }, singles-pointed r s es a.1)

  apart-pointed : (r : ℕ) (x : Vertex) → Pointed b x → All (Pointed b) (apart r x)
  unfolding apart held All
  apart-pointed r x p = go x.live
    where
      go : (c : Bool) → All (Pointed b) (map (λ e. fresh r x.site (e ∷ [])) (cond c x.edges []))
      go true = singles-pointed r x.site x.edges p.points
      go false = tt

  retired-pointed : (x : Vertex) → Pointed b x → Pointed b (retired x)
  unfolding retired
  retired-pointed x p = record { some = p.some; points = p.points }

  groups_pointed : (s : ℕ) (ls : List (List ℕ)) → All (Pointed b) (map (fresh 0 s) (keep filled (map (keep (b.point s)) ls)))
  unfolding All keep fresh
  groups_pointed s [] = tt
  groups_pointed s (l ∷ ls) = go (filled (keep (b.point s) l)) refl (groups_pointed s ls)
    where
      go : (c : Bool) → filled (keep (b.point s) l) ≡ c → All (Pointed b) (map (fresh 0 s) (keep filled (map (keep (b.point s)) ls)))
          → All (Pointed b) (map (fresh 0 s) (cond c (keep (b.point s) l ∷ keep filled (map (keep (b.point s)) ls)) (keep filled (map (keep (b.point s)) ls))))
      go true q r = (record { some = q; points = keep_pass (b.point s) l }, r)
      go false q r = r

  stage_pointed : {vs : List Vertex} → Stage b vs → All (Pointed b) vs
  unfolding candidates site_vertices
  stage_pointed st =
      stage_all (Pointed b) apart-pointed retired-pointed b (each_all (Pointed b) (sites b.sides) (site_vertices b) (λ s l. groups_pointed s (b.clusters s))) st

-- ---- a marked edge is crossed

-- whichever end is asked about: an edge that is not crossed is marked at neither
differs : (marks : Option Float → Bool) → marks None ≡ false → (x y h : Float) → marks (crossing x y h) ≡ true → beq (inside x h) (inside y h) ≡ false
unfolding crossing
differs marks none x y h = go (beq (inside x h) (inside y h))
  where
    go : (d : Bool) → marks (cond d None (Some (mark_fraction x y))) ≡ true → d ≡ false
    go true m = absurd (false≢true (sym none ∙ m))
    go false m = refl

marked_differs : (S : List Float) (h : Float) (s e t : ℕ) → marked_by S h s e (Some t) ≡ true → beq (inside (sample S s) h) (inside (sample S t) h) ≡ false
unfolding marked_by
marked_differs S h s e t m = go (ltb e 7) m
  where
    go : (c : Bool) → cond c (near (crossing (sample S s) (sample S t) h)) (beyond (crossing (sample S t) (sample S s) h)) ≡ true
        → beq (inside (sample S s) h) (inside (sample S t) h) ≡ false
    go true q = differs near refl (sample S s) (sample S t) h q
    go false q = beq_sym (inside (sample S s) h) (inside (sample S t) h) ∙ differs beyond refl (sample S t) (sample S s) h q

-- ---- its point, the points of a vertex, and their mean

-- the edges of a list, one by one
all_in : (P : ℕ → Type 0) (es : List ℕ) → ((e : ℕ) → is_in es e ≡ true → P e) → All P es
unfolding All
all_in P [] sub = tt
all_in P (e ∷ es) sub = (sub e (head_in e es), all_in P es (λ d i. sub d (tail_in d e es i)))

ascending_few : (es : List ℕ) → Ascending es → length es ≤ 14
unfolding Ascending numbers
ascending_few es a = omega (arith, ap length a, keep-le (is_in es) (numbers 14), each-one-length 14 (λ i. i))

filled-some : (es : List ℕ) → filled es ≡ true → 1 ≤ length es
unfolding filled
filled-some [] h = absurd (false≢true h)
filled-some (e ∷ es) h = omega arith

module _ (f : Frame) (n : Sides) (S : List Float) (h : Float) (ok : frame_ok f ≡ true) (fit : SidesFit n) (double : AllDouble S) where
  -- the point of a marked edge whose ends are finite
  record Stands (s : ℕ) (o : Option ℕ) : Type 0 where
    pub point : Point
    pub is : place_of f n S s o ≡ Some point
    pub on_edge : OnEdge f h point

  stands : (s e : ℕ) → s < sites n → marked n S h s e ≡ true → point_by S s (across_of n s e) ≡ true → Stands s (across_of n s e)
  unfolding marked point_by place_of AllDouble
  stands s e hs m p = go (across_of n s e) refl m p
    where
      go : (o : Option ℕ) → across_of n s e ≡ o → marked_by S h s e o ≡ true → point_by S s o ≡ true → Stands s o
      go None a m p = absurd (false≢true p)
      go (Some t) a m p =
          let q = and-apart (finite (sample S s)) (finite (sample S t)) p in
          let i = edge_at f (ijk_of (uvw_of n s).u (uvw_of n s).v (uvw_of n s).w) (ijk_of (uvw_of n t).u (uvw_of n t).v (uvw_of n t).w) (sample S s) (sample S t) q.0 q.1 in
          record {
            point = _;
            is = i;
            on_edge = record {
              a = uvw_of n s;
              b = uvw_of n t;
              p = sample S s;
              q = sample S t;
              a_low = box-low n (uvw_of n s) fit (uvw_box n fit s hs);
              b_low = box-low n (uvw_of n t) fit (uvw_box n fit t (across-joined n s e t fit hs a).inside);
              p_fits = double s;
              q_fits = double t;
              differ = marked_differs S h s e t m;
              is = i;
            };
          }

  -- a point for each edge, and each on its edge
  points_on : (s : ℕ) (es : List ℕ) → s < sites n → All (λ e. marked n S h s e ≡ true) es → All (λ e. point_by S s (across_of n s e) ≡ true) es
      → AllOnEdges f h (points_of f n S s es) × (length (points_of f n S s es) ≡ length es)
  unfolding All points_of
  points_on s [] hs m p = (fine.end, refl)
  points_on s (e ∷ es) hs m p =
      let g = stands s e hs m.0 p.0 in
      let r = points_on s es hs m.1 p.1 in
      rw g.is (fine.next g.on_edge r.0, ap suc r.1)

  vertex_under : (cluster : Bool) (x : Vertex) → Proper (box_of n S h cluster) (mark_at n S h) x → Pointed (box_of n S h cluster) x
      → PointUnder (mean_of (points_of f n S x.site x.edges)) 47
  unfolding box_of
  vertex_under cluster x k p =
      let r = points_on x.site x.edges k.low (all_in (λ e. marked n S h x.site e ≡ true) x.edges (λ e i. set-marked n S h x.site e (k.marks e i))) p.points in
      let l = r.1 in
      mean-within f h (points_of f n S x.site x.edges) ok (omega (arith, filled-some x.edges p.some)) (omega (arith, ascending_few x.edges k.order)) r.0

  all_under : (cluster : Bool) (vs : List Vertex) → All (Proper (box_of n S h cluster) (mark_at n S h)) vs → All (Pointed (box_of n S h cluster)) vs
      → All (λ x. Under x 47) (positions_of (position_at f n S) vs)
  unfolding All positions_of position_at
  all_under cluster [] k p = tt
  all_under cluster (x ∷ vs) k p =
      let c = vertex_under cluster x k.0 p.0 in
      (c.x, (c.y, (c.z, all_under cluster vs k.1 p.1)))

  -- EVERY POSITION OF EVERY STAGE IS AT MOST 2 ^ 47 IN SIZE ON EACH AXIS
  pub positions_under : (cluster : Bool) {vs : List Vertex} → Stage (box_of n S h cluster) vs → All (λ x. Under x 47) (positions_of (position_at f n S) vs)
  positions_under cluster {vs} st =
      all_under cluster vs (stage_proper (box_of n S h cluster) (mark_at n S h) (sample_clustered n S h fit cluster) st) (stage_pointed (box_of n S h cluster) st)

  -- SO EVERY ONE IS FINITE
  pub positions_finite : (cluster : Bool) {vs : List Vertex} → Stage (box_of n S h cluster) vs → All (λ x. finite x ≡ true) (positions_of (position_at f n S) vs)
  positions_finite cluster {vs} st = all_map (λ x. Under x 47) (λ x. finite x ≡ true) (λ x. under-finite x 47) (positions_of (position_at f n S) vs) (positions_under cluster st)
