-- Taking points in one by one gives the mean of the list of points. Assumes nothing.
use Prim.Native.Nat.{ℕ, suc, ◌+◌}
use native.Mathlib.Nat.{add-zero}
use native.Mathlib.Omega.{arith}
use mathlib.Core.Path.{◌≡◌, refl, sym, ap, ◌∙◌}
use mathlib.Core.Bool.{false, cond}
use mathlib.Core.List.{List, [], ◌∷◌, ◌++◌}
use lib.ListN.{length}
use lib.Dec.{eqb}
use borrow.Author.Tests.{ne_eqb}
use Rattle.points.specs.declared.Point.{Point}
use Rattle.points.specs.declared.Sum.{Sum}
use Rattle.points.specs.Means.{zeros, times, total, share, mean_of, none, more, mean_sum, gather, sum_of}

gather-total : (ps : List Point) (s : Sum) → (gather s ps).total ≡ total s.total ps
unfolding more
gather-total [] s = refl
gather-total (p ∷ ps) s = gather-total ps (more s p)

gather-count : (ps : List Point) (s : Sum) → (gather s ps).count ≡ s.count + length ps
unfolding more
gather-count [] s = sym (add-zero s.count)
gather-count (p ∷ ps) s = gather-count ps (more s p) ∙ omega arith

gather-more : (ps : List Point) (s : Sum) (p : Point) → gather s (ps ++ p ∷ []) ≡ more (gather s ps) p
gather-more [] s p = refl
gather-more (q ∷ ps) s p = gather-more ps (more s q) p

-- one point more is counted
pub more-count : (s t : Sum) (p : Point) → t ≡ more s p → t.count ≡ s.count + 1
unfolding more
more-count s t p e = ap (λ (x : Sum). x.count) e

-- what `no_points`, `with_point` and `mean` answer, over the list of points
pub sum-none : none ≡ sum_of []
unfolding sum_of
sum-none = refl

pub sum_more : (ps : List Point) (p : Point) → more (sum_of ps) p ≡ sum_of (ps ++ p ∷ [])
unfolding sum_of
sum_more ps p = sym (gather-more ps none p)

pub sum-count : (ps : List Point) → (sum_of ps).count ≡ length ps
unfolding sum_of
sum-count ps = gather-count ps none ∙ omega arith

pub mean_sum_lem : (ps : List Point) → mean_sum (sum_of ps) ≡ mean_of ps
unfolding mean_sum mean_of sum_of more
mean_sum_lem [] = refl
mean_sum_lem (p ∷ []) = refl
mean_sum_lem (p ∷ q ∷ ps) =
    let n : (gather none (p ∷ q ∷ ps)).count ≡ length (p ∷ q ∷ ps) = gather-count (p ∷ q ∷ ps) none ∙ omega arith in
    let t : (gather none (p ∷ q ∷ ps)).total ≡ total zeros (p ∷ q ∷ ps) = gather-total (p ∷ q ∷ ps) none in
    let z : eqb (length (p ∷ q ∷ ps)) 1 ≡ false = ne_eqb (suc (suc (length ps))) 1 (λ (e : suc (suc (length ps)) ≡ 1). omega arith) in
    go (gather none (p ∷ q ∷ ps)).last (gather none (p ∷ q ∷ ps)).count (gather none (p ∷ q ∷ ps)).total n t z
  where
    go : (l : Point) (n : ℕ) (t : Point) → n ≡ length (p ∷ q ∷ ps) → t ≡ total zeros (p ∷ q ∷ ps) → eqb (length (p ∷ q ∷ ps)) 1 ≡ false
        → cond (eqb n 1) l (times t (share n)) ≡ times (total zeros (p ∷ q ∷ ps)) (share (length (p ∷ q ∷ ps)))
    go l n t e f z = rw (e, f, z)
