-- Sums over a box of cells: term by term, moved by one along an axis, and of one term at the most. Assumes nothing.
use mathlib.Core.Path.{◌≡◌, refl, ap, ◌∙◌}
use Prim.Native.Nat.{ℕ, zero, suc, ◌+◌, ◌≤◌, ◌<◌}
use native.Mathlib.Omega.{arith}
use Rattle.laws.specs.Ranges.{sum}
use Rattle.laws.proofs.Sums.{sum_same, sum-zero, sum-plus, sum-next, sum_pos, sum_one}
use Rattle.tables.specs.Edges.{du, dv, dw}
use Rattle.tables.proofs.Edges.{steps_lt}
use Rattle.lattice.specs.Sites.{step}
use Rattle.march_balance.specs.Faces.{unit}

-- the one of three that belongs to axis x
unfoldable pub on : ℕ → ℕ → ℕ → ℕ → ℕ
on zero u v w = u
on (suc zero) u v w = v
on (suc (suc x)) u v w = w

-- how far corner c of a cell lies along axis x: 0 or 1
unfoldable pub step_on : ℕ → ℕ → ℕ
step_on x c = on x (du c) (dv c) (dw c)

pub step_on-lt : (x c : ℕ) → step_on x c < 2
unfolding step_on on
step_on-lt zero c = (steps_lt c).0
step_on-lt (suc zero) c = (steps_lt c).1
step_on-lt (suc (suc x)) c = (steps_lt c).2

-- f at corner c of the cell at (u, v, w)
unfoldable pub above : {A : Type 0} → ℕ → (ℕ → ℕ → ℕ → A) → ℕ → ℕ → ℕ → A
above c f u v w = f (step (du c) u) (step (dv c) v) (step (dw c) w)

-- the sum over a box of a x b x c cells
unfoldable pub box_sum : (a b c : ℕ) → (ℕ → ℕ → ℕ → ℕ) → ℕ
box_sum a b c f = sum c (λ w. sum b (λ v. sum a (λ u. f u v w)))

-- a sum moved by one is the same where both ends give nothing
next-same : (n : ℕ) (f : ℕ → ℕ) → f 0 ≡ 0 → f n ≡ 0 → sum n (λ i. f (suc i)) ≡ sum n f
next-same n f p q = omega (arith, sum-next n f)

module _ (a b c : ℕ) where
  pub box-same : (f g : ℕ → ℕ → ℕ → ℕ) → ((u v w : ℕ) → f u v w ≡ g u v w) → box_sum a b c f ≡ box_sum a b c g
  unfolding box_sum
  box-same f g h = sum_same c _ _ (λ w lw. sum_same b _ _ (λ v lv. sum_same a _ _ (λ u lu. h u v w)))

  pub box-plus : (f g : ℕ → ℕ → ℕ → ℕ) → box_sum a b c (λ u v w. f u v w + g u v w) ≡ box_sum a b c f + box_sum a b c g
  unfolding box_sum
  box-plus f g = simp sum-plus

  pub box-zero : box_sum a b c (λ u v w. 0) ≡ 0
  unfolding box_sum
  box-zero = sum-zero c _ (λ w lw. sum-zero b _ (λ v lv. sum-zero a (λ u. 0) (λ u lu. refl)))

  pub box_sum_lem : (n : ℕ) (f : ℕ → ℕ → ℕ → ℕ → ℕ) → box_sum a b c (λ u v w. sum n (λ x. f x u v w)) ≡ sum n (λ x. box_sum a b c (f x))
  unfolding sum
  box_sum_lem zero f = box-zero
  box_sum_lem (suc n) f = box-plus (λ u v w. sum n (λ x. f x u v w)) (f n) ∙ ap (λ (m : ℕ). m + box_sum a b c (f n)) (box_sum_lem n f)

  -- moved by one along axis x, where f is 0 at both ends of the axis
  pub box-next : (x : ℕ) → x < 3 → (f : ℕ → ℕ → ℕ → ℕ) → ((u v w : ℕ) → on x u v w ≡ 0 → f u v w ≡ 0) → ((u v w : ℕ) → on x u v w ≡ on x a b c → f u v w ≡ 0)
      → box_sum a b c (above (unit x) f) ≡ box_sum a b c f
  unfolding box_sum above on unit du dv dw step
  box-next zero l f p q = sum_same c _ _ (λ w lw. sum_same b _ _ (λ v lv. next-same a (λ u. f u v w) (p 0 v w refl) (q a v w refl)))
  box-next (suc zero) l f p q =
      sum_same c _ _ (λ w lw. next-same b (λ v. sum a (λ u. f u v w)) (sum-zero a _ (λ u lu. p u 0 w refl)) (sum-zero a _ (λ u lu. q u b w refl)))
  box-next (suc (suc zero)) l f p q =
      next-same c (λ w. sum b (λ v. sum a (λ u. f u v w)))
      (sum-zero b _ (λ v lv. sum-zero a _ (λ u lu. p u v 0 refl))) (sum-zero b _ (λ v lv. sum-zero a _ (λ u lu. q u v c refl)))
  box-next (suc (suc (suc x))) l f p q = absurd (omega arith)

  -- a sum of which no two terms are not 0, and none is more than 1
  pub box-one : (f : ℕ → ℕ → ℕ → ℕ) → ((u v w : ℕ) → f u v w ≤ 1)
      → ((u v w u' v' w' : ℕ) → 0 < f u v w → 0 < f u' v' w' → (u ≡ u') × (v ≡ v') × (w ≡ w')) → box_sum a b c f ≤ 1
  unfolding box_sum
  box-one f h k =
      sum_one c (λ w. sum b (λ v. sum a (λ u. f u v w)))
      (λ w lw. sum_one b (λ v. sum a (λ u. f u v w))
      (λ v lv. sum_one a (λ u. f u v w) (λ u lu. h u v w) (λ u u' lu lu' p p'. (k u v w u' v w p p').0))
      (λ v v' lv lv' p p'.
      let r = sum_pos a (λ u. f u v w) p in
      let r' = sum_pos a (λ u. f u v' w) p' in
      (k r.0 v w r'.0 v' w r.2 r'.2).1))
      (λ w w' lw lw' p p'.
      let r = sum_pos b (λ v. sum a (λ u. f u v w)) p in
      let r' = sum_pos b (λ v. sum a (λ u. f u v w')) p' in
      let q = sum_pos a (λ u. f u r.0 w) r.2 in
      let q' = sum_pos a (λ u. f u r'.0 w') r'.2 in
      (k q.0 r.0 w q'.0 r'.0 w' q.2 q'.2).2)
