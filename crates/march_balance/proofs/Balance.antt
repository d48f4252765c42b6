-- The march is balanced: as many triangles run p to q as q to p, for every lookup of vertices; and what follows from it. Assumes nothing.
use mathlib.Core.Path.{◌≡◌, sym, ◌∙◌}
use mathlib.Core.Logic.{◌≢◌}
use mathlib.Core.Bool.{Bool, true}
use mathlib.Core.List.{map}
use Prim.Native.Nat.{ℕ, ◌+◌, ◌*◌, ◌≤◌, ◌<◌}
use native.Mathlib.Omega.{arith}
use Rattle.laws.specs.Lists.{count, weigh}
use Rattle.laws.specs.Couples.{Pair, turn, from_to}
use Rattle.laws.specs.Triangles.{sides_of}
use Rattle.laws.proofs.Couples.{turn-count, same-weigh}
use Rattle.lattice.specs.Sites.{in_box, site_of, on_border}
use Rattle.march.specs.March.{Field, none, side_at, vertex_at, march}
use Rattle.march.specs.Runs.{runs, touches}
use Rattle.march.proofs.March.{march-proper}
use Rattle.march_balance.specs.Fit.{Fit}
use Rattle.march_balance.proofs.Triangles.{runs-sides, touch_runs}
use Rattle.march_balance.proofs.Telescope.{cells_even}
use Rattle.march_balance.proofs.Sites.{side_out, march-cells, low-side, high_side}

-- the triangles on a pair are those that run it one way and those that run it the other way
pub touch_count : (F : Field) (p q : ℕ) → count (touches p q) (march F) ≡ count (runs p q) (march F) + count (runs q p) (march F)
touch_count F p q = touch_runs p q (march F) (march-proper F)

module _ (F : Field) (o : Bool) (P : Fit F o) where
  -- the directed sides of the triangles
  pub march_even : (p q : ℕ) → count (from_to p q) (sides_of (march F)) ≡ count (from_to q p) (sides_of (march F))
  march_even p q =
      rw (march-cells F o P)
      (cells_even (side_out F o) (vertex_at F) F.box.nu F.box.nv F.box.nw o (low-side F o P) (high_side F o P) p q)

  -- DEMAND 3, second part
  pub balance : (p q : ℕ) → count (runs p q) (march F) ≡ count (runs q p) (march F)
  balance p q = runs-sides p q (march F) (march-proper F) ∙ march_even p q ∙ sym (runs-sides q p (march F) (march-proper F))

  module _ (p q : ℕ) where
    -- a pair is in an even number of triangles
    pub touch_even : count (touches p q) (march F) ≡ 2 * count (runs p q) (march F)
    touch_even = omega (arith, touch_count F p q, balance p q)

    -- a pair that is in a triangle, and in no more than two, is in two that run it opposite ways
    pub twice_closed : 0 < count (touches p q) (march F) → count (touches p q) (march F) ≤ 2
        → (count (touches p q) (march F) ≡ 2) × (count (runs p q) (march F) ≡ 1) × (count (runs q p) (march F) ≡ 1)
    twice_closed l h =
        let b = balance p q in
        (omega (arith, touch_even, b), omega (arith, touch_even, b), omega (arith, touch_even, b))

  -- Any sum over the directed sides, of whatever is added without regard to order, is the same with every side turned.
  module _ {A : Type 0} (add : A → A → A) (nought : A) (assoc : (a b c : A) → add (add a b) c ≡ add a (add b c)) (comm : (a b : A) → add a b ≡ add b a)
      (f : Pair → A) where
    pub march-weigh : weigh add nought f (sides_of (march F)) ≡ weigh add nought f (map turn (sides_of (march F)))
    march-weigh = same-weigh add nought assoc comm f _ _ (λ p q. march_even p q ∙ sym (turn-count p q (sides_of (march F))))

-- For a lookup that has a vertex for every edge the samples alone are asked: finite, and on one side along the border.
pub whole-fit : (F : Field) (o : Bool) → ((s l : ℕ) → F.vertex s l ≢ none)
    → ((u v w : ℕ) → in_box F.box u v w ≡ true → F.finite (site_of F.box u v w) ≡ true)
    → ((u v w : ℕ) → in_box F.box u v w ≡ true → on_border F.box u v w ≡ true → side_at F u v w ≡ o)
    → Fit F o
unfolding vertex_at
whole-fit F o k finite border = record { finite = finite; border = border; named = λ u v w l c. k (site_of F.box u v w) l }
