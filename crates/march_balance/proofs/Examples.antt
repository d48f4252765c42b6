-- Computed examples: a box that meets the premises and has 24 triangles, and the smallest box that shows why the border must be on one side. Assumes nothing.
use mathlib.Core.Path.{◌≡◌, refl}
use mathlib.Core.Bool.{Bool, true, false, not, ◌||◌, cond, false≢true}
use mathlib.Core.Logic.{◌≢◌}
use Prim.Native.Nat.{ℕ, ◌+◌, ◌*◌, ◌<◌}
use native.Mathlib.Omega.{arith}
use lib.Dec.{T, eqb}
use lib.ListN.{length}
use Rattle.laws.specs.Ranges.{all}
use Rattle.laws.specs.Lists.{keep, count}
use Rattle.laws.proofs.Ranges.{all-at, all_at2}
use Rattle.lattice.specs.declared.Sides.{Sides}
use Rattle.lattice.specs.Sites.{SidesFit, in_box, site_of, at_end, on_border, step}
use Rattle.lattice.proofs.OtherEnds.{box_in}
use Rattle.march.specs.March.{Field, none, ok_at, side_at, vertex_at, corners_of, vertex_in, resolved, proper, emitted, site_tris, slab, march}
use Rattle.march.specs.Runs.{runs, crossed}
use Rattle.march_balance.specs.Fit.{Fit, Own}
use Rattle.march_balance.specs.Numbered.{numbered}
use Rattle.march_balance.proofs.Cells.{cell_key}
use Rattle.march_balance.proofs.Numbered.{numbered-fit, numbered-own, numbered-named}

-- `unfolding march_key` opens all that the march of a known box computes by
unfoldable march_key : Unit {0}
unfolding cell_key numbered march slab site_tris keep emitted resolved proper none vertex_in step corners_of ok_at side_at vertex_at in_box site_of count runs
march_key = tt

cube : ℕ → Sides
cube k = record { nu = k; nv = k; nw = k }

cube_fits : (k : ℕ) → 0 < k → k < 33 → SidesFit (cube k)
unfolding cube
cube_fits k p q = record { u_some = p; u_most = omega arith; v_some = p; v_most = omega arith; w_some = p; w_most = omega arith }

-- ---- 3 x 3 x 3 with its centre inside

unfoldable pub ball : Field
unfolding cube
ball = numbered (cube 3) (λ s. eqb s 13)

pub ball_24 : length (march ball) ≡ 24
unfolding ball march_key
ball_24 = refl

outer : ℕ → ℕ → ℕ → Bool
outer u v w = not (on_border (cube 3) u v w) || not (eqb (site_of (cube 3) u v w) 13)

outer_at : (u v w : ℕ) → u < 3 → v < 3 → w < 3 → T (outer u v w)
unfolding all outer on_border at_end site_of cube
outer_at u v w hu hv hw = all-at 3 (λ w. outer u v w) (all_at2 3 3 (λ u v. all 3 (λ w. outer u v w)) tt u v hu hv) w hw

ball_border : (u v w : ℕ) → in_box (cube 3) u v w ≡ true → on_border (cube 3) u v w ≡ true → eqb (site_of (cube 3) u v w) 13 ≡ false
unfolding outer cube
ball_border u v w i e =
    let b = box_in (cube 3) u v w i in
    go (on_border (cube 3) u v w) (eqb (site_of (cube 3) u v w) 13) e (outer_at u v w b.on_u b.on_v b.on_w)
  where
    go : (x y : Bool) → x ≡ true → T (not x || not y) → y ≡ false
    go true true e t = absurd t
    go true false e t = refl
    go false y e t = absurd (false≢true e)

-- the premises hold of it, with the border outside
pub ball-fit : Fit ball false
unfolding ball
ball-fit = numbered-fit (cube 3) (λ s. eqb s 13) (cube_fits 3 (omega arith) (omega arith)) false ball_border

pub ball-own : Own ball
unfolding ball
ball-own = numbered-own (cube 3) (λ s. eqb s 13) (cube_fits 3 (omega arith) (omega arith))

-- ---- 2 x 2 x 2 with one corner inside: all premises hold but that of the border, and the pair of vertices 0 and 1 is run one way only
-- A smaller box has no cell, and so no triangle.

unfoldable pub corner : Field
unfolding cube
corner = numbered (cube 2) (λ s. eqb s 0)

pub corner-finite : (u v w : ℕ) → in_box corner.box u v w ≡ true → corner.finite (site_of corner.box u v w) ≡ true
unfolding corner numbered
corner-finite u v w i = refl

pub corner-named : (u v w l : ℕ) → crossed corner u v w l ≡ true → vertex_at corner u v w l ≢ none
unfolding corner
corner-named = numbered-named (cube 2) (λ s. eqb s 0) (cube_fits 2 (omega arith) (omega arith))

pub corner-open : (count (runs 1 0) (march corner) ≡ 1) × (count (runs 0 1) (march corner) ≡ 0)
unfolding corner march_key
corner-open = (refl, refl)

-- so the balance does not follow without the border
pub border_needed : ((F : Field)
    → ((u v w : ℕ) → in_box F.box u v w ≡ true → F.finite (site_of F.box u v w) ≡ true)
    → ((u v w l : ℕ) → crossed F u v w l ≡ true → vertex_at F u v w l ≢ none)
    → (p q : ℕ) → count (runs p q) (march F) ≡ count (runs q p) (march F)) → ⊥
border_needed k = omega (arith, k corner corner-finite corner-named 1 0, corner-open.0, corner-open.1)

-- ---- the ball with one crossed edge that has no vertex: the border is on one side, and a pair is run one way only

unfoldable pub holed : Field
holed = record { box = ball.box; finite = ball.finite; side = ball.side; vertex = λ s l. cond (eqb (7 * s + l) 91) none (7 * s + l) }

pub holed-open : (count (runs 12 34) (march holed) ≡ 1) × (count (runs 34 12) (march holed) ≡ 0)
unfolding holed ball march_key
holed-open = (refl, refl)

holed_border : (u v w : ℕ) → in_box holed.box u v w ≡ true → on_border holed.box u v w ≡ true → side_at holed u v w ≡ false
unfolding holed side_at
holed_border u v w i e = ball-fit.border u v w i e

-- nor without a vertex for every crossed edge
pub named_needed : ((F : Field) (o : Bool)
    → ((u v w : ℕ) → in_box F.box u v w ≡ true → F.finite (site_of F.box u v w) ≡ true)
    → ((u v w : ℕ) → in_box F.box u v w ≡ true → on_border F.box u v w ≡ true → side_at F u v w ≡ o)
    → (p q : ℕ) → count (runs p q) (march F) ≡ count (runs q p) (march F)) → ⊥
unfolding holed
named_needed k = omega (arith, k holed false ball-fit.finite holed_border 12 34, holed-open.0, holed-open.1)
