-- The march over the sites of a box is that over a box of whole cells, with the samples' sides going on outside it. Assumes nothing.
use mathlib.Core.Path.{◌≡◌, refl, sym, ap, ◌∙◌}
use mathlib.Core.Logic.{◌≢◌}
use mathlib.Core.Bool.{Bool, true, false, not, ◌||◌, cond, beq, or-true, false≢true}
use mathlib.Core.List.{List, [], ◌∷◌, map}
use Prim.Native.Nat.{ℕ, zero, suc, ◌+◌, ◌-◌, ◌/◌, ◌%◌, ◌≤◌, ◌<◌}
use native.Mathlib.Nat.{mod-lt}
use native.Mathlib.Omega.{arith}
use borrow.Author.Tests.{eqb-false, lt-ltb, eq-eqb, ne_eqb}
use lib.Dec.{eqb, ltb}
use Rattle.laws.specs.Lists.{keep, All}
use Rattle.laws.specs.Triangles.{Tri, flat}
use Rattle.laws.proofs.Bools.{and_yes, or-none}
use Rattle.laws.proofs.Ranges.{each_same}
use Rattle.tables.specs.Edges.{corner_of, du, dv, dw}
use Rattle.lattice.specs.declared.Sides.{Sides}
use Rattle.lattice.specs.Sites.{in_box, at_end, on_border, step}
use Rattle.lattice.proofs.Sites.{step-low, step_high, step-step}
use Rattle.lattice.proofs.OtherEnds.{box_in, in_box_lem}
use Rattle.march.specs.Cells.{Corners, at, on_each, cell_tris}
use Rattle.march.specs.March.{Field, none, ok_at, side_at, vertex_at, corners_of, vertex_in, resolved, proper, emitted, site_tris, slab, march}
use Rattle.march.specs.Runs.{crossed}
use Rattle.march.proofs.March.{site-none}
use Rattle.march_balance.specs.Fit.{Fit}
use Rattle.march_balance.proofs.Boxes.{on, step_on, step_on-lt, above}
use Rattle.march_balance.proofs.Cells.{always, cell_key, crossed_in, CrossedIn, crossed_in_lem, cell_crossed}
use Rattle.march_balance.proofs.Telescope.{cell_at, cells_of, corners_8}

-- ---- corners

module _ (n : Sides) where
  box-below : (u v w u' v' w' : ℕ) → in_box n u' v' w' ≡ true → u ≤ u' → v ≤ v' → w ≤ w' → in_box n u v w ≡ true
  box-below u v w u' v' w' e p q r =
      let b = box_in n u' v' w' e in
      in_box_lem n (record { u = u; v = v; w = w }) (record { on_u = omega (arith, b.on_u); on_v = omega (arith, b.on_v); on_w = omega (arith, b.on_w) })

  -- every corner of a cell is in the box if the highest is
  pub box-corner : (u v w c : ℕ) → in_box n (suc u) (suc v) (suc w) ≡ true → above c (in_box n) u v w ≡ true
  unfolding above
  box-corner u v w c e =
      box-below (step (du c) u) (step (dv c) v) (step (dw c) w) (suc u) (suc v) (suc w) e (step_high (du c) u) (step_high (dv c) v) (step_high (dw c) w)

-- two tests that agree at each corner of a cell
corners-same : (f g : ℕ → ℕ → ℕ → Bool) (u v w : ℕ) → ((c : ℕ) → above c f u v w ≡ above c g u v w) → corners_of f u v w ≡ corners_of g u v w
unfolding corners_of above step du dv dw
corners-same f g u v w h = λ i. h 0 i ∷ h 1 i ∷ h 2 i ∷ h 3 i ∷ h 4 i ∷ h 5 i ∷ h 6 i ∷ h 7 i ∷ []

pub at-corner : (S : ℕ → ℕ → ℕ → Bool) (u v w c : ℕ) → c < 8 → at (corners_of S u v w) c ≡ above c S u v w
unfolding at corners_of above step du dv dw
at-corner S u v w zero h = refl
at-corner S u v w (suc zero) h = refl
at-corner S u v w (suc (suc zero)) h = refl
at-corner S u v w (suc (suc (suc zero))) h = refl
at-corner S u v w (suc (suc (suc (suc zero)))) h = refl
at-corner S u v w (suc (suc (suc (suc (suc zero))))) h = refl
at-corner S u v w (suc (suc (suc (suc (suc (suc zero)))))) h = refl
at-corner S u v w (suc (suc (suc (suc (suc (suc (suc zero))))))) h = refl
at-corner S u v w (suc (suc (suc (suc (suc (suc (suc (suc c)))))))) h = absurd (omega arith)

-- ---- a crossed edge of a cell is a crossed edge of its owner

-- a step of 0 or 1 twice over, on each axis
above-above : {A : Type 0} (f : ℕ → ℕ → ℕ → A) (l : Corners) (e : ℕ) → CrossedIn l e → (u v w : ℕ)
    → above (e / 7) (above (corner_of (e % 7)) f) u v w ≡ above (e / 7 + corner_of (e % 7)) f u v w
unfolding above step_on on
above-above f l e g u v w = λ i. f (twice 0 (omega arith) u i) (twice 1 (omega arith) v i) (twice 2 (omega arith) w i)
  where
    twice : (x : ℕ) → x < 3 → (n : ℕ) → step (step_on x (corner_of (e % 7))) (step (step_on x (e / 7)) n) ≡ step (step_on x (e / 7 + corner_of (e % 7))) n
    twice x h n =
        step-step (step_on x (e / 7)) (step_on x (corner_of (e % 7))) n (omega (arith, g.steps x h, step_on-lt x (e / 7 + corner_of (e % 7))))
        ∙ ap (λ (d : ℕ). step d n) (g.steps x h)

crossed-at : (F : Field) (u v w c l : ℕ) → ltb l 7 ≡ true → above c (in_box F.box) u v w ≡ true → above c (above (corner_of l) (in_box F.box)) u v w ≡ true
    → not (beq (above c (side_at F) u v w) (above c (above (corner_of l) (side_at F)) u v w)) ≡ true → above c (λ u v w. crossed F u v w l) u v w ≡ true
unfolding crossed above
crossed-at F u v w c l p q r s = and_yes (and_yes (and_yes p q) r) s

pub cell_edge : (F : Field) (u v w : ℕ) → in_box F.box (suc u) (suc v) (suc w) ≡ true
    → (e : ℕ) → crossed_in (corners_of (side_at F) u v w) e ≡ true → above (e / 7) (λ u v w. crossed F u v w (e % 7)) u v w ≡ true
cell_edge F u v w b e h =
    let l = corners_of (side_at F) u v w in
    let g = crossed_in_lem l e h in
    let c = e / 7 in
    let k = corner_of (e % 7) in
    crossed-at F u v w c (e % 7) (lt-ltb (e % 7) 7 (mod-lt e (omega arith)))
    (box-corner F.box u v w c b)
    (above-above (in_box F.box) l e g u v w ∙ box-corner F.box u v w (c + k) b)
    (rw (above-above (side_at F) l e g u v w, ← at-corner (side_at F) u v w c g.owner, ← at-corner (side_at F) u v w (c + k) g.inside) g.apart)

-- ---- a cell with all corners on one side has no triangle
cell_plain : (o : Bool) (u v w : ℕ) → cell_tris always (corners_of (λ u v w. o) u v w) ≡ []
unfolding cell_key corners_of
cell_plain true u v w = refl
cell_plain false u v w = refl

-- ---- triangles whose edges all have a vertex are dropped only where one stands twice

module _ (h : ℕ → ℕ) (f : ℕ → Bool) (ok : (e : ℕ) → f e ≡ true → h e ≢ none) where
  keep-named : (ts : List Tri) → All (λ e. f e ≡ true) (flat ts) → keep emitted (map (on_each h) ts) ≡ keep proper (map (on_each h) ts)
  unfolding keep All flat emitted resolved on_each
  keep-named [] a = refl
  keep-named (t ∷ ts) a =
      simp (
        ne_eqb (h t.0) none (ok t.0 a.0),
        ne_eqb (h t.1) none (ok t.1 a.1.0),
        ne_eqb (h t.2) none (ok t.2 a.1.1.0),
        keep-named ts a.1.1.1,
      )

-- ---- the border

not_end : (x m : ℕ) → at_end x m ≡ false → x < m → suc x < m
unfolding at_end
not_end x m e h = omega (arith, eqb-false x (m - 1) (or-none (eqb x 0) (eqb x (m - 1)) e).1)

module _ (n : Sides) where
  -- a site of the box that is not on its border has a cell
  inner : (u v w : ℕ) → in_box n u v w ≡ true → on_border n u v w ≡ false → in_box n (suc u) (suc v) (suc w) ≡ true
  unfolding on_border
  inner u v w i e =
      let b = box_in n u v w i in
      let x = or-none (at_end u n.nu || at_end v n.nv) (at_end w n.nw) e in
      let y = or-none (at_end u n.nu) (at_end v n.nv) x.0 in
      in_box_lem n (record { u = suc u; v = suc v; w = suc w })
      (record { on_u = not_end u n.nu y.0 b.on_u; on_v = not_end v n.nv y.1 b.on_v; on_w = not_end w n.nw x.1 b.on_w })

  -- where a site has none, the sites of the box at or above it on each axis are on the border
  from_outer : (u v w u' v' w' : ℕ) → in_box n (suc u) (suc v) (suc w) ≡ false → u ≤ u' → v ≤ v' → w ≤ w' → in_box n u' v' w' ≡ true → on_border n u' v' w' ≡ true
  from_outer u v w u' v' w' b p q r i = go (on_border n u' v' w') refl
    where
      go : (x : Bool) → on_border n u' v' w' ≡ x → x ≡ true
      go true e = refl
      go false e =
          absurd (false≢true (sym b ∙ box-below n (suc u) (suc v) (suc w) (suc u') (suc v') (suc w') (inner u' v' w' i e) (omega arith) (omega arith) (omega arith)))

  border_low : (x : ℕ) → x < 3 → (u v w : ℕ) → on x u v w ≡ 0 → on_border n u v w ≡ true
  unfolding on on_border at_end
  border_low zero l u v w e = simp (eq-eqb u 0 e)
  border_low (suc zero) l u v w e = simp (eq-eqb v 0 e, or-true)
  border_low (suc (suc zero)) l u v w e = simp (eq-eqb w 0 e, or-true)
  border_low (suc (suc (suc x))) l u v w e = absurd (omega arith)

-- ---- the sides of the samples, going on outside the box with o: all cells then have their corners, and the triangles are the same

unfoldable pub side_out : Field → Bool → ℕ → ℕ → ℕ → Bool
side_out F o u v w = cond (in_box F.box u v w) (side_at F u v w) o

module _ (F : Field) (o : Bool) (P : Fit F o) where
  -- where the highest corner is in the box
  module _ (u v w : ℕ) (b : in_box F.box (suc u) (suc v) (suc w) ≡ true) where
    ok_corner : (c : ℕ) → above c (ok_at F) u v w ≡ true
    unfolding above ok_at
    ok_corner c =
        let i = box-corner F.box u v w c b in
        and_yes i (P.finite (step (du c) u) (step (dv c) v) (step (dw c) w) i)

    corners_ok : corners_of (ok_at F) u v w ≡ always
    unfolding corners_of always above
    corners_ok = corners-same (ok_at F) (λ u v w. true) u v w ok_corner

    pub corners_in : corners_of (side_out F o) u v w ≡ corners_of (side_at F) u v w
    unfolding side_out above
    corners_in = corners-same (side_out F o) (side_at F) u v w (λ c. rw (box-corner F.box u v w c b))

    named_in : (e : ℕ) → crossed_in (corners_of (side_at F) u v w) e ≡ true → vertex_in (vertex_at F) u v w e ≢ none
    unfolding vertex_in above
    named_in e h = P.named (step (du (e / 7)) u) (step (dv (e / 7)) v) (step (dw (e / 7)) w) (e % 7) (cell_edge F u v w b e h)

    site_inner : site_tris F u v w ≡ cell_at (side_out F o) (vertex_at F) u v w
    unfolding site_tris cell_at
    site_inner =
        rw (corners_ok, corners_in)
        (keep-named (vertex_in (vertex_at F) u v w) (crossed_in (corners_of (side_at F) u v w)) named_in
        (cell_tris always (corners_of (side_at F) u v w)) (cell_crossed (corners_of (side_at F) u v w) (corners_8 (side_at F) u v w)))

  -- where it is not
  out_side : (u v w : ℕ) → (in_box F.box u v w ≡ true → on_border F.box u v w ≡ true) → side_out F o u v w ≡ o
  unfolding side_out
  out_side u v w k = go (in_box F.box u v w) refl
    where
      go : (b : Bool) → in_box F.box u v w ≡ b → cond b (side_at F u v w) o ≡ o
      go true e = P.border u v w e (k e)
      go false e = refl

  module _ (u v w : ℕ) (b : in_box F.box (suc u) (suc v) (suc w) ≡ false) where
    corner_out : (c : ℕ) → above c (side_out F o) u v w ≡ o
    unfolding above
    corner_out c =
        out_side (step (du c) u) (step (dv c) v) (step (dw c) w)
        (from_outer F.box u v w (step (du c) u) (step (dv c) v) (step (dw c) w) b (step-low (du c) u) (step-low (dv c) v) (step-low (dw c) w))

    corners_out : corners_of (side_out F o) u v w ≡ corners_of (λ u v w. o) u v w
    unfolding above
    corners_out = corners-same (side_out F o) (λ u v w. o) u v w corner_out

    pub cell_outer : cell_at (side_out F o) (vertex_at F) u v w ≡ []
    unfolding cell_at keep
    cell_outer = rw (corners_out, cell_plain o u v w)

  pub site_cell : (u v w : ℕ) → site_tris F u v w ≡ cell_at (side_out F o) (vertex_at F) u v w
  site_cell u v w = go (in_box F.box (suc u) (suc v) (suc w)) refl
    where
      go : (b : Bool) → in_box F.box (suc u) (suc v) (suc w) ≡ b → site_tris F u v w ≡ cell_at (side_out F o) (vertex_at F) u v w
      go true e = site_inner u v w e
      go false e = site-none F u v w e ∙ sym (cell_outer u v w e)

  -- ---- the box

  pub march-cells : march F ≡ cells_of F.box.nu F.box.nv F.box.nw (side_out F o) (vertex_at F)
  unfolding march slab cells_of
  march-cells =
      each_same F.box.nw _ _ (λ w lw. each_same F.box.nv _ _ (λ v lv. each_same F.box.nu _ _ (λ u lu. site_cell u v w)))

  -- the outer faces of the box are on side o: those through 0 are on the border, the others outside
  pub low-side : (x : ℕ) → x < 3 → (u v w : ℕ) → on x u v w ≡ 0 → side_out F o u v w ≡ o
  low-side x l u v w e = out_side u v w (λ i. border_low F.box x l u v w e)

  pub high_side : (x : ℕ) → x < 3 → (u v w : ℕ) → on x u v w ≡ on x F.box.nu F.box.nv F.box.nw → side_out F o u v w ≡ o
  unfolding on
  high_side zero l u v w e = out_side u v w (λ i. absurd (omega (arith, (box_in F.box u v w i).on_u)))
  high_side (suc zero) l u v w e = out_side u v w (λ i. absurd (omega (arith, (box_in F.box u v w i).on_v)))
  high_side (suc (suc zero)) l u v w e = out_side u v w (λ i. absurd (omega (arith, (box_in F.box u v w i).on_w)))
  high_side (suc (suc (suc x))) l u v w e = absurd (omega arith)
