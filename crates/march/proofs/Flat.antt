-- The flat lists of the march's loops are the march's triangles, corner after corner. Assumes nothing.
use mathlib.Core.Path.{◌≡◌, refl, sym, ap, ap₂, ◌∙◌, fun_ext}
use mathlib.Core.Bool.{Bool, true, false, not, ◌&&◌, ◌||◌, cond, or-true}
use mathlib.Core.List.{List, [], ◌∷◌, ◌++◌, map, map-map}
use Prim.Native.Nat.{ℕ, zero, suc, ◌+◌, ◌*◌, ◌/◌, ◌%◌, ◌≤◌, ◌<◌}
use native.Mathlib.Nat.{ne_of_lt, mul-le-mul_left, add-zero}
use native.Mathlib.Omega.{arith}
use lib.Dec.{eqb, lit<, lit≤}
use borrow.Author.Tests.{eq-eqb, ne_eqb}
use borrow.Author.Count.{below_more}
use lib.ListN.{length, get_or, set}
use lib.Seq.{get_or-set_same, get_or-set_other}
use lib.Ieee.{Float}
use Rattle.laws.specs.Lists.{keep, joined}
use Rattle.laws.specs.Triangles.{Tri, flat}
use Rattle.laws.proofs.Ranges.{each_same, each_list, each_map, each_keep, each-le}
use Rattle.laws.proofs.Triangles.{flat-each, flat-at}
use Rattle.tables.specs.Edges.{du, dv, dw}
use Rattle.tables.specs.Tets.{edge_in}
use Rattle.tables.specs.Cases.{mt_row}
use Rattle.tables.proofs.Edges.{steps_lt}
use Rattle.tables.proofs.Cases.{mt_two}
use Rattle.lattice.specs.declared.Sides.{Sides}
use Rattle.lattice.specs.Sites.{site_of, step}
use Rattle.lattice.proofs.Sites.{step-add}
use Rattle.march.specs.Cells.{case_no, on_each, tet_tris, cell_tris}
use Rattle.march.specs.March.{Field, none, ok_at, side_at, vertex_at, corners_of, vertex_in, resolved, proper, emitted, site_tris}
use Rattle.cases.specs.Inner.Codes.{case_on}
use Rattle.march.specs.Lists.{field_of}
use Rattle.march.specs.Inner.Loop.{shown, twice, unless_twice, look_up, corner_at, tri_at, tri_flat, tet_flat, cell_flat, InTable}

-- ---- those that are emitted

flat_keep : {B : Type 0} (f : B → Tri) (l : List B) → flat (keep emitted (map f l)) ≡ joined (map (λ r. shown (f r)) l)
unfolding flat keep joined shown
flat_keep f [] = refl
flat_keep f (r ∷ l) = go (emitted (f r)) (flat_keep f l)
  where
    go : (b : Bool) → flat (keep emitted (map f l)) ≡ joined (map (λ r. shown (f r)) l)
        → flat (cond b (f r ∷ keep emitted (map f l)) (keep emitted (map f l))) ≡ cond b ((f r).0 ∷ (f r).1 ∷ (f r).2 ∷ []) [] ++ joined (map (λ r. shown (f r)) l)
    go true e = ap {B = List ℕ} (λ l. (f r).0 ∷ (f r).1 ∷ (f r).2 ∷ l) e
    go false e = e

-- ---- one triangle, as the code asks

shown-is : (a b c : ℕ) → shown (a, b, c) ≡ cond (eqb a none || eqb b none || eqb c none) [] (cond (twice a b c) [] (a ∷ b ∷ c ∷ []))
unfolding shown emitted resolved proper
shown-is a b c = go (eqb a none) (eqb b none) (eqb c none) (eqb a b) (eqb b c) (eqb a c) (a ∷ b ∷ c ∷ [])
  where
    go : (p q r x y z : Bool) (l : List ℕ)
        → cond ((not p && not q && not r) && (not x && not y && not z)) l [] ≡ cond (p || q || r) [] (cond (x || y || z) [] l)
    go true q r x y z l = refl
    go false true r x y z l = refl
    go false false true x y z l = refl
    go false false false true y z l = refl
    go false false false false true z l = refl
    go false false false false false true l = refl
    go false false false false false false l = refl

-- v has the first c corners, each of them there
abbrev pub Has : (ℕ → ℕ) → List ℕ → ℕ → Type 0
Has g v c = (j : ℕ) → j < c → (get_or v j 0 ≡ g j) × (g j ≡ none → ⊥)

pub has_more : (g : ℕ → ℕ) (v : List ℕ) (c x : ℕ) → c < length v → Has g v c → x ≡ g c → (x ≡ none → ⊥) → Has g (set v c x) (c + 1)
has_more g v c x l all e here =
    below_more (λ (j : ℕ). (get_or (set v c x) j 0 ≡ g j) × (g j ≡ none → ⊥)) c
    (λ j h. (get_or-set_other v c j x 0 (ne_of_lt h) ∙ (all j h).0, (all j h).1))
    (get_or-set_same v c x 0 l ∙ e, (λ q. here (e ∙ q)))

-- a corner is not there: nothing is shown
pub tri_dropped : (look : ℕ → ℕ) (t case k c : ℕ) → c < 3 → corner_at look t case k c ≡ none → tri_flat look t case k ≡ []
unfolding tri_flat tri_at
tri_dropped look t case k c h e = shown-is (corner_at look t case k 0) (corner_at look t case k 1) (corner_at look t case k 2) ∙ go c h e
  where
    g : ℕ → ℕ
    g = corner_at look t case k

    go : (c : ℕ) → c < 3 → corner_at look t case k c ≡ none
        → cond (eqb (corner_at look t case k 0) none || eqb (corner_at look t case k 1) none || eqb (corner_at look t case k 2) none) []
        (cond (twice (corner_at look t case k 0) (corner_at look t case k 1) (corner_at look t case k 2)) []
        (corner_at look t case k 0 ∷ corner_at look t case k 1 ∷ corner_at look t case k 2 ∷ [])) ≡ []
    go zero h e = simp (eq-eqb _ _ e)
    go (suc zero) h e = simp (eq-eqb _ _ e, or-true)
    go (suc (suc zero)) h e = simp (eq-eqb _ _ e, or-true)
    go (suc (suc (suc c))) h e = absurd (omega arith)

-- all three are there: shown unless one stands twice
pub tri_has : (look : ℕ → ℕ) (t case k : ℕ) (v : List ℕ) → Has (corner_at look t case k) v 3
    → tri_flat look t case k ≡ unless_twice v
unfolding tri_flat tri_at unless_twice
tri_has look t case k v h =
    let p0 = h 0 (lit< tt) in
    let p1 = h 1 (lit< tt) in
    let p2 = h 2 (lit< tt) in
    shown-is (corner_at look t case k 0) (corner_at look t case k 1) (corner_at look t case k 2)
    ∙ rw (p0.0, p1.0, p2.0, ne_eqb _ _ p0.1, ne_eqb _ _ p1.1, ne_eqb _ _ p2.1)

-- ---- how many numbers

shown_by : (b : Bool) (x y z : ℕ) → length (cond b (x ∷ y ∷ z ∷ []) []) ≤ 3
shown_by true x y z = lit≤ tt
shown_by false x y z = lit≤ tt

pub tri_le : (look : ℕ → ℕ) (t case k : ℕ) → length (tri_flat look t case k) ≤ 3
unfolding tri_flat shown
tri_le look t case k = let r = tri_at look t case k in shown_by (emitted r) r.0 r.1 r.2

pub tet_le : (look : ℕ → ℕ) (t case : ℕ) → case < 16 → length (tet_flat look t case) ≤ 6
unfolding tet_flat
tet_le look t case h =
    omega (arith, each-le 3 (length (mt_row case)) (tri_flat look t case) (tri_le look t case), mt_two case h)

-- ---- one tetrahedron

pub tet_flat_lem : (look : ℕ → ℕ) (t case : ℕ) → tet_flat look t case ≡ flat (keep emitted (map (on_each look) (map (on_each (edge_in t)) (mt_row case))))
unfolding tet_flat tri_flat tri_at corner_at on_each
tet_flat_lem look t case =
    let l = mt_row case in
    let d : Tri = (0, 0, 0) in
    let f : Tri → Tri = λ r. on_each look (on_each (edge_in t) r) in
    let first : (k : ℕ) → k < length l → get_or (flat l) (3 * k + 0) 0 ≡ (get_or l k d).0 = λ k h. rw add-zero (flat-at d l k h).0 in
    each_same (length l) (tri_flat look t case) (λ k. shown (f (get_or l k d))) (λ k h. λ i.
    shown (look (edge_in t (first k h i)), look (edge_in t ((flat-at d l k h).1 i)), look (edge_in t ((flat-at d l k h).2 i))))
    ∙ each_list l d (λ r. shown (f r)) ∙ sym (flat_keep f l)
    ∙ ap (λ (x : List Tri). flat (keep emitted x)) (sym (map-map (on_each look) (on_each (edge_in t)) l))

-- ---- one cell

pub cell_flat_lem : (F : Field) (u v w : ℕ) (look : ℕ → ℕ) (l : List ℕ) → look ≡ vertex_in (vertex_at F) u v w
    → ((t : ℕ) → t < 6 → case_on l t ≡ case_no (corners_of (ok_at F) u v w) (corners_of (side_at F) u v w) t)
    → cell_flat look l ≡ flat (site_tris F u v w)
unfolding cell_flat site_tris cell_tris tet_tris
cell_flat_lem F u v w look l e h =
    let ok = corners_of (ok_at F) u v w in
    let side = corners_of (side_at F) u v w in
    let g : Tri → Tri = on_each (vertex_in (vertex_at F) u v w) in
    each_same 6 (λ t. tet_flat look t (case_on l t)) (λ t. flat (keep emitted (map g (tet_tris ok side t))))
    (λ t b. tet_flat_lem look t (case_on l t)
    ∙ ap₂ (λ (f : ℕ → ℕ) (c : ℕ). flat (keep emitted (map (on_each f) (map (on_each (edge_in t)) (mt_row c))))) e (h t b))
    ∙ sym (flat-each 6 (λ t. keep emitted (map g (tet_tris ok side t))))
    ∙ ap flat (sym (each_keep emitted 6 (λ t. map g (tet_tris ok side t))))
    ∙ ap (λ (x : List Tri). flat (keep emitted x)) (sym (each_map g 6 (tet_tris ok side)))

-- ---- the edge table

site_steps : (n : Sides) (u v w a b c : ℕ) → a < 2 → b < 2 → c < 2
    → site_of n (step a u) (step b v) (step c w) ≡ site_of n u v w + a + n.nu * b + n.nu * n.nv * c
unfolding site_of
site_steps n u v w a b c ha hb hc = rw (step-add a u ha, step-add b v hb, step-add c w hc) (omega arith)

-- the vertex of an edge of the cell stands with its owner
pub look_is : (n : Sides) (s : List Float) (h : Float) (edges : List ℕ) (u v w : ℕ)
    → look_up edges (site_of n u v w) n.nu (n.nu * n.nv) ≡ vertex_in (vertex_at (field_of n s h edges)) u v w
unfolding look_up vertex_in vertex_at field_of
look_is n s h edges u v w = fun_ext (λ x.
    let d = steps_lt (x / 7) in
    ap (λ (i : ℕ). get_or edges (7 * i + x % 7) none)
    (sym (site_steps n u v w (du (x / 7)) (dv (x / 7)) (dw (x / 7)) d.0 d.1 d.2)))

-- the owner and label are in the table
pub slot_in : {edges : List ℕ} {i nu nn : ℕ} (x : ℕ) → InTable edges i nu nn
    → 7 * (i + du (x / 7) + nu * dv (x / 7) + nn * dw (x / 7)) + x % 7 < length edges
slot_in {edges} {i} {nu} {nn} x b =
    let d = steps_lt (x / 7) in
    let p : nu * dv (x / 7) ≤ nu * 1 = mul-le-mul_left nu (omega arith) in
    let q : nn * dw (x / 7) ≤ nn * 1 = mul-le-mul_left nn (omega arith) in
    let r : x % 7 < 7 = omega arith in
    within i nu nn (du (x / 7)) (nu * dv (x / 7)) (nn * dw (x / 7)) (x % 7) (length edges) d.0 p q r b.room
  where
    within : (i nu nn a b c l n : ℕ) → a < 2 → b ≤ nu * 1 → c ≤ nn * 1 → l < 7 → 7 * (i + 1 + nu + nn) + 7 ≤ n → 7 * (i + a + b + c) + l < n
    within i nu nn a b c l n h1 h2 h3 h4 h5 = omega arith
