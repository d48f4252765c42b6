-- One turn of a round: what the lists say of vertex i, and that what is done to them is done to the vertices. Assumes nothing.
use mathlib.Core.Path.{◌≡◌, refl, sym, ap, ◌∙◌}
use mathlib.Core.Bool.{Bool, true, false, ◌&&◌, cond}
use mathlib.Core.List.{List, [], ◌∷◌, ◌++◌, map}
use Prim.Native.Nat.{ℕ, ◌+◌, ◌*◌, ◌≤◌, ◌<◌}
use native.Mathlib.Omega.{arith}
use lib.Dec.{eqb}
use lib.ListN.{length, get_or, set, length-append, length-set}
use lib.Seq.{sets, set-append_left}
use lib.Ieee.{Float}
use Rattle.laws.specs.Bools.{bit}
use Rattle.laws.specs.Digits.{is_set, mask}
use Rattle.laws.specs.Lists.{All, keep}
use Rattle.laws.proofs.Digits.{mask-digit}
use Rattle.laws.proofs.Ranges.{each_keep, each_same}
use Rattle.lattice.specs.declared.Sides.{Sides}
use Rattle.lattice.specs.Sites.{SidesFit}
use Rattle.lattice.specs.Across.{across_of}
use Rattle.marks.specs.Marks.{mask_at}
use Rattle.points.specs.declared.Frame.{Frame}
use Rattle.march.specs.March.{none}
use Rattle.stages.specs.Boxes.{Box, owned}
use Rattle.stages.specs.Vertices.{Vertex, apart, fresh, held, keys, nobody}
use Rattle.stages.specs.Meshes.{book_of, numbers, positions_of, table_of}
use Rattle.stages.specs.Rounds.{retired}
use Rattle.stages.specs.Samples.{box_of, edges_of, point_by, position_at}
use Rattle.stages.specs.Inner.Steps.{number, paint_from}
use Rattle.stages.specs.Inner.Clustered.{Proper}
use Rattle.stages.proofs.Lookup.{times}
use Rattle.stages.proofs.Table.{table_roll}
use Rattle.stages.proofs.Renumber.{held_entries}
use Rattle.stages.proofs.SampleClusters.{mark_at}
use Rattle.stages.proofs.SampleMarks.{sample_clustered}
use Rattle.stages.proofs.Book.{book_append, book_length, book_retire, positions_append, positions_retire}
use Rattle.site_vertices.specs.Inner.Appending.{pointed_of, singles_of}
use Rattle.site_vertices.proofs.Appending.{paint-singles, positions_three, singles_are}
use Rattle.rollback.specs.Inner.Rolling.{Holding}
use Rattle.rollback.specs.Inner.Turning.{Replaced, held_at, held_mask}
use Rattle.rollback.proofs.Fronts.{front_more, front_set}
use Rattle.rollback.proofs.Points.{Dotted, held_dots}

-- ---- the edges of a mask

keep-every : {A : Type 0} (p : A → Bool) (xs : List A) → All (λ x. p x ≡ true) xs → keep p xs ≡ xs
unfolding keep All
keep-every p [] a = refl
keep-every p (x ∷ xs) a = rw a.0 (ap (λ l. x ∷ l) (keep-every p xs a.1))

mask-set : (n : ℕ) (p : ℕ → Bool) (e : ℕ) → e < n → is_set (mask n p) e ≡ p e
unfolding is_set bit
mask-set n p e h = ap (λ (d : ℕ). eqb d 1) (mask-digit n p e h) ∙ go (p e)
  where
    go : (c : Bool) → eqb (bit c) 1 ≡ c
    go true = refl
    go false = refl

mask-edges : (p : ℕ → Bool) → edges_of (mask 14 p) ≡ keep p (numbers 14)
unfolding edges_of numbers keep
mask-edges p =
    each_keep (is_set (mask 14 p)) 14 (λ i. i ∷ [])
    ∙ each_same 14 (λ i. keep (is_set (mask 14 p)) (i ∷ [])) (λ i. keep p (i ∷ [])) (λ i h. ap (λ (c : Bool). cond c (i ∷ []) []) (mask-set 14 p i h))
    ∙ sym (each_keep p 14 (λ i. i ∷ []))

-- ---- vertex i of the vertices ws

module _ (n : Sides) (S : List Float) (h : Float) (cluster : Bool) (fit : SidesFit n) (ws : List Vertex) (i : ℕ) (low : i < length ws) (few : length ws ≤ none)
    (once : (k : ℕ) → times (box_of n S h cluster) k ws ≤ 1) (P : Proper (box_of n S h cluster) (mark_at n S h) (get_or ws i nobody)) where
  mask-held : edges_of (held_mask n (table_of (box_of n S h cluster) ws) (get_or ws i nobody).site (mask_at n S h (get_or ws i nobody).site) i) ≡ held (get_or ws i nobody)
  unfolding held_mask held_at box_of mark_at
  mask-held =
      mask-edges (λ e. is_set (mask_at n S h (get_or ws i nobody).site) e && eqb (get_or (table_of (box_of n S h cluster) ws) (owned n (get_or ws i nobody).site e) none) i)
      ∙ sym (held_entries (box_of n S h cluster) (mark_at n S h) (sample_clustered n S h fit cluster) ws i low few once P)

  -- WHAT TAKES ITS PLACE IS A VERTEX FOR EACH EDGE THAT IT HOLDS
  pub singles-apart : (r : ℕ) → Dotted (box_of n S h cluster) (get_or ws i nobody)
      → singles_of n S r (get_or ws i nobody).site (held_mask n (table_of (box_of n S h cluster) ws) (get_or ws i nobody).site (mask_at n S h (get_or ws i nobody).site) i)
      ≡ apart r (get_or ws i nobody)
  unfolding pointed_of apart box_of
  singles-apart r d =
      let x = get_or ws i nobody in
      singles_are n S r x.site (held_mask n (table_of (box_of n S h cluster) ws) x.site (mask_at n S h x.site) i)
      ∙ ap (λ (l : List ℕ). map (λ e. fresh r x.site (e ∷ [])) (pointed_of n S x.site l)) mask-held
      ∙ ap (map (λ e. fresh r x.site (e ∷ []))) (keep-every (λ e. point_by S x.site (across_of n x.site e)) (held x) (held_dots (box_of n S h cluster) x d))

-- ---- the lists

module _ (f : Frame) (n : Sides) (S : List Float) (b : Box) (is-box : b.sides ≡ n) (ws : List Vertex) (i r : ℕ) (low : i < length ws) (once : (k : ℕ) → times b k ws ≤ 1) where
  -- the vertices after the turn
  abbrev after : List Vertex
  after = set ws i (retired (get_or ws i nobody)) ++ apart r (get_or ws i nobody)

  pub after-length : length after ≡ length ws + length (apart r (get_or ws i nobody))
  after-length = length-append (set ws i (retired (get_or ws i nobody))) (apart r (get_or ws i nobody)) ∙ omega (arith, length-set ws i (retired (get_or ws i nobody)))

  table-after : paint_from n (length ws) (apart r (get_or ws i nobody)) (table_of b ws) ≡ table_of b after
  unfolding apart keys
  table-after =
      let x = get_or ws i nobody in
      paint-singles n (length ws) r x.site (held x) (table_of b ws)
      ∙ ap (λ (m : Sides). number (length ws) (map (owned m x.site) (held x)) (table_of b ws)) (sym is-box)
      ∙ sym (table_roll b r ws i low once)

  positions_after : (p : List Float) → sets (sets p 0 (positions_of (position_at f n S) ws)) (3 * length ws) (positions_of (position_at f n S) (apart r (get_or ws i nobody)))
      ≡ sets p 0 (positions_of (position_at f n S) after)
  positions_after p =
      let P = position_at f n S in
      let x = get_or ws i nobody in
      front_more (positions_of P ws) (positions_of P (apart r x)) p (3 * length ws) (omega (arith, positions_three f n S ws))
      ∙ ap (λ (l : List Float). sets p 0 (l ++ positions_of P (apart r x))) (sym (positions_retire P ws i low))
      ∙ ap (sets p 0) (sym (positions_append P (set ws i (retired x)) (apart r x)))

  book_after : (k : List ℕ) → 4 * length after ≤ length k
      → set (sets (sets k 0 (book_of ws)) (4 * length ws) (book_of (apart r (get_or ws i nobody)))) (4 * i + 1) 0 ≡ sets k 0 (book_of after)
  book_after k room =
      let x = get_or ws i nobody in
      let l : length (book_of ws ++ book_of (apart r x)) ≡ 4 * length after =
      length-append (book_of ws) (book_of (apart r x)) ∙ omega (arith, book_length ws, book_length (apart r x), after-length) in
      let e : 4 * i + 1 < length (book_of ws) = omega (arith, book_length ws) in
      ap (λ (y : List ℕ). set y (4 * i + 1) 0) (front_more (book_of ws) (book_of (apart r x)) k (4 * length ws) (book_length ws))
      ∙ front_set 0 (book_of ws ++ book_of (apart r x)) k (4 * i + 1) (omega arith) (omega (arith, after-length))
      ∙ ap (sets k 0) (set-append_left (book_of ws) (book_of (apart r x)) (4 * i + 1) 0 e)
      ∙ ap (λ (y : List ℕ). sets k 0 (y ++ book_of (apart r x))) (sym (book_retire ws i low))
      ∙ ap (sets k 0) (sym (book_append (set ws i (retired x)) (apart r x)))

  -- THE LISTS HOLD THE VERTICES AFTER THE TURN
  pub replaced_holding : {us : List Vertex} {p₀ : List Float} {k₀ : List ℕ} {c : ℕ} {t : List ℕ} {p : List Float} {k : List ℕ} {j : ℕ} {t' : List ℕ} {p' : List Float}
      {k' : List ℕ} → Holding f n S b ws p₀ k₀ c t p k → us ≡ apart r (get_or ws i nobody) → Replaced f n S us i c t p k j t' p' k'
      → 4 * length after ≤ length k₀ → Holding f n S b after p₀ k₀ j t' p' k'
  replaced_holding {us} {p₀} {k₀} {c} {t} {p} {k} {j} {t'} {p'} {k'} o u a room =
      let P = position_at f n S in
      record {
        next = a.next ∙ (λ z. o.next z + length (u z)) ∙ sym after-length;
        table = a.table ∙ (λ z. paint_from n (o.next z) (u z) (o.table z)) ∙ table-after;
        positions = a.positions ∙ (λ z. sets (o.positions z) (3 * o.next z) (positions_of P (u z))) ∙ positions_after p₀;
        book = a.book ∙ (λ z. set (sets (o.book z) (4 * o.next z) (book_of (u z))) (4 * i + 1) 0) ∙ book_after k₀ room;
      }
