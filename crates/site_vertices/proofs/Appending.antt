-- Vertices appended one after the other, edge by edge and list by list. Assumes nothing.
use mathlib.Core.Path.{◌≡◌, refl, sym, ap, ◌∙◌}
use mathlib.Core.Bool.{Bool, true, false, cond}
use mathlib.Core.List.{List, [], ◌∷◌, ◌++◌, map}
use Prim.Native.Nat.{ℕ, suc, ◌+◌, ◌*◌, ◌-◌, ◌^◌, ◌≤◌, ◌<◌}
use native.Mathlib.Omega.{arith}
use lib.Bits.{bit_and, bit_xor, xor_self}
use lib.Count.{count_trailing_zeros}
use lib.Pow.{pow-lt, pow_pos}
use lib.ListN.{length, set, length-append}
use lib.Seq.{sets, length-sets}
use lib.Ieee.{Float}
use Rattle.laws.specs.Inner.Visits.{set_places, Visiting}
use Rattle.laws.specs.Ranges.{each}
use Rattle.laws.specs.Lists.{keep}
use Rattle.laws.proofs.Ranges.{each-add}
use Rattle.laws.proofs.Lists.{map-append}
use Rattle.laws.proofs.Digits.{low-pow}
use Rattle.laws.proofs.Visits.{visit_start, visit_turn, visit_end, places_none, places_low, places_turn}
use Rattle.laws.proofs.Written.{sets_append}
use Rattle.lattice.specs.declared.Sides.{Sides}
use Rattle.lattice.specs.Across.{across_of}
use Rattle.points.specs.declared.Frame.{Frame}
use Rattle.points.specs.declared.Point.{Point}
use Rattle.points.specs.declared.Sum.{Sum}
use Rattle.points.specs.Means.{sum_of, mean_sum}
use Rattle.points.proofs.Means.{mean_sum_lem, sum-count}
use Rattle.stages.specs.Boxes.{owned}
use Rattle.stages.specs.Vertices.{Vertex, fresh, held}
use Rattle.stages.specs.Meshes.{book_of, numbers, positions_of}
use Rattle.stages.specs.Samples.{edges_of, point_by, points_of, position_at}
use Rattle.stages.specs.Inner.Steps.{number, paint, paint_from}
use Rattle.stages.proofs.Book.{book_append, book_length, positions_append, positions_length}
use Rattle.site_vertices.specs.Inner.Drawing.{ClusterDrawn}
use Rattle.site_vertices.specs.Inner.Appending.{Appended, Space, pointed_of, singles_in, singles_of}
use Rattle.site_vertices.proofs.Points.{points_long}
use Rattle.site_vertices.proofs.Drawing.{pointed-append}

-- ---- lists of vertices

paint-append : (n : Sides) (i : ℕ) (ws vs : List Vertex) (t : List ℕ) → paint_from n i (ws ++ vs) t ≡ paint_from n (i + length ws) vs (paint_from n i ws t)
unfolding paint_from
paint-append n i [] vs t = let e : i ≡ i + 0 = omega arith in ap (λ (j : ℕ). paint_from n j vs t) e
paint-append n i (x ∷ ws) vs t =
    let e : suc i + length ws ≡ i + suc (length ws) = omega arith in
    paint-append n (suc i) ws vs (paint i (map (owned n x.site) (held x)) t)
    ∙ ap (λ (j : ℕ). paint_from n j vs (paint_from n (suc i) ws (paint i (map (owned n x.site) (held x)) t))) e

-- vertices of one edge each are numbered one after the other
pub paint-singles : (n : Sides) (i r s : ℕ) (es t : List ℕ) → paint_from n i (map (λ e. fresh r s (e ∷ [])) es) t ≡ number i (map (owned n s) es) t
unfolding paint_from paint number held fresh
paint-singles n i r s [] t = refl
paint-singles n i r s (e ∷ es) t = paint-singles n (suc i) r s es (set t (owned n s e) i)

module _ (f : Frame) (n : Sides) (S : List Float) where
  pub positions_three : (vs : List Vertex) → length (positions_of (position_at f n S) vs) ≡ length vs * 3
  unfolding position_at
  positions_three vs = positions_length (position_at f n S) 3 (λ s es. refl) vs

  pub appended_none : (i : ℕ) (t : List ℕ) (p : List Float) (k : List ℕ) → Appended f n S [] i t p k i t p k
  unfolding paint_from positions_of book_of
  appended_none i t p k = record { next = omega arith; table = refl; positions = refl; book = refl }

  -- ONE LIST OF VERTICES, THEN ANOTHER
  pub appended_more : {ws vs : List Vertex} {i j l : ℕ} {t t' t'' : List ℕ} {p p' p'' : List Float} {k k' k'' : List ℕ}
      → Appended f n S ws i t p k j t' p' k' → Appended f n S vs j t' p' k' l t'' p'' k'' → Appended f n S (ws ++ vs) i t p k l t'' p'' k''
  appended_more {ws} {vs} {i} {j} {l} {t} {t'} {t''} {p} {p'} {p''} {k} {k'} {k''} a c =
      let P = position_at f n S in
      let e : 3 * j ≡ 3 * i + length (positions_of P ws) = omega (arith, a.next, positions_three ws) in
      let g : 4 * j ≡ 4 * i + length (book_of ws) = omega (arith, a.next, book_length ws) in
      record {
        next = omega (arith, a.next, c.next, length-append ws vs);
        table = c.table ∙ (λ x. paint_from n (a.next x) vs (a.table x)) ∙ sym (paint-append n i ws vs t);
        positions = c.positions ∙ (λ x. sets (a.positions x) (e x) (positions_of P vs)) ∙ sets_append (positions_of P ws) p (3 * i) (positions_of P vs)
            ∙ ap (sets p (3 * i)) (sym (positions_append P ws vs));
        book = c.book ∙ (λ x. sets (a.book x) (g x) (book_of vs)) ∙ sets_append (book_of ws) k (4 * i) (book_of vs) ∙ ap (sets k (4 * i)) (sym (book_append ws vs));
      }

  pub appended_same : {ws vs : List Vertex} {i j : ℕ} {t t' : List ℕ} {p p' : List Float} {k k' : List ℕ}
      → ws ≡ vs → Appended f n S ws i t p k j t' p' k' → Appended f n S vs i t p k j t' p' k'
  appended_same {ws} {vs} {i} {j} {t} {t'} {p} {p'} {k} {k'} e a = rw (← e) a

  pub appended_lengths : {ws : List Vertex} {i j : ℕ} {t t' : List ℕ} {p p' : List Float} {k k' : List ℕ}
      → Appended f n S ws i t p k j t' p' k' → (length p' ≡ length p) × (length k' ≡ length k)
  appended_lengths {ws} {i} {j} {t} {t'} {p} {p'} {k} {k'} a =
      (ap length a.positions ∙ length-sets p (3 * i) (positions_of (position_at f n S) ws), ap length a.book ∙ length-sets k (4 * i) (book_of ws))

  -- WHAT IS APPENDED DETERMINES THE NEXT NUMBER AND EVERY ENTRY OF THE LISTS
  pub appended_unique : {ws : List Vertex} {i j j₂ : ℕ} {t t' t₂ : List ℕ} {p p' p₂ : List Float} {k k' k₂ : List ℕ}
      → Appended f n S ws i t p k j t' p' k' → Appended f n S ws i t p k j₂ t₂ p₂ k₂ → (j ≡ j₂) × (t' ≡ t₂) × (p' ≡ p₂) × (k' ≡ k₂)
  appended_unique a c = (a.next ∙ sym c.next, a.table ∙ sym c.table, a.positions ∙ sym c.positions, a.book ∙ sym c.book)

-- a list made in fewer turns is no longer
pub each_longer : {A : Type 0} (g : ℕ → List A) (k m : ℕ) → k ≤ m → length (each k g) ≤ length (each m g)
each_longer g k m h =
    let e : k + (m - k) ≡ m = omega arith in
    omega (
      arith,
      ap (λ (x : ℕ). length (each x g)) e,
      ap length (each-add k (m - k) g),
      length-append (each k g) (each (m - k) (λ i. g (k + i))),
    )

-- ---- one edge as a vertex of its own

-- the edges of a mask with one digit
one-edge : (e : ℕ) → e < 14 → edges_of (2 ^ e) ≡ e ∷ []
unfolding edges_of numbers set_places
one-edge e h =
    places_turn 16 14 (2 ^ e) (omega arith) (pow_pos e) (pow-lt h)
    ∙ ap (λ (l : ℕ). l ∷ set_places 14 (bit_xor (2 ^ e) (2 ^ l))) (low-pow 16 e (omega arith))
    ∙ ap (λ (x : ℕ). e ∷ set_places 14 x) (xor_self (2 ^ e)) ∙ ap (λ (l : List ℕ). e ∷ l) (places_none 14)

module _ (f : Frame) (n : Sides) (S : List Float) (s e r i m : ℕ) (t t' : List ℕ) (p : List Float) (k : List ℕ) (q : Sum) (low : e < 14) (em : m ≡ 2 ^ e)
    (d : ClusterDrawn f n S s m i t t' q) where
  is_one : edges_of m ≡ e ∷ []
  is_one = ap edges_of em ∙ one-edge e low

  -- the sum is that of its point, where it has one, and the table is painted at its place
  point-sum : q ≡ sum_of (points_of f n S s (e ∷ []))
  point-sum = d.sum ∙ ap (λ (l : List ℕ). sum_of (points_of f n S s l)) is_one

  painted : t' ≡ paint i (map (owned n s) (pointed_of n S s (e ∷ []))) t
  painted = d.table ∙ ap (λ (l : List ℕ). paint i (map (owned n s) (pointed_of n S s l)) t) is_one

  counted : q.count ≡ length (pointed_of n S s (e ∷ []))
  counted = ap (λ (x : Sum). x.count) point-sum ∙ sum-count (points_of f n S s (e ∷ [])) ∙ points_long f n S s (e ∷ [])

  pointed-none : q.count ≡ 0 → pointed_of n S s (e ∷ []) ≡ []
  unfolding pointed_of keep
  pointed-none h = go (point_by S s (across_of n s e)) (sym counted ∙ h)
    where
      go : (c : Bool) → length (cond c (e ∷ []) []) ≡ 0 → cond c (e ∷ []) [] ≡ []
      go true z = let y : ⊥ = omega arith in absurd y
      go false z = refl

  pointed-one : (q.count ≡ 0 → ⊥) → pointed_of n S s (e ∷ []) ≡ e ∷ []
  unfolding pointed_of keep
  pointed-one h = go (point_by S s (across_of n s e)) (λ (z : length (pointed_of n S s (e ∷ [])) ≡ 0). h (counted ∙ z))
    where
      go : (c : Bool) → (length (cond c (e ∷ []) []) ≡ 0 → ⊥) → cond c (e ∷ []) [] ≡ e ∷ []
      go true z = refl
      go false z = absurd (z refl)

  -- WITHOUT A POINT NOTHING IS DONE
  pub single-none : q.count ≡ 0 → Appended f n S (singles_in n S r s (e ∷ [])) i t p k i t' p k
  unfolding singles_in paint
  single-none h = rw (painted, pointed-none h) (appended_none f n S i t p k)

  -- WITH ONE IT IS A VERTEX
  pub single-some : (z : Point) (p' : List Float) (k' : List ℕ) → (q.count ≡ 0 → ⊥) → z ≡ mean_sum q → p' ≡ sets p (3 * i) (z.x ∷ z.y ∷ z.z ∷ [])
      → k' ≡ sets k (4 * i) (s ∷ 1 ∷ 1 ∷ r ∷ []) → Appended f n S (singles_in n S r s (e ∷ [])) i t p k (i + 1) t' p' k'
  unfolding singles_in paint_from held fresh positions_of position_at book_of
  single-some z p' k' h ez ep ek =
      let o = pointed-one h in
      rw o (record {
        next = refl;
        table = painted ∙ ap (λ (l : List ℕ). paint i (map (owned n s) l) t) o;
        positions = ep ∙ ap (λ (x : Point). sets p (3 * i) (x.x ∷ x.y ∷ x.z ∷ [])) (ez ∙ ap mean_sum point-sum ∙ mean_sum_lem (points_of f n S s (e ∷ [])));
        book = ek;
      })

  pub single_long : (q.count ≡ 0 → ⊥) → length (singles_in n S r s (e ∷ [])) ≡ 1
  unfolding singles_in
  single_long h = rw (pointed-one h) refl

-- ---- the edges of a mask

module _ (n : Sides) (S : List Float) (r s : ℕ) where
  singles-none : [] ≡ singles_in n S r s []
  unfolding singles_in pointed_of keep
  singles-none = refl

  singles-append : (xs ys : List ℕ) → singles_in n S r s (xs ++ ys) ≡ singles_in n S r s xs ++ singles_in n S r s ys
  unfolding singles_in
  singles-append xs ys =
      ap (map (λ e. fresh r s (e ∷ []))) (pointed-append n S s xs ys) ∙ map-append (λ e. fresh r s (e ∷ [])) (pointed_of n S s xs) (pointed_of n S s ys)

  pub singles_are : (m : ℕ) → singles_of n S r s m ≡ map (λ e. fresh r s (e ∷ [])) (pointed_of n S s (edges_of m))
  unfolding singles_of singles_in
  singles_are m = refl

-- ---- the loop over the edges of the mask m: from the lists t₀, p₀ and k₀ to t, p and k, the next number is j, and the edges of rest are left

-- the next number, the table, the positions and the book
abbrev pub Lists : Type 0
Lists = ℕ × List ℕ × List Float × List ℕ

abbrev pub Appends : Frame → Sides → List Float → ℕ → ℕ → List ℕ → Lists → Lists → Type 0
Appends f n S r s es a b = Appended f n S (singles_in n S r s es) a.0 a.1 a.2 a.3 b.0 b.1 b.2 b.3

pub record Appending (f : Frame) (n : Sides) (S : List Float) (r s m i : ℕ) (t₀ : List ℕ) (p₀ : List Float) (k₀ : List ℕ) (t : List ℕ) (p : List Float)
    (k : List ℕ) (j rest : ℕ) : Type 0 where
  pub visits : Visiting (Appends f n S r s) 14 m (i, t₀, p₀, k₀) rest (j, t, p, k)
  pub space : Space p k (j + length (singles_in n S r s (set_places 14 rest)))
  pub long : length t ≡ length t₀
  pub long_positions : length p ≡ length p₀
  pub long_book : length k ≡ length k₀

module _ (f : Frame) (n : Sides) (S : List Float) (r s m i : ℕ) (t₀ : List ℕ) (p₀ : List Float) (k₀ : List ℕ) where
  pub appending_start : Space p₀ k₀ (i + length (singles_of n S r s m)) → Appending f n S r s m i t₀ p₀ k₀ t₀ p₀ k₀ i (bit_and m 0x3FFF)
  unfolding singles_of edges_of numbers set_places
  appending_start z = record {
    visits = visit_start (Appends f n S r s) 14 m (i, t₀, p₀, k₀);
    space = rw (places_low 14 m) z;
    long = refl;
    long_positions = refl;
    long_book = refl;
  }

  module _ (t : List ℕ) (p : List Float) (k : List ℕ) (j rest : ℕ) (d : Appending f n S r s m i t₀ p₀ k₀ t p k j rest) where
    module _ (o : 0 < rest) where
      first_more : length (singles_in n S r s (set_places 14 rest))
          ≡ length (singles_in n S r s (count_trailing_zeros 16 rest ∷ [])) + length (singles_in n S r s (set_places 14 (bit_xor rest (2 ^ count_trailing_zeros 16 rest))))
      first_more =
          let l = count_trailing_zeros 16 rest in
          let others = set_places 14 (bit_xor rest (2 ^ l)) in
          ap (λ (es : List ℕ). length (singles_in n S r s es)) (places_turn 16 14 rest (omega arith) o d.visits.short)
          ∙ ap length (singles-append n S r s (l ∷ []) others) ∙ length-append (singles_in n S r s (l ∷ [])) (singles_in n S r s others)

      pub appending_space : Space p k (j + length (singles_in n S r s (count_trailing_zeros 16 rest ∷ [])))
      appending_space =
          record { positions = omega (arith, d.space.positions, first_more); book = omega (arith, d.space.book, first_more); few = omega (arith, d.space.few, first_more) }

      pub appending_turn : (t' : List ℕ) (p' : List Float) (k' : List ℕ) (j' : ℕ) → Appended f n S (singles_in n S r s (count_trailing_zeros 16 rest ∷ [])) j t p k j' t' p' k'
          → length t' ≡ length t → Appending f n S r s m i t₀ p₀ k₀ t' p' k' j' (bit_xor rest (2 ^ count_trailing_zeros 16 rest))
      appending_turn t' p' k' j' a l =
          let long-p = (appended_lengths f n S a).0 in
          let long-k = (appended_lengths f n S a).1 in
          record {
            visits = visit_turn (Appends f n S r s) 16 (λ x y z e es v w. appended_same f n S (sym (singles-append n S r s (e ∷ []) es)) (appended_more f n S v w)) (omega arith) o d.visits (j', t', p', k') a;
            space = record {
              positions = omega (arith, d.space.positions, first_more, a.next, long-p);
              book = omega (arith, d.space.book, first_more, a.next, long-k);
              few = omega (arith, d.space.few, first_more, a.next);
            };
            long = l ∙ d.long;
            long_positions = long-p ∙ d.long_positions;
            long_book = long-k ∙ d.long_book;
          }

    -- ALL EDGES OF THE MASK ARE APPENDED
    pub appending_end : rest ≡ 0 → Appended f n S (singles_of n S r s m) i t₀ p₀ k₀ j t p k
    unfolding singles_of edges_of numbers set_places
    appending_end z = visit_end (Appends f n S r s) (appended_same f n S (singles-none n S r s) (appended_none f n S j t p k)) z d.visits
