-- The vertex book and the positions: four words and three coordinates a vertex, what is appended, and what retiring stores. Assumes nothing.
use mathlib.Core.Path.{◌≡◌, refl, ap, sym, ◌∙◌}
use mathlib.Core.Bool.{◌&&◌}
use mathlib.Core.List.{List, [], ◌∷◌, ◌++◌, append_assoc}
use Prim.Native.Nat.{ℕ, zero, suc, ◌+◌, ◌*◌, ◌<◌}
use native.Mathlib.Omega.{arith}
use lib.Dec.{eqb, ltb}
use lib.ListN.{length, get_or, set, length-append}
use Rattle.stages.specs.Vertices.{Vertex, held, nobody, several}
use Rattle.stages.specs.Meshes.{book_of, positions_of}
use Rattle.stages.specs.Rounds.{cluster_of, retired}
use Rattle.laws.specs.Ranges.{sum}
use Rattle.laws.specs.Lists.{total}
use Rattle.laws.proofs.Sums.{sum_front, sum_same}

pub book_append : (ws vs : List Vertex) → book_of (ws ++ vs) ≡ book_of ws ++ book_of vs
unfolding book_of
book_append [] vs = refl
book_append (x ∷ ws) vs =
    ap (λ (l : List ℕ). x.site ∷ length (held x) ∷ length x.edges ∷ x.round ∷ l) (book_append ws vs)

-- retiring stores one word
pub book_retire : (ws : List Vertex) (i : ℕ) → i < length ws → book_of (set ws i (retired (get_or ws i nobody))) ≡ set (book_of ws) (4 * i + 1) 0
unfolding book_of held retired
book_retire [] i h = let z : ⊥ = omega arith in absurd z
book_retire (x ∷ ws) zero h = refl
book_retire (x ∷ ws) (suc i) h =
    let e : suc (suc (suc (suc (4 * i + 1)))) ≡ 4 * suc i + 1 = omega arith in
    ap (λ (l : List ℕ). x.site ∷ length (held x) ∷ length x.edges ∷ x.round ∷ l) (book_retire ws i (omega arith))
    ∙ ap (λ (n : ℕ). set (x.site ∷ length (held x) ∷ length x.edges ∷ x.round ∷ book_of ws) n 0) e

pub book_length : (vs : List Vertex) → length (book_of vs) ≡ 4 * length vs
unfolding book_of
book_length [] = refl
book_length (x ∷ vs) = omega (arith, book_length vs)

-- the row of vertex i: site, edges held now, edges held when made, round made
pub record Row (vs : List Vertex) (i : ℕ) : Type 0 where
  pub site : get_or (book_of vs) (4 * i) 0 ≡ (get_or vs i nobody).site
  pub now : get_or (book_of vs) (4 * i + 1) 0 ≡ length (held (get_or vs i nobody))
  pub made : get_or (book_of vs) (4 * i + 2) 0 ≡ length (get_or vs i nobody).edges
  pub round : get_or (book_of vs) (4 * i + 3) 0 ≡ (get_or vs i nobody).round

pub book_row : (vs : List Vertex) (i : ℕ) → i < length vs → Row vs i
unfolding book_of
book_row [] i h = let z : ⊥ = omega arith in absurd z
book_row (x ∷ vs) zero h = record { site = refl; now = refl; made = refl; round = refl }
book_row (x ∷ vs) (suc i) h =
    let r = book_row vs i (omega arith) in
    let l = x.site ∷ length (held x) ∷ length x.edges ∷ x.round ∷ book_of vs in
    let a : 4 * suc i ≡ suc (suc (suc (suc (4 * i)))) = omega arith in
    let b : 4 * suc i + 1 ≡ suc (suc (suc (suc (4 * i + 1)))) = omega arith in
    let c : 4 * suc i + 2 ≡ suc (suc (suc (suc (4 * i + 2)))) = omega arith in
    let d : 4 * suc i + 3 ≡ suc (suc (suc (suc (4 * i + 3)))) = omega arith in
    record {
      site = ap (λ (j : ℕ). get_or l j 0) a ∙ r.site;
      now = ap (λ (j : ℕ). get_or l j 0) b ∙ r.now;
      made = ap (λ (j : ℕ). get_or l j 0) c ∙ r.made;
      round = ap (λ (j : ℕ). get_or l j 0) d ∙ r.round;
    }

-- a live cluster vertex, and one of the site s, by the book
pub several_book : (vs : List Vertex) (i : ℕ) → i < length vs → several (get_or vs i nobody) ≡ ltb 1 (get_or (book_of vs) (4 * i + 1) 0)
unfolding several
several_book vs i h = ap (ltb 1) (sym (book_row vs i h).now)

pub cluster_book : (vs : List Vertex) (s i : ℕ) → i < length vs → cluster_of vs s i ≡ ltb 1 (get_or (book_of vs) (4 * i + 1) 0) && eqb s (get_or (book_of vs) (4 * i) 0)
unfolding cluster_of
cluster_book vs s i h = λ j. several_book vs i h j && eqb s (sym (book_row vs i h).site j)

-- the held counts in the vertex book
pub book_held : (vs : List Vertex) → sum (length vs) (λ i. get_or (book_of vs) (4 * i + 1) 0) ≡ total (λ x. length (held x)) vs
unfolding book_of total sum
book_held [] = refl
book_held (x ∷ vs) =
    sum_front (length vs) (λ i. get_or (book_of (x ∷ vs)) (4 * i + 1) 0)
    ∙ ap (λ (m : ℕ). length (held x) + m)
    (sum_same (length vs) (λ i. get_or (book_of (x ∷ vs)) (4 * suc i + 1) 0) (λ i. get_or (book_of vs) (4 * i + 1) 0)
    (λ i h. let e : 4 * suc i + 1 ≡ suc (suc (suc (suc (4 * i + 1)))) = omega arith in ap (λ (j : ℕ). get_or (x.site ∷ length (held x) ∷ length x.edges ∷ x.round ∷ book_of vs) j 0) e)
    ∙ book_held vs)

-- ---- the positions: appended with the vertices, and a retired vertex keeps its own

module _ {A : Type 0} (P : ℕ → List ℕ → List A) where
  pub positions_append : (ws vs : List Vertex) → positions_of P (ws ++ vs) ≡ positions_of P ws ++ positions_of P vs
  unfolding positions_of
  positions_append [] vs = refl
  positions_append (x ∷ ws) vs =
      ap (λ (l : List A). P x.site x.edges ++ l) (positions_append ws vs) ∙ sym (append_assoc (P x.site x.edges) (positions_of P ws) (positions_of P vs))

  pub positions_retire : (ws : List Vertex) (i : ℕ) → i < length ws → positions_of P (set ws i (retired (get_or ws i nobody))) ≡ positions_of P ws
  unfolding positions_of retired
  positions_retire [] i h = let z : ⊥ = omega arith in absurd z
  positions_retire (x ∷ ws) zero h = refl
  positions_retire (x ∷ ws) (suc i) h = ap (λ (l : List A). P x.site x.edges ++ l) (positions_retire ws i (omega arith))

  pub positions_length : (d : ℕ) → ((s : ℕ) (es : List ℕ) → length (P s es) ≡ d) → (vs : List Vertex) → length (positions_of P vs) ≡ length vs * d
  unfolding positions_of
  positions_length d h [] = omega arith
  positions_length d h (x ∷ vs) = length-append (P x.site x.edges) (positions_of P vs) ∙ omega (arith, h x.site x.edges, positions_length d h vs)
