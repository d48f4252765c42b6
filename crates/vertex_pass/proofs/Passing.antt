-- Candidates met one after the other, and what a flag does to one of them. Assumes nothing.
use mathlib.Core.Path.{◌≡◌, refl, sym, ap, ◌∙◌}
use mathlib.Core.Bool.{Bool, false, ◌&&◌, and-false}
use mathlib.Core.List.{List, [], ◌++◌}
use Prim.Native.Nat.{ℕ, ◌+◌, ◌-◌, ◌≤◌, ◌<◌}
use native.Mathlib.Omega.{arith}
use lib.Dec.{eqb, ltb}
use borrow.Author.Tests.{lt-ltb, le-ltb}
use lib.ListN.{length, get_or, length-append, get_or-eq_default}
use lib.Ieee.{Float}
use Rattle.laws.specs.Ranges.{each}
use Rattle.laws.proofs.Ranges.{each_none, each_more, each-add}
use Rattle.lattice.specs.declared.Sides.{Sides}
use Rattle.points.specs.declared.Frame.{Frame}
use Rattle.stages.specs.Vertices.{Vertex}
use Rattle.stages.specs.Splits.{place_by, split_by}
use Rattle.stages.proofs.Splits.{place-append, split-append, split-le}
use Rattle.site_vertices.proofs.Appending.{appended_none, appended_more, appended_same, appended_lengths, each_longer}
use Rattle.vertex_pass.specs.declared.Pass.{Pass}
use Rattle.vertex_pass.specs.Inner.Passing.{flag_of, Passed, Ahead}

-- ---- the test of one candidate

pub flag_read : (l : List ℕ) (i held : ℕ) → 1 < held → eqb (get_or l i 0) 1 ≡ (ltb 1 held && flag_of l i)
unfolding flag_of
flag_read l i held h = sym (ap (λ (c : Bool). c && eqb (get_or l i 0) 1) (lt-ltb 1 held h))

pub flag_past : (l : List ℕ) (i held : ℕ) → length l ≤ i → false ≡ (ltb 1 held && flag_of l i)
unfolding flag_of
flag_past l i held h = sym (ap (λ (x : ℕ). ltb 1 held && eqb x 1) (get_or-eq_default l 0 h) ∙ and-false (ltb 1 held))

pub flag_few : (l : List ℕ) (i held : ℕ) → held ≤ 1 → false ≡ (ltb 1 held && flag_of l i)
flag_few l i held h = sym (ap (λ (c : Bool). c && flag_of l i) (le-ltb 1 held h))

-- ---- lists of candidates

module _ (f : Frame) (n : Sides) (S : List Float) (q : ℕ → Bool) where
  pub passed_none : (a : Pass) (t : List ℕ) (p : List Float) (k : List ℕ) → Passed f n S q [] a t p k a t p k
  unfolding place_by split_by
  passed_none a t p k = record { vertices = appended_none f n S a.next t p k; tried = omega arith; split = omega arith }

  pub passed-same : {cs ds : List Vertex} {a c : Pass} {t t' : List ℕ} {p p' : List Float} {k k' : List ℕ}
      → cs ≡ ds → Passed f n S q cs a t p k c t' p' k' → Passed f n S q ds a t p k c t' p' k'
  passed-same {cs} {ds} {a} {c} {t} {t'} {p} {p'} {k} {k'} e x = rw (← e) x

  -- SOME CANDIDATES, THEN OTHERS
  pub passed-more : {cs ds : List Vertex} {a c d : Pass} {t t' t'' : List ℕ} {p p' p'' : List Float} {k k' k'' : List ℕ}
      → Passed f n S q cs a t p k c t' p' k' → Passed f n S q ds c t' p' k' d t'' p'' k'' → Passed f n S q (cs ++ ds) a t p k d t'' p'' k''
  passed-more {cs} {ds} {a} {c} {d} {t} {t'} {t''} {p} {p'} {p''} {k} {k'} {k''} x y =
      let e : place_by q c.tried ds ≡ place_by q (a.tried + length cs) ds = ap (λ (i : ℕ). place_by q i ds) x.tried in
      let g : split_by q c.tried ds ≡ split_by q (a.tried + length cs) ds = ap (λ (i : ℕ). split_by q i ds) x.tried in
      record {
        vertices = appended_same f n S (sym (place-append q a.tried cs ds)) (appended_more f n S x.vertices (appended_same f n S e y.vertices));
        tried = omega (arith, x.tried, y.tried, length-append cs ds);
        split = omega (arith, x.split, y.split, split-append q a.tried cs ds, g);
      }

  module _ (g : ℕ → List Vertex) where
    pub passed-turn : (m : ℕ) {a c d : Pass} {t t' t'' : List ℕ} {p p' p'' : List Float} {k k' k'' : List ℕ}
        → Passed f n S q (each m g) a t p k c t' p' k' → Passed f n S q (g m) c t' p' k' d t'' p'' k'' → Passed f n S q (each (m + 1) g) a t p k d t'' p'' k''
    passed-turn m x y = passed-same (sym (each_more m g)) (passed-more x y)

    -- room for the next turn
    pub ahead_turn : (k m : ℕ) {a c : Pass} {t t' : List ℕ} {p p' : List Float} {b b' : List ℕ}
        → Ahead q (each m g) a p b → k < m → Passed f n S q (each k g) a t p b c t' p' b' → Ahead q (g k) c p' b'
    ahead_turn k m {a} {c} {t} {t'} {p} {p'} {b} {b'} z h x =
        let l = appended_lengths f n S x.vertices in
        let w : length (place_by q a.tried (each (k + 1) g)) ≡ length (place_by q a.tried (each k g)) + length (place_by q c.tried (g k)) =
        ap (λ (u : List Vertex). length (place_by q a.tried u)) (each_more k g) ∙ ap length (place-append q a.tried (each k g) (g k))
        ∙ length-append (place_by q a.tried (each k g)) (place_by q (a.tried + length (each k g)) (g k))
        ∙ ap (λ (i : ℕ). length (place_by q a.tried (each k g)) + length (place_by q i (g k))) (sym x.tried) in
        let v : length (place_by q a.tried (each (k + 1) g)) ≤ length (place_by q a.tried (each m g)) = longer (k + 1) m a.tried (omega arith) in
        let e : length (each (k + 1) g) ≡ length (each k g) + length (g k) = ap length (each_more k g) ∙ length-append (each k g) (g k) in
        let y : length (each (k + 1) g) ≤ length (each m g) = each_longer g (k + 1) m (omega arith) in
        record {
          space = record {
            positions = omega (arith, z.space.positions, x.vertices.next, w, v, l.0);
            book = omega (arith, z.space.book, x.vertices.next, w, v, l.1);
            few = omega (arith, z.space.few, x.vertices.next, w, v);
          };
          tried = omega (arith, z.tried, x.tried, e, y);
          split = omega (arith, z.split, x.split, x.tried, split-le q a.tried (each k g));
        }
      where
        longer : (k m i : ℕ) → k ≤ m → length (place_by q i (each k g)) ≤ length (place_by q i (each m g))
        longer k m i h =
            let e : k + (m - k) ≡ m = omega arith in
            omega (
              arith,
              ap (λ (x : ℕ). length (place_by q i (each x g))) e,
              ap (λ (u : List Vertex). length (place_by q i u)) (each-add k (m - k) g),
              ap length (place-append q i (each k g) (each (m - k) (λ j. g (k + j)))),
              length-append (place_by q i (each k g)) (place_by q (i + length (each k g)) (each (m - k) (λ j. g (k + j)))),
            )

pub ahead_same : (q : ℕ → Bool) {cs ds : List Vertex} {a : Pass} {p : List Float} {b : List ℕ} → cs ≡ ds → Ahead q cs a p b → Ahead q ds a p b
ahead_same q {cs} {ds} {a} {p} {b} e x = rw (← e) x

-- ---- a loop over lists of candidates: after k turns the pass is at c and the lists are t, p and b

pub record Passing (f : Frame) (n : Sides) (S : List Float) (q : ℕ → Bool) (g : ℕ → List Vertex) (a : Pass) (t₀ : List ℕ) (p₀ : List Float) (b₀ : List ℕ) (m k : ℕ)
    (c : Pass) (t : List ℕ) (p : List Float) (b : List ℕ) : Type 0 where
  pub low : k ≤ m
  pub done : Passed f n S q (each k g) a t₀ p₀ b₀ c t p b
  pub long : length t ≡ length t₀
  pub long_positions : length p ≡ length p₀
  pub long_book : length b ≡ length b₀

module _ (f : Frame) (n : Sides) (S : List Float) (q : ℕ → Bool) (g : ℕ → List Vertex) (a : Pass) (t₀ : List ℕ) (p₀ : List Float) (b₀ : List ℕ) (m : ℕ) where
  pub passing_start : Passing f n S q g a t₀ p₀ b₀ m 0 a t₀ p₀ b₀
  passing_start = record {
    low = omega arith;
    done = passed-same f n S q (sym (each_none g)) (passed_none f n S q a t₀ p₀ b₀);
    long = refl;
    long_positions = refl;
    long_book = refl;
  }

  pub passing_turn : (k : ℕ) (c c' : Pass) (t t' : List ℕ) (p p' : List Float) (b b' : List ℕ) → Passing f n S q g a t₀ p₀ b₀ m k c t p b → k < m
      → Passed f n S q (g k) c t p b c' t' p' b' → length t' ≡ length t → Passing f n S q g a t₀ p₀ b₀ m (k + 1) c' t' p' b'
  passing_turn k c c' t t' p p' b b' i h x l =
      let e = appended_lengths f n S x.vertices in
      record {
        low = omega arith;
        done = passed-turn f n S q g k i.done x;
        long = l ∙ i.long;
        long_positions = e.0 ∙ i.long_positions;
        long_book = e.1 ∙ i.long_book;
      }

  pub passing_done : (k : ℕ) (c : Pass) (t : List ℕ) (p : List Float) (b : List ℕ) → Passing f n S q g a t₀ p₀ b₀ m k c t p b → m ≤ k
      → Passed f n S q (each m g) a t₀ p₀ b₀ c t p b
  passing_done k c t p b i h = let e : k ≡ m = omega (arith, i.low) in passed-same f n S q (ap (λ (x : ℕ). each x g) e) i.done
