-- What is done to one vertex: its edges' vertices are appended and it is retired, where it is due. Assumes nothing.
use mathlib.Core.Path.{◌≡◌, refl, sym, ap, ◌∙◌}
use mathlib.Core.Bool.{true, false, false≢true, and-false}
use mathlib.Core.List.{List}
use Prim.Native.Nat.{ℕ, ◌+◌, ◌*◌, ◌≤◌, ◌<◌}
use lib.Dec.{ltb}
use borrow.Author.Tests.{lt-ltb, le-ltb, eq-eqb, ne_eqb}
use lib.ListN.{length, get_or, set}
use lib.Ieee.{Float}
use Rattle.lattice.specs.declared.Sides.{Sides}
use Rattle.points.specs.declared.Frame.{Frame}
use Rattle.laws.proofs.Bools.{and_yes}
use Rattle.site_vertices.specs.Inner.Appending.{Appended, Space, singles_of}
use Rattle.site_vertices.proofs.Appending.{appended_same}
use Rattle.rollback.specs.Inner.Turning.{Replaced, Turned, due, grown, held_mask}

module _ (f : Frame) (n : Sides) (S : List Float) (m t : List ℕ) (p : List Float) (k : List ℕ) (i c r d : ℕ) (e : d ≡ held_mask n t (get_or k (4 * i) 0) (get_or m (get_or k (4 * i) 0) 0) i) where
  grown-singles : singles_of n S r (get_or k (4 * i) 0) d ≡ grown n S m t k i r
  unfolding grown
  grown-singles = ap (singles_of n S r (get_or k (4 * i) 0)) e

  pub vertex_space : Space p k (c + length (grown n S m t k i r)) → Space p k (c + length (singles_of n S r (get_or k (4 * i) 0) d))
  vertex_space s = rw grown-singles s

  pub vertex_replaced : {j : ℕ} {t' : List ℕ} {p' : List Float} {k' : List ℕ} → Appended f n S (singles_of n S r (get_or k (4 * i) 0) d) c t p k j t' p' k'
      → Replaced f n S (grown n S m t k i r) i c t p k j t' p' (set k' (4 * i + 1) 0)
  vertex_replaced a =
      let g = appended_same f n S grown-singles a in
      record { next = g.next; table = g.table; positions = g.positions; book = ap (λ (y : List ℕ). set y (4 * i + 1) 0) g.book }

-- ---- the three ways out of a turn

module _ (k flags : List ℕ) (i : ℕ) where
  pub due_yes : 1 < get_or k (4 * i + 1) 0 → get_or flags (get_or k (4 * i) 0) 0 ≡ 1 → due k flags i ≡ true
  unfolding due
  due_yes a b = and_yes (lt-ltb 1 (get_or k (4 * i + 1) 0) a) (eq-eqb (get_or flags (get_or k (4 * i) 0) 0) 1 b)

  pub due_few : get_or k (4 * i + 1) 0 ≤ 1 → due k flags i ≡ false
  unfolding due
  due_few a = rw (le-ltb 1 (get_or k (4 * i + 1) 0) a)

  pub due_other : (get_or flags (get_or k (4 * i) 0) 0 ≡ 1 → ⊥) → due k flags i ≡ false
  unfolding due
  due_other b = rw (ne_eqb (get_or flags (get_or k (4 * i) 0) 0) 1 b) (and-false (ltb 1 (get_or k (4 * i + 1) 0)))

module _ (f : Frame) (n : Sides) (S : List Float) (m flags : List ℕ) (i c round : ℕ) (t : List ℕ) (p : List Float) (k : List ℕ) where
  pub turned_yes : {j : ℕ} {t' : List ℕ} {p' : List Float} {k' : List ℕ} → due k flags i ≡ true → Replaced f n S (grown n S m t k i round) i c t p k j t' p' k'
      → Turned f n S m flags i c round t p k j t' p' k'
  turned_yes q a = record {
    rolled = λ e. a;
    same_next = λ e. absurd (false≢true (sym e ∙ q));
    same_table = λ e. absurd (false≢true (sym e ∙ q));
    same_positions = λ e. absurd (false≢true (sym e ∙ q));
    same_book = λ e. absurd (false≢true (sym e ∙ q));
  }

  pub turned_no : due k flags i ≡ false → Turned f n S m flags i c round t p k c t p k
  turned_no q = record { rolled = λ e. absurd (false≢true (sym q ∙ e)); same_next = λ e. refl; same_table = λ e. refl; same_positions = λ e. refl; same_book = λ e. refl }
