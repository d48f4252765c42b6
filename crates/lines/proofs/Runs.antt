-- A run of lines read one by one into a list: what the first k lines gave, the end of the run, and that its promise determines all. Assumes nothing.
use mathlib.Core.Path.{◌≡◌, refl, sym, ap, ◌∙◌}
use mathlib.Core.List.{List, [], ◌∷◌, ◌++◌}
use Prim.Native.Nat.{ℕ, suc, ◌+◌, ◌≤◌, ◌<◌}
use native.Mathlib.Nat.{le_antisymm}
use native.Mathlib.Numerals.{add-one}
use native.Mathlib.Omega.{arith}
use lib.ListN.{length, drop, take, set, get_or, length-set, take-append-drop}
use lib.Seq.{take-suc, take-suc-set, split_at, take-length, drop-set-lt, drop-drop, length-take-le, take-take, get_or-take}
use Rattle.std.specs.Prelude.{Option, Some, None}
use Rattle.lines.specs.Lines.{Field, Dec, line_of, ok_of, lines, Fine}
use Rattle.lines.specs.Inner.Readers.{Reads, Absent}
use Rattle.lines.specs.Inner.Stored.{Stored, Filled, Stopped, RunOf}
use Rattle.lines.proofs.Lines.{lines_same, reads_none, reads_more, absent_more}

pub run-start : (form : List Field) (s : List ℕ) (from : ℕ) (l : List ℕ) → from ≤ length s → Filled form s from l l from 0
run-start form s from l h = record { some = omega arith; full = refl; reads = reads_none s from h; past = refl }

module _ (form : List Field) (s : List ℕ) (from : ℕ) (l vals : List ℕ) (at k : ℕ) (p : Filled form s from l vals at k) where
  pub run-turn : (d f : Field) → k < length form → k < length vals → get_or form k d ≡ f → (v next : ℕ) → Reads (line_of f) (ok_of f) s at v next → Filled form s from l (set vals k v) next (k + 1)
  run-turn d f h g e v next q = record {
    some = omega arith;
    full = length-set vals k v ∙ p.full;
    reads = rw (add-one k, take-suc-set vals k v g, take-suc form k d h, e) (reads_more p.reads f v next q);
    past = rw (add-one k) (drop-set-lt (suc k) vals k v (omega arith) ∙ sym (drop-drop 1 k vals ∙ rw add-one) ∙ ap (drop 1) p.past ∙ drop-drop 1 k l ∙ rw add-one);
  }

  pub run-bad : (d f : Field) → k < length form → get_or form k d ≡ f → Absent (line_of f) (ok_of f) s at → Absent (lines form) (Fine form) s from
  run-bad d f h e q =
      let w : form ≡ take k form ++ f ∷ drop (suc k) form = split_at form k d h ∙ rw e in
      rw w (absent_more p.reads f q (drop (suc k) form))

  pub run-done : (n : ℕ) → length form ≡ n → n ≤ k → Reads (lines form) (Fine form) s from (take n vals) at
  run-done n m h =
      let e : k ≡ length form = le_antisymm p.some (rw m h) in
      let r = rw (e, take-length) at p.reads in
      rw (sym m) r

-- a run that stopped is not there
pub stopped_absent : {form : List Field} {s : List ℕ} {from : ℕ} {l l' : List ℕ} → Stopped form s from l l' → Absent (lines form) (Fine form) s from
stopped_absent {form} {s} {from} {l} {l'} p = run-bad form s from l l' p.place p.count p.filled (Dec []) (get_or form p.count (Dec [])) p.short refl p.missing

-- ---- any two answers are equal, and so are the lists

module _ (form : List Field) (s : List ℕ) (from : ℕ) (l : List ℕ) where
  -- where a line is not there no later one was read
  stopped_before : (l' l'' : List ℕ) (p : Stopped form s from l l') (q : Stopped form s from l l'') → p.count < q.count → ⊥
  stopped_before l' l'' p q h =
      let k = p.count in
      let m = q.count in
      let n : length (take m form) ≡ m = length-take-le m form q.filled.some in
      let w : take m form ≡ take k form ++ get_or form k (Dec []) ∷ drop (suc k) (take m form) =
      split_at (take m form) k (Dec []) (rw n h) ∙ rw (take-take k m form (omega (arith, h)), get_or-take m form k (Dec []) h) in
      let a : Absent (lines (take m form)) (Fine (take m form)) s from = rw w (absent_more p.filled.reads (get_or form k (Dec [])) p.missing (drop (suc k) (take m form))) in
      a.none (take m l'') (drop q.place s) q.filled.reads.fine q.filled.reads.here

  same_count : (l' l'' : List ℕ) (p : Stopped form s from l l') (q : Stopped form s from l l'') → p.count ≡ q.count
  same_count l' l'' p q = go (stopped_before l' l'' p q) (stopped_before l'' l' q p)
    where
      go : {k m : ℕ} → (k < m → ⊥) → (m < k → ⊥) → k ≡ m
      go {k} {m} a b = omega arith

  stopped_same : (l' l'' : List ℕ) → Stopped form s from l l' → Stopped form s from l l'' → l' ≡ l''
  stopped_same l' l'' p q =
      let e : q.count ≡ p.count = sym (same_count l' l'' p q) in
      let r = rw e at q.filled.reads in
      let t = lines_same (drop p.place s) (drop q.place s) p.filled.reads.fine r.fine (sym p.filled.reads.here ∙ r.here) in
      let d : drop p.count l' ≡ drop p.count l'' = p.filled.past ∙ sym (rw e at q.filled.past) in
      sym (take-append-drop p.count l') ∙ rw (t.first, d) (take-append-drop p.count l'')

  stored_same : (n : ℕ) (l' l'' : List ℕ) (next next' : ℕ) → Stored form s from n l l' next → Stored form s from n l l'' next' → (l' ≡ l'') × (next ≡ next')
  stored_same n l' l'' next next' p q =
      let t = lines_same (drop next s) (drop next' s) p.reads.fine q.reads.fine (sym p.reads.here ∙ q.reads.here) in
      let d : drop n l' ≡ drop n l'' = p.past ∙ sym q.past in
      (sym (take-append-drop n l') ∙ rw (t.first, d) (take-append-drop n l''), p.reads.past ∙ rw t.first (sym q.reads.past))

  pub run_unique : (n : ℕ) (l' l'' : List ℕ) (r q : Option ℕ) → RunOf form s from n l l' r → RunOf form s from n l l'' q → (l' ≡ l'') × (r ≡ q)
  run_unique n l' l'' None None a b = (stopped_same l' l'' a b, refl)
  run_unique n l' l'' None (Some m) a b = absurd ((stopped_absent a).none (take n l'') (drop m s) b.reads.fine b.reads.here)
  run_unique n l' l'' (Some k) None a b = absurd ((stopped_absent b).none (take n l') (drop k s) a.reads.fine a.reads.here)
  run_unique n l' l'' (Some k) (Some m) a b = let e = stored_same n l' l'' k m a b in (e.0, ap Some e.1)
