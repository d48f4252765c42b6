-- The inner loop of a rollback reads the table that it writes, and still does the turn. Assumes nothing.
use mathlib.Core.Path.{◌≡◌, refl, ap, sym, ◌∙◌}
use mathlib.Core.Bool.{Bool, true, false, ◌&&◌, cond}
use mathlib.Core.List.{List, [], ◌∷◌, ◌++◌, map, append-nil}
use Prim.Native.Nat.{ℕ, zero, suc, ◌+◌, ◌<◌, ◌≤◌}
use native.Mathlib.Omega.{arith}
use lib.Dec.{eqb}
use borrow.Author.Tests.{eqb-false, ne_eqb}
use lib.ListN.{length, get_or, set, length-set, length-append, length-map}
use lib.Seq.{get_or-set_other}
use Rattle.stages.specs.Boxes.{Box, owned}
use Rattle.stages.specs.Vertices.{Vertex, apart, fresh, held, keys, nobody}
use Rattle.stages.specs.Meshes.{find, numbers, table_of}
use Rattle.stages.specs.Rounds.{retired, rolled}
use Rattle.stages.specs.Inner.Steps.{number, renumber, renumber_to, roll_turn}
use Rattle.stages.specs.Inner.Clustered.{Clustered, Proper}
use Rattle.stages.proofs.Lookup.{times}
use Rattle.stages.proofs.Table.{table_at}
use Rattle.stages.proofs.Turns.{turn-table}
use Rattle.stages.proofs.Readback.{held_reads}
use Rattle.laws.specs.Bools.{bit}
use Rattle.laws.specs.Ranges.{each, fold}
use Rattle.laws.specs.Lists.{count, keep}
use Rattle.march.specs.March.{none}
use Rattle.laws.proofs.Lists.{count-append, keep_append, keep_same, map-append}

number_other : (n : ℕ) (ks t : List ℕ) (j : ℕ) → count (eqb j) ks ≡ 0 → get_or (number n ks t) j none ≡ get_or t j none
unfolding number count bit
number_other n [] t j h = refl
number_other n (k ∷ ks) t j h = go (eqb j k) refl h (number_other (suc n) ks (set t k n) j)
  where
    go : (c : Bool) → eqb j k ≡ c → bit c + count (eqb j) ks ≡ 0
        → (count (eqb j) ks ≡ 0 → get_or (number (suc n) ks (set t k n)) j none ≡ get_or (set t k n) j none) → get_or (number (suc n) ks (set t k n)) j none ≡ get_or t j none
    go true e z r = let y : ⊥ = omega arith in absurd y
    go false e z r = r (omega arith) ∙ get_or-set_other t k j n none (eqb-false j k e)

number_snoc : (n : ℕ) (ks : List ℕ) (k : ℕ) (t : List ℕ) → number n (ks ++ k ∷ []) t ≡ set (number n ks t) k (n + length ks)
unfolding number
number_snoc n [] k t = let e : n ≡ n + 0 = omega arith in ap (λ (m : ℕ). set t k m) e
number_snoc n (j ∷ ks) k t =
    let e : suc n + length ks ≡ n + suc (length ks) = omega arith in
    number_snoc (suc n) ks k (set t j n) ∙ ap (λ (m : ℕ). set (number (suc n) ks (set t j n)) k m) e

module _ (own : ℕ → ℕ) (mark : ℕ → Bool) (i : ℕ) (one : (d e : ℕ) → mark d ≡ true → mark e ≡ true → own d ≡ own e → d ≡ e) (t : List ℕ) (n : ℕ) where
  unfoldable pub test : ℕ → Bool
  test e = mark e && eqb (get_or t (own e) none) i

  last : (e : ℕ) → mark e ≡ true → (k : ℕ) → k < e → (c : Bool) → mark k ≡ c → (d : Bool) → count (eqb (own e)) (map own (cond (c && d) (k ∷ []) [])) ≡ 0
  unfolding count bit
  last e m k h true q true = let f : eqb (own e) (own k) ≡ false = ne_eqb (own e) (own k) (λ (z : own e ≡ own k). differ (one e k m q z)) in rw f
    where
      differ : e ≡ k → ⊥
      differ z = omega arith
  last e m k h true q false = refl
  last e m k h false q d = refl

  fresh-place : (e : ℕ) → mark e ≡ true → (k : ℕ) → k ≤ e → count (eqb (own e)) (map own (keep test (numbers k))) ≡ 0
  unfolding numbers each keep count test
  fresh-place e m zero h = refl
  fresh-place e m (suc k) h =
      ap (λ (l : List ℕ). count (eqb (own e)) (map own l)) (keep_append test (each k (λ j. j ∷ [])) (k ∷ []))
      ∙ ap (count (eqb (own e))) (map-append own (keep test (each k (λ j. j ∷ []))) (cond (mark k && eqb (get_or t (own k) none) i) (k ∷ []) []))
      ∙ count-append (eqb (own e)) (map own (keep test (each k (λ j. j ∷ [])))) (map own (cond (mark k && eqb (get_or t (own k) none) i) (k ∷ []) []))
      ∙ omega (arith, fresh-place e m k (omega arith), last e m k (omega arith) (mark k) refl (eqb (get_or t (own k) none) i))

  unfoldable pub done : ℕ → List ℕ × ℕ
  done e = (number n (map own (keep test (numbers e))) t, n + length (map own (keep test (numbers e))))

  turn : (e : ℕ) (c : Bool)
      → cond c (set (done e).0 (own e) (done e).1, suc (done e).1) (done e)
      ≡ (number n (map own (keep test (numbers e) ++ cond c (e ∷ []) [])) t, n + length (map own (keep test (numbers e) ++ cond c (e ∷ []) [])))
  unfolding done
  turn e true =
      let k = keep test (numbers e) in
      let m : map own (k ++ e ∷ []) ≡ map own k ++ own e ∷ [] = map-append own k (e ∷ []) in
      let a : number n (map own (k ++ e ∷ [])) t ≡ set (number n (map own k) t) (own e) (n + length (map own k)) =
      ap (λ (l : List ℕ). number n l t) m ∙ number_snoc n (map own k) (own e) t in
      let z : n + length (map own k ++ own e ∷ []) ≡ suc (n + length (map own k)) = omega (arith, length-append (map own k) (own e ∷ [])) in
      let b : n + length (map own (k ++ e ∷ [])) ≡ suc (n + length (map own k)) = ap (λ (l : List ℕ). n + length l) m ∙ z in
      λ j. (sym a j, sym b j)
  turn e false = ap (λ (l : List ℕ). (number n (map own l) t, n + length (map own l))) (sym (append-nil (keep test (numbers e))))

  same_read : (e : ℕ) (c : Bool) → mark e ≡ c → c && eqb (get_or (done e).0 (own e) none) i ≡ c && eqb (get_or t (own e) none) i
  unfolding done
  same_read e true m = ap (λ (k : ℕ). eqb k i) (number_other n (map own (keep test (numbers e))) t (own e) (fresh-place e m e (omega arith)))
  same_read e false m = refl

  -- THE LOOP: marked edges whose entry was i at the start get the next numbers
  pub renumber-is : (e : ℕ) → renumber_to own mark i e (t, n) ≡ done e
  unfolding renumber_to fold renumber numbers each keep done number test
  renumber-is zero = let e : n ≡ n + 0 = omega arith in λ j. (t, e j)
  renumber-is (suc e) =
      ap (renumber own mark i e) (renumber-is e)
      ∙ ap (λ (c : Bool). cond c (set (done e).0 (own e) (done e).1, suc (done e).1) (done e)) (same_read e (mark e) refl)
      ∙ turn e (mark e && eqb (get_or t (own e) none) i)
      ∙ ap (λ (l : List ℕ). (number n (map own l) t, n + length (map own l))) (sym (keep_append test (each e (λ j. j ∷ [])) (e ∷ [])))

-- ---- in the build

module _ (b : Box) (mark : ℕ → ℕ → Bool) (C : Clustered b mark) (ws : List Vertex) (i : ℕ) (h : i < length ws) (room : length ws ≤ none)
    (once : (k : ℕ) → times b k ws ≤ 1) (P : Proper b mark (get_or ws i nobody)) where
  reads_same : (e : ℕ) (c : Bool) → mark (get_or ws i nobody).site e ≡ c
      → c && eqb (find b 0 ws (owned b.sides (get_or ws i nobody).site e)) i ≡ c && eqb (get_or (table_of b ws) (owned b.sides (get_or ws i nobody).site e) none) i
  reads_same e true m =
      ap (λ (k : ℕ). eqb k i) (sym (table_at b ws (owned b.sides (get_or ws i nobody).site e) (C.place (get_or ws i nobody).site e P.low m)))
  reads_same e false m = refl

  -- the same with the table: the marked edges of its site whose entry is i
  pub held_entries : held (get_or ws i nobody)
      ≡ keep (λ e. mark (get_or ws i nobody).site e && eqb (get_or (table_of b ws) (owned b.sides (get_or ws i nobody).site e) none) i) (numbers 14)
  held_entries =
      let s = (get_or ws i nobody).site in
      held_reads b mark C ws i h room once P
      ∙ keep_same (λ e. mark s e && eqb (find b 0 ws (owned b.sides s e)) i) (λ e. mark s e && eqb (get_or (table_of b ws) (owned b.sides s e) none) i)
      (λ e. reads_same e (mark s e) refl) (numbers 14)

  -- THE INNER LOOP OVER THE FOURTEEN EDGES IS `number` OVER THE VERTEX'S PLACES
  pub renumber-held : renumber_to (owned b.sides (get_or ws i nobody).site) (mark (get_or ws i nobody).site) i 14 (table_of b ws, length ws)
      ≡ (number (length ws) (keys b (get_or ws i nobody)) (table_of b ws), length ws + length (keys b (get_or ws i nobody)))
  unfolding keys done test
  renumber-held =
      let s = (get_or ws i nobody).site in
      renumber-is (owned b.sides s) (mark s) i (λ d e. C.one s d e P.low) (table_of b ws) (length ws) 14
      ∙ ap (λ (l : List ℕ). (number (length ws) (map (owned b.sides s) l) (table_of b ws), length ws + length (map (owned b.sides s) l))) (sym held_entries)

  turn-length : (r : ℕ) (os : List ℕ) → rolled os (get_or ws i nobody) ≡ true
      → length (roll_turn r os i ws) ≡ length ws + length (keys b (get_or ws i nobody))
  unfolding roll_turn keys apart
  turn-length r os q =
      let x = get_or ws i nobody in
      rw q
      (length-append (set ws i (retired x)) (map (λ e. fresh r x.site (e ∷ [])) (held x))
      ∙ omega (arith, length-set ws i (retired x), length-map (held x) (λ e. fresh r x.site (e ∷ [])), length-map (held x) (owned b.sides x.site)))

  -- THE INNER LOOP IS THE TURN OF THE ROLLBACK
  pub renumber-turn : (r : ℕ) (os : List ℕ) → rolled os (get_or ws i nobody) ≡ true
      → renumber_to (owned b.sides (get_or ws i nobody).site) (mark (get_or ws i nobody).site) i 14 (table_of b ws, length ws)
      ≡ (table_of b (roll_turn r os i ws), length (roll_turn r os i ws))
  renumber-turn r os q =
      let x = get_or ws i nobody in
      let t : table_of b (roll_turn r os i ws) ≡ number (length ws) (keys b x) (table_of b ws) =
      turn-table b r os i ws h once ∙ ap (λ (c : Bool). cond c (number (length ws) (keys b x) (table_of b ws)) (table_of b ws)) q in
      renumber-held ∙ (λ j. (sym t j, sym (turn-length r os q) j))
