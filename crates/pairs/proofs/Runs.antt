-- Laws of runs: the first pair of a sorted list stands at its front only, a run's length is the pair's count, and run by run every record gets its flag.
-- Assumes nothing.
use mathlib.Core.Path.{◌≡◌, refl, sym, ap, ap₂, ◌∙◌}
use mathlib.Core.Bool.{Bool, true, false, ◌&&◌, false≢true}
use mathlib.Core.List.{List, [], ◌∷◌, ◌++◌, map, append_assoc, append-nil}
use mir.Val.{bool_byte}
use Prim.Native.Nat.{ℕ, zero, suc, ◌+◌, ◌-◌, ◌*◌, ◌≤◌, ◌<◌}
use native.Mathlib.Omega.{arith}
use lib.Dec.{eqb, ltb}
use lib.ListN.{length, get_or, take, drop, length-drop, length-map, length-append, take-append-drop, drop_of_length-le}
use lib.Seq.{get_or-take, get_or-drop, length-take-le, take-add, drop-drop, take_all, take_at, drop_at}
use borrow.Author.Tests.{eqb-true, eq-eqb}
use borrow.Rule.Slice.PartMut.{put_mid}
use Rattle.laws.specs.Bools.{bit}
use Rattle.laws.specs.Lists.{count, All}
use Rattle.laws.proofs.Bools.{and-apart, bool_ext}
use Rattle.laws.proofs.Lists.{count-append, count_same, all-count, all-count-none, all_append, all_map, all-index, all_member, all-drop-more, map-append, map-agree}
use Rattle.laws.proofs.Tails.{tail_is, tail_back}
use Rattle.sort.specs.declared.Rec.{Rec}
use Rattle.sort.specs.Records.{none, recs, pair_of, key_of}
use Rattle.sort.specs.Order.{Sorted}
use Rattle.pairs.specs.Inner.Runs.{same_pair, Front, flagged, crowded_among, marked, FrontMarked}
use Rattle.sort.proofs.Records.{recs-take, recs-drop, recs-append}
use Rattle.sort.proofs.Order.{Fit}

-- ---- the same pair

pub same_ends : (x y : Rec) → same_pair x y ≡ true → (x.low ≡ y.low) × (x.high ≡ y.high)
unfolding same_pair
same_ends x y e =
    let p = and-apart (eqb x.low y.low) (eqb x.high y.high) e in
    (eqb-true x.low y.low p.0, eqb-true x.high y.high p.1)

pub ends_same : (x y : Rec) → x.low ≡ y.low → x.high ≡ y.high → same_pair x y ≡ true
unfolding same_pair
ends_same x y e f = rw (eq-eqb x.low y.low e, eq-eqb x.high y.high f)

-- records with the same pair are alike
pub same_left : (x y : Rec) → same_pair x y ≡ true → (z : Rec) → same_pair x z ≡ same_pair y z
unfolding same_pair
same_left x y e z =
    let p = same_ends x y e in
    ap₂ (λ (a b : ℕ). eqb a z.low && eqb b z.high) p.0 p.1

pub same_sym : (x y : Rec) → same_pair x y ≡ same_pair y x
same_sym x y =
    bool_ext (same_pair x y) (same_pair y x) (λ e. (let p = same_ends x y e in ends_same y x (sym p.0) (sym p.1)))
    (λ e. (let p = same_ends y x e in ends_same x y (sym p.0) (sym p.1)))

-- by the number of the pair, where the words fit
same-pair_of : (x y : Rec) → Fit x → Fit y → pair_of x ≡ pair_of y → same_pair x y ≡ true
unfolding Fit
same-pair_of x y f g e = ends_same x y (omega arith) (omega arith)

other_pair_of : (x y : Rec) → (pair_of x ≡ pair_of y → ⊥) → same_pair x y ≡ false
other_pair_of x y n =
    bool_ext (same_pair x y) false (λ e. (let p = same_ends x y e in absurd (n (ap₂ (λ (a b : ℕ). a * 4294967296 + b) p.0 p.1)))) (λ e. absurd (false≢true e))

-- ---- the run at the front of a sorted list

sorted_at : (l : List Rec) → Sorted l → (j k : ℕ) → j ≤ k → k < length l → key_of (get_or l j none) ≤ key_of (get_or l k none)
unfolding Sorted
sorted_at [] s j k h g = let z : ⊥ = omega arith in absurd z
sorted_at (x ∷ l) s zero zero h g = omega arith
sorted_at (x ∷ l) s zero (suc k) h g = all_member none (λ r. key_of x ≤ key_of r) l s.0 k (omega arith)
sorted_at (x ∷ l) s (suc j) zero h g = let z : ⊥ = omega arith in absurd z
sorted_at (x ∷ l) s (suc j) (suc k) h g = sorted_at l s.1 j k (omega arith) (omega arith)

pub front_found : (l : List Rec) → Sorted l → All Fit l → (i : ℕ) → 0 < i → i ≤ length l
    → ((j : ℕ) → j < i → pair_of (get_or l j none) ≡ pair_of (get_or l 0 none)) → (i < length l → pair_of (get_or l i none) ≡ pair_of (get_or l 0 none) → ⊥) → Front l i
unfolding Fit
front_found l s f i h h' e n =
    let fit : (k : ℕ) → k < length l → Fit (get_or l k none) = all_member none Fit l f in
    record {
      some = h;
      within = h';
      same = all-index none (λ x. same_pair (get_or l 0 none) x ≡ true) (take i l) (λ k hk.
          let len : length (take i l) ≡ i = length-take-le i l h' in
          let g : get_or (take i l) k none ≡ get_or l k none = get_or-take i l k none (omega arith) in
          rw g (same-pair_of (get_or l 0 none) (get_or l k none) (fit 0 (omega arith)) (fit k (omega arith)) (sym (e k (omega arith)))));
      after = all-index none (λ x. same_pair (get_or l 0 none) x ≡ false) (drop i l) (λ k hk.
          let len : length (drop i l) ≡ length l - i = length-drop i l in
          let g : get_or (drop i l) k none ≡ get_or l (i + k) none = get_or-drop i l k none in
          let ne : (pair_of (get_or l i none) ≡ pair_of (get_or l 0 none) → ⊥) = n (omega arith) in
          let a = sorted_at l s 0 i (omega arith) (omega arith) in
          let b = sorted_at l s i (i + k) (omega arith) (omega arith) in
          let f₀ = fit i (omega arith) in
          let f₁ = fit (i + k) (omega arith) in
          rw g (other_pair_of (get_or l 0 none) (get_or l (i + k) none) (λ q. omega (arith, ne))));
    }

-- its length is the count of its pair
pub front_count : (l : List Rec) (r : ℕ) → Front l r → count (same_pair (get_or l 0 none)) l ≡ r
front_count l r f =
    let p : Rec → Bool = same_pair (get_or l 0 none) in
    let a : count p (take r l) ≡ length (take r l) = all-count p (take r l) f.same in
    let b : count p (drop r l) ≡ 0 = all-count-none p (drop r l) f.after in
    let len : length (take r l) ≡ r = length-take-le r l f.within in
    let whole : count p (take r l ++ drop r l) ≡ r = omega (arith, count-append p (take r l) (drop r l)) in
    rw (take-append-drop r l) at whole

-- ---- the run from record i on, of whose pair no record stands before

pub run-count : (l : List Rec) (i r : ℕ) → All (λ y. same_pair y (get_or (drop i l) 0 none) ≡ false) (take i l) → Front (drop i l) r
    → count (same_pair (get_or (drop i l) 0 none)) l ≡ r
run-count l i r a f =
    let x : Rec = get_or (drop i l) 0 none in
    let before : count (same_pair x) (take i l) ≡ 0 =
    all-count-none (same_pair x) (take i l) (all_map (λ y. same_pair y x ≡ false) (λ y. same_pair x y ≡ false) (λ y e. same_sym x y ∙ e) (take i l) a) in
    let whole : count (same_pair x) (take i l ++ drop i l) ≡ r = omega (arith, count-append (same_pair x) (take i l) (drop i l), front_count (drop i l) r f) in
    rw (take-append-drop i l) at whole

-- ---- one flag

pub flag_set : {x y : Rec} (f : Bool) (b : ℕ) → b ≡ bool_byte f → x ≡ y → record { low = x.low; high = b; side = x.side } ≡ flagged f y
unfolding flagged bit
flag_set true b h e = cc
flag_set false b h e = cc

-- ---- run after run

-- the first i records of l are whole runs, and have their flags in m
pub record Walked (l m : List Rec) (i : ℕ) : Type 0 where
  pub apart : All (λ x. All (λ y. same_pair x y ≡ false) (drop i l)) (take i l)
  pub flags : m ≡ marked l (take i l) ++ drop i l

pub walked_none : (l : List Rec) → Walked l l 0
unfolding All marked
walked_none l = record { apart = tt; flags = refl }

pub marked-length : (l m : List Rec) → length (marked l m) ≡ length m
unfolding marked
marked-length l m = length-map m (λ x. flagged (crowded_among l x) x)

module _ {l m : List Rec} {i : ℕ} (within : i ≤ length l) (w : Walked l m i) where
  head_length : length (marked l (take i l)) ≡ i
  head_length = marked-length l (take i l) ∙ length-take-le i l within

  -- what is still to come stands as it was
  pub walked_tail : drop i m ≡ drop i l
  walked_tail = ap (λ (q : List Rec). drop i q) w.flags ∙ drop_at (marked l (take i l)) (drop i l) i head_length

  walked_head : take i m ≡ marked l (take i l)
  walked_head = ap (λ (q : List Rec). take i q) w.flags ∙ take_at (marked l (take i l)) (drop i l) i head_length

  pub walked_length : length m ≡ length l
  walked_length = ap length w.flags ∙ length-append (marked l (take i l)) (drop i l) ∙ omega (arith, head_length, length-drop i l)

  -- the count in the whole list of the pair that comes next
  pub walked_count : {r : ℕ} → Front (drop i l) r → count (same_pair (get_or (drop i l) 0 none)) l ≡ r
  walked_count {r} f =
      run-count l i r
      (all_map (λ y. All (λ z. same_pair y z ≡ false) (drop i l)) (λ y. same_pair y (get_or (drop i l) 0 none) ≡ false)
      (λ y a. all_member none (λ z. same_pair y z ≡ false) (drop i l) a 0 (omega (arith, f.some, f.within))) (take i l) w.apart) f

  -- so the flags of the run are those of its records
  run-flags : {r : ℕ} → Front (drop i l) r → map (flagged (ltb 2 r)) (take r (drop i l)) ≡ marked l (take r (drop i l))
  unfolding marked crowded_among
  run-flags {r} f =
      let x : Rec = get_or (drop i l) 0 none in
      map-agree (flagged (ltb 2 r)) (λ y. flagged (ltb 2 (count (same_pair y) l)) y) (take r (drop i l))
      (all_map (λ y. same_pair x y ≡ true) (λ y. flagged (ltb 2 r) y ≡ flagged (ltb 2 (count (same_pair y) l)) y)
      (λ y e. ap (λ (k : ℕ). flagged (ltb 2 k) y) (sym (walked_count f) ∙ count_same (same_pair x) (same_pair y) (same_left x y e) l)) (take r (drop i l)) f.same)

  -- one run more
  pub walked_turn : {t : List Rec} {r : ℕ} → FrontMarked (drop i l) t r → Walked l (take i m ++ t) (i + r)
  unfolding marked
  walked_turn {t} {r} p =
      let f = p.front in
      let x : Rec = get_or (drop i l) 0 none in
      let d : drop r (drop i l) ≡ drop (i + r) l = drop-drop r i l in
      let e : take (i + r) l ≡ take i l ++ take r (drop i l) = take-add i r l in
      record {
        apart = rw (e, ← d)
            (all_append (λ y. All (λ z. same_pair y z ≡ false) (drop r (drop i l))) (take i l) (take r (drop i l))
            (all_map (λ y. All (λ z. same_pair y z ≡ false) (drop i l)) (λ y. All (λ z. same_pair y z ≡ false) (drop r (drop i l)))
            (λ y a. all-drop-more (λ z. same_pair y z ≡ false) (drop i l) r a) (take i l) w.apart)
            (all_map (λ y. same_pair x y ≡ true) (λ y. All (λ z. same_pair y z ≡ false) (drop r (drop i l)))
            (λ y s. all_map (λ z. same_pair x z ≡ false) (λ z. same_pair y z ≡ false) (λ z n. sym (same_left x y s z) ∙ n) (drop r (drop i l)) f.after) (take r (drop i l)) f.same));
        flags =
            ap₂ (λ (a b : List Rec). a ++ b) walked_head p.flags
            ∙ rw (run-flags f, d, e, map-append (λ y. flagged (crowded_among l y) y) (take i l) (take r (drop i l)), append_assoc);
      }

  pub walked_done : length l ≤ i → m ≡ marked l l
  walked_done h =
      w.flags ∙ ap₂ (λ (a b : List Rec). marked l a ++ b) (take_all i l h) (drop_of_length-le l h) ∙ append-nil (marked l l)

-- in words: the run from record i on is flagged in the words from i * 3 on

module _ (s₀ s : List ℕ) (i : ℕ) (within : i ≤ length (recs s₀)) (fits : i * 3 ≤ length s) (w : Walked (recs s₀) (recs s) i) where
  pub walked_part : recs (take (length s - i * 3) (drop (i * 3) s)) ≡ drop i (recs s₀)
  walked_part =
      let e : i * 3 ≡ 3 * i = omega arith in
      ap recs (tail_is (i * 3) s) ∙ ap (λ (k : ℕ). recs (drop k s)) e ∙ recs-drop i s ∙ walked_tail within w

  pub walked_within : {b : List Rec} {r : ℕ} → FrontMarked (recs (take (length s - i * 3) (drop (i * 3) s))) b r → i + r ≤ length (recs s₀)
  walked_within f = omega (arith, f.front.within, ap length walked_part, length-drop i (recs s₀))

  pub walked_words : (b : List ℕ) {r : ℕ} → FrontMarked (recs (take (length s - i * 3) (drop (i * 3) s))) (recs b) r
      → Walked (recs s₀) (recs (put_mid (i * 3) (length s - i * 3) s b)) (i + r)
  walked_words b f =
      let e : i * 3 ≡ 3 * i = omega arith in
      let len : length (take (i * 3) s) ≡ i * 3 = length-take-le (i * 3) s fits in
      let front : recs (take (i * 3) s) ≡ take i (recs s) = ap (λ (k : ℕ). recs (take k s)) e ∙ recs-take i s in
      let all : recs (put_mid (i * 3) (length s - i * 3) s b) ≡ take i (recs s) ++ recs b =
      ap recs (tail_back (i * 3) s b) ∙ recs-append (take (i * 3) s) b (omega arith) ∙ ap (λ (l : List Rec). l ++ recs b) front in
      rw all (walked_turn within w (rw walked_part at f))
