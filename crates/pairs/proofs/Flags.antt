-- Laws of the flags on their way from the records to the places of their sides. Assumes nothing.
use mathlib.Core.Path.{◌≡◌, refl, sym, ap, ap₂, ◌∙◌}
use mathlib.Core.Bool.{Bool, true, false, ◌&&◌}
use mathlib.Core.List.{List, ◌++◌}
use Prim.Native.Nat.{ℕ, zero, suc, ◌+◌, ◌*◌, ◌/◌, ◌%◌, ◌-◌, ◌≤◌, ◌<◌}
use native.Mathlib.Nat.{add-zero}
use native.Mathlib.Omega.{arith}
use native.Mathlib.Decide.{ℕ_discrete}
use lib.Dec.{eqb, ltb}
use lib.ListN.{length, get_or, set, take, drop, replicate, length-set, length-drop, length-append, replicate-append-replicate}
use lib.Seq.{get_or-set_same, get_or-set_other, get_or-take, get_or-drop, length-take-le, take-append-le, drop_at, drop-drop, ext_get_or}
use borrow.Author.Tests.{ltb-true, lt-ltb, eqb-true, eq-eqb}
use borrow.Rule.Slice.PartMut.{put_mid}
use Rattle.laws.specs.Bools.{bit}
use Rattle.laws.specs.Lists.{count, All}
use Rattle.laws.specs.Ranges.{fold}
use Rattle.laws.proofs.Bools.{and-apart, and_yes}
use Rattle.laws.proofs.Lists.{count_same, count-some, count-find, all-index, all_member, get_d_map}
use Rattle.laws.proofs.Ranges.{fold_keeps}
use Rattle.sort.specs.declared.Rec.{Rec}
use Rattle.sort.specs.Records.{none, recs, words}
use Rattle.sort.specs.Order.{Perm}
use Rattle.pairs.specs.Sides.{pair_count, next, crowded, crowded_flags}
use Rattle.pairs.specs.Inner.Listing.{side_of, sides}
use Rattle.pairs.specs.Inner.Runs.{same_pair, Front, flagged, crowded_among, marked}
use Rattle.pairs.specs.Inner.Flags.{sent, pulled, Homed, home_flags}
use Rattle.sort.proofs.Records.{rec_same, recs-length, recs-get_or, recs-words, words-length, words-whole}
use Rattle.sort.proofs.Order.{perm_length, perm_all}
use Rattle.pairs.proofs.Runs.{same_ends, same_left, ends_same, run-count, marked-length}
use Rattle.pairs.proofs.Sides.{pair_ends, flags-length, crowded_flag_at}
use Rattle.pairs.proofs.Listing.{sides-length, sides-at, pair_count_lem}

-- ---- sending

pub sent-length : (m : ℕ) (s : List ℕ) → length (fold sent m s) ≡ length s
unfolding sent
sent-length m s = fold_keeps length sent (λ j t. length-set t (get_or t (j * 3 + 2) 0 * 3) (get_or t (j * 3 + 1) 0)) m s

-- words that are no first words stand
sent_keeps : (w : ℕ) → ((x : ℕ) → w ≡ x * 3 → ⊥) → (m : ℕ) (s : List ℕ) → get_or (fold sent m s) w 0 ≡ get_or s w 0
unfolding sent
sent_keeps w n m s =
    fold_keeps (λ t. get_or t w 0) sent (λ j t. get_or-set_other t (get_or t (j * 3 + 2) 0 * 3) w (get_or t (j * 3 + 1) 0) 0 (n (get_or t (j * 3 + 2) 0))) m s

pub sent_flag : (j m : ℕ) (s : List ℕ) → get_or (fold sent m s) (j * 3 + 1) 0 ≡ get_or s (j * 3 + 1) 0
sent_flag j m s = sent_keeps (j * 3 + 1) (λ x e. omega arith) m s

pub sent-side : (j m : ℕ) (s : List ℕ) → get_or (fold sent m s) (j * 3 + 2) 0 ≡ get_or s (j * 3 + 2) 0
sent-side j m s = sent_keeps (j * 3 + 2) (λ x e. omega arith) m s

-- where the flag of a record depends on its side alone, it has arrived
pub sent-at : (F : ℕ → ℕ) (s : List ℕ) → Homed s → ((j : ℕ) → j < length s / 3 → get_or s (j * 3 + 1) 0 ≡ F (get_or s (j * 3 + 2) 0))
    → (m : ℕ) → m ≤ length s / 3 → (j : ℕ) → j < m → get_or (fold sent m s) (get_or s (j * 3 + 2) 0 * 3) 0 ≡ F (get_or s (j * 3 + 2) 0)
unfolding fold sent
sent-at F s home flag zero h j l = let z : ⊥ = omega arith in absurd z
sent-at F s home flag (suc m) h j l =
    let t : List ℕ = fold sent m s in
    let x : ℕ = get_or s (m * 3 + 2) 0 in
    let y : ℕ = get_or s (j * 3 + 2) 0 in
    let e : sent m t ≡ set t (x * 3) (F x) =
    ap₂ (λ (a b : ℕ). set t (a * 3) b) (sent-side m m s) (sent_flag m m s ∙ flag m (omega arith)) in
    let room : x * 3 < length t = omega (arith, home m (omega arith), sent-length m s) in
    ap (λ (q : List ℕ). get_or q (y * 3) 0) e
    ∙ place t x y (F x) (F y) room (λ q. ap F (sym q)) (λ n. sent-at F s home flag m (omega arith) j (earlier n))
  where
    place : (t : List ℕ) (x y a b : ℕ) → x * 3 < length t → (y ≡ x → a ≡ b) → ((y ≡ x → ⊥) → get_or t (y * 3) 0 ≡ b) → get_or (set t (x * 3) a) (y * 3) 0 ≡ b
    place t x y a b r same other =
        elim (ℕ_discrete y x) [
          | yes q ↦ ap (λ (k : ℕ). get_or (set t (x * 3) a) (k * 3) 0) q ∙ get_or-set_same t (x * 3) a 0 r ∙ same q
          | no n ↦ get_or-set_other t (x * 3) (y * 3) a 0 (λ q. n (omega arith)) ∙ other n
        ]

    earlier : (get_or s (j * 3 + 2) 0 ≡ get_or s (m * 3 + 2) 0 → ⊥) → j < m
    earlier n =
        elim (ℕ_discrete j m) [
          | yes q ↦ absurd (n (ap (λ (k : ℕ). get_or s (k * 3 + 2) 0) q))
          | no g ↦ omega (arith, g)
        ]

-- ---- pulling

pub pulled-length : (m : ℕ) (s : List ℕ) → length (fold pulled m s) ≡ length s
unfolding pulled
pulled-length m s = fold_keeps length pulled (λ k t. length-set t k (get_or t (k * 3) 0)) m s

pulled_keeps : (m : ℕ) (s : List ℕ) (w : ℕ) → m ≤ w → get_or (fold pulled m s) w 0 ≡ get_or s w 0
unfolding fold pulled
pulled_keeps zero s w h = refl
pulled_keeps (suc m) s w h =
    get_or-set_other (fold pulled m s) m w (get_or (fold pulled m s) (m * 3) 0) 0 (λ e. omega arith) ∙ pulled_keeps m s w (omega arith)

pub pulled-at : (m : ℕ) (s : List ℕ) → m ≤ length s → (k : ℕ) → k < m → get_or (fold pulled m s) k 0 ≡ get_or s (k * 3) 0
unfolding fold pulled
pulled-at zero s h k l = let z : ⊥ = omega arith in absurd z
pulled-at (suc m) s h k l =
    let t : List ℕ = fold pulled m s in
    place t (get_or t (m * 3) 0) (omega (arith, pulled-length m s)) (pulled_keeps m s (m * 3) (omega arith)) (λ g. pulled-at m s (omega arith) k g)
  where
    place : (t : List ℕ) (x : ℕ) → m < length t → x ≡ get_or s (m * 3) 0 → (k < m → get_or t k 0 ≡ get_or s (k * 3) 0) → get_or (set t m x) k 0 ≡ get_or s (k * 3) 0
    place t x r e other =
        elim (ℕ_discrete k m) [
          | yes q ↦ ap (λ (j : ℕ). get_or (set t m x) j 0) q ∙ get_or-set_same t m x 0 r ∙ e ∙ ap (λ (j : ℕ). get_or s (j * 3) 0) (sym q)
          | no n ↦ get_or-set_other t m k x 0 n ∙ other (omega (arith, n))
        ]

-- ---- the sides in any order, flagged

module _ (s : List ℕ) (whole : length s % 3 ≡ 0) (l : List Rec) (perm : Perm (sides s) l) where
  -- the record is that of a side
  home : Rec → Bool
  home r = ltb r.side (length s) && same_pair r (get_or (sides s) r.side none)

  count-is : length l ≡ length s
  count-is = perm_length perm ∙ sides-length s whole

  all_home : All (λ r. home r ≡ true) l
  unfolding home side_of
  all_home =
      perm_all home perm (all-index none (λ r. home r ≡ true) (sides s) (λ k h.
      let lt : k < length s = omega (arith, sides-length s whole) in
      let e = sides-at s whole k lt in
      let n : (get_or (sides s) k none).side ≡ k = ap (λ (r : Rec). r.side) e in
      and_yes (lt-ltb (get_or (sides s) k none).side (length s) (omega arith))
      (rw n (ends_same (get_or (sides s) k none) (get_or (sides s) k none) refl refl))))

  -- the number of its side
  abbrev at : ℕ → ℕ
  at j = (get_or l j none).side

  at_home : (j : ℕ) → j < length s → (at j < length s) × (same_pair (get_or l j none) (get_or (sides s) (at j) none) ≡ true)
  unfolding home
  at_home j h =
      let p = and-apart (ltb (at j) (length s)) (same_pair (get_or l j none) (get_or (sides s) (at j) none)) (all_member none (λ r. home r ≡ true) l all_home j (omega (arith, count-is))) in
      (ltb-true (at j) (length s) p.0, p.1)

  -- the record is that of its side, so the direction is read off the triangles
  pub record_side : (j : ℕ) → j < length s → get_or l j none ≡ side_of (at j) (get_or s (at j) 0, get_or s (next (at j)) 0)
  unfolding side_of
  record_side j h =
      let p = at_home j h in
      let e = sides-at s whole (at j) p.0 in
      let q = same_ends (get_or l j none) (get_or (sides s) (at j) none) p.1 in
      rec_same (get_or l j none) (side_of (at j) (get_or s (at j) 0, get_or s (next (at j)) 0)) (q.0 ∙ ap (λ (r : Rec). r.low) e) (q.1 ∙ ap (λ (r : Rec). r.high) e) refl

  -- every side has a record
  found : (k : ℕ) → k < length s → (j : ℕ) × (j < length s) × (at j ≡ k)
  unfolding side_of
  found k h =
      let q : Rec → Bool = λ r. eqb r.side k in
      let e = sides-at s whole k h in
      let some : 0 < count q (sides s) =
      count-some none q (sides s) k (omega (arith, sides-length s whole)) (eq-eqb (get_or (sides s) k none).side k (ap (λ (r : Rec). r.side) e)) in
      let f = count-find none q l (omega (arith, perm.same q)) in
      (f.0, omega (arith, f.1, count-is), eqb-true (get_or l f.0 none).side k f.2)

  -- the records with one record's pair are as many as the sides with its ends
  count_pairs : (j : ℕ) → j < length s → count (same_pair (get_or l j none)) l ≡ pair_count (get_or s (at j) 0) (get_or s (next (at j)) 0) s
  count_pairs j h =
      let x : Rec = get_or l j none in
      let k : ℕ = at j in
      let p = at_home j h in
      perm.same (same_pair x) ∙ count_same (same_pair x) (same_pair (get_or (sides s) k none)) (same_left x (get_or (sides s) k none) p.1) (sides s)
      ∙ ap (λ (r : Rec). count (same_pair r) (sides s)) (sides-at s whole k p.0) ∙ pair_count_lem (get_or s k 0) (get_or s (next k) 0) k s

  -- a run's length is the number of sides with its two ends
  pub run_pairs : (i r : ℕ) → i < length s → All (λ y. same_pair y (get_or l i none) ≡ false) (take i l) → Front (drop i l) r
      → r ≡ pair_count (get_or l i none).low (get_or l i none).high s
  unfolding side_of
  run_pairs i r h a f =
      let x : Rec = get_or l i none in
      let e : get_or (drop i l) 0 none ≡ x = get_or-drop i l 0 none ∙ ap (λ (k : ℕ). get_or l k none) (add-zero i) in
      let c : count (same_pair x) l ≡ r = rw e at (run-count l i r (rw e a) f) in
      let k : ℕ = at i in
      let p = at_home i h in
      let q = same_ends x (get_or (sides s) k none) p.1 in
      let g = sides-at s whole k p.0 in
      sym c ∙ count_pairs i h
      ∙ pair_ends (get_or s k 0) (get_or s (next k) 0) x.low x.high s (q.0 ∙ ap (λ (y : Rec). y.low) g) (q.1 ∙ ap (λ (y : Rec). y.high) g)

  -- a record's pair is crowded_among just where its side is crowded
  among-crowded : (j : ℕ) → j < length s → crowded_among l (get_or l j none) ≡ crowded s (at j)
  unfolding crowded_among crowded
  among-crowded j h = ap (ltb 2) (count_pairs j h)

  module _ (t : List ℕ) (size : length t ≡ length s * 3) (flags : recs t ≡ marked l l) where
    word-side : (j : ℕ) → j < length s → get_or t (j * 3 + 2) 0 ≡ at j
    unfolding marked flagged
    word-side j h =
        sym (ap (λ (r : Rec). r.side) (recs-get_or t j (omega arith))) ∙ ap (λ (m : List Rec). (get_or m j none).side) flags
        ∙ ap (λ (r : Rec). r.side) (get_d_map (λ x. flagged (crowded_among l x) x) l j none none (omega (arith, count-is)))

    word_flag : (j : ℕ) → j < length s → get_or t (j * 3 + 1) 0 ≡ bit (crowded s (at j))
    unfolding marked flagged
    word_flag j h =
        sym (ap (λ (r : Rec). r.high) (recs-get_or t j (omega arith))) ∙ ap (λ (m : List Rec). (get_or m j none).high) flags
        ∙ ap (λ (r : Rec). r.high) (get_d_map (λ x. flagged (crowded_among l x) x) l j none none (omega (arith, count-is)))
        ∙ ap bit (among-crowded j h)

    pub homed : Homed t
    homed j h = omega (arith, word-side j (omega arith), (at_home j (omega arith)).0)

    -- all flags have come to the front
    pub arrived : take (length s) (fold pulled (length t / 3) (fold sent (length t / 3) t)) ≡ crowded_flags s
    arrived =
        let n : ℕ = length t / 3 in
        let u : List ℕ = fold sent n t in
        let v : List ℕ = fold pulled n u in
        let lu : length u ≡ length t = sent-length n t in
        let lv : length v ≡ length u = pulled-length n u in
        let lw : length (take (length s) v) ≡ length s = length-take-le (length s) v (omega arith) in
        ext_get_or 0 (take (length s) v) (crowded_flags s) (lw ∙ sym (flags-length s)) (λ k h.
        let lt : k < length s = omega arith in
        let f = found k lt in
        let e : get_or t (f.0 * 3 + 2) 0 ≡ k = word-side f.0 f.1 ∙ f.2 in
        let g : get_or u (get_or t (f.0 * 3 + 2) 0 * 3) 0 ≡ bit (crowded s (get_or t (f.0 * 3 + 2) 0)) =
        sent-at (λ i. bit (crowded s i)) t homed (λ j b. word_flag j (omega arith) ∙ ap (λ (i : ℕ). bit (crowded s i)) (sym (word-side j (omega arith)))) n (omega arith) f.0 (omega (arith, f.1)) in
        get_or-take (length s) v k 0 lt ∙ pulled-at n u (omega arith) k (omega arith) ∙ (rw e at g) ∙ sym (crowded_flag_at s k lt))

-- ---- the records in words, stage by stage: sorted, flagged, sent, pulled

-- flags leave the sides' numbers
pub marked_homed : (s t : List ℕ) → length t ≡ length s → recs t ≡ marked (recs s) (recs s) → Homed s → Homed t
unfolding marked flagged
marked_homed s t e f h j b =
    let b' : j < length s / 3 = omega arith in
    let g : get_or t (j * 3 + 2) 0 ≡ get_or s (j * 3 + 2) 0 =
    sym (ap (λ (r : Rec). r.side) (recs-get_or t j b)) ∙ ap (λ (m : List Rec). (get_or m j none).side) f
    ∙ ap (λ (r : Rec). r.side) (get_d_map (λ x. flagged (crowded_among (recs s) x) x) (recs s) j none none (omega (arith, recs-length s)))
    ∙ ap (λ (r : Rec). r.side) (recs-get_or s j b') in
    omega (arith, g, h j b')

pub home_is : (s t moved front : List ℕ) → length s % 3 ≡ 0 → length t ≡ length s → recs t ≡ marked (recs s) (recs s)
    → moved ≡ fold sent (length t / 3) t → front ≡ fold pulled (length moved / 3) moved → front ≡ home_flags s
unfolding home_flags
home_is s t moved front whole e f g h =
    let w : t ≡ words (marked (recs s) (recs s)) = sym (words-whole t (omega arith)) ∙ ap words f in
    let n : length moved ≡ length s = ap length g ∙ sent-length (length t / 3) t ∙ e in
    h ∙ ap₂ (λ (k : ℕ) (m : List ℕ). fold pulled (k / 3) m) n (g ∙ ap₂ (λ (k : ℕ) (m : List ℕ). fold sent (k / 3) m) e w)

zeros-joined : (a b c : ℕ) (x y : List ℕ) → a + b ≡ c → x ≡ replicate a 0 → y ≡ replicate b 0 → x ++ y ≡ replicate c 0
zeros-joined a b c x y e p q =
    let zero : ℕ = 0 in
    let both : replicate a zero ++ replicate b zero ≡ replicate (a + b) zero = replicate-append-replicate a b zero in
    ap₂ (λ (u v : List ℕ). u ++ v) p q ∙ both ∙ ap (λ (j : ℕ). replicate j zero) e

-- in front of the room the records of the sides, sorted
module _ (s : List ℕ) (whole : length s % 3 ≡ 0) (front : List ℕ) (size : length front ≡ length s * 3) (perm : Perm (sides s) (recs front)) where
  pub listed_homed : Homed front
  listed_homed j h =
      omega (arith, ap (λ (r : Rec). r.side) (recs-get_or front j h), (at_home s whole (recs front) perm j (omega arith)).0)

  flagged-words : length (words (marked (recs front) (recs front))) ≡ length front
  flagged-words =
      omega (arith, words-length (marked (recs front) (recs front)), marked-length (recs front) (recs front), recs-length front)

  pub home_flags_lem : take (length s) (home_flags front) ≡ crowded_flags s
  unfolding home_flags
  home_flags_lem =
      let t : List ℕ = words (marked (recs front) (recs front)) in
      ap (λ (k : ℕ). take (length s) (fold pulled (k / 3) (fold sent (k / 3) t))) (sym flagged-words)
      ∙ arrived s whole (recs front) perm t (flagged-words ∙ size) (recs-words (marked (recs front) (recs front)))

  -- the flags in front of the room, then zeros
  pub cleared : (n : ℕ) (behind home end : List ℕ) → length s * 3 ≤ n → behind ≡ replicate (n - length s * 3) 0 → length home ≡ length front → home ≡ home_flags front
      → end ≡ replicate (length (take (length s * 3 - length s) (drop (length s) (home ++ behind)))) 0
      → put_mid (length s) (length s * 3 - length s) (home ++ behind) end ≡ crowded_flags s ++ replicate (n - length s) 0
  cleared n behind home end fits zeros kept is e =
      let k : ℕ = length s in
      let w : ℕ = length s * 3 in
      let all : List ℕ = home ++ behind in
      let flags : take k all ≡ crowded_flags s = take-append-le k home behind (omega arith) ∙ ap (λ (q : List ℕ). take k q) is ∙ home_flags_lem in
      let middle : length (take (w - k) (drop k all)) ≡ w - k = length-take-le (w - k) (drop k all) (omega (arith, length-drop k all, length-append home behind)) in
      let sum : k + (w - k) ≡ w = omega arith in
      let last : drop (w - k) (drop k all) ≡ behind = drop-drop (w - k) k all ∙ ap (λ (j : ℕ). drop j all) sum ∙ drop_at home behind w (omega arith) in
      let gap : w - k + (n - w) ≡ n - k = omega arith in
      ap₂ (λ (x y : List ℕ). x ++ y) flags (zeros-joined (w - k) (n - w) (n - k) end (drop (w - k) (drop k all)) gap (e ∙ ap (λ (j : ℕ). replicate j 0) middle) (last ∙ zeros))
