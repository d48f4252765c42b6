-- What the loops leave: the flags of the sides in front, and behind them the flags of the ends or of the owners. Assumes nothing.
use mathlib.Core.Path.{◌≡◌, refl, sym, ap, ap₂, ◌∙◌}
use mathlib.Core.Logic.{⊎_elim}
use mathlib.Core.Bool.{Bool, true, false, ◌&&◌, ◌||◌, or_assoc, or-true, or-false, and_assoc}
use mathlib.Core.List.{List, [], ◌∷◌, ◌++◌, append_assoc}
use Prim.Native.Nat.{ℕ, zero, suc, ◌+◌, ◌*◌, ◌-◌, ◌/◌, ◌%◌, ◌≤◌, ◌<◌, min}
use native.Mathlib.Nat.{min-le_right}
use native.Mathlib.Omega.{arith}
use lib.Dec.{eqb, ltb}
use lib.ListN.{length, get_or, set, take, drop, replicate, length-append, length-drop, length-set, length-replicate, get_or-replicate, get_or-append}
use lib.Seq.{get_or-set_same, get_or-set_other, length-take-le, take_at, drop_at, drop-drop, ext_get_or}
use borrow.Author.Tests.{eq-eqb, ne_eqb}
use borrow.Rule.Slice.PartMut.{put_mid}
use Rattle.laws.specs.Bools.{bit}
use Rattle.laws.specs.Ranges.{any, each, fold}
use Rattle.laws.proofs.Bools.{and-apart, and_yes, bool_ext}
use Rattle.laws.proofs.Ranges.{eq-or, each_same, each-one-length, each-one-at, any_some, any-one, any_same}
use Rattle.laws.proofs.Tails.{back_before, back_from, set_behind}
use Rattle.pairs.specs.Sides.{next, crowded, crowded_flags}
use Rattle.pairs.proofs.Sides.{flags-length, crowded_flag_at}
use Rattle.crowded.specs.Inner.Flags.{Flaggable, fitting, reach, side_flags, front_flags, with_flags, end_in, cluster_in, owner_in}
use Rattle.crowded.specs.Inner.Turns.{Ready, mark, end_turn, crowded_at, wanted, owner_turn}

-- ---- the list as it is prepared

-- what fits is no more than there is
fits_low : (m a : ℕ) (room : List ℕ) → a ≤ length room → a + fitting m a room ≤ length room
fits_low m a room h = omega (arith, min-le_right m (length room - a))

pub fits_under : (m a : ℕ) (room : List ℕ) (x : ℕ) → x < m → a + x < length room → x < fitting m a room
fits_under m a room x h l = omega arith

module _ (s room : List ℕ) (a : ℕ) (F : Flaggable s room a) (v : ℕ) where
  reach_high : reach s v room ≤ length room
  reach_high = fits_low v (length s * 3) room F.nine

  zeros-length : length (crowded_flags s ++ replicate (reach s v room - length s) 0) ≡ reach s v room
  zeros-length =
      omega (arith, flags-length s, length-append (crowded_flags s) (replicate (reach s v room - length s) 0), length-replicate {A = ℕ} (reach s v room - length s) 0)

  pub sides-length : length (side_flags s v room) ≡ length room
  unfolding side_flags
  sides-length =
      length-append (crowded_flags s ++ replicate (reach s v room - length s) 0) (drop (reach s v room) room)
      ∙ omega (arith, zeros-length, length-drop (reach s v room) room, reach_high)

  flag_at : (k : ℕ) → k < length s → get_or (side_flags s v room) k 0 ≡ bit (crowded s k)
  unfolding side_flags
  flag_at k h =
      get_or-append (crowded_flags s ++ replicate (reach s v room - length s) 0) (drop (reach s v room) room) 0 k (omega (arith, zeros-length))
      ∙ get_or-append (crowded_flags s) (replicate (reach s v room - length s) 0) 0 k (omega (arith, flags-length s)) ∙ crowded_flag_at s k h

-- ---- flags behind a

flags-none : (m : ℕ) → replicate m 0 ≡ each m (λ v. bit false ∷ [])
unfolding bit
flags-none m =
    ext_get_or 0 (replicate m 0) (each m (λ v. 0 ∷ [])) (length-replicate {A = ℕ} m 0 ∙ sym (each-one-length m (λ v. 0)))
    (λ i h. let l : i < m = omega (arith, length-replicate {A = ℕ} m 0) in get_or-replicate m i 0 0 l ∙ sym (each-one-at 0 m (λ v. 0) i l))

set_flag : (m : ℕ) (p : ℕ → Bool) (x : ℕ) → set (each m (λ v. bit (p v) ∷ [])) x 1 ≡ each m (λ v. bit (p v || eqb v x) ∷ [])
unfolding bit
set_flag m p x =
    let l : List ℕ = each m (λ v. bit (p v) ∷ []) in
    let n : length l ≡ m = each-one-length m (λ v. bit (p v)) in
    ext_get_or 0 (set l x 1) (each m (λ v. bit (p v || eqb v x) ∷ [])) (length-set l x 1 ∙ n ∙ sym (each-one-length m (λ v. bit (p v || eqb v x))))
    (λ i h. let k : i < m = omega (arith, length-set l x 1) in
    at l i k n (each-one-at 0 m (λ v. bit (p v)) i k) ∙ sym (each-one-at 0 m (λ v. bit (p v || eqb v x)) i k))
  where
    at : (l : List ℕ) (i : ℕ) → i < m → length l ≡ m → get_or l i 0 ≡ bit (p i) → get_or (set l x 1) i 0 ≡ bit (p i || eqb i x)
    at l i h n e =
        ⊎_elim
        (λ q. ap (λ (j : ℕ). get_or (set l x 1) j 0) q ∙ get_or-set_same l x 1 0 (omega arith) ∙ sym (ap (λ (c : Bool). bit (p i || c)) (eq-eqb i x q) ∙ ap bit (or-true (p i))))
        (λ q. get_or-set_other l x i 1 0 q ∙ e ∙ sym (ap (λ (c : Bool). bit (p i || c)) (ne_eqb i x q) ∙ ap bit (or-false (p i))))
        (eq-or i x)

module _ (q : List ℕ) (a m : ℕ) where
  flags-same : (f g : ℕ → Bool) → ((v : ℕ) → f v ≡ g v) → front_flags q a m f ≡ front_flags q a m g
  flags-same f g h = ap (λ (l : List ℕ). take a q ++ l) (each_same m _ _ (λ v l. ap (λ (c : Bool). bit c ∷ []) (h v)))

  module _ (h : a ≤ length q) where
    mark-flags : (b : Bool) (x : ℕ) (p : ℕ → Bool) → mark a b x (front_flags q a m p) ≡ front_flags q a m (λ v. p v || (b && eqb v x))
    unfolding mark
    mark-flags true x p = set_behind (take a q) (each m (λ v. bit (p v) ∷ [])) a x 1 (length-take-le a q h) ∙ ap (λ (l : List ℕ). take a q ++ l) (set_flag m p x)
    mark-flags false x p = flags-same p (λ v. p v || false) (λ v. sym (or-false (p v)))

    -- turns that each add e k to the flags
    fold-flags : (turn : ℕ → List ℕ → List ℕ) (e : ℕ → ℕ → Bool) → ((k : ℕ) (p : ℕ → Bool) → turn k (front_flags q a m p) ≡ front_flags q a m (λ v. p v || e k v))
        → (n : ℕ) → fold turn n (front_flags q a m (λ v. false)) ≡ front_flags q a m (λ v. any n (λ k. e k v))
    unfolding fold any
    fold-flags turn e t zero = refl
    fold-flags turn e t (suc n) = ap (turn n) (fold-flags turn e t n) ∙ t n (λ v. any n (λ k. e k v))

    end-flags : (s : List ℕ) (k : ℕ) (p : ℕ → Bool)
        → end_turn s a k (front_flags q a m p) ≡ front_flags q a m (λ v. p v || (crowded s k && (eqb v (get_or s k 0) || eqb v (get_or s (next k) 0))))
    unfolding end_turn
    end-flags s k p =
        ap (mark a (crowded s k) (get_or s (next k) 0)) (mark-flags (crowded s k) (get_or s k 0) p)
        ∙ mark-flags (crowded s k) (get_or s (next k) 0) (λ v. p v || (crowded s k && eqb v (get_or s k 0)))
        ∙ flags-same _ _ (λ v. both (p v) (crowded s k) (eqb v (get_or s k 0)) (eqb v (get_or s (next k) 0)))
      where
        both : (c o x y : Bool) → (c || (o && x)) || (o && y) ≡ c || (o && (x || y))
        both c true x y = or_assoc c x y
        both c false x y = or-false (c || false)

    owner-flags : (s book : List ℕ) (k : ℕ) (p : ℕ → Bool)
        → owner_turn s book a k (front_flags q a m p) ≡ front_flags q a m (λ v. p v || (wanted s book k && eqb v (get_or book (4 * get_or s k 0) 0)))
    unfolding owner_turn
    owner-flags s book k p = mark-flags (wanted s book k) (get_or book (4 * get_or s k 0) 0) p

-- ---- the corners of a list of triangles, three by three

any_triples : (f : ℕ → Bool) (n : ℕ) → any (3 * n) f ≡ any n (λ t. f (3 * t) || f (3 * t + 1) || f (3 * t + 2))
unfolding any
any_triples f zero = refl
any_triples f (suc n) =
    let e : 3 * suc n ≡ suc (suc (suc (3 * n))) = omega arith in
    let i : suc (3 * n) ≡ 3 * n + 1 = omega arith in
    let j : suc (suc (3 * n)) ≡ 3 * n + 2 = omega arith in
    ap (λ (k : ℕ). any k f) e
    ∙ ap₂ (λ (x y : Bool). ((any (3 * n) f || f (3 * n)) || x) || y) (ap f i) (ap f j)
    ∙ four (any (3 * n) f) (f (3 * n)) (f (3 * n + 1)) (f (3 * n + 2))
    ∙ ap (λ (c : Bool). c || (f (3 * n) || f (3 * n + 1) || f (3 * n + 2))) (any_triples f n)
  where
    four : (a b c d : Bool) → ((a || b) || c) || d ≡ a || (b || c || d)
    four true b c d = refl
    four false true c d = refl
    four false false c d = refl

three : (x y z a b c : Bool) → ((x || y || z) && a) || ((y || z || x) && b) || ((z || x || y) && c) ≡ (x || y || z) && (a || b || c)
three true true true a b c = refl
three true true false a b c = refl
three true false true a b c = refl
three true false false a b c = refl
three false true true a b c = refl
three false true false a b c = refl
three false false true a b c = refl
three false false false a b c = refl

by_triangles : (s : List ℕ) → length s % 3 ≡ 0 → (o c : ℕ → Bool)
    → any (length s) (λ k. (o k || o (next k) || o (next (next k))) && c k)
    ≡ any (length s / 3) (λ t. (o (3 * t) || o (3 * t + 1) || o (3 * t + 2)) && (c (3 * t) || c (3 * t + 1) || c (3 * t + 2)))
unfolding next
by_triangles s whole o c =
    let f : ℕ → Bool = λ k. (o k || o (next k) || o (next (next k))) && c k in
    let n : length s ≡ 3 * (length s / 3) = omega arith in
    ap (λ (k : ℕ). any k f) n ∙ any_triples f (length s / 3)
    ∙ any_same (length s / 3) _ _ (λ t h.
    let e0 : next (3 * t) ≡ 3 * t + 1 = omega arith in
    let e1 : next (3 * t + 1) ≡ 3 * t + 2 = omega arith in
    let e2 : next (3 * t + 2) ≡ 3 * t = omega arith in
    (λ i. ((o (3 * t) || o (e0 i) || o ((ap next e0 ∙ e1) i)) && c (3 * t))
    || ((o (3 * t + 1) || o (e1 i) || o ((ap next e1 ∙ e2) i)) && c (3 * t + 1))
    || ((o (3 * t + 2) || o (e2 i) || o ((ap next e2 ∙ e0) i)) && c (3 * t + 2)))
    ∙ three (o (3 * t)) (o (3 * t + 1)) (o (3 * t + 2)) (c (3 * t)) (c (3 * t + 1)) (c (3 * t + 2)))

-- corner by corner, the owners
pub owner-corners : (s book : List ℕ) → length s % 3 ≡ 0 → (v : ℕ) → any (length s) (λ k. wanted s book k && eqb v (get_or book (4 * get_or s k 0) 0)) ≡ owner_in s book v
unfolding wanted crowded_at owner_in cluster_in
owner-corners s book whole v =
    any_same (length s) _ _ (λ k h. and_assoc (crowded_at s k) (ltb 1 (get_or book (4 * get_or s k 0 + 1) 0)) (eqb v (get_or book (4 * get_or s k 0) 0)))
    ∙ by_triangles s whole (crowded s) (λ k. cluster_in book v (get_or s k 0))

-- ---- what the loops leave, and what they say

module _ (q : List ℕ) (a m : ℕ) (h : a ≤ length q) where
  front_length : (p : ℕ → Bool) → length (front_flags q a m p) ≡ a + m
  front_length p = length-append (take a q) (each m (λ v. bit (p v) ∷ [])) ∙ omega (arith, length-take-le a q h, each-one-length m (λ v. bit (p v)))

  with_front : (p : ℕ → Bool) → take (a + m) (with_flags q a m p) ≡ front_flags q a m p
  with_front p = take_at (front_flags q a m p) (drop (a + m) q) (a + m) (front_length p)

  with_behind : (p : ℕ → Bool) → drop (a + m) (with_flags q a m p) ≡ drop (a + m) q
  with_behind p = drop_at (front_flags q a m p) (drop (a + m) q) (a + m) (front_length p)

  with_length : (p : ℕ → Bool) → a + m ≤ length q → length (with_flags q a m p) ≡ length q
  with_length p l = length-append (front_flags q a m p) (drop (a + m) q) ∙ omega (arith, front_length p, length-drop (a + m) q)

  -- a flag is read back
  pub flag_read : (p : ℕ → Bool) (v : ℕ) → v < m → get_or (with_flags q a m p) (a + v) 0 ≡ bit (p v)
  flag_read p v l =
      let e : a + v - a ≡ v = omega arith in
      get_or-append (front_flags q a m p) (drop (a + m) q) 0 (a + v) (omega (arith, front_length p))
      ∙ back_from 0 a q (each m (λ x. bit (p x) ∷ [])) (a + v) h (omega arith)
      ∙ ap (λ (j : ℕ). get_or (each m (λ x. bit (p x) ∷ [])) j 0) e ∙ each-one-at 0 m (λ x. bit (p x)) v l

module _ (s room : List ℕ) (a : ℕ) (F : Flaggable s room a) (v m : ℕ) (fit : a + m ≤ length room) where
  low : a ≤ length (side_flags s v room)
  low = omega (arith, F.within, sides-length s room a F v)

  -- the words from a on are cleared
  prepared : (front end : List ℕ) → front ≡ crowded_flags s ++ replicate (length (take (reach s v room) room) - length s) 0
      → end ≡ replicate (length (take m (drop a (front ++ drop (reach s v room) room)))) 0
      → put_mid a m (front ++ drop (reach s v room) room) end ≡ with_flags (side_flags s v room) a m (λ _. false)
  unfolding side_flags
  prepared front end e f =
      let q : List ℕ = side_flags s v room in
      let l : List ℕ = front ++ drop (reach s v room) room in
      let is : l ≡ q =
      ap (λ (x : List ℕ). x ++ drop (reach s v room) room) (e ∙ ap (λ (k : ℕ). crowded_flags s ++ replicate (k - length s) 0) (length-take-le (reach s v room) room (reach_high s room a F v))) in
      let n : length (take m (drop a l)) ≡ m = length-take-le m (drop a l) (omega (arith, length-drop a l, ap length is, sides-length s room a F v)) in
      let z : end ≡ each m (λ _. bit false ∷ []) = f ∙ ap (λ (k : ℕ). replicate k 0) n ∙ flags-none m in
      ap₂ (λ (x y : List ℕ). take a x ++ (y ++ drop m (drop a x))) is z
      ∙ ap (λ (x : List ℕ). take a q ++ (each m (λ _. bit false ∷ []) ++ x)) (drop-drop m a q)
      ∙ sym (append_assoc (take a q) (each m (λ _. bit false ∷ [])) (drop (a + m) q))

  module _ (l : List ℕ) (is : l ≡ with_flags (side_flags s v room) a m (λ _. false)) where
    prepared_length : length l ≡ length room
    prepared_length = ap length is ∙ with_length (side_flags s v room) a m low (λ _. false) (omega (arith, sides-length s room a F v)) ∙ sides-length s room a F v

    start : take (a + m) l ≡ front_flags (side_flags s v room) a m (λ _. false)
    start = ap (λ (x : List ℕ). take (a + m) x) is ∙ with_front (side_flags s v room) a m low (λ _. false)

    behind : drop (a + m) l ≡ drop (a + m) (side_flags s v room)
    behind = ap (λ (x : List ℕ). drop (a + m) x) is ∙ with_behind (side_flags s v room) a m low (λ _. false)

    prepared_ready : Ready s (take (a + m) l) a
    prepared_ready = record {
      whole = F.whole;
      front = F.front;
      within = omega (arith, ap length start, front_length (side_flags s v room) a m low (λ _. false));
      fits = F.fits;
      flags = λ k h. ap (λ (x : List ℕ). get_or x k 0) start
          ∙ back_before 0 a (side_flags s v room) (each m (λ _. bit false ∷ [])) k (omega (arith, F.front)) (omega (arith, F.front, low))
          ∙ flag_at s room a F v k h;
    }

    module _ (l' : List ℕ) where
      ends-done : l' ≡ fold (end_turn s a) (length s) (take (a + m) l) → l' ++ drop (a + m) l ≡ with_flags (side_flags s v room) a m (end_in s)
      unfolding end_in
      ends-done e =
          ap₂ (λ (x y : List ℕ). x ++ y)
          (e ∙ ap (fold (end_turn s a) (length s)) start
          ∙ fold-flags (side_flags s v room) a m low (end_turn s a) _ (end-flags (side_flags s v room) a m low s) (length s))
          behind

      owners-done : (book : List ℕ) → l' ≡ fold (owner_turn s book a) (length s) (take (a + m) l) → l' ++ drop (a + m) l ≡ with_flags (side_flags s v room) a m (owner_in s book)
      owners-done book e =
          ap₂ (λ (x y : List ℕ). x ++ y)
          (e ∙ ap (fold (owner_turn s book a) (length s)) start
          ∙ fold-flags (side_flags s v room) a m low (owner_turn s book a) _ (owner-flags (side_flags s v room) a m low s book) (length s)
          ∙ flags-same (side_flags s v room) a m _ _ (owner-corners s book F.whole))
          behind

behind_start : (a y : ℕ) → a + y - a ≡ y
behind_start a y = omega arith

-- the same with the numbers as they are found: x words to count by, y flags
pub prepared_by : (s room : List ℕ) (a : ℕ) → Flaggable s room a → (v m x y : ℕ) → x ≡ fitting v (length s * 3) room
    → (front end : List ℕ) → front ≡ crowded_flags s ++ replicate (length (take (length s * 3 + x) room) - length s) 0 → length front ≡ length (take (length s * 3 + x) room)
    → y ≡ min m (length (front ++ drop (length s * 3 + x) room) - a)
    → end ≡ replicate (length (take (a + y - a) (drop a (front ++ drop (length s * 3 + x) room)))) 0
    → put_mid a (a + y - a) (front ++ drop (length s * 3 + x) room) end ≡ with_flags (side_flags s v room) a (fitting m a room) (λ _. false)
prepared_by s room a F v m x y ex front end e kept ey f =
    let high : length s * 3 + x ≤ length room = omega (arith, ex, reach_high s room a F v) in
    let n : length (front ++ drop (length s * 3 + x) room) ≡ length room =
    omega (arith, kept, length-take-le (length s * 3 + x) room high, length-append front (drop (length s * 3 + x) room), length-drop (length s * 3 + x) room) in
    let y' : y ≡ fitting m a room = ey ∙ ap (λ (k : ℕ). min m (k - a)) n in
    let d : a + y - a ≡ fitting m a room = behind_start a y ∙ y' in
    rw (ex, d)
    (prepared s room a F v (fitting m a room) (fits_low m a room F.within) front end (rw ex at e) (rw (ex, d) at f))

module _ (s room : List ℕ) (a : ℕ) (F : Flaggable s room a) (v m : ℕ) (l : List ℕ) (is : l ≡ with_flags (side_flags s v room) a (fitting m a room) (λ _. false))
    (long : length l ≡ length room) (y : ℕ) (ey : y ≡ min m (length l - a)) where
  many : y ≡ fitting m a room
  many = ey ∙ ap (λ (k : ℕ). min m (k - a)) long

  fit : a + y ≤ length room
  fit = omega (arith, many, fits_low m a room F.within)

  is_found : l ≡ with_flags (side_flags s v room) a y (λ _. false)
  is_found = is ∙ ap (λ (k : ℕ). with_flags (side_flags s v room) a k (λ _. false)) (sym many)

  pub found_ready : Ready s (take (a + y) l) a
  found_ready = prepared_ready s room a F v y fit l is_found

  -- a number that has a flag
  pub found-low : (x : ℕ) → x < m → a + x < length room → a + x < length (take (a + y) l)
  found-low x h k = omega (arith, length-take-le (a + y) l (omega (arith, fit, long)), many, fits_under m a room x h k)

  module _ (l' : List ℕ) where
    pub found-ends : l' ≡ fold (end_turn s a) (length s) (take (a + y) l) → l' ++ drop (a + y) l ≡ with_flags (side_flags s v room) a (fitting m a room) (end_in s)
    found-ends e = ends-done s room a F v y fit l is_found l' e ∙ ap (λ (k : ℕ). with_flags (side_flags s v room) a k (end_in s)) many

    pub found-owners : (book : List ℕ) → l' ≡ fold (owner_turn s book a) (length s) (take (a + y) l)
        → l' ++ drop (a + y) l ≡ with_flags (side_flags s v room) a (fitting m a room) (owner_in s book)
    found-owners book e = owners-done s room a F v y fit l is_found l' book e ∙ ap (λ (k : ℕ). with_flags (side_flags s v room) a k (owner_in s book)) many

-- some corner is wanted just where some site is an owner
pub owners-found : (s book : List ℕ) → length s % 3 ≡ 0 → (m : ℕ) → ((k : ℕ) → k < length s → get_or book (4 * get_or s k 0) 0 < m)
    → any (length s) (wanted s book) ≡ any m (owner_in s book)
owners-found s book whole m low =
    bool_ext (any (length s) (wanted s book)) (any m (owner_in s book))
    (λ h. let r = any-one (length s) (wanted s book) h in
    let v : ℕ = get_or book (4 * get_or s r.0 0) 0 in
    any_some m (owner_in s book) v (low r.0 r.1)
    (sym (owner-corners s book whole v) ∙ any_some (length s) _ r.0 r.1 (and_yes r.2 (eq-eqb v v refl))))
    (λ h. let r = any-one m (owner_in s book) h in
    let f = any-one (length s) (λ k. wanted s book k && eqb r.0 (get_or book (4 * get_or s k 0) 0)) (owner-corners s book whole r.0 ∙ r.2) in
    any_some (length s) (wanted s book) f.0 f.1 (and-apart (wanted s book f.0) _ f.2).0)
