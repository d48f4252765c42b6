-- The edge table step by step, as the code writes it: painted in a vertex pass, numbered in a turn of a rollback. Assumes nothing.
use mathlib.Core.Path.{◌≡◌, refl, ap, sym, ◌∙◌}
use mathlib.Core.Bool.{Bool, true, false, cond}
use mathlib.Core.List.{List, [], ◌∷◌, ◌++◌, map, append-nil, append_assoc}
use Prim.Native.Nat.{ℕ, zero, suc, ◌+◌, ◌*◌, ◌<◌, ◌≤◌}
use native.Mathlib.Omega.{arith}
use lib.Dec.{eqb, ltb}
use borrow.Author.Tests.{lt-ltb, eqb-true, eqb-false}
use lib.ListN.{length, get_or, set, replicate, length-set, length-append, length-map, replicate-append-replicate}
use lib.Seq.{get_or-set_same, get_or-set_other, ext_get_or}
use Rattle.stages.specs.Boxes.{Box, owned}
use Rattle.stages.specs.Vertices.{Vertex, apart, fresh, held, keys, nobody}
use Rattle.stages.specs.Meshes.{find, holds, numbers, table_of}
use Rattle.stages.specs.Rounds.{is_in, retired}
use Rattle.stages.specs.Stages.{Sound, Stage}
use Rattle.stages.specs.Inner.Steps.{number, paint, paint_from}
use Rattle.stages.proofs.Stages.{apart-keys, keys_of, retired-keys}
use Rattle.stages.proofs.Lookup.{find_none, holds_not, holds_pos, times}
use Rattle.stages.proofs.Longer.{stage_once}
use Rattle.laws.specs.Bools.{bit}
use Rattle.laws.specs.Ranges.{each}
use Rattle.laws.specs.Lists.{count, total}
use Rattle.lattice.specs.Sites.{sites}
use Rattle.march.specs.March.{none}
use Rattle.topology.specs.Parts.{low}
use Rattle.laws.proofs.Ranges.{each-one-at, each-one-length}
use Rattle.laws.proofs.Lists.{get_d_map, map-append, total-append}

module _ (b : Box) where
  pub table-length : (vs : List Vertex) → length (table_of b vs) ≡ 7 * sites b.sides
  unfolding table_of numbers
  table-length vs = length-map (numbers (7 * sites b.sides)) (find b 0 vs) ∙ each-one-length (7 * sites b.sides) (λ i. i)

  -- its entries, whatever is read past its end
  pub table_entry : (d : ℕ) (vs : List Vertex) (k : ℕ) → k < 7 * sites b.sides → get_or (table_of b vs) k d ≡ find b 0 vs k
  unfolding table_of numbers
  table_entry d vs k h =
      get_d_map (find b 0 vs) (numbers (7 * sites b.sides)) k 0 d (omega (arith, each-one-length (7 * sites b.sides) (λ i. i)))
      ∙ ap (find b 0 vs) (each-one-at 0 (7 * sites b.sides) (λ i. i) k h)

  pub table_at : (vs : List Vertex) (k : ℕ) → k < 7 * sites b.sides → get_or (table_of b vs) k none ≡ find b 0 vs k
  table_at = table_entry none

  -- ---- lookups in a longer list

  pub find-append : (n : ℕ) (ws vs : List Vertex) (k : ℕ) → times b k ws ≡ 0 → find b n (ws ++ vs) k ≡ find b (n + length ws) vs k
  unfolding find total
  find-append n [] vs k h = let e : n ≡ n + 0 = omega arith in ap (λ (m : ℕ). find b m vs k) e
  find-append n (x ∷ ws) vs k h = go (holds b k x) refl (find-append (suc n) ws vs k (omega arith))
    where
      go : (c : Bool) → holds b k x ≡ c → find b (suc n) (ws ++ vs) k ≡ find b (suc n + length ws) vs k
          → cond c n (find b (suc n) (ws ++ vs) k) ≡ find b (n + suc (length ws)) vs k
      go true e r = let z : ⊥ = omega (arith, holds_pos b k x e) in absurd z
      go false e r = let m : suc n + length ws ≡ n + suc (length ws) = omega arith in r ∙ ap (λ (i : ℕ). find b i vs k) m

  pub find-left : (n : ℕ) (ws vs : List Vertex) (k : ℕ) → 0 < times b k ws → find b n (ws ++ vs) k ≡ find b n ws k
  unfolding find total
  find-left n [] vs k h = let z : ⊥ = omega arith in absurd z
  find-left n (x ∷ ws) vs k h = go (holds b k x) refl (find-left (suc n) ws vs k)
    where
      go : (c : Bool) → holds b k x ≡ c → (0 < times b k ws → find b (suc n) (ws ++ vs) k ≡ find b (suc n) ws k)
          → cond c n (find b (suc n) (ws ++ vs) k) ≡ cond c n (find b (suc n) ws k)
      go true e r = refl
      go false e r = r (omega (arith, holds_not b k x e))

  -- vertices behind that do not hold k change nothing
  pub find-same : (n : ℕ) (ws vs : List Vertex) (k : ℕ) → times b k vs ≡ 0 → find b n (ws ++ vs) k ≡ find b n ws k
  find-same n ws vs k h = go (times b k ws) refl
    where
      go : (m : ℕ) → times b k ws ≡ m → find b n (ws ++ vs) k ≡ find b n ws k
      go zero e = find-append n ws vs k e ∙ find_none b (n + length ws) vs k h ∙ sym (find_none b n ws k e)
      go (suc m) e = find-left n ws vs k (omega arith)

  -- ---- one more vertex

  add-find : (ws : List Vertex) (x : Vertex) (k : ℕ) → times b k ws + keys_of b (eqb k) x ≤ 1
      → find b 0 (ws ++ x ∷ []) k ≡ cond (holds b k x) (length ws) (find b 0 ws k)
  unfolding total find
  add-find ws x k h = go (holds b k x) refl
    where
      go : (c : Bool) → holds b k x ≡ c → find b 0 (ws ++ x ∷ []) k ≡ cond c (length ws) (find b 0 ws k)
      go true e = find-append 0 ws (x ∷ []) k (omega (arith, holds_pos b k x e)) ∙ rw e (omega arith)
      go false e = find-same 0 ws (x ∷ []) k (omega (arith, holds_not b k x e))

pub paint-length : (n : ℕ) (ks t : List ℕ) → length (paint n ks t) ≡ length t
unfolding paint
paint-length n [] t = refl
paint-length n (k ∷ ks) t = paint-length n ks (set t k n) ∙ length-set t k n

number-length : (n : ℕ) (ks t : List ℕ) → length (number n ks t) ≡ length t
unfolding number
number-length n [] t = refl
number-length n (k ∷ ks) t = number-length (suc n) ks (set t k n) ∙ length-set t k n

cond_same : (c : Bool) (n : ℕ) → cond c n n ≡ n
cond_same true n = refl
cond_same false n = refl

-- one place written: what is read at j, where m more places follow
paint-turn : (n m : ℕ) (t : List ℕ) (j k : ℕ) → j < length t → (c : Bool) → eqb j k ≡ c
    → cond (ltb 0 m) n (get_or (set t k n) j none) ≡ cond (ltb 0 (bit c + m)) n (get_or t j none)
unfolding bit
paint-turn n m t j k h true e =
    let q : j ≡ k = eqb-true j k e in
    let s : get_or (set t k n) j none ≡ n = rw q (get_or-set_same t k n none (omega arith)) in
    let f : ltb 0 (1 + m) ≡ true = lt-ltb 0 (1 + m) (omega arith) in
    ap (λ (x : ℕ). cond (ltb 0 m) n x) s ∙ cond_same (ltb 0 m) n ∙ sym (ap (λ (c : Bool). cond c n (get_or t j none)) f)
paint-turn n m t j k h false e =
    let s : get_or (set t k n) j none ≡ get_or t j none = get_or-set_other t k j n none (eqb-false j k e) in
    let z : m ≡ 0 + m = omega arith in
    ap (λ (x : ℕ). cond (ltb 0 m) n x) s ∙ ap (λ (x : ℕ). cond (ltb 0 x) n (get_or t j none)) z

paint-at : (n : ℕ) (ks t : List ℕ) (j : ℕ) → j < length t → get_or (paint n ks t) j none ≡ cond (is_in ks j) n (get_or t j none)
unfolding paint is_in count
paint-at n [] t j h = refl
paint-at n (k ∷ ks) t j h = paint-at n ks (set t k n) j (omega (arith, length-set t k n)) ∙ paint-turn n (count (eqb j) ks) t j k h (eqb j k) refl

module _ (b : Box) where
  -- THE VERTEX PASS: one more vertex is painted into the table
  pub table-add : (ws : List Vertex) (x : Vertex) → ((k : ℕ) → times b k ws + keys_of b (eqb k) x ≤ 1)
      → table_of b (ws ++ x ∷ []) ≡ paint (length ws) (keys b x) (table_of b ws)
  unfolding holds is_in
  table-add ws x h =
      ext_get_or none (table_of b (ws ++ x ∷ [])) (paint (length ws) (keys b x) (table_of b ws))
      (table-length b (ws ++ x ∷ []) ∙ sym (table-length b ws) ∙ sym (paint-length (length ws) (keys b x) (table_of b ws)))
      (λ k l. let low : k < 7 * sites b.sides = omega (arith, table-length b (ws ++ x ∷ [])) in
      table_at b (ws ++ x ∷ []) k low ∙ add-find b ws x k (h k) ∙ ap (λ (m : ℕ). cond (ltb 0 (count (eqb k) (keys b x))) (length ws) m) (sym (table_at b ws k low))
      ∙ sym (paint-at (length ws) (keys b x) (table_of b ws) k (omega (arith, table-length b ws))))

number-turn : (n m f : ℕ) (t : List ℕ) (j k : ℕ) → j < length t → (c : Bool) → eqb j k ≡ c → bit c + m ≤ 1
    → cond (ltb 0 m) f (get_or (set t k n) j none) ≡ cond (ltb 0 (bit c + m)) (cond c n f) (get_or t j none)
unfolding bit
number-turn n m f t j k h true e o =
    let q : j ≡ k = eqb-true j k e in
    let z : m ≡ 0 = omega arith in
    let s : get_or (set t k n) j none ≡ n = rw q (get_or-set_same t k n none (omega arith)) in
    let l : ltb 0 (1 + m) ≡ true = lt-ltb 0 (1 + m) (omega arith) in
    ap (λ (x : ℕ). cond (ltb 0 x) f (get_or (set t k n) j none)) z ∙ s ∙ sym (ap (λ (c : Bool). cond c n (get_or t j none)) l)
number-turn n m f t j k h false e o =
    let s : get_or (set t k n) j none ≡ get_or t j none = get_or-set_other t k j n none (eqb-false j k e) in
    let z : m ≡ 0 + m = omega arith in
    ap (λ (x : ℕ). cond (ltb 0 m) f x) s ∙ ap (λ (x : ℕ). cond (ltb 0 x) f (get_or t j none)) z

-- ---- a rollback's step: the vertex i is retired, and its edges get vertices of their own

module _ (b : Box) (r s : ℕ) where
  single : ℕ → Vertex
  single e = fresh r s (e ∷ [])

  single-holds : (j e : ℕ) (c : Bool) → eqb j (owned b.sides s e) ≡ c → holds b j (single e) ≡ c
  unfolding holds keys held single fresh count bit
  single-holds j e true h = rw h
  single-holds j e false h = rw h

  number_at : (n : ℕ) (es t : List ℕ) (j : ℕ) → j < length t → count (eqb j) (map (owned b.sides s) es) ≤ 1
      → get_or (number n (map (owned b.sides s) es) t) j none ≡ cond (is_in (map (owned b.sides s) es) j) (find b n (map single es) j) (get_or t j none)
  unfolding number is_in count find
  number_at n [] t j h o = refl
  number_at n (e ∷ es) t j h o =
      number_at (suc n) es (set t (owned b.sides s e) n) j (omega (arith, length-set t (owned b.sides s e) n)) (omega arith)
      ∙ number-turn n (count (eqb j) (map (owned b.sides s) es)) (find b (suc n) (map single es) j) t j (owned b.sides s e) h (eqb j (owned b.sides s e)) refl o
      ∙ ap (λ (c : Bool). cond (ltb 0 (bit (eqb j (owned b.sides s e)) + count (eqb j) (map (owned b.sides s) es))) (cond c n (find b (suc n) (map single es) j)) (get_or t j none))
      (sym (single-holds j e (eqb j (owned b.sides s e)) refl))

module _ (b : Box) where
  retired-not : (k : ℕ) (x : Vertex) → holds b k (retired x) ≡ false
  unfolding holds keys held retired count
  retired-not k x = refl

  pub retire-times : (k : ℕ) (ws : List Vertex) (i : ℕ) → i < length ws
      → times b k (set ws i (retired (get_or ws i nobody))) + keys_of b (eqb k) (get_or ws i nobody) ≡ times b k ws
  unfolding total
  retire-times k [] i h = let z : ⊥ = omega arith in absurd z
  retire-times k (x ∷ ws) zero h = omega (arith, retired-keys b (eqb k) x)
  retire-times k (x ∷ ws) (suc i) h = omega (arith, retire-times k ws i (omega arith))

  retire-find : (k n : ℕ) (ws : List Vertex) (i : ℕ) → i < length ws → holds b k (get_or ws i nobody) ≡ false
      → find b n (set ws i (retired (get_or ws i nobody))) k ≡ find b n ws k
  unfolding find
  retire-find k n [] i h e = let z : ⊥ = omega arith in absurd z
  retire-find k n (x ∷ ws) zero h e = rw (retired-not k x, e)
  retire-find k n (x ∷ ws) (suc i) h e = ap (λ (m : ℕ). cond (holds b k x) n m) (retire-find k (suc n) ws i (omega arith) e)

  roll_find : (r : ℕ) (ws : List Vertex) (i : ℕ) → i < length ws → (k : ℕ) → times b k ws ≤ 1
      → find b 0 (set ws i (retired (get_or ws i nobody)) ++ apart r (get_or ws i nobody)) k
      ≡ cond (holds b k (get_or ws i nobody)) (find b (length ws) (apart r (get_or ws i nobody)) k) (find b 0 ws k)
  roll_find r ws i h k o = go (holds b k (get_or ws i nobody)) refl
    where
      go : (c : Bool) → holds b k (get_or ws i nobody) ≡ c
          → find b 0 (set ws i (retired (get_or ws i nobody)) ++ apart r (get_or ws i nobody)) k
          ≡ cond c (find b (length ws) (apart r (get_or ws i nobody)) k) (find b 0 ws k)
      go true e =
          let l : 0 + length (set ws i (retired (get_or ws i nobody))) ≡ length ws = omega (arith, length-set ws i (retired (get_or ws i nobody))) in
          find-append b 0 (set ws i (retired (get_or ws i nobody))) (apart r (get_or ws i nobody)) k
          (omega (arith, retire-times k ws i h, holds_pos b k (get_or ws i nobody) e))
          ∙ ap (λ (m : ℕ). find b m (apart r (get_or ws i nobody)) k) l
      go false e =
          find-same b 0 (set ws i (retired (get_or ws i nobody))) (apart r (get_or ws i nobody)) k
          (omega (arith, apart-keys b (eqb k) r (get_or ws i nobody), holds_not b k (get_or ws i nobody) e))
          ∙ retire-find k 0 ws i h e

  keys-most : (k : ℕ) (ws : List Vertex) (i : ℕ) → i < length ws → times b k ws ≤ 1 → keys_of b (eqb k) (get_or ws i nobody) ≤ 1
  keys-most k ws i h o = omega (arith, retire-times k ws i h)

  -- A ROLLBACK'S STEP: the places of the retired vertex get new numbers, from the count on
  pub table_roll : (r : ℕ) (ws : List Vertex) (i : ℕ) → i < length ws → ((k : ℕ) → times b k ws ≤ 1)
      → table_of b (set ws i (retired (get_or ws i nobody)) ++ apart r (get_or ws i nobody)) ≡ number (length ws) (keys b (get_or ws i nobody)) (table_of b ws)
  unfolding holds is_in apart keys keys_of single
  table_roll r ws i h o =
      let x = get_or ws i nobody in
      let vs = set ws i (retired x) ++ apart r x in
      ext_get_or none (table_of b vs) (number (length ws) (keys b x) (table_of b ws))
      (table-length b vs ∙ sym (table-length b ws) ∙ sym (number-length (length ws) (keys b x) (table_of b ws)))
      (λ k l. let low : k < 7 * sites b.sides = omega (arith, table-length b vs) in
      table_at b vs k low ∙ roll_find r ws i h k (o k)
      ∙ ap (λ (m : ℕ). cond (ltb 0 (count (eqb k) (keys b x))) (find b (length ws) (apart r x) k) m) (sym (table_at b ws k low))
      ∙ sym (number_at b r x.site (length ws) (held x) (table_of b ws) k (omega (arith, table-length b ws)) (keys-most k ws i h (o k))))

-- ---- the vertex pass paints the table

pub paint_pass : (b : Box) (ws vs : List Vertex) → ((k : ℕ) → times b k (ws ++ vs) ≤ 1) → table_of b (ws ++ vs) ≡ paint_from b.sides (length ws) vs (table_of b ws)
unfolding paint_from keys total
paint_pass b ws [] h = ap (table_of b) (append-nil ws)
paint_pass b ws (x ∷ vs) h =
    let e : ws ++ x ∷ vs ≡ (ws ++ x ∷ []) ++ vs = sym (append_assoc ws (x ∷ []) vs) in
    let l : length (ws ++ x ∷ []) ≡ suc (length ws) = length-append ws (x ∷ []) ∙ omega arith in
    ap (table_of b) e
    ∙ paint_pass b (ws ++ x ∷ []) vs (λ k. omega (arith, h k, ap (λ (l : List Vertex). times b k l) e))
    ∙ (λ i. paint_from b.sides (l i) vs (table-add b ws x (λ k. omega (arith, h k, total-append (keys_of b (eqb k)) ws (x ∷ vs))) i))

map-none : (n : ℕ) → map (λ (k : ℕ). none) (numbers n) ≡ replicate n none
unfolding numbers each
map-none zero = refl
map-none (suc n) =
    let e : n + 1 ≡ suc n = omega arith in
    map-append (λ (k : ℕ). none) (each n (λ i. i ∷ [])) (n ∷ []) ∙ ap (λ (l : List ℕ). l ++ none ∷ []) (map-none n)
    ∙ replicate-append-replicate n 1 none ∙ ap (λ (m : ℕ). replicate m none) e

-- before the pass: all 0xFFFFFFFF
pub table-start : (b : Box) → table_of b [] ≡ replicate (7 * sites b.sides) none
unfolding table_of find
table-start b = map-none (7 * sites b.sides)

-- THE TABLE OF A STAGE IS ITS VERTICES PAINTED IN TURN
pub stage_painted : (b : Box) → Sound b → {vs : List Vertex} → Stage b vs → table_of b vs ≡ paint_from b.sides 0 vs (replicate (7 * sites b.sides) none)
stage_painted b S {vs} st = paint_pass b [] vs (stage_once b S st) ∙ ap (paint_from b.sides 0 vs) (table-start b)
