-- Which edges a vertex holds can be read off the edge table: the marked edges of its site whose entry is its number. Assumes nothing.
use mathlib.Core.Path.{◌≡◌, refl, ap, sym, ◌∙◌}
use mathlib.Core.Bool.{Bool, true, false, ◌&&◌, cond, false≢true, and-true, and-false}
use mathlib.Core.List.{List, [], ◌∷◌, ◌++◌, map, append-nil}
use Prim.Native.Nat.{ℕ, zero, suc, ◌+◌, ◌<◌, ◌≤◌}
use native.Mathlib.Omega.{arith}
use lib.Dec.{eqb, ltb}
use borrow.Author.Tests.{ltb-true, ltb-false, lt-ltb, le-ltb, eqb-true, eqb-false, eq-eqb}
use lib.ListN.{length, get_or}
use lib.Ieee.{sub}
use Rattle.stages.specs.Boxes.{Box, owned}
use Rattle.stages.specs.Vertices.{Vertex, apart, candidates, filled, fresh, held, keys, nobody, site_vertices}
use Rattle.stages.specs.Meshes.{find, holds, numbers}
use Rattle.stages.specs.Rounds.{is_in, retired}
use Rattle.stages.specs.Stages.{Named, Stage}
use Rattle.stages.specs.Inner.Clustered.{Ascending, Clustered, Proper}
use Rattle.stages.proofs.Lookup.{entry_named, find-only, times}
use Rattle.stages.proofs.Members.{stage_all}
use Rattle.laws.specs.Bools.{bit}
use Rattle.laws.specs.Ranges.{each}
use Rattle.laws.specs.Lists.{All, count, joined, keep}
use Rattle.lattice.specs.Sites.{sites}
use Rattle.march.specs.March.{none}
use Rattle.laws.proofs.Bools.{and-apart, and_yes, bool_ext}
use Rattle.laws.proofs.Ranges.{each_all}
use Rattle.laws.proofs.Lists.{count-append, count-keep, count-key, keep_append, keep-both, keep_same}

-- ---- lists of edges and of their places

pub head_in : (d : ℕ) (es : List ℕ) → is_in (d ∷ es) d ≡ true
unfolding is_in count bit
head_in d es = lt-ltb 0 (bit (eqb d d) + count (eqb d) es) (rw (eq-eqb d d refl) (omega arith))

pub tail_in : (c d : ℕ) (es : List ℕ) → is_in es c ≡ true → is_in (d ∷ es) c ≡ true
unfolding is_in count
tail_in c d es h = lt-ltb 0 (bit (eqb c d) + count (eqb c) es) (omega (arith, ltb-true 0 (count (eqb c) es) h))

in_place : (own : ℕ → ℕ) (e : ℕ) (es : List ℕ) → count (eqb e) es ≤ count (eqb (own e)) (map own es)
unfolding count bit
in_place own e [] = omega arith
in_place own e (d ∷ es) = omega (arith, in_place own e es, go (eqb e d) refl)
  where
    go : (c : Bool) → eqb e d ≡ c → bit c ≤ bit (eqb (own e) (own d))
    go true q = let f : eqb (own e) (own d) ≡ true = eq-eqb (own e) (own d) (ap own (eqb-true e d q)) in rw f (omega arith)
    go false q = omega arith

place_in : (own : ℕ → ℕ) (mark : ℕ → Bool) → ((d e : ℕ) → mark d ≡ true → mark e ≡ true → own d ≡ own e → d ≡ e)
    → (e : ℕ) (es : List ℕ) → mark e ≡ true → ((d : ℕ) → is_in es d ≡ true → mark d ≡ true) → 0 < count (eqb (own e)) (map own es) → is_in es e ≡ true
unfolding count bit
place_in own mark one e [] m sub h = let z : ⊥ = omega arith in absurd z
place_in own mark one e (d ∷ es) m sub h =
    go (eqb (own e) (own d)) refl h (place_in own mark one e es m (λ c i. sub c (tail_in c d es i)))
  where
    go : (c : Bool) → eqb (own e) (own d) ≡ c → 0 < bit c + count (eqb (own e)) (map own es)
        → (0 < count (eqb (own e)) (map own es) → is_in es e ≡ true) → is_in (d ∷ es) e ≡ true
    go true q l r =
        let i : e ≡ d = one e d m (sub d (head_in d es)) (eqb-true (own e) (own d) q) in rw i (head_in d es)
    go false q l r = tail_in e d es (r (omega arith))

none_kept : [] ≡ keep (is_in []) (numbers 14)
unfolding keep is_in count numbers each
none_kept = refl

held-order : (x : Vertex) → Ascending x.edges → held x ≡ keep (is_in (held x)) (numbers 14)
unfolding held Ascending
held-order x a = go x.live
  where
    go : (c : Bool) → cond c x.edges [] ≡ keep (is_in (cond c x.edges [])) (numbers 14)
    go true = a
    go false = none_kept

module _ (b : Box) (mark : ℕ → ℕ → Bool) (C : Clustered b mark) where
  held-sub : (x : Vertex) → Proper b mark x → (e : ℕ) → is_in (held x) e ≡ true → mark x.site e ≡ true
  unfolding held is_in count
  held-sub x P e h = go x.live h
    where
      go : (c : Bool) → is_in (cond c x.edges []) e ≡ true → mark x.site e ≡ true
      go true i = P.marks e i
      go false i = absurd (false≢true i)

  module _ (ws : List Vertex) (i : ℕ) (h : i < length ws) (room : length ws ≤ none) (once : (k : ℕ) → times b k ws ≤ 1)
      (P : Proper b mark (get_or ws i nobody)) where
    -- the edge e is marked at the vertex's site, and its entry in the table is i
    reads : ℕ → Bool
    reads e = mark (get_or ws i nobody).site e && eqb (find b 0 ws (owned b.sides (get_or ws i nobody).site e)) i

    forth : (e : ℕ) → is_in (held (get_or ws i nobody)) e ≡ true → reads e ≡ true
    unfolding holds keys is_in reads
    forth e q =
        let x = get_or ws i nobody in
        let m : mark x.site e ≡ true = held-sub x P e q in
        let c : 0 < count (eqb e) (held x) = ltb-true 0 (count (eqb e) (held x)) q in
        let k = owned b.sides x.site e in
        let d : holds b k x ≡ true =
        lt-ltb 0 (count (eqb k) (map (owned b.sides x.site) (held x))) (omega (arith, in_place (owned b.sides x.site) e (held x))) in
        let f : find b 0 ws k ≡ i = find-only b 0 ws k i (once k) h d ∙ omega arith in
        and_yes m (eq-eqb (find b 0 ws k) i f)

    back : (e : ℕ) → reads e ≡ true → is_in (held (get_or ws i nobody)) e ≡ true
    unfolding holds keys reads
    back e q =
        let x = get_or ws i nobody in
        let k = owned b.sides x.site e in
        let p = and-apart (mark x.site e) (eqb (find b 0 ws k) i) q in
        let f : find b 0 ws k ≡ i = eqb-true (find b 0 ws k) i p.1 in
        let n : Named b ws k = entry_named b ws k (λ (z : find b 0 ws k ≡ none). omega arith) in
        let g : holds b k x ≡ true = rw f at n.has in
        place_in (owned b.sides x.site) (mark x.site) (λ d e. C.one x.site d e P.low) e (held x) p.0 (held-sub x P)
        (ltb-true 0 (count (eqb k) (map (owned b.sides x.site) (held x))) g)

    -- THE EDGES HELD BY VERTEX i ARE THE MARKED EDGES OF ITS SITE WHOSE TABLE ENTRY IS i, ASCENDING
    pub held_reads : held (get_or ws i nobody)
        ≡ keep (λ e. mark (get_or ws i nobody).site e && eqb (find b 0 ws (owned b.sides (get_or ws i nobody).site e)) i) (numbers 14)
    unfolding reads
    held_reads =
        held-order (get_or ws i nobody) P.order
        ∙ keep_same (is_in (held (get_or ws i nobody))) reads (λ e. bool_ext (is_in (held (get_or ws i nobody)) e) (reads e) (forth e) (back e)) (numbers 14)

-- ---- every stage has proper vertices

lt-next : (e n : ℕ) → (e ≡ n → ⊥) → ltb e n ≡ ltb e (suc n)
lt-next e n d = go (ltb e n) refl
  where
    go : (c : Bool) → ltb e n ≡ c → ltb e n ≡ ltb e (suc n)
    go true q = q ∙ sym (lt-ltb e (suc n) (omega (arith, ltb-true e n q)))
    go false q = q ∙ sym (le-ltb e (suc n) (omega (arith, ltb-false e n q, d)))

one-turn : (n e : ℕ) (c : Bool) → eqb n e ≡ c → cond (ltb e n) (e ∷ []) [] ++ cond (ltb 0 (bit c + 0)) (n ∷ []) [] ≡ cond (ltb e (suc n)) (e ∷ []) []
unfolding bit
one-turn n e true q =
    let i : n ≡ e = eqb-true n e q in
    let a : ltb e n ≡ false = le-ltb e n (omega arith) in
    let c : ltb e (suc n) ≡ true = lt-ltb e (suc n) (omega arith) in
    rw (a, c) (ap (λ (k : ℕ). k ∷ []) i)
one-turn n e false q = append-nil (cond (ltb e n) (e ∷ []) []) ∙ ap (λ (c : Bool). cond c (e ∷ []) []) (lt-next e n (λ (i : e ≡ n). eqb-false n e q (sym i)))

one_kept : (n e : ℕ) → keep (is_in (e ∷ [])) (numbers n) ≡ cond (ltb e n) (e ∷ []) []
unfolding keep is_in count numbers each
one_kept zero e = sym (ap (λ (c : Bool). cond c (e ∷ []) []) (le-ltb e 0 (omega arith)))
one_kept (suc n) e =
    keep_append (is_in (e ∷ [])) (each n (λ i. i ∷ [])) (n ∷ []) ∙ ap (λ (l : List ℕ). l ++ cond (ltb 0 (bit (eqb n e) + 0)) (n ∷ []) []) (one_kept n e)
    ∙ one-turn n e (eqb n e) refl

one_in : (e d : ℕ) → is_in (e ∷ []) d ≡ true → d ≡ e
unfolding is_in count bit
one_in e d h = go (eqb d e) refl h
  where
    go : (c : Bool) → eqb d e ≡ c → ltb 0 (bit c + 0) ≡ true → d ≡ e
    go true q i = eqb-true d e q
    go false q i = absurd (false≢true i)

in_kept : (p : ℕ → Bool) (e : ℕ) (l : List ℕ) → is_in (keep p l) e ≡ is_in l e && p e
unfolding is_in
in_kept p e l = ap (ltb 0) (count-key p e l) ∙ go (p e) (count (eqb e) l)
  where
    go : (c : Bool) (n : ℕ) → ltb 0 (cond c n 0) ≡ ltb 0 n && c
    go true n = sym (and-true (ltb 0 n))
    go false n = sym (and-false (ltb 0 n))

pub ascending_keep : (p : ℕ → Bool) (l : List ℕ) → Ascending l → Ascending (keep p l)
unfolding Ascending
ascending_keep p l a =
    ap (keep p) a ∙ keep-both (is_in l) p (numbers 14) ∙ sym (keep_same (is_in (keep p l)) (λ e. is_in l e && p e) (λ e. in_kept p e l) (numbers 14))

module _ (b : Box) (mark : ℕ → ℕ → Bool) (C : Clustered b mark) where
  proper-one : (r s e : ℕ) → s < sites b.sides → mark s e ≡ true → Proper b mark (fresh r s (e ∷ []))
  unfolding fresh Ascending
  proper-one r s e l m =
      record {
        low = l;
        marks = λ d i. rw (one_in e d i) m;
        order = sym (one_kept 14 e ∙ ap (λ (c : Bool). cond c (e ∷ []) []) (lt-ltb e 14 (C.label s e m)));
      }

  singles-proper : (r s : ℕ) → s < sites b.sides → (es : List ℕ) → ((e : ℕ) → is_in es e ≡ true → mark s e ≡ true)
      → All (Proper b mark) (map (λ e. fresh r s (e ∷ [])) es)
  unfolding All
  singles-proper r s l [] sub = tt
  singles-proper r s l (e ∷ es) sub =
      (proper-one r s e l (sub e (head_in e es)), singles-proper r s l es (λ d i. sub d (tail_in d e es i)))

  apart-proper : (r : ℕ) (x : Vertex) → Proper b mark x → All (Proper b mark) (apart r x)
  unfolding apart
  apart-proper r x P = singles-proper r x.site P.low (held x) (held-sub b mark C x P)

  retired-proper : (x : Vertex) → Proper b mark x → Proper b mark (retired x)
  unfolding retired
  retired-proper x P = record { low = P.low; marks = P.marks; order = P.order }

  group_proper : (s : ℕ) (l : List ℕ) → s < sites b.sides → Ascending l → ((e : ℕ) → 0 < count (eqb e) l → mark s e ≡ true)
      → Proper b mark (fresh 0 s (keep (b.point s) l))
  unfolding fresh is_in
  group_proper s l h a sub = record {
    low = h;
    marks = λ e i. sub e (omega (arith, count-keep (eqb e) (b.point s) l, ltb-true 0 (count (eqb e) (keep (b.point s) l)) i));
    order = ascending_keep (b.point s) l a;
  }

  groups_proper : (s : ℕ) → s < sites b.sides → (ls : List (List ℕ)) → All Ascending ls → ((e : ℕ) → 0 < count (eqb e) (joined ls) → mark s e ≡ true)
      → All (Proper b mark) (map (fresh 0 s) (keep filled (map (keep (b.point s)) ls)))
  unfolding All keep joined
  groups_proper s h [] a sub = tt
  groups_proper s h (l ∷ ls) a sub =
      go (filled (keep (b.point s) l)) (groups_proper s h ls a.1 (λ e g. sub e (omega (arith, count-append (eqb e) l (joined ls)))))
    where
      go : (c : Bool) → All (Proper b mark) (map (fresh 0 s) (keep filled (map (keep (b.point s)) ls)))
          → All (Proper b mark) (map (fresh 0 s) (cond c (keep (b.point s) l ∷ keep filled (map (keep (b.point s)) ls)) (keep filled (map (keep (b.point s)) ls))))
      go true r = (group_proper s l h a.0 (λ e g. sub e (omega (arith, count-append (eqb e) l (joined ls)))), r)
      go false r = r

  marked_of : (s e : ℕ) → s < sites b.sides → 0 < count (eqb e) (joined (b.clusters s)) → mark s e ≡ true
  unfolding bit
  marked_of s e l h = go (mark s e) refl
    where
      go : (c : Bool) → mark s e ≡ c → mark s e ≡ true
      go true q = q
      go false q = let z : ⊥ = omega (arith, C.cover s e l, ap bit q) in absurd z

  candidates-proper : All (Proper b mark) (candidates b)
  unfolding candidates site_vertices
  candidates-proper =
      each_all (Proper b mark) (sites b.sides) (site_vertices b) (λ s l. groups_proper s l (b.clusters s) (C.order s l) (λ e h. marked_of s e l h))

  -- EVERY VERTEX OF EVERY STAGE WAS MADE FOR MARKED EDGES OF ITS SITE, ASCENDING
  pub stage_proper : {vs : List Vertex} → Stage b vs → All (Proper b mark) vs
  stage_proper st = stage_all (Proper b mark) apart-proper retired-proper b candidates-proper st
