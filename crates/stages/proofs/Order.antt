-- Owners in site order, each one's live cluster vertices by number: that is all of them by number. Assumes nothing.
use mathlib.Core.Path.{◌≡◌, refl, ap, sym, ◌∙◌}
use mathlib.Core.Bool.{Bool, true, false, not, ◌&&◌, cond, and-true, and-false, and_comm}
use mathlib.Core.List.{List, [], ◌∷◌, ◌++◌, map, append-nil}
use Prim.Native.Nat.{ℕ, zero, suc, ◌+◌, ◌<◌, ◌≤◌}
use native.Mathlib.Omega.{arith}
use lib.Dec.{eqb, ltb}
use borrow.Author.Tests.{eqb-true, eqb-false, eq-eqb, ne_eqb}
use lib.ListN.{length}
use Rattle.stages.specs.Boxes.{Box}
use Rattle.stages.specs.Vertices.{Vertex, apart, candidates, filled, fresh, held, several, site_vertices}
use Rattle.stages.specs.Meshes.{mesh_of, numbers}
use Rattle.stages.specs.Splits.{end_of, place_by}
use Rattle.stages.specs.Rounds.{crowded_tris, is_in, live_at, owners, owns, regrown, retire, retired, rollback, rolled}
use Rattle.stages.specs.Stages.{Stage, again, first, parted}
use Rattle.laws.specs.Bools.{bit}
use Rattle.laws.specs.Ranges.{all, each}
use Rattle.laws.specs.Lists.{All, count, joined, keep}
use Rattle.lattice.specs.Sites.{sites}
use Rattle.stages.proofs.Splits.{place-each}
use Rattle.laws.proofs.Ranges.{each-joined, each_keep, each_once, each_same}
use Rattle.laws.proofs.Lists.{all_append, count-append, count-keep, joined-append, keep_append, keep-both, keep_never, keep_same}

-- the live cluster vertices, by number, stand in site order
unfoldable pub Grouped : ℕ → List Vertex → Type 0
Grouped n vs = keep several vs ≡ each n (λ s. keep (live_at s) vs)

-- ---- lists made site by site

abbrev AllAt : ℕ → List Vertex → Type 0
AllAt s vs = All (λ x. x.site ≡ s) vs

live_here : (s : ℕ) (xs : List Vertex) → AllAt s xs → keep (live_at s) xs ≡ keep several xs
unfolding keep All live_at
live_here s [] a = refl
live_here s (x ∷ xs) a =
    let e : several x && eqb x.site s ≡ several x = rw (eq-eqb x.site s a.0) (and-true (several x)) in
    λ i. cond (e i) (x ∷ live_here s xs a.1 i) (live_here s xs a.1 i)

live_else : (s t : ℕ) → (t ≡ s → ⊥) → (xs : List Vertex) → AllAt t xs → keep (live_at s) xs ≡ []
unfolding keep All live_at
live_else s t d [] a = refl
live_else s t d (x ∷ xs) a =
    let e : several x && eqb x.site s ≡ false = rw (ne_eqb x.site s (λ (q : x.site ≡ s). d (sym a.0 ∙ q))) (and-false (several x)) in
    rw e (live_else s t d xs a.1)

module _ (g : ℕ → List Vertex) (all : (s : ℕ) → AllAt s (g s)) where
  past : (s m : ℕ) → m ≤ s → keep (live_at s) (each m g) ≡ []
  unfolding each keep
  past s zero h = refl
  past s (suc m) h =
      keep_append (live_at s) (each m g) (g m) ∙ (λ i. past s m (omega arith) i ++ live_else s m (λ (q : m ≡ s). omega arith) (g m) (all m) i)

  within : (s m : ℕ) → s < m → keep (live_at s) (each m g) ≡ keep several (g s)
  unfolding each keep
  within s zero h = let z : ⊥ = omega arith in absurd z
  within s (suc m) h = keep_append (live_at s) (each m g) (g m) ∙ go (eqb m s) refl (within s m)
    where
      go : (c : Bool) → eqb m s ≡ c → (s < m → keep (live_at s) (each m g) ≡ keep several (g s))
          → keep (live_at s) (each m g) ++ keep (live_at s) (g m) ≡ keep several (g s)
      go true e r =
          let q : m ≡ s = eqb-true m s e in
          (λ i. past s m (omega arith) i ++ keep (live_at s) (g m)) ∙ rw q (live_here s (g s) (all s))
      go false e r =
          let q : (m ≡ s → ⊥) = eqb-false m s e in
          let l : s < m = omega (arith, q) in
          (λ i. r l i ++ live_else s m q (g m) (all m) i) ∙ append-nil (keep several (g s))

  pub grouped_each : (n : ℕ) → Grouped n (each n g)
  unfolding Grouped
  grouped_each n = each_keep several n g ∙ sym (each_same n (λ s. keep (live_at s) (each n g)) (λ s. keep several (g s)) (λ s h. within s n h))

-- ---- the candidates and the split

all-fresh : (s : ℕ) (ls : List (List ℕ)) → AllAt s (map (fresh 0 s) ls)
unfolding All fresh
all-fresh s [] = tt
all-fresh s (l ∷ ls) = (refl, all-fresh s ls)

all-site : (b : Box) (s : ℕ) → AllAt s (site_vertices b s)
unfolding site_vertices
all-site b s = all-fresh s (keep filled (map (keep (b.point s)) (b.clusters s)))

all_apart : (r : ℕ) (x : Vertex) (s : ℕ) → x.site ≡ s → (es : List ℕ) → AllAt s (map (λ e. fresh r x.site (e ∷ [])) es)
unfolding All fresh
all_apart r x s q [] = tt
all_apart r x s q (e ∷ es) = (q, all_apart r x s q es)

all-place : (q : ℕ → Bool) (n s : ℕ) (xs : List Vertex) → AllAt s xs → AllAt s (place_by q n xs)
unfolding place_by All apart
all-place q n s [] a = tt
all-place q n s (x ∷ xs) a =
    all_append (λ x. x.site ≡ s) (cond (several x && q n) (apart 0 x) (x ∷ [])) (place_by q (suc n) xs) (go (several x && q n)) (all-place q (suc n) s xs a.1)
  where
    go : (c : Bool) → AllAt s (cond c (apart 0 x) (x ∷ []))
    go true = all_apart 0 x s a.0 (held x)
    go false = (a.0, tt)

-- ---- a rollback

retire-keep : (p : Vertex → Bool) → ((x : Vertex) → p (retired x) ≡ false) → (os : List ℕ) (vs : List Vertex)
    → keep p (map (retire os) vs) ≡ keep (λ x. p x && not (rolled os x)) vs
unfolding keep retire
retire-keep p h os [] = refl
retire-keep p h os (x ∷ vs) = go (rolled os x) (retire-keep p h os vs)
  where
    go : (c : Bool) → keep p (map (retire os) vs) ≡ keep (λ x. p x && not (rolled os x)) vs
        → cond (p (cond c (retired x) x)) (cond c (retired x) x ∷ keep p (map (retire os) vs)) (keep p (map (retire os) vs))
        ≡ cond (p x && not c) (x ∷ keep (λ x. p x && not (rolled os x)) vs) (keep (λ x. p x && not (rolled os x)) vs)
    go true e = rw (h x, and-false (p x)) e
    go false e = rw (and-true (p x)) (ap (λ (l : List Vertex). cond (p x) (x ∷ l) l) e)

module _ (p : Vertex → Bool) (r : ℕ) (h : (s e : ℕ) → p (fresh r s (e ∷ [])) ≡ false) where
  apart_none : (s : ℕ) (es : List ℕ) → keep p (map (λ e. fresh r s (e ∷ [])) es) ≡ []
  unfolding keep
  apart_none s [] = refl
  apart_none s (e ∷ es) = rw (h s e) (apart_none s es)

  aparts_none : (xs : List Vertex) → keep p (joined (map (apart r) xs)) ≡ []
  unfolding keep joined apart
  aparts_none [] = refl
  aparts_none (x ∷ xs) = keep_append p (apart r x) (joined (map (apart r) xs)) ∙ (λ i. apart_none x.site (held x) i ++ aparts_none xs i)

  grown-none : (vs : List Vertex) (os : List ℕ) → keep p (joined (map (regrown r vs) os)) ≡ []
  unfolding keep joined regrown
  grown-none vs [] = refl
  grown-none vs (s ∷ os) =
      keep_append p (regrown r vs s) (joined (map (regrown r vs) os)) ∙ (λ i. aparts_none (keep (live_at s) vs) i ++ grown-none vs os i)

  roll_keep : ((x : Vertex) → p (retired x) ≡ false) → (os : List ℕ) (vs : List Vertex)
      → keep p (rollback r os vs) ≡ keep (λ x. not (rolled os x)) (keep p vs)
  unfolding rollback
  roll_keep d os vs =
      keep_append p (map (retire os) vs) (joined (map (regrown r vs) os))
      ∙ (λ i. retire-keep p d os vs i ++ grown-none vs os i)
      ∙ append-nil (keep (λ x. p x && not (rolled os x)) vs)
      ∙ sym (keep-both p (λ x. not (rolled os x)) vs)

several-one : (r s e : ℕ) → several (fresh r s (e ∷ [])) ≡ false
unfolding several held fresh
several-one r s e = refl

several-retired : (x : Vertex) → several (retired x) ≡ false
unfolding several held retired
several-retired x = refl

live_one : (t r s e : ℕ) → live_at t (fresh r s (e ∷ [])) ≡ false
unfolding live_at several held fresh
live_one t r s e = refl

live_retired : (t : ℕ) (x : Vertex) → live_at t (retired x) ≡ false
unfolding live_at several held retired
live_retired t x = refl

pub roll_grouped : (n r : ℕ) (os : List ℕ) (vs : List Vertex) → Grouped n vs → Grouped n (rollback r os vs)
unfolding Grouped
roll_grouped n r os vs g =
    roll_keep several r (several-one r) several-retired os vs
    ∙ ap (keep (λ x. not (rolled os x))) g
    ∙ each_keep (λ x. not (rolled os x)) n (λ s. keep (live_at s) vs)
    ∙ sym (each_same n (λ s. keep (live_at s) (rollback r os vs)) (λ s. keep (λ x. not (rolled os x)) (keep (live_at s) vs))
    (λ s h. roll_keep (live_at s) r (live_one s r) (live_retired s) os vs))

pub stage_grouped : (b : Box) {vs : List Vertex} → Stage b vs → Grouped (sites b.sides) vs
unfolding candidates
stage_grouped b first = grouped_each (site_vertices b) (all-site b) (sites b.sides)
stage_grouped b (parted ps) =
    rw (place-each (end_of ps) (site_vertices b) (sites b.sides))
    (grouped_each (λ s. place_by (end_of ps) (length (each s (site_vertices b))) (site_vertices b s))
    (λ s. all-place (end_of ps) (length (each s (site_vertices b))) s (site_vertices b s) (all-site b s)) (sites b.sides))
stage_grouped b (again {vs} r st) = roll_grouped (sites b.sides) r (owners b vs) vs (stage_grouped b st)

-- ---- by number

pick_one : {A : Type 0} (f : ℕ → List A) (n : ℕ) (c : Bool) → joined (map f (cond c (n ∷ []) [])) ≡ cond c (f n) []
unfolding joined
pick_one f n true = append-nil (f n)
pick_one f n false = refl

joined_kept : {A : Type 0} (f : ℕ → List A) (p : ℕ → Bool) (n : ℕ) → joined (map f (keep p (numbers n))) ≡ each n (λ s. cond (p s) (f s) [])
unfolding joined keep each numbers
joined_kept f p zero = refl
joined_kept f p (suc n) =
    ap (λ (l : List ℕ). joined (map f l)) (keep_append p (each n (λ i. i ∷ [])) (n ∷ []))
    ∙ joined-append f (keep p (each n (λ i. i ∷ []))) (cond (p n) (n ∷ []) [])
    ∙ (λ i. joined_kept f p n i ++ pick_one f n (p n) i)

bit_pos : (q : Bool) → ltb 0 (bit q) ≡ q
unfolding bit
bit_pos true = refl
bit_pos false = refl

last_count : (s n : ℕ) (q : Bool) → eqb s n ≡ true → count (eqb s) (cond q (n ∷ []) []) ≡ bit q
unfolding count bit
last_count s n true e = rw e
last_count s n false e = refl

last_none : (s n : ℕ) (q : Bool) → eqb s n ≡ false → count (eqb s) (cond q (n ∷ []) []) ≡ 0
unfolding count bit
last_none s n true e = rw e
last_none s n false e = refl

in_turn : (p : ℕ → Bool) (n s : ℕ) (c : Bool) → eqb s n ≡ c → s < suc n → (s < n → ltb 0 (count (eqb s) (keep p (numbers n))) ≡ p s)
    → ltb 0 (count (eqb s) (keep p (numbers n)) + count (eqb s) (cond (p n) (n ∷ []) [])) ≡ p s
unfolding numbers
in_turn p n s true e h r =
    let q : s ≡ n = eqb-true s n e in
    let z : count (eqb s) (numbers n) ≡ 0 = (each_once n s).past (omega arith) in
    let f : count (eqb s) (keep p (numbers n)) + count (eqb s) (cond (p n) (n ∷ []) []) ≡ bit (p n) =
    omega (arith, count-keep (eqb s) p (numbers n), last_count s n (p n) e) in
    ap (ltb 0) f ∙ bit_pos (p n) ∙ ap p (sym q)
in_turn p n s false e h r =
    let q : (s ≡ n → ⊥) = eqb-false s n e in
    let l : s < n = omega (arith, q) in
    let f : count (eqb s) (keep p (numbers n)) + count (eqb s) (cond (p n) (n ∷ []) []) ≡ count (eqb s) (keep p (numbers n)) =
    omega (arith, last_none s n (p n) e) in
    ap (ltb 0) f ∙ r l

-- a number is among those that are kept where it passes the test
pub in_keep : (p : ℕ → Bool) (n s : ℕ) → s < n → is_in (keep p (numbers n)) s ≡ p s
unfolding is_in keep numbers each
in_keep p zero s h = let z : ⊥ = omega arith in absurd z
in_keep p (suc n) s h =
    ap (λ (l : List ℕ). ltb 0 (count (eqb s) l)) (keep_append p (each n (λ i. i ∷ [])) (n ∷ []))
    ∙ ap (ltb 0) (count-append (eqb s) (keep p (each n (λ i. i ∷ []))) (cond (p n) (n ∷ []) []))
    ∙ in_turn p n s (eqb s n) refl h (in_keep p n s)

live_in : (s : ℕ) (os : List ℕ) (x : Vertex) → live_at s x && is_in os x.site ≡ is_in os s && live_at s x
unfolding live_at
live_in s os x = go (eqb x.site s) refl
  where
    go : (c : Bool) → eqb x.site s ≡ c → (several x && c) && is_in os x.site ≡ is_in os s && (several x && c)
    go true e = ap (λ (k : ℕ). (several x && true) && is_in os k) (eqb-true x.site s e) ∙ and_comm (several x && true) (is_in os s)
    go false e =
        ap (λ (d : Bool). d && is_in os x.site) (and-false (several x)) ∙ sym (and-false (is_in os s))
        ∙ ap (λ (d : Bool). is_in os s && d) (sym (and-false (several x)))

kept_at : (s : ℕ) (os : List ℕ) (vs : List Vertex) → keep (λ x. is_in os x.site) (keep (live_at s) vs) ≡ cond (is_in os s) (keep (live_at s) vs) []
kept_at s os vs =
    keep-both (live_at s) (λ x. is_in os x.site) vs
    ∙ keep_same (λ x. live_at s x && is_in os x.site) (λ x. is_in os s && live_at s x) (live_in s os) vs
    ∙ go (is_in os s)
  where
    go : (c : Bool) → keep (λ x. c && live_at s x) vs ≡ cond c (keep (live_at s) vs) []
    go true = refl
    go false = keep_never vs

joined-cond : (r : ℕ) (l : List Vertex) (c : Bool) → joined (map (apart r) (cond c l [])) ≡ cond c (joined (map (apart r) l)) []
unfolding joined
joined-cond r l true = refl
joined-cond r l false = refl

-- OWNERS IN SITE ORDER IS BY NUMBER
pub by_number : (n r : ℕ) (p : ℕ → Bool) (vs : List Vertex) → Grouped n vs
    → joined (map (regrown r vs) (keep p (numbers n))) ≡ joined (map (apart r) (keep (rolled (keep p (numbers n))) vs))
unfolding Grouped rolled regrown
by_number n r p vs g =
    let os = keep p (numbers n) in
    joined_kept (regrown r vs) p n
    ∙ sym (each_same n (λ s. joined (map (apart r) (keep (λ x. is_in os x.site) (keep (live_at s) vs)))) (λ s. cond (p s) (regrown r vs s) [])
    (λ s h. ap (λ (l : List Vertex). joined (map (apart r) l)) (kept_at s os vs) ∙ joined-cond r (keep (live_at s) vs) (is_in os s)
    ∙ ap (λ (c : Bool). cond c (regrown r vs s) []) (in_keep p n s h)))
    ∙ sym (each-joined (apart r) n (λ s. keep (λ x. is_in os x.site) (keep (live_at s) vs)))
    ∙ ap (λ (l : List Vertex). joined (map (apart r) l)) (sym (each_keep (λ x. is_in os x.site) n (λ s. keep (live_at s) vs)) ∙ ap (keep (λ x. is_in os x.site)) (sym g)
    ∙ keep-both several (λ x. is_in os x.site) vs)

pub rollback-number : (b : Box) (r : ℕ) {vs : List Vertex} → Stage b vs
    → rollback r (owners b vs) vs ≡ map (retire (owners b vs)) vs ++ joined (map (apart r) (keep (rolled (owners b vs)) vs))
unfolding rollback owners
rollback-number b r {vs} st =
    ap (λ (l : List Vertex). map (retire (owners b vs)) vs ++ l) (by_number (sites b.sides) r (owns vs (crowded_tris (mesh_of b vs))) vs (stage_grouped b st))
