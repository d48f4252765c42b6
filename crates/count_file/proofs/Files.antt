-- Laws of the whole count file: it is one exactly if its header, its samples and nothing else are read; the bytes say the values; any two answers are equal.
-- Assumes nothing.
use mathlib.Core.Path.{◌≡◌, refl, sym, ap, ap₂, ◌∙◌}
use mathlib.Core.List.{List, [], ◌∷◌, ◌++◌, append-nil}
use Prim.Native.Nat.{ℕ, zero, suc, ◌+◌, ◌-◌, ◌*◌, ◌≤◌, ◌<◌}
use native.Mathlib.Nat.{suc-mul, mul_comm, mul-one, zero-mul, mul-zero, le_trans, le_of_eq, mul-le-mul_left}
use native.Mathlib.Omega.{arith}
use lib.Dec.{lit<}
use lib.ListN.{length, drop, take, get_or, replicate, length-drop, length-append, length-replicate, take-append-drop}
use lib.Seq.{drop-length, length-take-le, take_at}
use Rattle.laws.specs.Filling.{padded}
use Rattle.laws.specs.Lists.{total}
use Rattle.laws.proofs.Lists.{drop-replicate}
use Rattle.count_file.specs.declared.Head.{Head}
use Rattle.count_file.specs.declared.Parsed.{Parsed}
use Rattle.lines.specs.Lines.{Field, Dec, line_of, ok_of, lines, Fine, none, line}
use Rattle.lines.specs.Parts.{Run, Left, This, part_text, parts_text, PartsFine, done, must, given, left}
use Rattle.lines.specs.Inner.Readers.{Absent, Miss}
use Rattle.count_file.specs.CountFile.{sizes_form, inside_form, head_parts, inside_base, Says, said, head_runs, head_text, sample, body_form, sites, InSize, file_text, CountFile}
use Rattle.std.specs.Prelude.{Option, Some, None}
use Rattle.count_file.specs.Parsed.{accepted, Accepted, ParsedOf}
use Rattle.lines.specs.Inner.Stored.{Stored}
use Rattle.count_file.specs.Inner.Heads.{FoundHead}
use Rattle.lines.proofs.Lines.{lines_same, fine-length, line_most, lines-most}
use Rattle.lines.proofs.Parts.{first_fine}
use Rattle.count_file.proofs.Heads.{says-left, head_same, line_same}

-- ---- the number of sites: from 1 to 216 exactly if the sides are at least 1 and the product at most 216

times-some : (a c : ℕ) → 1 ≤ c → a ≤ a * c
times-some a c g = le_trans (le_of_eq (sym (mul-one a))) (mul-le-mul_left a g)

factor_some : (a c : ℕ) → 1 ≤ a * c → (1 ≤ a) × (1 ≤ c)
factor_some zero c z = absurd (omega (arith, z, zero-mul c))
factor_some (suc a) zero z = absurd (omega (arith, z, mul-zero (suc a)))
factor_some (suc a) (suc c) z = (omega arith, omega arith)

some-some : (a c : ℕ) → 1 ≤ a → 1 ≤ c → 1 ≤ a * c
some-some a c h g = le_trans h (times-some a c g)

pub count-size : (h : Head) → 1 ≤ sites h → sites h ≤ 216 → InSize h
count-size h z m =
    let p = factor_some (get_or h.sizes 0 0 * get_or h.sizes 1 0) (get_or h.sizes 2 0) z in
    let q = factor_some (get_or h.sizes 0 0) (get_or h.sizes 1 0) p.0 in
    record { some_u = q.0; some_v = q.1; some_w = p.1; most = m }

pub size-count : (h : Head) → InSize h → 1 ≤ sites h
size-count h i = some-some (get_or h.sizes 0 0 * get_or h.sizes 1 0) (get_or h.sizes 2 0) (some-some (get_or h.sizes 0 0) (get_or h.sizes 1 0) i.some_u i.some_v) i.some_w

-- then no side is over 216
pub side-most : (h : Head) → InSize h → (get_or h.sizes 0 0 ≤ 216) × (get_or h.sizes 1 0 ≤ 216) × (get_or h.sizes 2 0 ≤ 216)
side-most h i =
    let a = get_or h.sizes 0 0 in
    let b = get_or h.sizes 1 0 in
    let c = get_or h.sizes 2 0 in
    let ab : a * b ≤ 216 = le_trans (times-some (a * b) c i.some_w) i.most in (
      le_trans (times-some a b i.some_v) ab,
      le_trans (rw (mul_comm a b) (times-some b a i.some_u)) ab,
      le_trans (rw (mul_comm (a * b) c) (times-some c (a * b) (some-some a b i.some_u i.some_v))) i.most,
    )

-- the header's decimals are small
pub first_small : {k : List ℕ} {fs : List Field} {vs : List ℕ} → Fine (Dec k ∷ fs) vs → get_or vs 0 0 < 1000000000
unfolding ok_of
first_small (line a p) = a

pub second_small : {k k' : List ℕ} {fs : List Field} {vs : List ℕ} → Fine (Dec k ∷ Dec k' ∷ fs) vs → get_or vs 1 0 < 1000000000
unfolding ok_of
second_small (line a (line b p)) = b

-- ---- the whole file

-- the bytes say the values
pub file_unique : (s : List ℕ) (h : Head) (ss : List ℕ) (k : Head) (rs : List ℕ) → CountFile s h ss → CountFile s k rs → (h ≡ k) × (ss ≡ rs)
file_unique s h ss k rs f g =
    let t = head_same f.run g.run h k (lines (body_form (sites h)) ss) (lines (body_form (sites k)) rs) f.head g.head (sym f.is ∙ g.is) f.says g.says in
    let b : Fine (body_form (sites h)) rs = rw t.first g.body in
    let e : lines (body_form (sites h)) ss ++ [] ≡ lines (body_form (sites h)) rs ++ [] =
    rw (append-nil (lines (body_form (sites h)) ss), append-nil (lines (body_form (sites h)) rs)) (t.rest ∙ rw t.first) in
    let u = lines_same [] [] f.body b e in
    (t.first, u.first)

-- and whether it has the line inside=: no input is both a file with it and a file without
pub one_form : (s : List ℕ) (h : Head) (ss : List ℕ) (k : Head) (rs : List ℕ) (f : CountFile s h ss) (g : CountFile s k rs) → f.run ≡ g.run
one_form s h ss k rs f g =
    line_same f.run g.run h k (lines (body_form (sites h)) ss) (lines (body_form (sites k)) rs) f.head g.head (sym f.is ∙ g.is)

module _ (s : List ℕ) where
  pub no_head : Miss head_parts s 0 → (k : Head) (ss : List ℕ) → CountFile s k ss → ⊥
  no_head p k ss f = p.none (head_runs f.run k) (lines (body_form (sites k)) ss) f.head f.is

  -- a header was read
  module _ (h : Head) (mid : ℕ) (p : FoundHead s h mid) where
    -- it is the file's
    record Same (k : Head) (ss : List ℕ) : Type 0 where
      values : h ≡ k
      rest : drop mid s ≡ lines (body_form (sites h)) ss
      fine : Fine (body_form (sites h)) ss

    same : (k : Head) (ss : List ℕ) → CountFile s k ss → Same k ss
    same k ss f =
        let t = head_same p.run f.run h k (drop mid s) (lines (body_form (sites k)) ss) p.have.fine f.head (sym p.have.here ∙ f.is) p.says f.says in
        record { values = t.first; rest = rw t.first t.rest; fine = rw t.first f.body }

    pub bad-size : ((1 ≤ sites h) × (sites h ≤ 216) → ⊥) → (k : Head) (ss : List ℕ) → CountFile s k ss → ⊥
    bad-size z k ss f =
        let i : InSize h = rw (same k ss f).values f.size in
        z (size-count h i, i.most)

    -- of a size that is accepted
    module _ (size : InSize h) where
      pub no_samples : Absent (lines (body_form (sites h))) (Fine (body_form (sites h))) s mid → (k : Head) (ss : List ℕ) → CountFile s k ss → ⊥
      no_samples q k ss f =
          let t = same k ss f in
          q.none ss [] t.fine (rw append-nil t.rest)

      -- and samples were read
      module _ (l l' : List ℕ) (next : ℕ) (q : Stored (body_form (sites h)) s mid (sites h) l l' next) where
        pub more_follows : (next ≡ length s → ⊥) → (k : Head) (rs : List ℕ) → CountFile s k rs → ⊥
        more_follows z k rs f =
            let t = same k rs f in
            let e : lines (body_form (sites h)) (take (sites h) l') ++ drop next s ≡ lines (body_form (sites h)) rs ++ [] = sym q.reads.here ∙ rw append-nil t.rest in
            let u = lines_same (drop next s) [] q.reads.fine t.fine e in
            let m = ap length u.rest in
            z (omega (arith, q.reads.within, rw length-drop at m))

        pub file-read : next ≡ length s → CountFile s h (take (sites h) l')
        file-read e =
            let z : drop next s ≡ [] = rw e (drop-length s) in
            record {
              run = p.run;
              says = p.says;
              head = p.have.fine;
              size = size;
              body = q.reads.fine;
              is = p.have.here ∙ rw (q.reads.here, z, append-nil);
            }

        -- the list that was filled, where it was n zeros
        pub filled : (n : ℕ) → l ≡ replicate n 0 → sites h ≤ n → l' ≡ padded n 0 (take (sites h) l')
        filled n e g =
            let m : length l' ≡ n = q.full ∙ rw (e, length-replicate) in
            sym (take-append-drop (sites h) l')
            ∙ rw (q.past, e, drop-replicate, length-take-le (sites h) l' (rw m g))

-- ---- what is read from a count file

-- the answer where all was read
pub accept : (s : List ℕ) (h : Head) (mid : ℕ) → FoundHead s h mid → InSize h → {l' : List ℕ} (next : ℕ)
    → Stored (body_form (sites h)) s mid (sites h) (replicate 216 0) l' next → next ≡ length s → (n : ℕ) → n ≡ sites h
    → Accepted s (record { head = h; sites = n; samples = l' })
accept s h mid p size {l'} next q e n m =
    let f : length l' ≡ 216 = q.full ∙ length-replicate {A = ℕ} 216 0 in
    let k : n ≡ length (take (sites h) l') = m ∙ sym (length-take-le (sites h) l' (rw f size.most)) in
    let w : l' ≡ padded 216 0 (take (sites h) l') = filled s h mid p size (replicate 216 0) l' next q 216 refl size.most in
    record {
      samples = take (sites h) l';
      file = file-read s h mid p size (replicate 216 0) l' next q e;
      is = ap₂ (λ (i : ℕ) (x : List ℕ). the_answer h i x) k w;
    }
  where
    the_answer : Head → ℕ → List ℕ → Parsed
    the_answer h i x = record { head = h; sites = i; samples = x }

-- it is determined
pub file_parsed : (s : List ℕ) (h : Head) (ss : List ℕ) (r : Option Parsed) → CountFile s h ss → ParsedOf s r → r ≡ Some (accepted h ss)
file_parsed s h ss None f p = absurd (p.none h ss f)
file_parsed s h ss (Some r) f p =
    let u = file_unique s r.head p.samples h ss p.file f in
    ap Some (p.is ∙ rw (u.0, u.1))

pub parsed_unique : (s : List ℕ) (r q : Option Parsed) → ParsedOf s r → ParsedOf s q → r ≡ q
parsed_unique s None None a b = refl
parsed_unique s None (Some q) a b = absurd (a.none q.head b.samples b.file)
parsed_unique s (Some r) q a b = sym (file_parsed s r.head a.samples q a.file b ∙ ap Some (sym a.is))

-- it is accepted exactly if it is a count file
pub good_exactly : (s : List ℕ) (r : Option Parsed) → ParsedOf s r → ((q : Parsed) → r ≡ Some q → Accepted s q) × ((h : Head) (ss : List ℕ) → CountFile s h ss → r ≡ Some (accepted h ss))
good_exactly s r p = (λ q e. rw e at p, λ h ss f. file_parsed s h ss r f p)

-- what an accepted answer holds
pub accepted-sites : (s : List ℕ) (r : Parsed) → Accepted s r → r.sites ≡ sites r.head
accepted-sites s r a = ap (λ (q : Parsed). q.sites) a.is ∙ fine-length a.file.body ∙ length-replicate (sites r.head) sample

pub accepted-samples : (s : List ℕ) (r : Parsed) (a : Accepted s r) → take r.sites r.samples ≡ a.samples
accepted-samples s r a =
    let n : r.sites ≡ length a.samples = ap (λ (q : Parsed). q.sites) a.is in
    let l : r.samples ≡ padded 216 0 a.samples = ap (λ (q : Parsed). q.samples) a.is in
    ap₂ (λ (k : ℕ) (x : List ℕ). take k x) n l ∙ take_at a.samples (replicate (216 - length a.samples) 0) (length a.samples) refl

-- a file that is printed, with the line inside= or without, is read back: the same header, the same samples
pub file_back : (l : Run) (h : Head) (ss : List ℕ) (r : Option Parsed) → Says l h.inside → PartsFine head_parts (head_runs l h) → InSize h → Fine (body_form (sites h)) ss
    → ParsedOf (file_text l h ss) r → r ≡ Some (accepted h ss)
file_back l h ss r y p i b q = file_parsed (file_text l h ss) h ss r (record { run = l; says = y; head = p; size = i; body = b; is = refl }) q

-- ---- a file without the line inside= says what the same file says with inside=3e112e0be826d695 after rounds=

base-fine : Fine inside_form (inside_base ∷ [])
unfolding ok_of
base-fine = line (lit< tt) none

pub old_said : (s : List ℕ) (h : Head) (ss : List ℕ) (f : CountFile s h ss) → f.run ≡ Left → CountFile (file_text (This (inside_base ∷ [])) h ss) h ss
old_said s h ss f e =
    record { run = This (inside_base ∷ []); says = rw (says-left f.says e) (said inside_base); head = with_line (rw e at f.head); size = f.size; body = f.body; is = refl }
  where
    with_line : PartsFine head_parts (head_runs Left h) → PartsFine head_parts (head_runs (This (inside_base ∷ [])) h)
    with_line (must a (left p)) = must a (given base-fine p)

pub old_same : (s : List ℕ) (h : Head) (ss : List ℕ) (f : CountFile s h ss) (r q : Option Parsed) → f.run ≡ Left → ParsedOf s r → ParsedOf (file_text (This (inside_base ∷ [])) h ss) q → r ≡ q
old_same s h ss f r q e a b = file_parsed s h ss r f a ∙ sym (file_parsed (file_text (This (inside_base ∷ [])) h ss) h ss q (old_said s h ss f e) b)

-- ---- no count file is longer than 4345 bytes

body_most : (n : ℕ) → total line_most (body_form n) ≡ n * 19
unfolding total line_most
body_most zero = refl
body_most (suc n) = rw suc-mul (omega (arith, body_most n))

head_most : {l : Run} (h : Head) → PartsFine head_parts (head_runs l h) → length (head_text l h) ≤ 241
unfolding parts_text part_text total line_most
head_most h (must a (given i (must b (must c done)))) =
    rw (length-append, length-append, length-append, length-append) (omega (arith, lines-most a, lines-most i, lines-most b, lines-most c))
head_most h (must a (left (must b (must c done)))) =
    rw (length-append, length-append, length-append, length-append) (omega (arith, lines-most a, lines-most b, lines-most c))

pub file_longest : (s : List ℕ) (h : Head) (ss : List ℕ) → CountFile s h ss → length s ≤ 4345
file_longest s h ss f =
    let b : length (lines (body_form (sites h)) ss) ≤ sites h * 19 = rw (← body_most (sites h)) (lines-most f.body) in
    let t = head_text f.run h in
    let l : length s ≡ length t + length (lines (body_form (sites h)) ss) = ap length f.is ∙ length-append t (lines (body_form (sites h)) ss) in
    at_most f.size.most (head_most h f.head) b l
  where
    at_most : {n a b c : ℕ} → n ≤ 216 → a ≤ 241 → b ≤ n * 19 → c ≡ a + b → c ≤ 4345
    at_most p q r e = omega arith

-- ---- what is no count file is refused: the empty input, and any that is longer

pub none-refused : (s : List ℕ) (r : Option Parsed) → ((h : Head) (ss : List ℕ) → CountFile s h ss → ⊥) → ParsedOf s r → r ≡ None
none-refused s None z p = refl
none-refused s (Some r) z p = absurd (z r.head p.samples p.file)

pub empty-refused : (r : Option Parsed) → ParsedOf [] r → r ≡ None
unfolding parts_text part_text lines line_of
empty-refused r p = none-refused [] r (λ h ss f. go f.run h ss (first_fine f.head) (ap length f.is)) p
  where
    some : {vs : List ℕ} (x y : List ℕ) → Fine sizes_form vs → 0 ≡ length ((lines sizes_form vs ++ x) ++ y) → ⊥
    some x y (line a q) e = omega arith

    go : (l : Run) (h : Head) (ss : List ℕ) → Fine sizes_form h.sizes → 0 ≡ length (file_text l h ss) → ⊥
    go l h ss q e = some _ _ q e

pub long_refused : (s : List ℕ) (r : Option Parsed) → 4345 < length s → ParsedOf s r → r ≡ None
long_refused s r h p = none-refused s r (λ k ss f. let l = file_longest s k ss f in omega arith) p
