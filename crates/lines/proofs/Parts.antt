-- Laws of a header of parts: the bytes tell the values where its keys do, and reading part by part reads the header. Assumes nothing.
use mathlib.Core.Path.{◌≡◌, refl, sym, ◌∙◌}
use mathlib.Core.Bool.{Bool, true, false, ◌&&◌, cond, false≢true}
use mathlib.Core.List.{List, [], ◌∷◌, ◌++◌, append_assoc}
use Prim.Native.Nat.{ℕ, ◌≤◌}
use native.Mathlib.Nat.{add_assoc, add-zero}
use lib.Dec.{eqb}
use lib.ListN.{length, get_or, drop, length-append}
use borrow.Author.Tests.{eq-eqb}
use Rattle.laws.proofs.Bools.{and-apart}
use Rattle.lines.specs.Lines.{Field, Dec, Hex, dec_end, hex_end, line_of, ok_of, lines, Fine, line}
use Rattle.lines.specs.Parts.{Part, Must, May, One, Run, Left, This, That, part_text, parts_text, PartsFine, done, must, given, left, this, that}
use Rattle.lines.specs.Inner.Readers.{Reads, Absent, Have, Miss}
use Rattle.lines.proofs.Lines.{key_of, Two, lines_same, reads_none, reads_more, absent_more}

-- ---- a test by which the bytes tell the parts: the first key of what may be left out, and of each of two runs, differs from that of all that can stand
-- in its place

-- two keys differ at a byte that both have
unfoldable pub splits : List ℕ → List ℕ → Bool
splits [] m = false
splits (a ∷ k) [] = false
splits (a ∷ k) (b ∷ m) = cond (eqb a b) (splits k m) true

unfoldable pub apart : List Field → List Field → Bool
apart [] gs = false
apart (f ∷ fs) [] = false
apart (f ∷ fs) (g ∷ gs) = splits (key_of f) (key_of g)

unfoldable pub clear : List Field → List Part → Bool
clear fs [] = false
clear fs (Must gs ∷ ps) = apart fs gs
clear fs (May gs ∷ ps) = apart fs gs && clear fs ps
clear fs (One gs hs ∷ ps) = apart fs gs && apart fs hs

unfoldable pub told : List Part → Bool
told [] = true
told (Must fs ∷ ps) = told ps
told (May fs ∷ ps) = clear fs ps && told ps
told (One fs gs ∷ ps) = apart fs gs && told ps

-- ---- keys that differ

splits_no : (k m r t : List ℕ) → splits k m ≡ true → k ++ r ≡ m ++ t → ⊥
unfolding splits
splits_no [] m r t h e = false≢true h
splits_no (a ∷ k) [] r t h e = false≢true h
splits_no (a ∷ k) (b ∷ m) r t h e = go (eqb a b) refl h (splits_no k m r t)
  where
    same : a ≡ b
    same = cc

    rest : k ++ r ≡ m ++ t
    rest = cc

    go : (c : Bool) → eqb a b ≡ c → cond c (splits k m) true ≡ true → (splits k m ≡ true → k ++ r ≡ m ++ t → ⊥) → ⊥
    go true q h f = f h rest
    go false q h f = false≢true (sym q ∙ eq-eqb a b same)

unfoldable end_of : Field → ℕ → List ℕ
end_of (Dec key) n = dec_end n
end_of (Hex key) n = hex_end n

line-key : (f : Field) (n : ℕ) → line_of f n ≡ key_of f ++ end_of f n
unfolding line_of key_of end_of
line-key (Dec key) n = refl
line-key (Hex key) n = refl

apart_no : (fs gs : List Field) (vs ws r t : List ℕ) → apart fs gs ≡ true → Fine fs vs → Fine gs ws → lines fs vs ++ r ≡ lines gs ws ++ t → ⊥
unfolding apart lines
apart_no [] gs vs ws r t h p q e = false≢true h
apart_no (f ∷ fs) [] vs ws r t h p q e = false≢true h
apart_no (f ∷ fs) (g ∷ gs) (v ∷ vs) (w ∷ ws) r t h (line a p) (line b q) e =
    let e' : key_of f ++ (end_of f v ++ (lines fs vs ++ r)) ≡ key_of g ++ (end_of g w ++ (lines gs ws ++ t)) = simp (line-key, append_assoc) at e in
    splits_no (key_of f) (key_of g) (end_of f v ++ (lines fs vs ++ r)) (end_of g w ++ (lines gs ws ++ t)) h e'
apart_no (f ∷ fs) (g ∷ gs) [] ws r t h p q e = elim p [ ]
apart_no (f ∷ fs) (g ∷ gs) (v ∷ vs) [] r t h p q e = elim q [ ]

-- ---- the bytes tell the values

pub clear_no : (fs : List Field) (ps : List Part) (vs : List ℕ) (ws : List Run) (r t : List ℕ) → clear fs ps ≡ true → Fine fs vs → PartsFine ps ws → lines fs vs ++ r ≡ parts_text ps ws ++ t → ⊥
unfolding clear parts_text part_text
clear_no fs [] vs ws r t h p q e = false≢true h
clear_no fs (Must gs ∷ ps) vs (This w ∷ ws) r t h p (must g q) e = apart_no fs gs vs w r (parts_text ps ws ++ t) h p g (e ∙ append_assoc (lines gs w) (parts_text ps ws) t)
clear_no fs (May gs ∷ ps) vs (This w ∷ ws) r t h p (given g q) e =
    apart_no fs gs vs w r (parts_text ps ws ++ t) (and-apart (apart fs gs) (clear fs ps) h).0 p g (e ∙ append_assoc (lines gs w) (parts_text ps ws) t)
clear_no fs (May gs ∷ ps) vs (Left ∷ ws) r t h p (left q) e = clear_no fs ps vs ws r t (and-apart (apart fs gs) (clear fs ps) h).1 p q e
clear_no fs (One gs hs ∷ ps) vs (This w ∷ ws) r t h p (this g q) e =
    apart_no fs gs vs w r (parts_text ps ws ++ t) (and-apart (apart fs gs) (apart fs hs) h).0 p g (e ∙ append_assoc (lines gs w) (parts_text ps ws) t)
clear_no fs (One gs hs ∷ ps) vs (That w ∷ ws) r t h p (that g q) e =
    apart_no fs hs vs w r (parts_text ps ws ++ t) (and-apart (apart fs gs) (apart fs hs) h).1 p g (e ∙ append_assoc (lines hs w) (parts_text ps ws) t)
clear_no fs (Must gs ∷ ps) vs [] r t h p q e = elim q [ ]
clear_no fs (Must gs ∷ ps) vs (Left ∷ ws) r t h p q e = elim q [ ]
clear_no fs (Must gs ∷ ps) vs (That w ∷ ws) r t h p q e = elim q [ ]
clear_no fs (May gs ∷ ps) vs [] r t h p q e = elim q [ ]
clear_no fs (May gs ∷ ps) vs (That w ∷ ws) r t h p q e = elim q [ ]
clear_no fs (One gs hs ∷ ps) vs [] r t h p q e = elim q [ ]
clear_no fs (One gs hs ∷ ps) vs (Left ∷ ws) r t h p q e = elim q [ ]

-- two runs, or one, with what follows
same-run : {fs : List Field} (c : List ℕ → Run) (ps : List Part) (vs ws : List ℕ) (vss wss : List Run) (r t : List ℕ) → Fine fs vs → Fine fs ws
    → (lines fs vs ++ parts_text ps vss) ++ r ≡ (lines fs ws ++ parts_text ps wss) ++ t → (parts_text ps vss ++ r ≡ parts_text ps wss ++ t → Two vss wss r t) → Two (c vs ∷ vss) (c ws ∷ wss) r t
same-run {fs} c ps vs ws vss wss r t f g e more =
    let x = lines_same (parts_text ps vss ++ r) (parts_text ps wss ++ t) f g (simp append_assoc at e) in
    let d = more x.rest in
    record { first = rw (x.first, d.first); rest = d.rest }

pub parts_same : (ps : List Part) (vs ws : List Run) (r t : List ℕ) → told ps ≡ true → PartsFine ps vs → PartsFine ps ws → parts_text ps vs ++ r ≡ parts_text ps ws ++ t → Two vs ws r t
unfolding told parts_text part_text
parts_same [] [] [] r t h done done e = record { first = refl; rest = e }
parts_same (Must fs ∷ ps) (This v ∷ vs) (This w ∷ ws) r t h (must f p) (must g q) e = same-run This ps v w vs ws r t f g e (parts_same ps vs ws r t h p q)
parts_same (May fs ∷ ps) (This v ∷ vs) (This w ∷ ws) r t h (given f p) (given g q) e =
    same-run This ps v w vs ws r t f g e (parts_same ps vs ws r t (and-apart (clear fs ps) (told ps) h).1 p q)
parts_same (May fs ∷ ps) (This v ∷ vs) (Left ∷ ws) r t h (given f p) (left q) e =
    absurd (clear_no fs ps v ws (parts_text ps vs ++ r) t (and-apart (clear fs ps) (told ps) h).0 f q (sym (append_assoc (lines fs v) (parts_text ps vs) r) ∙ e))
parts_same (May fs ∷ ps) (Left ∷ vs) (This w ∷ ws) r t h (left p) (given g q) e =
    absurd (clear_no fs ps w vs (parts_text ps ws ++ t) r (and-apart (clear fs ps) (told ps) h).0 g p (sym (append_assoc (lines fs w) (parts_text ps ws) t) ∙ sym e))
parts_same (May fs ∷ ps) (Left ∷ vs) (Left ∷ ws) r t h (left p) (left q) e =
    let d = parts_same ps vs ws r t (and-apart (clear fs ps) (told ps) h).1 p q e in
    record { first = rw d.first; rest = d.rest }
parts_same (One fs gs ∷ ps) (This v ∷ vs) (This w ∷ ws) r t h (this f p) (this g q) e =
    same-run This ps v w vs ws r t f g e (parts_same ps vs ws r t (and-apart (apart fs gs) (told ps) h).1 p q)
parts_same (One fs gs ∷ ps) (That v ∷ vs) (That w ∷ ws) r t h (that f p) (that g q) e =
    same-run That ps v w vs ws r t f g e (parts_same ps vs ws r t (and-apart (apart fs gs) (told ps) h).1 p q)
parts_same (One fs gs ∷ ps) (This v ∷ vs) (That w ∷ ws) r t h (this f p) (that g q) e =
    absurd (apart_no fs gs v w (parts_text ps vs ++ r) (parts_text ps ws ++ t) (and-apart (apart fs gs) (told ps) h).0 f g (simp append_assoc at e))
parts_same (One fs gs ∷ ps) (That v ∷ vs) (This w ∷ ws) r t h (that f p) (this g q) e =
    absurd (apart_no fs gs w v (parts_text ps ws ++ t) (parts_text ps vs ++ r) (and-apart (apart fs gs) (told ps) h).0 g f (simp append_assoc at (sym e)))
parts_same [] [] (_ ∷ ws) r t h _ x14 e = elim x14 [ ]
parts_same [] (_ ∷ vs) ws r t h x10 _ e = elim x10 [ ]
parts_same (Must fs ∷ ps) [] ws r t h x10 _ e = elim x10 [ ]
parts_same (Must fs ∷ ps) (Left ∷ vs) ws r t h x14 _ e = elim x14 [ ]
parts_same (Must fs ∷ ps) (This v ∷ vs) [] r t h _ x18 e = elim x18 [ ]
parts_same (Must fs ∷ ps) (This v ∷ vs) (Left ∷ ws) r t h _ x22 e = elim x22 [ ]
parts_same (Must fs ∷ ps) (This v ∷ vs) (That w ∷ ws) r t h _ x23 e = elim x23 [ ]
parts_same (Must fs ∷ ps) (That v ∷ vs) ws r t h x16 _ e = elim x16 [ ]
parts_same (May fs ∷ ps) [] ws r t h x11 _ e = elim x11 [ ]
parts_same (May fs ∷ ps) (Left ∷ vs) [] r t h _ x18 e = elim x18 [ ]
parts_same (May fs ∷ ps) (Left ∷ vs) (That w ∷ ws) r t h _ x22 e = elim x22 [ ]
parts_same (May fs ∷ ps) (This v ∷ vs) [] r t h _ x19 e = elim x19 [ ]
parts_same (May fs ∷ ps) (This v ∷ vs) (That w ∷ ws) r t h _ x23 e = elim x23 [ ]
parts_same (May fs ∷ ps) (That v ∷ vs) ws r t h x17 _ e = elim x17 [ ]
parts_same (One fs gs ∷ ps) [] ws r t h x12 _ e = elim x12 [ ]
parts_same (One fs gs ∷ ps) (Left ∷ vs) ws r t h x16 _ e = elim x16 [ ]
parts_same (One fs gs ∷ ps) (This v ∷ vs) [] r t h _ x20 e = elim x20 [ ]
parts_same (One fs gs ∷ ps) (This v ∷ vs) (Left ∷ ws) r t h _ x24 e = elim x24 [ ]
parts_same (One fs gs ∷ ps) (That v ∷ vs) [] r t h _ x21 e = elim x21 [ ]
parts_same (One fs gs ∷ ps) (That v ∷ vs) (Left ∷ ws) r t h _ x25 e = elim x25 [ ]

-- the numbers of run k
abbrev numbers : Run → List ℕ
numbers Left = []
numbers (This vs) = vs
numbers (That vs) = vs

abbrev pub run_at : ℕ → List Run → List ℕ
run_at k rs = numbers (get_or rs k Left)

-- the first part, where it must be there
pub first_fine : {fs : List Field} {ps : List Part} {vs : List ℕ} {rs : List Run} → PartsFine (Must fs ∷ ps) (This vs ∷ rs) → Fine fs vs
first_fine (must f p) = f

-- ---- reading part by part

pub have_done : (s : List ℕ) (at : ℕ) → at ≤ length s → Have [] s at [] at
unfolding parts_text
have_done s at h = record { fine = done; here = refl; past = sym (add-zero at); within = h }

module _ (ps : List Part) (s : List ℕ) (at : ℕ) where
  -- a part that is left out
  pub have_left : (fs : List Field) (vs : List Run) (next : ℕ) → Have ps s at vs next → Have (May fs ∷ ps) s at (Left ∷ vs) next
  unfolding parts_text part_text
  have_left fs vs next q = record { fine = left q.fine; here = q.here; past = q.past; within = q.within }

  -- a run that was read
  module _ (fs : List Field) (vs : List ℕ) (mid : ℕ) (p : Reads (lines fs) (Fine fs) s at vs mid) where
    pub have_must : (rs : List Run) (next : ℕ) → Have ps s mid rs next → Have (Must fs ∷ ps) s at (This vs ∷ rs) next
    unfolding parts_text part_text
    have_must rs next q = record {
      fine = must p.fine q.fine;
      here = p.here ∙ rw (q.here, append_assoc);
      past = q.past ∙ rw (p.past, length-append, add_assoc);
      within = q.within;
    }

    pub have_given : (rs : List Run) (next : ℕ) → Have ps s mid rs next → Have (May fs ∷ ps) s at (This vs ∷ rs) next
    unfolding parts_text part_text
    have_given rs next q = record {
      fine = given p.fine q.fine;
      here = p.here ∙ rw (q.here, append_assoc);
      past = q.past ∙ rw (p.past, length-append, add_assoc);
      within = q.within;
    }

    pub have_this : (gs : List Field) → (rs : List Run) (next : ℕ) → Have ps s mid rs next → Have (One fs gs ∷ ps) s at (This vs ∷ rs) next
    unfolding parts_text part_text
    have_this gs rs next q = record {
      fine = this p.fine q.fine;
      here = p.here ∙ rw (q.here, append_assoc);
      past = q.past ∙ rw (p.past, length-append, add_assoc);
      within = q.within;
    }

    pub have_that : (gs : List Field) → (rs : List Run) (next : ℕ) → Have ps s mid rs next → Have (One gs fs ∷ ps) s at (That vs ∷ rs) next
    unfolding parts_text part_text
    have_that gs rs next q = record {
      fine = that p.fine q.fine;
      here = p.here ∙ rw (q.here, append_assoc);
      past = q.past ∙ rw (p.past, length-append, add_assoc);
      within = q.within;
    }

    -- and what must follow is not there
    after_run : (w : List ℕ) (ws : List Run) (rest : List ℕ) → Miss ps s mid → Fine fs w → PartsFine ps ws → drop at s ≡ (lines fs w ++ parts_text ps ws) ++ rest → ⊥
    after_run w ws rest q f g e =
        let c = lines_same (drop mid s) (parts_text ps ws ++ rest) p.fine f (sym p.here ∙ e ∙ append_assoc (lines fs w) (parts_text ps ws) rest) in
        q.none ws rest g c.rest

    pub miss_after : Miss ps s mid → Miss (Must fs ∷ ps) s at
    unfolding parts_text part_text
    miss_after q = record { none = go }
      where
        go : (ws : List Run) (rest : List ℕ) → PartsFine (Must fs ∷ ps) ws → drop at s ≡ parts_text (Must fs ∷ ps) ws ++ rest → ⊥
        go (This w ∷ ws) rest (must f g) e = after_run w ws rest q f g e
        go [] rest x'' e = elim x'' [ ]
        go (Left ∷ ws) rest x6 e = elim x6 [ ]
        go (That _ ∷ ws) rest x8 e = elim x8 [ ]

    pub miss_given : clear fs ps ≡ true → Miss ps s mid → Miss (May fs ∷ ps) s at
    unfolding parts_text part_text
    miss_given h q = record { none = go }
      where
        go : (ws : List Run) (rest : List ℕ) → PartsFine (May fs ∷ ps) ws → drop at s ≡ parts_text (May fs ∷ ps) ws ++ rest → ⊥
        go (This w ∷ ws) rest (given f g) e = after_run w ws rest q f g e
        go (Left ∷ ws) rest (left g) e = clear_no fs ps vs ws (drop mid s) rest h p.fine g (sym p.here ∙ e)
        go [] rest x'' e = elim x'' [ ]
        go (That _ ∷ ws) rest x7 e = elim x7 [ ]

  -- a run that is not there
  module _ (fs : List Field) (p : Absent (lines fs) (Fine fs) s at) where
    pub miss_must : Miss (Must fs ∷ ps) s at
    unfolding parts_text part_text
    miss_must = record { none = go }
      where
        go : (ws : List Run) (rest : List ℕ) → PartsFine (Must fs ∷ ps) ws → drop at s ≡ parts_text (Must fs ∷ ps) ws ++ rest → ⊥
        go (This w ∷ ws) rest (must f g) e = p.none w (parts_text ps ws ++ rest) f (e ∙ append_assoc (lines fs w) (parts_text ps ws) rest)
        go [] rest x'' e = elim x'' [ ]
        go (Left ∷ ws) rest x6 e = elim x6 [ ]
        go (That _ ∷ ws) rest x8 e = elim x8 [ ]

    pub miss_left : Miss ps s at → Miss (May fs ∷ ps) s at
    unfolding parts_text part_text
    miss_left q = record { none = go }
      where
        go : (ws : List Run) (rest : List ℕ) → PartsFine (May fs ∷ ps) ws → drop at s ≡ parts_text (May fs ∷ ps) ws ++ rest → ⊥
        go (This w ∷ ws) rest (given f g) e = p.none w (parts_text ps ws ++ rest) f (e ∙ append_assoc (lines fs w) (parts_text ps ws) rest)
        go (Left ∷ ws) rest (left g) e = q.none ws rest g e
        go [] rest x'' e = elim x'' [ ]
        go (That _ ∷ ws) rest x7 e = elim x7 [ ]

    pub miss_one : (gs : List Field) → Absent (lines gs) (Fine gs) s at → Miss (One fs gs ∷ ps) s at
    unfolding parts_text part_text
    miss_one gs q = record { none = go }
      where
        go : (ws : List Run) (rest : List ℕ) → PartsFine (One fs gs ∷ ps) ws → drop at s ≡ parts_text (One fs gs ∷ ps) ws ++ rest → ⊥
        go (This w ∷ ws) rest (this f g) e = p.none w (parts_text ps ws ++ rest) f (e ∙ append_assoc (lines fs w) (parts_text ps ws) rest)
        go (That w ∷ ws) rest (that f g) e = q.none w (parts_text ps ws ++ rest) f (e ∙ append_assoc (lines gs w) (parts_text ps ws) rest)
        go [] rest x'' e = elim x'' [ ]
        go (Left ∷ ws) rest x6 e = elim x6 [ ]

-- a run of one line
pub one-there : (f : Field) (s : List ℕ) (at : ℕ) → at ≤ length s → (v next : ℕ) → Reads (line_of f) (ok_of f) s at v next → Reads (lines (f ∷ [])) (Fine (f ∷ [])) s at (v ∷ []) next
one-there f s at h v next q = reads_more (reads_none s at h) f v next q

pub one_absent : (f : Field) (s : List ℕ) (at : ℕ) → at ≤ length s → Absent (line_of f) (ok_of f) s at → Absent (lines (f ∷ [])) (Fine (f ∷ [])) s at
one_absent f s at h q = absent_more (reads_none s at h) f q []

-- ---- the test on two small headers: n=, then perhaps i=, then a= or b=; and one where the key that may be left out is the start of the next one

told-apart : told (Must (Dec (110 ∷ 61 ∷ []) ∷ []) ∷ May (Hex (105 ∷ 61 ∷ []) ∷ []) ∷ One (Hex (97 ∷ 61 ∷ []) ∷ []) (Hex (98 ∷ 61 ∷ []) ∷ []) ∷ []) ≡ true
unfolding told clear apart splits key_of
told-apart = refl

told_alike : told (May (Hex (105 ∷ []) ∷ []) ∷ Must (Hex (105 ∷ 61 ∷ []) ∷ []) ∷ []) ≡ false
unfolding told clear apart splits key_of
told_alike = refl
