-- The number of a request for each way out of the tests, the reply that goes with it, and their bounds. Assumes nothing.
use Rattle.std.specs.Prelude.{Result, Ok, Err}
use mathlib.Core.Path.{◌≡◌, refl, sym, ap, ◌∙◌}
use mathlib.Core.Bool.{Bool, true, false, not, cond, true≢false}
use mathlib.Core.List.{List, [], ◌∷◌}
use Prim.Native.Nat.{ℕ, suc, ◌≤◌}
use native.Mathlib.Omega.{arith}
use borrow.Author.Tests.{eq-eqb, ne_eqb}
use lib.Dec.{eqb}
use lib.Ieee.{Float}
use lib.ListN.{length, get_or}
use Rattle.laws.specs.Bools.{bit}
use Rattle.laws.specs.Ranges.{sum}
use Rattle.laws.proofs.Bools.{bit_le}
use Rattle.laws.proofs.Sums.{sum-le}
use Rattle.lattice.specs.declared.Sides.{Sides}
use Rattle.lattice.specs.Sites.{SidesFit, sides_ok, sites, cells}
use Rattle.lattice.proofs.Sites.{sites-most}
use Rattle.marks.specs.Marks.{is_crossed, crossed_count}
use Rattle.points.specs.declared.Frame.{Frame}
use Rattle.points.specs.Limits.{frame_ok}
use Rattle.refusals.specs.declared.Lengths.{Lengths}
use Rattle.refusals.specs.declared.Refusal.{Refusal}
use Rattle.refusals.specs.Refusals.{Reply, number, reply, settings_ok, inside_ok, site_room, vertex_room, cell_room, most, status_of, request_of}

-- ---- the size of E: at most seven a site

pub crossed-most : (n : Sides) (S : List Float) (h : Float) → SidesFit n → crossed_count n S h ≤ 229376
unfolding crossed_count
crossed-most n S h f =
    omega (
      arith,
      sites-most n f,
      sum-le (sites n) 7 (λ s. sum 7 (λ l. bit (is_crossed n S h s l))) (λ s. sum-le 7 1 (λ l. bit (is_crossed n S h s l)) (λ l. bit_le (is_crossed n S h s l))),
    )

-- and X with it
pub most-most : (n : Sides) (S : List Float) (h : Float) → SidesFit n → most n S h ≤ 344064
unfolding most
most-most n S h f = omega (arith, crossed-most n S h f)

-- ---- no two answers have one number and one count

-- the refusals by their numbers
abbrev numbered : List Refusal
numbered =
    Refusal.Settings ∷ Refusal.Settings ∷ Refusal.Sides ∷ Refusal.SampleCount ∷ Refusal.Frame ∷ Refusal.SiteRoom ∷ Refusal.VertexRoom ∷ Refusal.CellRoom
    ∷ Refusal.Settings ∷ Refusal.Settings ∷ Refusal.Settings ∷ Refusal.Settings ∷ Refusal.Settings ∷ Refusal.Settings ∷ Refusal.Threshold ∷ []

number_back : (r : Refusal) → get_or numbered (number r) Refusal.Settings ≡ r
unfolding number
number_back Refusal.Settings = refl
number_back Refusal.Sides = refl
number_back Refusal.SampleCount = refl
number_back Refusal.Frame = refl
number_back Refusal.Threshold = refl
number_back Refusal.SiteRoom = refl
number_back Refusal.VertexRoom = refl
number_back Refusal.CellRoom = refl

pub number_one : (r s : Refusal) → number r ≡ number s → r ≡ s
number_one r s e = sym (number_back r) ∙ ap (λ (k : ℕ). get_or numbered k Refusal.Settings) e ∙ number_back s

-- a refusal has a number
pub number-some : (r : Refusal) → eqb (number r) 0 ≡ false
unfolding number
number-some Refusal.Settings = refl
number-some Refusal.Sides = refl
number-some Refusal.SampleCount = refl
number-some Refusal.Frame = refl
number-some Refusal.Threshold = refl
number-some Refusal.SiteRoom = refl
number-some Refusal.VertexRoom = refl
number-some Refusal.CellRoom = refl

pub number-not : (r : Refusal) → number r ≡ 0 → ⊥
number-not r e = true≢false (sym (ap (λ (k : ℕ). eqb k 0) e) ∙ number-some r)

pub reply_one : (a b : Result ℕ Refusal) → reply a ≡ reply b → a ≡ b
unfolding reply
reply_one (Ok e) (Ok f) p = ap (λ (x : Reply). Ok x.crossed) p
reply_one (Ok e) (Err s) p = absurd (true≢false (ap (λ (x : Reply). eqb x.status 0) p ∙ number-some s))
reply_one (Err r) (Ok f) p = absurd (true≢false (sym (ap (λ (x : Reply). eqb x.status 0) p) ∙ number-some r))
reply_one (Err r) (Err s) p = ap Err (number_one r s (ap (λ (x : Reply). x.status) p))

-- ---- the ways out

step-most : (b : Bool) (k r : ℕ) → k ≤ 14 → r ≤ 14 → cond (not b) k r ≤ 14
step-most true k r p q = q
step-most false k r p q = p

-- past the tests 1 to 3
pub record Sized (n : Sides) (method R : ℕ) (S : List Float) : Type 0 where
  pub settings : settings_ok method R ≡ true
  pub sides : sides_ok n ≡ true
  pub samples : length S ≡ sites n

-- past the tests 1 to 4, 14 and 5
pub record Stored (n : Sides) (method R : ℕ) (f : Frame) (S : List Float) (L : Lengths) (h : Float) : Type 0 where
  pub sized : Sized n method R S
  pub frame : frame_ok f ≡ true
  pub threshold : inside_ok h ≡ true
  pub room : site_room (sites n) L ≡ true

-- by the answers of the tests that were called
module _ {n : Sides} {method R : ℕ} {S : List Float} where
  pub sized : {a b : Bool} {k : ℕ} → a ≡ settings_ok method R → a ≡ true → b ≡ sides_ok n → b ≡ true → length S ≡ k → k ≡ sites n → Sized n method R S
  sized p a q b d e = record { settings = sym p ∙ a; sides = sym q ∙ b; samples = d ∙ e }

  pub stored : {f : Frame} {L : Lengths} {h : Float} {a b d : Bool} {k : ℕ} → Sized n method R S → a ≡ frame_ok f → a ≡ true → b ≡ inside_ok h → b ≡ true → k ≡ sites n → d ≡ site_room k L → d ≡ true
      → Stored n method R f S L h
  stored z p a q b e r d = record { sized = z; frame = sym p ∙ a; threshold = sym q ∙ b; room = rw e at (sym r ∙ d) }

module _ (n : Sides) (method R : ℕ) (f : Frame) (S : List Float) (L : Lengths) (h : Float) where
  pub refused-settings : settings_ok method R ≡ false → status_of n method R f S L h ≡ 1
  unfolding status_of
  refused-settings a = rw a

  pub refused-sides : settings_ok method R ≡ true → sides_ok n ≡ false → status_of n method R f S L h ≡ 2
  unfolding status_of
  refused-sides a b = rw (a, b)

  pub refused-samples : settings_ok method R ≡ true → sides_ok n ≡ true → (length S ≡ sites n → ⊥) → status_of n method R f S L h ≡ 3
  unfolding status_of
  refused-samples a b d = rw (a, b, ne_eqb (length S) (sites n) d)

  pub refused-frame : Sized n method R S → frame_ok f ≡ false → status_of n method R f S L h ≡ 4
  unfolding status_of
  refused-frame p a = rw (p.settings, p.sides, eq-eqb (length S) (sites n) p.samples, a)

  pub refused-inside : Sized n method R S → frame_ok f ≡ true → inside_ok h ≡ false → status_of n method R f S L h ≡ 14
  unfolding status_of
  refused-inside p a b = rw (p.settings, p.sides, eq-eqb (length S) (sites n) p.samples, a, b)

  pub refused-site_room : Sized n method R S → frame_ok f ≡ true → inside_ok h ≡ true → site_room (sites n) L ≡ false → status_of n method R f S L h ≡ 5
  unfolding status_of
  refused-site_room p a b d = rw (p.settings, p.sides, eq-eqb (length S) (sites n) p.samples, a, b, d)

  pub refused-vertex_room : Stored n method R f S L h → vertex_room (most n S h) L ≡ false → status_of n method R f S L h ≡ 6
  unfolding status_of
  refused-vertex_room p a = rw (p.sized.settings, p.sized.sides, eq-eqb (length S) (sites n) p.sized.samples, p.frame, p.threshold, p.room, a)

  pub refused-cell_room : Stored n method R f S L h → vertex_room (most n S h) L ≡ true → cell_room (cells n) L ≡ false → status_of n method R f S L h ≡ 7
  unfolding status_of
  refused-cell_room p a b = rw (p.sized.settings, p.sized.sides, eq-eqb (length S) (sites n) p.sized.samples, p.frame, p.threshold, p.room, a, b)

  pub not-refused : Stored n method R f S L h → vertex_room (most n S h) L ≡ true → cell_room (cells n) L ≡ true → status_of n method R f S L h ≡ 0
  unfolding status_of
  not-refused p a b = rw (p.sized.settings, p.sized.sides, eq-eqb (length S) (sites n) p.sized.samples, p.frame, p.threshold, p.room, a, b)

  -- ---- the reply

  pub reply_refused : (r : Reply) (k : ℕ) → (r.status ≡ suc k) × (r.crossed ≡ 0) → status_of n method R f S L h ≡ suc k → r ≡ request_of n method R f S L h
  unfolding request_of
  reply_refused r k p e = rw (e, ne_eqb (suc k) 0 (λ z. omega arith)) (λ i. record { status = p.0 i; crossed = p.1 i })

  pub reply_granted : (E : ℕ) → E ≡ crossed_count n S h → status_of n method R f S L h ≡ 0 → record { status = 0; crossed = E } ≡ request_of n method R f S L h
  unfolding request_of
  reply_granted E p e = rw e (λ i. record { status = 0; crossed = p i })

  -- of an answer
  pub replied : (r : Refusal) → status_of n method R f S L h ≡ number r → reply (Err r) ≡ request_of n method R f S L h
  unfolding request_of reply
  replied r e = rw (e, number-some r) refl

  pub replied_done : (E : ℕ) → E ≡ crossed_count n S h → status_of n method R f S L h ≡ 0 → reply (Ok E) ≡ request_of n method R f S L h
  unfolding reply
  replied_done E p e = reply_granted E p e

  -- what a caller reads in it
  pub reply_status : (r : Reply) → r ≡ request_of n method R f S L h → r.status ≡ status_of n method R f S L h
  unfolding request_of
  reply_status r p = ap (λ (x : Reply). x.status) p

  pub reply_crossed : (r : Reply) → r ≡ request_of n method R f S L h → r.status ≡ 0 → r.crossed ≡ crossed_count n S h
  unfolding request_of
  reply_crossed r p e =
      ap (λ (x : Reply). x.crossed) p
      ∙ ap (λ (b : Bool). cond b (crossed_count n S h) 0) (eq-eqb (status_of n method R f S L h) 0 (sym (ap (λ (x : Reply). x.status) p) ∙ e))

  pub reply_none : (r : Reply) → r ≡ request_of n method R f S L h → (r.status ≡ 0 → ⊥) → r.crossed ≡ 0
  unfolding request_of
  reply_none r p d =
      ap (λ (x : Reply). x.crossed) p
      ∙ ap (λ (b : Bool). cond b (crossed_count n S h) 0) (ne_eqb (status_of n method R f S L h) 0 (λ e. d (ap (λ (x : Reply). x.status) p ∙ e)))

  -- and in an answer
  module _ {a : Result ℕ Refusal} (p : reply a ≡ request_of n method R f S L h) where
    pub told_refusal : {r : Refusal} → a ≡ Err r → number r ≡ status_of n method R f S L h
    unfolding reply
    told_refusal {r} e = reply_status (reply (Err r)) (ap reply (sym e) ∙ p)

    pub told_granted : {E : ℕ} → a ≡ Ok E → (status_of n method R f S L h ≡ 0) × (E ≡ crossed_count n S h)
    unfolding reply
    told_granted {E} e = let q = ap reply (sym e) ∙ p in (sym (reply_status (reply (Ok E)) q), reply_crossed (reply (Ok E)) q refl)

  pub status-most : status_of n method R f S L h ≤ 14
  unfolding status_of
  status-most =
      step-most (settings_ok method R) 1 _ (omega arith)
      (step-most (sides_ok n) 2 _ (omega arith)
      (step-most (eqb (length S) (sites n)) 3 _ (omega arith)
      (step-most (frame_ok f) 4 _ (omega arith)
      (step-most (inside_ok h) 14 _ (omega arith)
      (step-most (site_room (sites n) L) 5 _ (omega arith)
      (step-most (vertex_room (most n S h) L) 6 _ (omega arith) (step-most (cell_room (cells n) L) 7 0 (omega arith) (omega arith))))))))
