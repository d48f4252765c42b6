-- Laws of the header: it is read line by line, and it says its numbers. Assumes nothing.
use mathlib.Core.Path.{◌≡◌, refl, sym, ap, ◌∙◌}
use mathlib.Core.Bool.{true, false}
use mathlib.Core.List.{List, ◌++◌, append_assoc}
use Prim.Native.Nat.{ℕ, ◌+◌, ◌≤◌}
use native.Mathlib.Omega.{arith}
use lib.ListN.{length, drop, length-append, length-drop}
use lib.Seq.{drop-drop}
use Rattle.laws.proofs.Lists.{append-apart}
use Rattle.lines.specs.Lines.{Dec, line_of, ok_of, dec_line, Small}
use Rattle.lines.specs.Inner.Readers.{Reads, Absent, starts}
use Rattle.lines.proofs.Lines.{line_same}
use Rattle.lines.proofs.Keys.{starts_is, starts_of}
use Rattle.ply_write.specs.Form.{opening, middle, closing, head_text, Headed}
use Rattle.ply.specs.Inner.Parts.{HeaderAt}

-- the header, its lines one after the other
head_lines : (v f : ℕ) (r : List ℕ) → head_text v f ++ r ≡ dec_line opening v ++ (dec_line middle f ++ (closing ++ r))
unfolding head_text
head_lines v f r = append_assoc (dec_line opening v) (dec_line middle f ++ closing) r ∙ ap (λ (l : List ℕ). dec_line opening v ++ l) (append_assoc (dec_line middle f) closing r)

-- two headers with equal bytes have the same numbers, and the same follows
pub record Three (v f w g : ℕ) (r t : List ℕ) : Type 0 where
  pub vertices : v ≡ w
  pub faces : f ≡ g
  pub rest : r ≡ t

pub head_same : (v f w g : ℕ) (r t : List ℕ) → Small v → Small f → Small w → Small g → head_text v f ++ r ≡ head_text w g ++ t → Three v f w g r t
unfolding line_of ok_of
head_same v f w g r t a b c d e =
    let e' : dec_line opening v ++ (dec_line middle f ++ (closing ++ r)) ≡ dec_line opening w ++ (dec_line middle g ++ (closing ++ t)) = sym (head_lines v f r) ∙ e ∙ head_lines w g t in
    let p = line_same (Dec opening) v w (dec_line middle f ++ (closing ++ r)) (dec_line middle g ++ (closing ++ t)) a c e' in
    let q = line_same (Dec middle) f g (closing ++ r) (closing ++ t) b d p.rest in
    let o = append-apart closing closing r t refl q.rest in
    record { vertices = p.first; faces = q.first; rest = o.1 }

module _ (s : List ℕ) where
  start : (k : Headed s) → drop 0 s ≡ dec_line opening k.vertices ++ (dec_line middle k.faces ++ (closing ++ k.rest))
  start k = k.is ∙ head_lines k.vertices k.faces k.rest

  pub no_opening : Absent (dec_line opening) Small s 0 → Headed s → ⊥
  no_opening p k = p.none k.vertices (dec_line middle k.faces ++ (closing ++ k.rest)) k.small_v (start k)

  module _ (v a : ℕ) (p : Reads (dec_line opening) Small s 0 v a) where
    -- what stands behind the first number, in any header
    second : (k : Headed s) → drop a s ≡ dec_line middle k.faces ++ (closing ++ k.rest)
    unfolding line_of ok_of
    second k = (line_same (Dec opening) v k.vertices (drop a s) (dec_line middle k.faces ++ (closing ++ k.rest)) p.fine k.small_v (sym p.here ∙ start k)).rest

    pub no_middle : Absent (dec_line middle) Small s a → Headed s → ⊥
    no_middle q k = q.none k.faces (closing ++ k.rest) k.small_f (second k)

    module _ (f b : ℕ) (q : Reads (dec_line middle) Small s a f b) where
      pub no_closing : starts closing (drop b s) ≡ false → Headed s → ⊥
      unfolding line_of ok_of
      no_closing z k =
          let t = line_same (Dec middle) f k.faces (drop b s) (closing ++ k.rest) q.fine k.small_f (sym q.here ∙ second k) in
          let y : starts closing (drop b s) ≡ true = rw t.rest (starts_of closing k.rest) in
          let x : ◌≡◌ {A = ℕ} 0 1 = cc in
          omega arith

      pub head_got : starts closing (drop b s) ≡ true → HeaderAt s v f (b + 50)
      unfolding head_text
      head_got y =
          let k : drop b s ≡ closing ++ drop (b + 50) s = starts_is closing (drop b s) y ∙ ap (λ (l : List ℕ). closing ++ l) (drop-drop 50 b s) in
          let w : s ≡ head_text v f ++ drop (b + 50) s = p.here ∙ ap (λ (l : List ℕ). dec_line opening v ++ l) (q.here ∙ ap (λ (l : List ℕ). dec_line middle f ++ l) k) ∙ sym (head_lines v f (drop (b + 50) s)) in
          record { small_v = p.fine; small_f = q.fine; here = w; past = long }
        where
          long : b + 50 ≡ length (head_text v f)
          long = rw (length-append (dec_line opening v) (dec_line middle f ++ closing), length-append (dec_line middle f) closing) (omega (arith, p.past, q.past))

pub header_headed : (s : List ℕ) (v f next : ℕ) → HeaderAt s v f next → Headed s
header_headed s v f next h = record { vertices = v; faces = f; rest = drop next s; small_v = h.small_v; small_f = h.small_f; is = h.here }

-- the body starts within the file
pub head_within : (s : List ℕ) (v f next : ℕ) → HeaderAt s v f next → next ≤ length s
head_within s v f next h = omega (arith, ap length h.here ∙ length-append (head_text v f) (drop next s), length-drop next s, h.past)
