-- A count file read and built in lent lists: the ways out of `build_file`, and what it promises determines. Assumes nothing.
use mathlib.Core.Path.{◌≡◌, refl, sym, ap, ap₂, subst, ◌∙◌}
use mathlib.Core.List.{List, [], ◌∷◌}
use Prim.Native.Nat.{ℕ, zero, suc, ◌+◌, ◌-◌, ◌≤◌}
use native.Mathlib.Omega.{arith}
use lib.Ieee.{Float, binary64, of_bits}
use lib.ListN.{length, take, get_or, replicate, length-append, length-map}
use Rattle.samples.specs.Sides.{base}
use Rattle.lattice.specs.declared.Sides.{Sides}
use Rattle.lines.specs.Parts.{Left}
use Rattle.points.specs.declared.Frame.{Frame}
use Rattle.count_file.specs.declared.Head.{Head}
use Rattle.count_file.specs.declared.Parsed.{Parsed}
use Rattle.count_file.specs.CountFile.{CountFile}
use Rattle.std.specs.Prelude.{Some, None}
use Rattle.std.specs.Option.{IsSome}
use Rattle.count_file.specs.Parsed.{accepted, Accepted, Refused}
use Rattle.count_file.proofs.Heads.{says-left}
use Rattle.count_file.proofs.Files.{file_unique, accepted-samples}
use Rattle.build.specs.declared.Answer.{Answer}
use Rattle.build.specs.Answer.{Order, order, answer_of, refused_answer, Lists, lengths_of, lists_after, BuildOf, BuildIn}
use Rattle.file_build.specs.declared.Built.{Built}
use Rattle.file_build.specs.declared.WorkSpace.{WorkSpace}
use Rattle.file_build.specs.Asked.{head_sides, head_frame, head_inside, floats_of, file_order, work_space, space_lists, blank, BuiltOf, built, unbuilt}

-- ---- the build of a header

head_built : (hd : Head) {S : List Float} {n : Sides} {t : Float} {f : Frame} {l l' : Lists} {a : Answer} → n ≡ head_sides hd → t ≡ head_inside hd → f ≡ head_frame hd
    → BuildIn n (get_or hd.sizes 3 0) (get_or hd.sizes 4 0) t f S l l' a → BuildOf (file_order hd S (lengths_of l)) l l' a
head_built hd {S} {l = l} {l'} {a} hn ht hf h =
    subst (λ (o : Order). BuildOf o l l' a) (λ i. order (hn i) (get_or hd.sizes 3 0) (get_or hd.sizes 4 0) (ht i) (hf i) S (lengths_of l)) h

-- ---- A FILE WITHOUT THE LINE inside= IS BUILT WITH THE BASE THRESHOLD

pub old_inside : {s : List ℕ} {hd : Head} {ss : List ℕ} (f : CountFile s hd ss) → f.run ≡ Left → head_inside hd ≡ base
unfolding head_inside
old_inside f e = ap (of_bits binary64) (says-left f.says e)

-- ---- what was read

take_floats : (k : ℕ) (l : List ℕ) → take k (floats_of l) ≡ floats_of (take k l)
unfolding floats_of
take_floats zero l = refl
take_floats (suc k) [] = refl
take_floats (suc k) (x ∷ l) = ap (λ (r : List Float). of_bits binary64 x ∷ r) (take_floats k l)

pub read-room : (s : List ℕ) (p : Parsed) → Accepted s p → p.sites ≤ length (floats_of p.samples)
unfolding floats_of
read-room s p a =
    let n = a.samples in
    let h : p.sites ≡ length n = ap (λ (q : Parsed). q.sites) a.is in
    let z : List ℕ = replicate (216 - length n) 0 in
    let l : length p.samples ≡ length n + length z = ap (λ (q : Parsed). length q.samples) a.is ∙ length-append n z in
    omega (arith, length-map p.samples (of_bits binary64))

module _ (s : List ℕ) (l l' : Lists) (b : Answer) where
  read-built : (p : Parsed) → Accepted s p → BuildOf (file_order p.head (take p.sites (floats_of p.samples)) (lengths_of l)) l l' b → BuiltOf s l l' (record { file = Some p; answer = b })
  read-built p a d =
      let q : take p.sites (floats_of p.samples) ≡ floats_of a.samples = take_floats p.sites p.samples ∙ ap floats_of (accepted-samples s p a) in
      built p.head a.samples a.file (ap Some a.is) (subst (λ (S : List Float). BuildOf (file_order p.head S (lengths_of l)) l l' b) q d)

  pub head-read : (p : Parsed) {S : List Float} {n : Sides} {t : Float} {f : Frame} → Accepted s p → S ≡ floats_of p.samples → n ≡ head_sides p.head → t ≡ head_inside p.head → f ≡ head_frame p.head
      → BuildIn n (get_or p.head.sizes 3 0) (get_or p.head.sizes 4 0) t f (take p.sites S) l l' b → BuiltOf s l l' (record { file = Some p; answer = b })
  head-read p a e hn ht hf h = read-built p a (head_built p.head hn ht hf (rw e at h))

  pub unread-built : Refused s → b ≡ refused_answer 8 → l' ≡ l → BuiltOf s l l' (record { file = None; answer = b })
  unread-built p d k = unbuilt p.none refl d k

-- ---- ANY TWO CONFORMING ANSWERS ARE EQUAL

pub built_unique : {s : List ℕ} {l x y : Lists} {r q : Built} → BuiltOf s l x r → BuiltOf s l y q → (x ≡ y) × (r ≡ q)
built_unique {s} {l} {r = r} {q = q} (built hd ss f e b) (built he rs g d c) =
    let u = file_unique s hd ss he rs f g in
    let o : file_order hd (floats_of ss) (lengths_of l) ≡ file_order he (floats_of rs) (lengths_of l) = ap₂ (λ (v : Head) (t : List ℕ). file_order v (floats_of t) (lengths_of l)) u.0 u.1 in
    let p : r.file ≡ q.file = e ∙ ap₂ (λ (v : Head) (t : List ℕ). Some (accepted v t)) u.0 u.1 ∙ sym d in
    let a : r.answer ≡ q.answer = b.answer ∙ ap answer_of o ∙ sym c.answer in
    (b.after ∙ ap (λ (z : Order). lists_after z l) o ∙ sym c.after, λ i. record { file = p i; answer = a i })
built_unique (built hd ss f e b) (unbuilt z d a k) = absurd (z hd ss f)
built_unique (unbuilt z d a k) (built hd ss f e b) = absurd (z hd ss f)
built_unique (unbuilt z d a k) (unbuilt y e b h) = (k ∙ sym h, λ i. record { file = (d ∙ sym e) i; answer = (a ∙ sym b) i })

-- ---- what was built, by what was read

some_same : {p q : Parsed} → Some p ≡ Some q → p ≡ q
some_same e = cc

some_none : {p : Parsed} → Some p ≡ None → ⊥
some_none e = cc

module _ {s : List ℕ} {l l' : Lists} {r : Built} where
  -- a file was read where the answer is another than 8
  pub built-some : BuiltOf s l l' r → (r.answer.status ≡ 8 → ⊥) → IsSome r.file
  unfolding refused_answer
  built-some (built hd ss f e b) z = rw e refl
  built-some (unbuilt n d a k) z = absurd (z (ap (λ (x : Answer). x.status) a))

  module _ (p : Parsed) (is : r.file ≡ Some p) where
    built-accepted : BuiltOf s l l' r → Accepted s p
    built-accepted (built hd ss f e b) =
        let a : p ≡ accepted hd ss = some_same (sym is ∙ e) in
        let h : hd ≡ p.head = sym (ap (λ (p : Parsed). p.head) a) in
        record { samples = ss; file = rw h at f; is = a ∙ ap (λ (v : Head). accepted v ss) h }
    built-accepted (unbuilt n d a k) = absurd (some_none (sym is ∙ d))

    pub built-room : BuiltOf s l l' r → p.sites ≤ length (floats_of p.samples)
    built-room b = read-room s p (built-accepted b)

    pub built-read : BuiltOf s l l' r → BuildOf (file_order p.head (take p.sites (floats_of p.samples)) (lengths_of l)) l l' r.answer
    built-read (built hd ss f e b) =
        let h : hd ≡ p.head = sym (ap (λ (p : Parsed). p.head) (some_same (sym is ∙ e))) in
        let a : Accepted s p = built-accepted (built hd ss f e b) in
        let u : ss ≡ a.samples = (file_unique s hd ss p.head a.samples f a.file).1 in
        let q : floats_of ss ≡ take p.sites (floats_of p.samples) = ap floats_of (u ∙ sym (accepted-samples s p a)) ∙ sym (take_floats p.sites p.samples) in
        subst (λ (o : Order). BuildOf o l l' r.answer) (ap₂ (λ (v : Head) (S : List Float). file_order v S (lengths_of l)) h q) b
    built-read (unbuilt n d a k) = absurd (some_none (sym is ∙ d))

-- ---- the work space is enough for every file

pub blank-lengths : {w : WorkSpace} → w ≡ blank → lengths_of (space_lists w) ≡ work_space
unfolding blank
blank-lengths e = ap (λ (w : WorkSpace). lengths_of (space_lists w)) e
