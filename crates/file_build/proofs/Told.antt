-- What a program puts out for a count file that is built in lists for 216 sites: where the build refuses, the line of its status; where it is done, the mesh stands
-- at the fronts of the lists. What is put out is determined by the input. Assumes nothing.
use mathlib.Core.Path.{◌≡◌, refl, sym, ap, ap₂, subst, ◌∙◌}
use mathlib.Core.List.{List}
use Prim.Native.Nat.{ℕ, ◌*◌, ◌≤◌}
use native.Mathlib.Omega.{arith}
use lib.ListN.{length, take}
use Rattle.laws.specs.Written.{Written}
use Rattle.laws.proofs.Written.{written-length, written_unique, within}
use Rattle.refusals.specs.declared.Lengths.{Lengths}
use Rattle.stages.specs.Meshes.{mesh_of}
use Rattle.count_file.specs.declared.Head.{Head}
use Rattle.count_file.specs.CountFile.{CountFile}
use Rattle.lines.specs.Status.{refusal_text}
use Rattle.count_file.proofs.Files.{file_unique}
use Rattle.build.specs.declared.Answer.{Answer}
use Rattle.build.specs.Answer.{Order, status, order_box, order_vertices, order_positions, order_triangles, refused_answer, Lists, lengths_of, written}
use Rattle.build.proofs.Fronts.{answer-status, vertices_are, triangles_are, vertices_lent, triangles_lent, positions_front, positions_reach, triangles_front, triangles_reach}
use Rattle.file_build.specs.declared.Built.{Built}
use Rattle.file_build.specs.Asked.{floats_of, file_order, work_space, work_order, BuiltOf, built, unbuilt}
use Rattle.file_build.specs.Told.{Told, ToldAt, file, none}

-- ---- ANY TWO CONFORMING ANSWERS ARE EQUAL

module _ {T : Order → List ℕ} where
  pub told_unique : {s t u : List ℕ} → Told T s t → Told T s u → t ≡ u
  told_unique {s} (file hd ss f) (file he rs g) =
      let e = file_unique s hd ss he rs f g in
      ap₂ (λ (v : Head) (t : List ℕ). T (work_order v (floats_of t))) e.0 e.1
  told_unique (file hd ss f) (none z) = absurd (z hd ss f)
  told_unique (none z) (file hd ss f) = absurd (z hd ss f)
  told_unique (none z) (none y) = refl

  pub told-at_unique : {s l l' l'' : List ℕ} {r q : ℕ} → ToldAt T s l l' r → ToldAt T s l l'' q → (l' ≡ l'') × (r ≡ q)
  told-at_unique a b = written_unique (rw (told_unique a.told b.told) at a.put) b.put

  -- what is put out stands within the bytes that were lent
  pub told_at : {s t l l' : List ℕ} {r : ℕ} → Told T s t → Written l 0 t l' r → length t ≤ length l → ToldAt T s l l' r
  told_at {t = t} {l' = l'} {r = r} o p h = record { text = t; told = o; put = p; within = within r l' (omega (arith, p.next, written-length p)) }

-- ---- a build that is done

-- the order that was placed, and its mesh in the lists
pub record Meant (T : Order → List ℕ) (s : List ℕ) (l' : Lists) (a : Answer) : Type 0 where
  pub order : Order
  pub granted : status order ≡ 0
  pub told : Told T s (T order)
  pub vertices : a.vertices ≡ length (order_vertices order)
  pub triangles : a.triangles ≡ length (mesh_of (order_box order) (order_vertices order))
  pub few_vertices : a.vertices ≤ 2268
  pub few_triangles : a.triangles ≤ 2592
  pub room_positions : a.vertices * 3 ≤ length l'.positions
  pub room_triangles : a.triangles * 3 ≤ length l'.triangles
  pub is_positions : take (a.vertices * 3) l'.positions ≡ order_positions order
  pub is_triangles : take (a.triangles * 3) l'.triangles ≡ order_triangles order

module _ (T : Order → List ℕ) (s : List ℕ) (l l' : Lists) (r : Built) (w : lengths_of l ≡ work_space) where
  in_space : (hd : Head) (ss : List ℕ) → CountFile s hd ss → Told T s (T (file_order hd (floats_of ss) (lengths_of l)))
  in_space hd ss f = subst (λ (L : Lengths). Told T s (T (file_order hd (floats_of ss) L))) (sym w) (file hd ss f)

  pub meant : BuiltOf s l l' r → r.answer.status ≡ 0 → Meant T s l' r.answer
  unfolding refused_answer
  meant (unbuilt n e a q) z = absurd (omega (arith, z, ap (λ (x : Answer). x.status) a))
  meant (built hd ss f e b) z =
      let o = file_order hd (floats_of ss) (lengths_of l) in
      let ok : status o ≡ 0 = sym (answer-status o) ∙ ap (λ (x : Answer). x.status) (sym b.answer) ∙ z in
      let v = ap (λ (x : Answer). x.vertices) b.answer ∙ vertices_are o ok in
      let t = ap (λ (x : Answer). x.triangles) b.answer ∙ triangles_are o ok in
      let ps : l'.positions ≡ written o (order_positions o) l.positions = ap (λ (x : Lists). x.positions) b.after in
      let ts : l'.triangles ≡ written o (order_triangles o) l.triangles = ap (λ (x : Lists). x.triangles) b.after in
      record {
        order = o;
        granted = ok;
        told = in_space hd ss f;
        vertices = v;
        triangles = t;
        few_vertices = omega (arith, v, vertices_lent o ok, ap (λ (L : Lengths). L.vertices) w);
        few_triangles = omega (arith, t, triangles_lent o ok, ap (λ (L : Lengths). L.triangles) w);
        room_positions = rw (ps, b.answer) (positions_reach o ok l.positions);
        room_triangles = rw (ts, b.answer) (triangles_reach o ok l.triangles);
        is_positions = rw (ps, b.answer) (positions_front o ok l.positions);
        is_triangles = rw (ts, b.answer) (triangles_front o ok l.triangles);
      }

  -- ---- a refusal: T has its status alone
  module _ (h : (o : Order) → (status o ≡ 0 → ⊥) → T o ≡ refusal_text (status o)) where
    pub told-refused : BuiltOf s l l' r → (r.answer.status ≡ 0 → ⊥) → Told T s (refusal_text r.answer.status)
    unfolding refused_answer
    told-refused (built hd ss f e b) z =
        let o = file_order hd (floats_of ss) (lengths_of l) in
        let state : r.answer.status ≡ status o = ap (λ (x : Answer). x.status) b.answer ∙ answer-status o in
        subst (Told T s) (h o (λ y. z (state ∙ y)) ∙ ap refusal_text (sym state)) (in_space hd ss f)
    told-refused (unbuilt n e a q) z = subst (Told T s) (ap (λ (x : Answer). refusal_text x.status) (sym a)) (none n)
