-- A granted request: the used parts of the lists are what the engine is handed, and what it leaves in them stands in front of what was there. Assumes nothing.
use mathlib.Core.Path.{◌≡◌, sym, ap, ◌∙◌}
use mathlib.Core.List.{List, ◌++◌, append_assoc}
use Prim.Native.Nat.{ℕ, ◌+◌, ◌*◌, ◌≤◌}
use native.Mathlib.Omega.{arith}
use lib.ListN.{length, take, drop, replicate, length-replicate, take-append-drop}
use lib.Seq.{sets, sets-eq, drop-append-le, length-take-le}
use lib.Ieee.{Float}
use Rattle.laws.specs.Triangles.{flat}
use Rattle.laws.proofs.Ranges.{each-one-length}
use Rattle.lattice.specs.Sites.{SidesFit, cells, sites}
use Rattle.marks.specs.Marks.{mask_at, masks_of}
use Rattle.stages.specs.Meshes.{book_of, mesh_of, positions_of}
use Rattle.stages.specs.Samples.{box_of, position_at}
use Rattle.stages.proofs.Book.{book_length}
use Rattle.stages.proofs.Stages.{built_stage}
use Rattle.stages.proofs.Table.{table-length}
use Rattle.refusals.specs.Refusals.{most}
use Rattle.site_vertices.proofs.Appending.{positions_three}
use Rattle.engine.specs.declared.Job.{Job}
use Rattle.engine.specs.declared.Made.{Made}
use Rattle.engine.specs.Engine.{Work, work, job_box, job_vertices, Handed, Ran}
use Rattle.engine.proofs.Standing.{mesh_room, stage_most}
use Rattle.build.specs.declared.Answer.{Answer}
use Rattle.build.specs.Answer.{Lists, lists, overlaid}
use Rattle.build.specs.Inner.Grants.{Grantable, Grants, made_answer}

-- a part of the front
cut-length : {A : Type 0} (l : List A) (i n : ℕ) → i ≡ n → n ≤ length l → length (take i l) ≡ n
cut-length l i n e h = length-take-le i l (omega (arith, e)) ∙ e

front_sets : {A : Type 0} (xs l : List A) → length xs ≤ length l → sets l 0 xs ≡ overlaid xs l
front_sets xs l h =
    let z : 0 + length xs ≡ length xs = omega arith in sets-eq xs l 0 (omega arith) ∙ ap (λ (j : ℕ). xs ++ drop j l) z

-- a list of n entries written from its front, with what lies behind it
under : {A : Type 0} (xs l : List A) (i : ℕ) → length xs ≤ i → i ≤ length l → sets (take i l) 0 xs ++ drop i l ≡ overlaid xs l
under xs l i h k =
    let n : length (take i l) ≡ i = length-take-le i l k in
    let z : 0 + length xs ≡ length xs = omega arith in
    ap (λ (y : List _). y ++ drop i l) (sets-eq xs (take i l) 0 (omega (arith, n)))
    ∙ append_assoc xs (drop (0 + length xs) (take i l)) (drop i l)
    ∙ ap (λ (j : ℕ). xs ++ (drop j (take i l) ++ drop i l)) z
    ∙ ap (λ (y : List _). xs ++ y) (sym (drop-append-le (length xs) (take i l) (drop i l) (omega (arith, n))) ∙ ap (drop (length xs)) (take-append-drop i l))

-- a front part of its whole length
fronted : {A : Type 0} (xs l f : List A) (i : ℕ) → f ≡ xs → i ≡ length xs → f ++ drop i l ≡ overlaid xs l
fronted xs l f i e j = λ x. e x ++ drop (j x) l

module _ (j : Job) (S : List Float) (fit : SidesFit j.sides) where
  -- NEVER MORE THAN X VERTICES, NEVER MORE THAN TWELVE TRIANGLES A CELL
  pub job_room : (length (job_vertices j S) ≤ most j.sides S j.threshold) × (length (flat (mesh_of (job_box j S) (job_vertices j S))) ≤ 36 * cells j.sides)
  job_room =
      let vs = job_vertices j S in
      let z : List ℕ = replicate (36 * cells j.sides) 0 in
      let n : length z ≡ 36 * cells j.sides = length-replicate {A = ℕ} (36 * cells j.sides) 0 in
      (stage_most j S fit (built_stage (job_box j S) j.rounds), omega (arith, mesh_room j S fit vs z (omega (arith, n)), n))

module _ {j : Job} {S : List Float} {l : Lists} (G : Grantable j S l) {k c : ℕ} (ek : k ≡ sites j.sides) (ec : c ≡ cells j.sides) where
  -- WHAT THE ENGINE IS HANDED
  pub grant_handed : Handed j S (take k l.masks) (work (take (7 * k) l.table) l.positions l.book (take (36 * c) l.triangles)) (take (108 * c) l.edges)
  grant_handed = record {
    fit = G.fit;
    rounds = G.rounds;
    samples = G.samples;
    masks = cut-length l.masks _ _ ek G.masks;
    table = cut-length l.table _ _ (ap (λ x. 7 * x) ek) G.table;
    positions = G.positions;
    book = G.book;
    triangles = cut-length l.triangles _ _ (ap (λ x. 36 * x) ec) G.triangles;
    edges = cut-length l.edges _ _ (ap (λ x. 108 * x) ec) G.edges;
  }

  -- WHAT IT LEAVES
  pub grant_leaves : {z : Made} {m' : List ℕ} {w : Work} {e' : List ℕ} → Ran j S (work (take (7 * k) l.table) l.positions l.book (take (36 * c) l.triangles)) z m' w e'
      → {x : ℕ} {a : Answer} → a ≡ made_answer x z
      → Grants j S x l (lists (m' ++ drop k l.masks) (w.table ++ drop (7 * k) l.table) w.positions w.book (w.triangles ++ drop (36 * c) l.triangles) (e' ++ drop (108 * c) l.edges)) a
  unfolding masks_of box_of
  grant_leaves {m' = m'} {w} {e'} R {x} e =
      let vs = job_vertices j S in
      let b = job_box j S in
      let n = job_room j S G.fit in
      let em = fronted (masks_of j.sides S j.threshold) l.masks m' k R.masks (ek ∙ sym (each-one-length (sites j.sides) (mask_at j.sides S j.threshold))) in
      let et = fronted _ l.table w.table (7 * k) (ap (λ (y : Work). y.table) R.lists) (ap (λ (y : ℕ). 7 * y) ek ∙ sym (table-length b vs)) in
      let ep = ap (λ (y : Work). y.positions) R.lists
      ∙ front_sets (positions_of (position_at j.frame j.sides S) vs) l.positions (omega (arith, positions_three j.frame j.sides S vs, n.0, G.positions)) in
      let eb = ap (λ (y : Work). y.book) R.lists ∙ front_sets (book_of vs) l.book (omega (arith, book_length vs, n.0, G.book)) in
      let etr = ap (λ (y : Work). y.triangles ++ drop (36 * c) l.triangles) R.lists
      ∙ under (flat (mesh_of b vs)) l.triangles (36 * c) (omega (arith, n.1, ec)) (omega (arith, ec, G.triangles)) in
      let ee = fronted _ l.edges e' (108 * c) R.edges (ap (λ (y : ℕ). 108 * y) ec ∙ sym (length-replicate {A = ℕ} (108 * cells j.sides) 0)) in
      record { answer = e ∙ ap (made_answer x) R.made; after = λ i. lists (em i) (et i) (ep i) (eb i) (etr i) (ee i) }
