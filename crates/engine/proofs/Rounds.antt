-- One round: what its flags say of the vertices that stand in the lists, and what it leaves. Assumes nothing.
use Rattle.std.specs.Prelude.{None, Some}
use mathlib.Core.Path.{◌≡◌, refl, sym, ap, subst, ◌∙◌}
use mathlib.Core.Bool.{Bool, true, false}
use mathlib.Core.List.{List, [], ◌∷◌}
use Prim.Native.Nat.{ℕ, ◌+◌, ◌*◌, ◌-◌, ◌/◌, ◌≤◌, ◌<◌}
use native.Mathlib.Omega.{arith}
use lib.Dec.{eqb}
use lib.ListN.{length, get_or, take, drop, length-drop}
use lib.Seq.{sets}
use lib.Ieee.{Float}
use Rattle.laws.specs.Ranges.{any}
use Rattle.laws.specs.Written.{Written}
use Rattle.laws.specs.Triangles.{flat}
use Rattle.laws.proofs.Bools.{bit-one}
use Rattle.laws.proofs.Ranges.{any-one}
use Rattle.laws.proofs.Tails.{tail_is, tail_at}
use Rattle.laws.proofs.Written.{front_take}
use Rattle.laws.proofs.Triangles.{flat-length}
use Rattle.lattice.specs.Sites.{SidesFit, sites, cells}
use Rattle.march.specs.March.{march}
use Rattle.march.specs.Lists as lists
use Rattle.stages.specs.Meshes.{book_of, mesh_of}
use Rattle.stages.specs.Rounds.{is_in, owners}
use Rattle.stages.specs.Samples.{box_of}
use Rattle.stages.specs.Stages.{again}
use Rattle.crowded.specs.Inner.Flags.{Flaggable, OwnersFit, OwnersUnder, fitting, owner_in, side_flags, with_flags}
use Rattle.crowded.proofs.Meshes.{mesh_flaggable, sites-cells}
use Rattle.crowded.proofs.Meaning.{fits_under, flag_read, sides-length}
use Rattle.crowded.proofs.Rollback.{flagged-owner, owners-flags, owners_quiet, stage_owners-fit, stage_owners-under, stage_sites}
use Rattle.site_vertices.specs.Inner.Appending.{Space}
use Rattle.rollback.specs.Inner.Rolling.{Ready, Rolled, Rolling}
use Rattle.engine.specs.declared.Job.{Job}
use Rattle.engine.specs.declared.Stand.{Stand}
use Rattle.engine.specs.Engine.{Work, job_box}
use Rattle.engine.specs.Inner.Standing.{Lent, Roomy, Stood, Turned}
use Rattle.engine.proofs.Standing.{mesh_room, stage_space, stands}

module _ {j : Job} {S : List Float} {at : Stand} {m : List ℕ} {w : Work} {room : List ℕ} (R : Roomy j S m w room) (x : Stood j S at w) {c : ℕ} (ec : c ≡ cells j.sides) where
  L : Lent j S m w
  L = R.lists

  fit : SidesFit j.sides
  fit = L.masked.sampled.fit

  space : Space w.positions w.book (length x.vertices)
  space = stage_space j S fit w.positions w.book x.stage L.positions L.book

  wide : length (flat (mesh_of (job_box j S) x.vertices)) ≤ length w.triangles
  wide = mesh_room j S fit x.vertices w.triangles (omega (arith, L.triangles))

  count : 3 * at.triangles ≡ length (flat (mesh_of (job_box j S) x.vertices))
  count = omega (arith, x.stands.triangles, flat-length (mesh_of (job_box j S) x.vertices))

  pub round_low : 3 * at.triangles ≤ length w.triangles
  round_low = omega (arith, count, wide)

  -- the triangles that are shown
  shown : take (3 * at.triangles) w.triangles ≡ flat (mesh_of (job_box j S) x.vertices)
  shown = front_take (flat (mesh_of (job_box j S) x.vertices)) w.triangles w.triangles (3 * at.triangles) x.stands.mesh wide count

  book_is : w.book ≡ sets w.book 0 (book_of x.vertices)
  book_is = x.stands.lists.book

  rows : 4 * length x.vertices ≤ length w.book
  rows = space.book

  pub round_flaggable : Flaggable (take (3 * at.triangles) w.triangles) room (36 * c)
  unfolding box_of
  round_flaggable =
      rw (shown, ec) (mesh_flaggable (job_box j S) x.vertices room fit (omega (arith, R.edges)))

  fits : OwnersFit (flat (mesh_of (job_box j S) x.vertices)) (sets w.book 0 (book_of x.vertices)) room (36 * cells j.sides)
  unfolding box_of
  fits = stage_owners-fit (job_box j S) x.vertices w.book room rows x.stage (omega (arith, R.edges))

  pub round_fits : OwnersFit (take (3 * at.triangles) w.triangles) w.book room (36 * c)
  round_fits =
      subst (λ (y : List ℕ × List ℕ × ℕ). OwnersFit y.0 y.1 room (36 * y.2)) (λ i. (sym shown i, sym book_is i, sym ec i)) fits

  many : length w.table / 7 ≡ sites j.sides
  many = omega (arith, L.table)

  under : OwnersUnder (flat (mesh_of (job_box j S) x.vertices)) (sets w.book 0 (book_of x.vertices)) (sites j.sides)
  unfolding box_of
  under = stage_owners-under (job_box j S) x.vertices w.book room rows x.stage

  pub round_under : OwnersUnder (take (3 * at.triangles) w.triangles) w.book (length w.table / 7)
  round_under =
      subst (λ (y : List ℕ × List ℕ × ℕ). OwnersUnder y.0 y.1 y.2) (λ i. (sym shown i, sym book_is i, sym many i)) under

  -- the test of a site
  asked : (s : ℕ) → owner_in (take (3 * at.triangles) w.triangles) w.book s ≡ owner_in (flat (mesh_of (job_box j S) x.vertices)) (sets w.book 0 (book_of x.vertices)) s
  asked s = λ i. owner_in (shown i) (book_is i) s

  module _ (r : Bool) (er : r ≡ any (fitting (length w.table / 7) (36 * c) room) (owner_in (take (3 * at.triangles) w.triangles) w.book)) where
    found : r ≡ any (fitting (sites j.sides) (36 * cells j.sides) room) (owner_in (flat (mesh_of (job_box j S) x.vertices)) (sets w.book 0 (book_of x.vertices)))
    found = er ∙ (λ i. any (fitting (many i) (36 * ec i) room) (owner_in (shown i) (book_is i)))

    -- NO OWNER
    pub round_quiet : r ≡ false → owners (job_box j S) x.vertices ≡ []
    round_quiet z = owners_quiet (job_box j S) x.vertices w.book room rows (fitting (sites j.sides) (36 * cells j.sides) room)
        (λ i l. fits_under (sites j.sides) (36 * cells j.sides) room _ (under i l) (fits i l).1) (sym found ∙ z)

    -- SOME OWNER
    pub round_some : r ≡ true → (s : ℕ) × (os : List ℕ) × (owners (job_box j S) x.vertices ≡ s ∷ os)
    round_some z =
        flagged-owner (job_box j S) x.vertices w.book rows (stage_sites (job_box j S) x.stage) (fitting (sites j.sides) (36 * cells j.sides) room) (sym found ∙ z)

    cells-some : r ≡ true → 0 < cells j.sides
    cells-some z =
        let o = any-one (fitting (sites j.sides) (36 * cells j.sides) room) _ (sym found ∙ z) in
        let l : o.0 < fitting (sites j.sides) (36 * cells j.sides) room = o.1 in
        omega (arith, R.edges, l)

    module _ (some : r ≡ true) (room' fl : List ℕ) (e : room' ≡ with_flags (side_flags (take (3 * at.triangles) w.triangles) at.vertices room) (36 * c) (fitting (length w.table / 7) (36 * c) room) (owner_in (take (3 * at.triangles) w.triangles) w.book))
        (long : length room' ≡ length room) (efl : fl ≡ take (length room' - 36 * c) (drop (36 * c) room')) where
      tail : fl ≡ drop (36 * c) room'
      tail = efl ∙ tail_is (36 * c) room'

      flags_long : sites j.sides ≤ length fl
      flags_long =
          omega (arith, ap length tail, length-drop (36 * c) room', long, R.edges, ec, sites-cells j.sides (cells-some some), cells-some some)

      flags_are : (s : ℕ) → s < sites j.sides → eqb (get_or fl s 0) 1 ≡ is_in (owners (job_box j S) x.vertices) s
      unfolding box_of
      flags_are s l =
          let q : 36 * c + s - 36 * c ≡ s = omega arith in
          ap (λ (y : List ℕ). eqb (get_or y s 0) 1) tail
          ∙ ap (λ (y : ℕ). eqb (get_or (drop (36 * c) room') y 0) 1) (sym q)
          ∙ ap (λ (y : ℕ). eqb y 1) (tail_at 0 (36 * c) room' (36 * c + s) (omega arith) ∙ ap (λ (y : List ℕ). get_or y (36 * c + s) 0) e
          ∙ flag_read (side_flags (take (3 * at.triangles) w.triangles) at.vertices room) (36 * c) (fitting (length w.table / 7) (36 * c) room)
          (omega (arith, round_flaggable.within, sides-length (take (3 * at.triangles) w.triangles) room (36 * c) round_flaggable at.vertices))
          (owner_in (take (3 * at.triangles) w.triangles) w.book) s
          (fits_under (length w.table / 7) (36 * c) room s (omega (arith, l, many)) (omega (arith, l, R.edges, ec, sites-cells j.sides (cells-some some), cells-some some))))
          ∙ bit-one (owner_in (take (3 * at.triangles) w.triangles) w.book s) ∙ asked s
          ∙ sym (owners-flags (job_box j S) x.vertices w.book rows s l)

      -- WHAT THE ROLLBACK ASKS
      pub round_rolling : (round : ℕ) → Rolling j.frame j.sides S j.threshold j.cluster x.vertices m w.table w.positions w.book fl at.vertices round
      round_rolling round = record {
        sampled = L.masked.sampled;
        stage = x.stage;
        lists = x.stands.lists;
        masks = L.masked.long;
        marks = L.masked.are;
        flagged = flags_long;
        owned = flags_are;
        space = stage_space j S fit w.positions w.book (again round x.stage) L.positions L.book;
      }

      pub round_ready : (round : ℕ) → Ready j.frame j.sides S m w.table w.positions w.book fl at.vertices round
      round_ready round = record { h = j.threshold; cluster = j.cluster; vs = x.vertices; rolling = round_rolling round }

      -- WHAT THE ROUND LEAVES
      pub round_turned : (round v f : ℕ) (w' : Work) → Rolled j.frame j.sides S m w.table w.positions w.book fl at.vertices round v w'.table w'.positions w'.book
          → Written w.triangles 0 (flat (march (lists.field_of j.sides S j.threshold w'.table))) w'.triangles (3 * f)
          → Turned j S at w x round (Some (record { vertices = v; triangles = f })) w'
      round_turned round v f w' o y = record {
        none = tt;
        same = tt;
        some = round_some some;
        stands = stands (record { vertices = v; triangles = f }) (o.lists j.threshold j.cluster x.vertices (round_rolling round)) y;
      }

    -- WITHOUT AN OWNER NOTHING IS CHANGED
    pub round_still : r ≡ false → (round : ℕ) → Turned j S at w x round None w
    round_still z round = record { none = round_quiet z; same = refl; some = tt; stands = tt }
