-- The premises of demand 3 can be met, all together and by real samples: the box of docs/SCOPE.md, S10.6, computed from its samples. Assumes nothing.
use mathlib.Core.Path.{◌≡◌, refl, ◌∙◌}
use mathlib.Core.Bool.{Bool, true, false, not, cond}
use mathlib.Core.List.{List, [], ◌∷◌, ◌++◌}
use Prim.Native.Nat.{ℕ, ◌+◌, ◌*◌}
use lib.Dec.{T}
use lib.Ieee.{Float, binary64, le, of_bits}
use lib.ListN.{get_or, replicate, take}
use Rattle.laws.specs.Ranges.{all, sum}
use Rattle.laws.specs.Lists.{count}
use Rattle.laws.specs.Triangles.{tris_of}
use Rattle.laws.proofs.Bools.{T_true}
use Rattle.laws.proofs.Ranges.{all-at, all_at2}
use Rattle.samples.specs.Sides.{base, inside, finite}
use Rattle.lattice.specs.declared.Sides.{Sides}
use Rattle.lattice.specs.Sites.{side_ok, sides_ok, cells, site_of, at_end, on_border}
use Rattle.lattice.proofs.OtherEnds.{box_in}
use Rattle.marks.specs.Marks.{sample, crossed_count}
use Rattle.march.specs.Runs.{runs}
use Rattle.points.specs.Limits.{origin_ok, step_ok, origins_ok, steps_ok, frame_ok}
use Rattle.refusals.specs.Refusals.{settings_ok, inside_ok, site_room, vertex_room, cell_room, most, status_of}
use Rattle.topology.specs.Topology.{case_number}
use Rattle.stages.specs.Samples.{AllFinite, is_case, case_count}
use Rattle.stages.proofs.Examples.{stages_key, words, frame}
use Rattle.build.specs.Answer.{Order, Lists, order, order_box, order_vertices, order_cases, done_answer, refused_answer, answer_of, counts_of, lists, lengths_of, lists_after}
use Rattle.build_balance.specs.Border.{OneSide}
use Rattle.build_balance.specs.Left.{Left}
use Rattle.build_balance.proofs.Left.{left-held, left-runs}

-- 3 x 3 x 3, every sample 1.0 but the fourteenth, which is -1.0; origin 0, step 1, method 1, at most four rounds
abbrev one : ℕ
one = 0x3FF0000000000000

abbrev samples : List Float
samples = words (replicate 13 one ++ (0xBFF0000000000000 ∷ replicate 13 one))

abbrev three : Sides
three = record { nu = 3; nv = 3; nw = 3 }

-- lists just long enough, of zeros
abbrev lent : Lists
lent = lists (replicate 27 0) (replicate 189 0) (replicate 63 (of_bits binary64 0)) (replicate 84 0) (replicate 288 0) (replicate 864 0)

abbrev asked : Order
asked = order three 1 4 base (frame 0 0 0 one one one) samples (lengths_of lent)

-- ---- the premises

pub box-left : Left asked lent (lists_after asked lent) (answer_of asked)
unfolding stages_key le origin_ok step_ok origins_ok steps_ok frame_ok side_ok sides_ok cells settings_ok inside_ok site_room vertex_room cell_room most status_of
box-left = record { granted = refl; built = record { answer = refl; after = refl } }

pub box-finite : AllFinite three samples
unfolding stages_key AllFinite all
box-finite s h = T_true (finite (sample samples s)) (all-at 27 (λ s. finite (sample samples s)) tt s h)

-- at each site of the border: outside
border_out : ℕ → ℕ → ℕ → Bool
border_out u v w = cond (on_border three u v w) (not (inside (sample samples (site_of three u v w)) base)) true

out_all : T (all 3 (λ w. all 3 (λ v. all 3 (λ u. border_out u v w))))
unfolding stages_key on_border at_end all border_out
out_all = tt

pub box-outside : OneSide three samples base false
unfolding OneSide border_out
box-outside u v w i o =
    let b = box_in three u v w i in
    let t : T (border_out u v w) = all-at 3 (λ u. border_out u v w) (all_at2 3 3 (λ w v. all 3 (λ u. border_out u v w)) out_all w v b.on_w b.on_v) u b.on_u in
    go (inside (sample samples (site_of three u v w)) base) (rw o at t)
  where
    go : (c : Bool) → T (not c) → c ≡ false
    go true t = absurd t
    go false t = refl

-- ---- what follows of it: the fourteen crossed edges are held, and the triangles run each pair both ways

crossings : crossed_count three samples base ≡ 14
unfolding stages_key
crossings = refl

pub box-held : sum (answer_of asked).vertices (λ i. get_or (lists_after asked lent).book (4 * i + 1) 0) ≡ 14
box-held = left-held asked lent (lists_after asked lent) (answer_of asked) box-left box-finite ∙ crossings

pub box-runs : (p q : ℕ)
    → count (runs p q) (tris_of (take (3 * (answer_of asked).triangles) (lists_after asked lent).triangles))
    ≡ count (runs q p) (tris_of (take (3 * (answer_of asked).triangles) (lists_after asked lent).triangles))
box-runs = left-runs asked lent (lists_after asked lent) (answer_of asked) box-left box-finite false box-outside

-- the counts that are printed: there is something to run
pub box-counts : counts_of (answer_of asked) ≡ 14 ∷ 8 ∷ 12 ∷ 0 ∷ 0 ∷ 0 ∷ 0 ∷ 8 ∷ 0 ∷ 0 ∷ []
unfolding stages_key le origin_ok step_ok origins_ok steps_ok frame_ok side_ok sides_ok cells settings_ok inside_ok site_room vertex_room cell_room most status_of case_number is_case case_count
    order_box order_vertices order_cases done_answer refused_answer answer_of counts_of
box-counts = refl
