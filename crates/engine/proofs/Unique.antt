-- What the engine promises determines its answer and every entry of the lists. Assumes nothing.
use mathlib.Core.Path.{◌≡◌, sym, ◌∙◌}
use mathlib.Core.List.{List}
use Prim.Native.Nat.{ℕ}
use lib.Ieee.{Float}
use Rattle.vertex_pass.specs.Inner.Passing.{cases_to}
use Rattle.engine.specs.declared.Job.{Job}
use Rattle.engine.specs.declared.Made.{Made}
use Rattle.engine.specs.Engine.{Work, work, work_of, job_vertices, job_made, Ran}
use Rattle.engine.specs.Inner.Standing.{Finished}

module _ (j : Job) (S : List Float) {l : Work} where
  -- ANY TWO CONFORMING ANSWERS ARE EQUAL
  pub ran_unique : {y z : Made} {m₁ m₂ : List ℕ} {l₁ l₂ : Work} {e₁ e₂ : List ℕ} → Ran j S l y m₁ l₁ e₁ → Ran j S l z m₂ l₂ e₂
      → (y ≡ z) × (m₁ ≡ m₂) × (l₁ ≡ l₂) × (e₁ ≡ e₂)
  ran_unique a b = (a.made ∙ sym b.made, a.masks ∙ sym b.masks, a.lists ∙ sym b.lists, a.edges ∙ sym b.edges)

  module _ {z : Made} {l' : Work} (F : Finished j S l z l') where
    -- what is finished is what the promise says
    pub finished_made : z ≡ job_made j S
    unfolding cases_to
    finished_made = λ i. record {
      stand = record { vertices = F.stands.lists.next i; triangles = F.stands.triangles i };
      split = F.is_split i;
      rounds = F.is_rounds i;
      cases = F.is_cases i;
    }

    pub finished_lists : l' ≡ work_of j S (job_vertices j S) l
    finished_lists = λ i. work (F.stands.lists.table i) (F.stands.lists.positions i) (F.stands.lists.book i) (F.stands.mesh i)
