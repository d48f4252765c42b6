-- A header as a list of parts, each a run of lines: one that must be there, one that may be left out, one of two. Assumes nothing.
use Rattle.std.specs.Prelude.{List, [], ◌∷◌, ◌++◌, ℕ}
use Rattle.lines.specs.Lines.{Field, lines, Fine}

pub data Part : Type 0 where
  Must May : List Field → Part
  One : List Field → List Field → Part

-- what stands for a part: nothing, the numbers of its run, those of the other run
pub data Run : Type 0 where
  Left : Run
  This That : List ℕ → Run

unfoldable pub part_text : Part → Run → List ℕ
part_text (Must fs) Left = []
part_text (Must fs) (This vs) = lines fs vs
part_text (Must fs) (That vs) = []
part_text (May fs) Left = []
part_text (May fs) (This vs) = lines fs vs
part_text (May fs) (That vs) = []
part_text (One fs gs) Left = []
part_text (One fs gs) (This vs) = lines fs vs
part_text (One fs gs) (That vs) = lines gs vs

-- one part after the other
unfoldable pub parts_text : List Part → List Run → List ℕ
parts_text [] vs = []
parts_text (p ∷ ps) [] = []
parts_text (p ∷ ps) (v ∷ vs) = part_text p v ++ parts_text ps vs

-- what may stand for them
pub data PartsFine : List Part → List Run → Type 0 where
  done : PartsFine [] []
  must : {fs : List Field} {ps : List Part} {vs : List ℕ} {rs : List Run} → Fine fs vs → PartsFine ps rs → PartsFine (Must fs ∷ ps) (This vs ∷ rs)
  given : {fs : List Field} {ps : List Part} {vs : List ℕ} {rs : List Run} → Fine fs vs → PartsFine ps rs → PartsFine (May fs ∷ ps) (This vs ∷ rs)
  left : {fs : List Field} {ps : List Part} {rs : List Run} → PartsFine ps rs → PartsFine (May fs ∷ ps) (Left ∷ rs)
  this : {fs gs : List Field} {ps : List Part} {vs : List ℕ} {rs : List Run} → Fine fs vs → PartsFine ps rs → PartsFine (One fs gs ∷ ps) (This vs ∷ rs)
  that : {fs gs : List Field} {ps : List Part} {vs : List ℕ} {rs : List Run} → Fine gs vs → PartsFine ps rs → PartsFine (One fs gs ∷ ps) (That vs ∷ rs)
