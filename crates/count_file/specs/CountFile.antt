-- The count file (docs/SCOPE.md, S10.1 to S10.3): its header as a list of parts, one of which may be left out, then the samples, each line ended by LF, and nothing
-- after them.
-- Assumes nothing.
use Rattle.std.specs.Prelude.{◌≡◌, List, [], ◌∷◌, ◌++◌, ℕ, ◌*◌, ◌≤◌, get_or, replicate}
use Rattle.lines.specs.Lines.{Field, Dec, Hex, lines, Fine}
use Rattle.lines.specs.Parts.{Part, Must, May, Run, Left, This, parts_text, PartsFine}
use Rattle.count_file.specs.declared.Head.{Head}

-- nu= nv= nw= method= rounds= in decimal
abbrev pub sizes_form : List Field
sizes_form =
    Dec (110 ∷ 117 ∷ 61 ∷ [])  -- nu=
    ∷ Dec (110 ∷ 118 ∷ 61 ∷ [])  -- nv=
    ∷ Dec (110 ∷ 119 ∷ 61 ∷ [])  -- nw=
    ∷ Dec (109 ∷ 101 ∷ 116 ∷ 104 ∷ 111 ∷ 100 ∷ 61 ∷ [])  -- method=
    ∷ Dec (114 ∷ 111 ∷ 117 ∷ 110 ∷ 100 ∷ 115 ∷ 61 ∷ [])  -- rounds=
    ∷ []

-- inside= by its bits
abbrev pub inside_form : List Field
inside_form = Hex (105 ∷ 110 ∷ 115 ∷ 105 ∷ 100 ∷ 101 ∷ 61 ∷ []) ∷ []

-- origin0= origin1= origin2= by their bits
abbrev pub origin_form : List Field
origin_form =
    Hex (111 ∷ 114 ∷ 105 ∷ 103 ∷ 105 ∷ 110 ∷ 48 ∷ 61 ∷ [])  -- origin0=
    ∷ Hex (111 ∷ 114 ∷ 105 ∷ 103 ∷ 105 ∷ 110 ∷ 49 ∷ 61 ∷ [])  -- origin1=
    ∷ Hex (111 ∷ 114 ∷ 105 ∷ 103 ∷ 105 ∷ 110 ∷ 50 ∷ 61 ∷ [])  -- origin2=
    ∷ []

-- step0= step1= step2= by their bits
abbrev pub steps_form : List Field
steps_form =
    Hex (115 ∷ 116 ∷ 101 ∷ 112 ∷ 48 ∷ 61 ∷ [])  -- step0=
    ∷ Hex (115 ∷ 116 ∷ 101 ∷ 112 ∷ 49 ∷ 61 ∷ [])  -- step1=
    ∷ Hex (115 ∷ 116 ∷ 101 ∷ 112 ∷ 50 ∷ 61 ∷ [])  -- step2=
    ∷ []

-- the header: these parts in this order
abbrev pub head_parts : List Part
head_parts = Must sizes_form ∷ May inside_form ∷ Must origin_form ∷ Must steps_form ∷ []

-- the bits of 1.0e-9, which a file without the line inside= means
abbrev pub inside_base : ℕ
inside_base = 0x3E112E0BE826D695

-- what stands for that line says the threshold's bits
pub data Says : Run → ℕ → Type 0 where
  said : (b : ℕ) → Says (This (b ∷ [])) b
  unsaid : Says Left inside_base

-- what stands for each part where the header has the values h, and l stands for the line inside=
abbrev pub head_runs : Run → Head → List Run
head_runs l h = This h.sizes ∷ l ∷ This h.origin ∷ This h.steps ∷ []

abbrev pub head_text : Run → Head → List ℕ
head_text l h = parts_text head_parts (head_runs l h)

-- s=
abbrev pub sample : Field
sample = Hex (115 ∷ 61 ∷ [])

-- the lines of n samples
abbrev pub body_form : ℕ → List Field
body_form n = replicate n sample

-- the number of sites, nu * nv * nw
abbrev pub sites : Head → ℕ
sites h = get_or h.sizes 0 0 * get_or h.sizes 1 0 * get_or h.sizes 2 0

-- the sides are at least 1 and their product at most 216
pub record InSize (h : Head) : Type 0 where
  pub some_u : 1 ≤ get_or h.sizes 0 0
  pub some_v : 1 ≤ get_or h.sizes 1 0
  pub some_w : 1 ≤ get_or h.sizes 2 0
  pub most : sites h ≤ 216

-- the bytes of a file
abbrev pub file_text : Run → Head → List ℕ → List ℕ
file_text l h ss = head_text l h ++ lines (body_form (sites h)) ss

-- s is the file of the header h and the samples ss, one a site
pub record CountFile (s : List ℕ) (h : Head) (ss : List ℕ) : Type 0 where
  pub run : Run
  pub says : Says run h.inside
  pub head : PartsFine head_parts (head_runs run h)
  pub size : InSize h
  pub body : Fine (body_form (sites h)) ss
  pub is : s ≡ file_text run h ss
