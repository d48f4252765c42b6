-- The march over lists: samples by site number and an edge table of seven numbers a site; and some layers of a box, alone. Assumes nothing.
use Rattle.std.specs.Prelude.{List, ℕ, ◌+◌, ◌*◌, get_or, Float}
use Rattle.std.specs.Float.{nan}
use Rattle.samples.specs.Sides.{inside, finite}
use Rattle.lattice.specs.declared.Sides.{Sides}
use Rattle.march.specs.March.{Field, none}

-- the field of a sample list and an edge table, for a threshold; past the table an edge has no vertex
unfoldable pub field_of : Sides → List Float → Float → List ℕ → Field
field_of n s h edges = record {
  box = n;
  finite = λ i. finite (get_or s i nan);
  side = λ i. inside (get_or s i nan) h;
  vertex = λ i l. get_or edges (7 * i + l) none;
}

-- a box of m layers as wide and as deep
abbrev pub deep : Sides → ℕ → Sides
deep n m = record { nu = n.nu; nv = n.nv; nw = m }

-- the m layers of a field from layer w on, alone
unfoldable pub layers : Field → ℕ → ℕ → Field
layers F w m = record {
  box = deep F.box m;
  finite = λ i. F.finite (F.box.nu * F.box.nv * w + i);
  side = λ i. F.side (F.box.nu * F.box.nv * w + i);
  vertex = λ i l. F.vertex (F.box.nu * F.box.nv * w + i) l;
}
