-- `site_vertices::ends_of` meets its contract. Assumes nothing.
use native.Mathlib.Omega.{arith}
use mathlib.Core.Path.{refl, ap₂}
use mathlib.Core.List.{◌∷◌}
use Rattle.laws.specs.Ranges.{each}
use Rattle.stages.specs.Samples.{ends_of}
use Rattle.site_vertices.proofs.ends_of.Goals as goal

pub end_at-l-requires : goal.end_at-l-requires
end_at-l-requires c = (c.requires.0, c.requires.1, omega arith)

pub end_at-m-requires : goal.end_at-m-requires
end_at-m-requires c = (c.requires.0, c.requires.1, omega arith)

pub end_at-o-requires : goal.end_at-o-requires
end_at-o-requires c = (c.requires.0, c.requires.1, omega arith)

pub returns : goal.returns
unfolding ends_of each
returns c = (ap₂ ◌∷◌ c.end_at-a.ensures (ap₂ ◌∷◌ c.end_at-b.ensures (ap₂ ◌∷◌ c.end_at-c.ensures (ap₂ ◌∷◌ c.end_at-d.ensures (ap₂ ◌∷◌ c.end_at-e.ensures (ap₂ ◌∷◌ c.end_at-f.ensures (ap₂ ◌∷◌ c.end_at-g.ensures (ap₂ ◌∷◌ c.end_at-h.ensures (ap₂ ◌∷◌ c.end_at-i.ensures (ap₂ ◌∷◌ c.end_at-j.ensures (ap₂ ◌∷◌ c.end_at-k.ensures (ap₂ ◌∷◌ c.end_at-l.ensures (ap₂ ◌∷◌ c.end_at-m.ensures (ap₂ ◌∷◌ c.end_at-o.ensures refl))))))))))))))
