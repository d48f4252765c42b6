-- The marking as its loops do it: edge by edge, each crossed edge sets one bit at one of its ends. Assumes nothing.
use Rattle.std.specs.Prelude.{cond, List, ◌++◌, ℕ, ◌+◌, ◌*◌, ◌-◌, ◌^◌, ◌≤◌, get_or, set, take, drop, length, replicate, Float, Option, None, Some}
use Rattle.std.specs.Int.Bits.{bit_or}
use Rattle.std.specs.Float.Ieee.{lt}
use Rattle.laws.specs.Bools.{bit}
use Rattle.laws.specs.Ranges.{fold, sum}
use Rattle.samples.specs.Sides.{half, crossing}
use Rattle.lattice.specs.declared.Sides.{Sides}
use Rattle.lattice.specs.Sites.{SidesFit, sites}
use Rattle.lattice.specs.Across.{across_of}
use Rattle.marks.specs.Marks.{sample, is_crossed}

unfoldable pub set_bit : List ℕ → ℕ → ℕ → List ℕ
set_bit m at b = set m at (bit_or (get_or m at 0) (2 ^ b))

-- the owned edge l from site s to site t
unfoldable pub mark_crossing : ℕ → ℕ → ℕ → Option Float → List ℕ → List ℕ
mark_crossing s t l None m = m
mark_crossing s t l (Some f) m = cond (lt f half) (set_bit m s l) (set_bit m t (l + 7))

unfoldable pub mark_to : List Float → Float → ℕ → ℕ → Option ℕ → List ℕ → List ℕ
mark_to S h s l None m = m
mark_to S h s l (Some t) m = mark_crossing s t l (crossing (sample S s) (sample S t) h) m

unfoldable pub mark_label : Sides → List Float → Float → ℕ → ℕ → List ℕ → List ℕ
mark_label n S h s l m = mark_to S h s l (across_of n s l) m

unfoldable pub mark_site : Sides → List Float → Float → ℕ → List ℕ → List ℕ
mark_site n S h s = fold (mark_label n S h s) 7

-- the first k sites
unfoldable pub mark_sites : Sides → List Float → Float → ℕ → List ℕ → List ℕ
mark_sites n S h k = fold (mark_site n S h) k

-- the box from layer w on
abbrev pub from_layer : Sides → ℕ → Sides
from_layer n w = record { nu = n.nu; nv = n.nv; nw = n.nw - w }

-- row v of the first layer
unfoldable pub mark_row : Sides → List Float → Float → ℕ → List ℕ → List ℕ
mark_row n S h v = fold (λ u. mark_site n S h (v * n.nu + u)) n.nu

-- the first layer of a box, and the box layer by layer: each is handed what lies from its first site on
unfoldable pub mark_layer : Sides → List Float → Float → List ℕ → List ℕ
mark_layer n S h = mark_sites n S h (n.nu * n.nv)

unfoldable pub layer_turn : Sides → List Float → Float → ℕ → List ℕ → List ℕ
layer_turn n S h w m =
    take (w * (n.nu * n.nv)) m ++ mark_layer (from_layer n w) (drop (w * (n.nu * n.nv)) S) h (drop (w * (n.nu * n.nv)) m)

unfoldable pub mark_layers : Sides → List Float → Float → ℕ → List ℕ → List ℕ
mark_layers n S h = fold (layer_turn n S h)

-- zeros over the first k entries
abbrev pub zeroed : ℕ → List ℕ → List ℕ
zeroed k m = replicate k 0 ++ drop k m

-- ---- the count, in the same order

unfoldable pub cross_site : Sides → List Float → Float → ℕ → ℕ
cross_site n S h s = sum 7 (λ l. bit (is_crossed n S h s l))

unfoldable pub cross_sites : Sides → List Float → Float → ℕ → ℕ
cross_sites n S h k = sum k (cross_site n S h)

unfoldable pub cross_row : Sides → List Float → Float → ℕ → ℕ
cross_row n S h v = sum n.nu (λ u. cross_site n S h (v * n.nu + u))

unfoldable pub cross_layer : Sides → List Float → Float → ℕ
cross_layer n S h = cross_sites n S h (n.nu * n.nv)

pub record Sampled (n : Sides) (S : List Float) : Type 0 where
  pub fit : SidesFit n
  pub samples : sites n ≤ length S

-- what the loops need: the sides fit, and there is a sample and a mask for each site
pub record Room (n : Sides) (S : List Float) (m : List ℕ) : Type 0 where
  pub fit : SidesFit n
  pub samples : sites n ≤ length S
  pub masks : sites n ≤ length m
