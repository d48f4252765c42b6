-- A request is granted exactly if its sizes, its frame and its lists are as the build needs them. Assumes nothing.
use mathlib.Core.Path.{◌≡◌, refl}
use mathlib.Core.Bool.{Bool, true, false, not, cond, ◌&&◌}
use mathlib.Core.List.{List}
use Prim.Native.Nat.{ℕ, suc, ◌*◌, ◌≤◌}
use native.Mathlib.Omega.{arith}
use borrow.Author.Tests.{leb-true, le-leb, eqb-true}
use lib.Dec.{leb, eqb}
use lib.Ieee.{Float}
use lib.ListN.{length}
use Rattle.laws.proofs.Bools.{and-apart}
use Rattle.lattice.specs.declared.Sides.{Sides}
use Rattle.lattice.specs.Sites.{sides_ok, sites, cells}
use Rattle.lattice.proofs.Sites.{sides-fit, fit_sides}
use Rattle.points.specs.declared.Frame.{Frame}
use Rattle.points.specs.Limits.{frame_ok}
use Rattle.refusals.specs.declared.Lengths.{Lengths}
use Rattle.refusals.specs.Refusals.{settings_ok, inside_ok, site_room, vertex_room, cell_room, most, status_of}
use Rattle.refusals.specs.Inner.Granted.{Granted}
use Rattle.refusals.proofs.Status.{not-refused}

-- two bounds tested together
both-le : (a b c d : ℕ) → leb a b && leb c d ≡ true → (a ≤ b) × (c ≤ d)
both-le a b c d e = let p = and-apart (leb a b) (leb c d) e in (leb-true a b p.0, leb-true c d p.1)

le-both : (a b c d : ℕ) → a ≤ b → c ≤ d → leb a b && leb c d ≡ true
le-both a b c d p q = rw (le-leb a b p, le-leb c d q)

-- a test whose number is not 0 has passed where the answer is 0, and the answer is that of the tests after it
past : (b : Bool) (k r : ℕ) → cond (not b) (suc k) r ≡ 0 → (b ≡ true) × (r ≡ 0)
past true k r e = (refl, e)
past false k r e = absurd (omega arith)

settings-low : (method R : ℕ) → settings_ok method R ≡ true → (method ≤ 1) × (R ≤ 4)
unfolding settings_ok
settings-low method R e = both-le method 1 R 4 e

low-settings : (method R : ℕ) → method ≤ 1 → R ≤ 4 → settings_ok method R ≡ true
unfolding settings_ok
low-settings method R p q = le-both method 1 R 4 p q

site_long : (k : ℕ) (L : Lengths) → site_room k L ≡ true → (k ≤ L.masks) × (7 * k ≤ L.table)
unfolding site_room
site_long k L e = both-le k L.masks (7 * k) L.table e

long_site : (k : ℕ) (L : Lengths) → k ≤ L.masks → 7 * k ≤ L.table → site_room k L ≡ true
unfolding site_room
long_site k L p q = le-both k L.masks (7 * k) L.table p q

vertex_long : (x : ℕ) (L : Lengths) → vertex_room x L ≡ true → (3 * x ≤ L.vertices) × (4 * x ≤ L.book)
unfolding vertex_room
vertex_long x L e = both-le (3 * x) L.vertices (4 * x) L.book e

long_vertex : (x : ℕ) (L : Lengths) → 3 * x ≤ L.vertices → 4 * x ≤ L.book → vertex_room x L ≡ true
unfolding vertex_room
long_vertex x L p q = le-both (3 * x) L.vertices (4 * x) L.book p q

cell_long : (k : ℕ) (L : Lengths) → cell_room k L ≡ true → (36 * k ≤ L.triangles) × (108 * k ≤ L.edges)
unfolding cell_room
cell_long k L e = both-le (36 * k) L.triangles (108 * k) L.edges e

long_cell : (k : ℕ) (L : Lengths) → 36 * k ≤ L.triangles → 108 * k ≤ L.edges → cell_room k L ≡ true
unfolding cell_room
long_cell k L p q = le-both (36 * k) L.triangles (108 * k) L.edges p q

module _ (n : Sides) (method R : ℕ) (f : Frame) (S : List Float) (L : Lengths) (h : Float) where
  -- what a build may rely on
  pub granted : status_of n method R f S L h ≡ 0 → Granted n method R f S L h
  unfolding status_of
  granted e =
      let p = past (settings_ok method R) 0 _ e in
      let q = past (sides_ok n) 1 _ p.1 in
      let r = past (eqb (length S) (sites n)) 2 _ q.1 in
      let s = past (frame_ok f) 3 _ r.1 in
      let i = past (inside_ok h) 13 _ s.1 in
      let t = past (site_room (sites n) L) 4 _ i.1 in
      let u = past (vertex_room (most n S h) L) 5 _ t.1 in
      let v = past (cell_room (cells n) L) 6 _ u.1 in
      let a = settings-low method R p.0 in
      let b = site_long (sites n) L t.0 in
      let c = vertex_long (most n S h) L u.0 in
      let d = cell_long (cells n) L v.0 in
      record {
        fit = sides-fit n q.0;
        method_low = a.0;
        rounds_low = a.1;
        samples = eqb-true (length S) (sites n) r.0;
        frame = s.0;
        threshold = i.0;
        masks = b.0;
        table = b.1;
        vertices = c.0;
        book = c.1;
        triangles = d.0;
        edges = d.1;
      }

  -- and nothing that fits is refused
  pub granted_back : Granted n method R f S L h → status_of n method R f S L h ≡ 0
  granted_back g =
      not-refused n method R f S L h
      (record {
        sized = record { settings = low-settings method R g.method_low g.rounds_low; sides = fit_sides n g.fit; samples = g.samples };
        frame = g.frame;
        threshold = g.threshold;
        room = long_site (sites n) L g.masks g.table;
      })
      (long_vertex (most n S h) L g.vertices g.book)
      (long_cell (cells n) L g.triangles g.edges)
