-- The promise of each function that is linked determines its answer and every entry of every list. Assumes nothing.
use mathlib.Core.Path.{◌≡◌, sym, ap, ◌∙◌}
use mathlib.Core.List.{List, [], ◌∷◌}
use Prim.Native.Nat.{ℕ}
use lib.IntN.{ℤ}
use lib.Ieee.{Float}
use Rattle.build.specs.declared.Answer.{Answer}
use Rattle.build.specs.Answer.{Lists, counts_of}
use Rattle.build.proofs.Unique.{build_unique}
use Rattle.ply_write.proofs.Promises.{write_unique}
use Rattle.ply.proofs.Promises.{sizes_unique, read_unique}
use Rattle.api.specs.Calls.{CallOf, TopologyTold}
use Rattle.api.specs.Files.{write_status, write_length, read_status, read_counts, PlyWritten, PlySized, PlyRead}
use Rattle.api.specs.Volumes.{VolumeTold}

-- ANY TWO CONFORMING ANSWERS ARE EQUAL: that of `spoonthicket_build`
pub call_unique : {nu nv nw method R : ℕ} {h : Float} {f S : List Float} {l l₁ l₂ : Lists} {r q : ℕ} {c d : List ℕ} → CallOf nu nv nw method R h f S l l₁ r c
    → CallOf nu nv nw method R h f S l l₂ q d → (l₁ ≡ l₂) × (r ≡ q) × (c ≡ d)
call_unique a b =
    let u = build_unique a.is b.is in
    (u.1, a.status ∙ ap (λ (z : Answer). z.status) u.0 ∙ sym b.status, a.counts ∙ ap counts_of u.0 ∙ sym b.counts)

-- that of `spoonthicket_topology`; that of `spoonthicket_sort` is `sort_unique` of sort
pub topology_unique : {mask method : ℕ} {h : Float} {ends : List Float} {r q : ℕ} {c d v w : List ℕ} → TopologyTold mask method h ends r c v
    → TopologyTold mask method h ends q d w → (r ≡ q) × (c ≡ d) × (v ≡ w)
topology_unique a b = (a.case ∙ sym b.case, a.clusters ∙ sym b.clusters, a.visits ∙ sym b.visits)

-- those of the functions on PLY files
pub ply_written_unique : {ws ts l x y n m : List ℕ} {r q : ℕ} → PlyWritten ws ts l x r n → PlyWritten ws ts l y q m → (x ≡ y) × (r ≡ q) × (n ≡ m)
ply_written_unique a b =
    let u = write_unique a.is b.is in
    (u.0, a.status ∙ ap write_status u.1 ∙ sym b.status, a.length ∙ ap (λ w. write_length w ∷ []) u.1 ∙ sym b.length)

pub ply_sized_unique : {s n m : List ℕ} {r q : ℕ} → PlySized s r n → PlySized s q m → (r ≡ q) × (n ≡ m)
ply_sized_unique a b =
    let u = sizes_unique a.is b.is in
    (a.status ∙ ap read_status u ∙ sym b.status, a.numbers ∙ ap read_counts u ∙ sym b.numbers)

pub ply_read_unique : {s l m x y x' y' n k : List ℕ} {r q : ℕ} → PlyRead s l m x y r n → PlyRead s l m x' y' q k → (x ≡ x') × (y ≡ y') × (r ≡ q) × (n ≡ k)
ply_read_unique a b =
    let u = read_unique a.is b.is in
    (u.0, u.1, a.status ∙ ap read_status u.2 ∙ sym b.status, a.numbers ∙ ap read_counts u.2 ∙ sym b.numbers)

-- that of the volume
pub volume_told_unique : {P : List Float} {T : List ℕ} {s : Float} {o n m : List ℤ} {r q : ℕ} → VolumeTold P T s o r n → VolumeTold P T s o q m → (r ≡ q) × (n ≡ m)
volume_told_unique a b = (a.status ∙ sym b.status, a.six ∙ sym b.six)
