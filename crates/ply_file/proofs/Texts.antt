-- The ways out of `ply_text`, over what `build_file` promises; what is written is determined by the input. Assumes nothing.
use mathlib.Core.Path.{◌≡◌, ap}
use mathlib.Core.List.{List}
use Prim.Native.Nat.{ℕ, ◌*◌, ◌≤◌}
use native.Mathlib.Omega.{arith}
use lib.ListN.{length, take}
use Rattle.laws.specs.Written.{Written}
use Rattle.stages.specs.Meshes.{mesh_of}
use Rattle.lines.specs.Status.{refusal_text}
use Rattle.lines.proofs.Printing.{refusal-length}
use Rattle.build.specs.Answer.{order_box, order_vertices, Lists, lengths_of}
use Rattle.file_build.specs.declared.Built.{Built}
use Rattle.file_build.specs.Asked.{work_space, BuiltOf}
use Rattle.file_build.proofs.Told.{told_unique, told-at_unique, told_at, Meant, meant, told-refused}
use Rattle.std.specs.Prelude.{Result, Ok, IsOk}
use Rattle.std.specs.Result.{is_ok}
use Rattle.ply_write.specs.declared.Refusal.{Refusal}
use Rattle.ply_write.specs.Answers.{bits_of, WriteOf}
use Rattle.ply_file.specs.Text.{ply_of, Drawn, DrawnAt}
use Rattle.ply_file.proofs.Meshes.{text-refused, done-short, mesh_written}

module _ (s : List ℕ) (l l' : Lists) (r : Built) (w : lengths_of l ≡ work_space) (b : BuiltOf s l l' r) where
  pub drawn_refused : (r.answer.status ≡ 0 → ⊥) → (m m' : List ℕ) (k : ℕ) → length m ≡ 88316 → Written m 0 (refusal_text r.answer.status) m' k → DrawnAt s m m' k
  drawn_refused z m m' k h p = told_at (told-refused ply_of s l l' r w text-refused b z) p (omega (arith, refusal-length r.answer.status))

  module _ (z : r.answer.status ≡ 0) where
    pub mesh : Meant ply_of s l' r.answer
    mesh = meant ply_of s l l' r w b z

    module _ (m m' : List ℕ) (k : Result ℕ Refusal) (h : length m ≡ 88316) (d : WriteOf (bits_of (take (r.answer.vertices * 3) l'.positions)) (take (r.answer.triangles * 3) l'.triangles) m m' k) where
      few_v : length (order_vertices mesh.order) ≤ 2268
      few_v = omega (arith, mesh.vertices, mesh.few_vertices)

      few_t : length (mesh_of (order_box mesh.order) (order_vertices mesh.order)) ≤ 2592
      few_t = omega (arith, mesh.triangles, mesh.few_triangles)

      whole : (n : ℕ) × (k ≡ Ok n) × Written m 0 (ply_of mesh.order) m' n
      whole = mesh_written mesh.order mesh.granted few_v few_t m m' k (omega arith) (rw (mesh.is_positions, mesh.is_triangles) at d)

      pub drawn_whole : IsOk k
      drawn_whole = ap is_ok whole.1

      pub drawn_done : (n : ℕ) → k ≡ Ok n → DrawnAt s m m' n
      drawn_done n e =
          let x = whole.1 in
          let i : whole.0 ≡ n = cc in
          told_at mesh.told (rw i at whole.2) (omega (arith, done-short mesh.order mesh.granted few_v few_t))

-- ---- ANY TWO CONFORMING ANSWERS ARE EQUAL

pub drawn_unique : {s t u : List ℕ} → Drawn s t → Drawn s u → t ≡ u
drawn_unique a b = told_unique a b

pub drawn_at_unique : {s l l' l'' : List ℕ} {r q : ℕ} → DrawnAt s l l' r → DrawnAt s l l'' q → (l' ≡ l'') × (r ≡ q)
drawn_at_unique a b = told-at_unique a b
