-- Laws of files of the kind: the bytes say the lists, the lists the bytes; a file has a header; what its body is; how long it is. Assumes nothing.
use mathlib.Core.Path.{◌≡◌, refl, sym, ap, ap₂, ◌∙◌}
use mathlib.Core.List.{List, ◌++◌}
use Prim.Native.Nat.{ℕ, ◌<◌}
use native.Mathlib.Omega.{arith}
use lib.ListN.{length, drop, get_or}
use lib.Seq.{drop_at}
use Rattle.ply_write.specs.Form.{head_text, words_text, faces_text, ply_text, count_of, PlyFile, OfKind, Headed}
use Rattle.ply.specs.Inner.Parts.{HeaderAt, Body}
use Rattle.ply.specs.Answers.{counted, counts_of}
use Rattle.ply.proofs.Heads.{header_headed}
use Rattle.ply.proofs.Reading.{words_are, faces_are, file_full, file-faces, file-found}

-- ---- a file and its lists

pub file_header : (s ws ts : List ℕ) → PlyFile s ws ts → HeaderAt s (count_of ws) (count_of ts) (length (head_text (count_of ws) (count_of ts)))
unfolding ply_text
file_header s ws ts p =
    let h = head_text (count_of ws) (count_of ts) in
    let d : drop (length h) s ≡ words_text ws ++ faces_text ts = ap (drop (length h)) p.is ∙ drop_at h (words_text ws ++ faces_text ts) (length h) refl in
    record { small_v = p.fit.vertices; small_f = p.fit.faces; here = p.is ∙ ap (λ (r : List ℕ). h ++ r) (sym d); past = refl }

-- THE BYTES SAY THE LISTS
pub file_unique : (s ws ts vs rs : List ℕ) → PlyFile s ws ts → PlyFile s vs rs → (ws ≡ vs) × (ts ≡ rs)
file_unique s ws ts vs rs p q =
    let h = file_header s ws ts p in
    let v = count_of ws in
    let f = count_of ts in
    let at = length (head_text v f) in
    (sym (words_are s v f at h ws ts p) ∙ words_are s v f at h vs rs q, sym (faces_are s v f at h ws ts p) ∙ faces_are s v f at h vs rs q)

-- THE LISTS SAY THE BYTES
pub file-same : (s t ws ts : List ℕ) → PlyFile s ws ts → PlyFile t ws ts → s ≡ t
file-same s t ws ts p q = p.is ∙ sym q.is

module _ {s : List ℕ} (j k : OfKind s) where
  pub kind_words : j.words ≡ k.words
  kind_words = (file_unique s j.words j.triangles k.words k.triangles j.file k.file).0

  pub kind_triangles : j.triangles ≡ k.triangles
  kind_triangles = (file_unique s j.words j.triangles k.words k.triangles j.file k.file).1

  pub kind_counts : counts_of j ≡ counts_of k
  kind_counts = ap₂ (λ (x y : List ℕ). counted (count_of x) (count_of y)) kind_words kind_triangles

-- ---- a file and its header

pub kind_headed : {s : List ℕ} → OfKind s → Headed s
kind_headed {s} k = header_headed s (count_of k.words) (count_of k.triangles) _ (file_header s k.words k.triangles k.file)

-- A FILE WITH A HEADER OF THE KIND IS OF THE KIND EXACTLY IF ITS BODY IS NEITHER TOO SHORT NOR TOO LONG AND ALL ITS FACES ARE OF THREE INDICES BELOW V
module _ (s : List ℕ) (v f next : ℕ) (h : HeaderAt s v f next) where
  pub kind_body : OfKind s → Body s v f next
  kind_body k = record { full = file_full s v f next h k.words k.triangles k.file; faces = file-faces s v f next h k.words k.triangles k.file }

  pub body_kind : ((i : ℕ) → get_or s i 0 < 256) → Body s v f next → OfKind s
  body_kind b p =
      let w = file-found s v f next h (omega (arith, p.full)) b p.faces in
      record { words = _; triangles = _; file = w.file }
