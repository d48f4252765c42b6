-- `ply_again::again_text` meets its contract. Assumes nothing.
use mathlib.Core.Path.{refl}
use lib.ListN.{length-replicate}
use Prim.Native.Nat.{ℕ}
use Rattle.ply_again.proofs.Again.{is_nine, not-nine, not-good, again_nine, again_long, again_ten, is_read, is_written, again-done}
use Rattle.ply_again.proofs.again_text.Goals as goal

pub returns-then-eq : goal.returns-then-eq
returns-then-eq c = again_nine _ _ c.sizes-sizes.ensures (is_nine _ _ _ refl refl c.if-eq.ensures) _ _ _ c.told-out c.put_status.ensures

pub returns-then-file-gt131072 : goal.returns-then-file-gt131072
returns-then-file-gt131072 c = again_long _ _ c.sizes-sizes.ensures (not-nine _ _ _ refl c.if-eq.ensures) c.if-file-gt131072.true _ _ _ c.told-out c.put_status-then-file-gt131072.ensures

pub returns-then-is_err : goal.returns-then-is_err
returns-then-is_err c = again_ten _ _ c.sizes-sizes.ensures (not-nine _ _ _ refl c.if-eq.ensures) c.if-file-gt131072.false (not-good _ c.if-is_err.ensures.value) _ _ _ c.told-out c.put_status-then-is_err.ensures

pub unwrap-counts-requires : goal.unwrap-counts-requires
unwrap-counts-requires c = is_read _ _ c.sizes-sizes.ensures c.if-is_err.ensures.value c.if-file-gt131072.false _ _ _ _ (length-replicate {A = ℕ} 16384 0) (length-replicate {A = ℕ} 32768 0) _ c.read.ensures

pub unwrap-requires : goal.unwrap-requires
unwrap-requires c = is_written _ _ c.sizes-sizes.ensures c.if-is_err.ensures.value c.if-file-gt131072.false _ _ _ _ (length-replicate {A = ℕ} 16384 0) (length-replicate {A = ℕ} 32768 0) _ c.read.ensures _ c.unwrap-counts.ensures _ _ _ c.told-out c.write.ensures

pub returns : goal.returns
returns c = again-done _ _ c.sizes-sizes.ensures c.if-is_err.ensures.value c.if-file-gt131072.false _ _ _ _ (length-replicate {A = ℕ} 16384 0) (length-replicate {A = ℕ} 32768 0) _ c.read.ensures _ c.unwrap-counts.ensures _ _ _ c.told-out c.write.ensures _ c.unwrap.ensures
