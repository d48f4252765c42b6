-- `ply::get_words` meets its contract. Assumes nothing.
use native.Mathlib.Omega.{arith}
use mathlib.Core.Path.{◌≡◌}
use Prim.Native.Nat.{◌+◌, ◌*◌}
use mathlib.Core.List.{[], ◌∷◌}
use Rattle.laws.proofs.Ranges.{each_none}
use Rattle.laws.proofs.Written.{written_none, written_one, written-turn, written-done}
use Rattle.little_endian.specs.Bytes.{number_at}
use Rattle.ply.specs.Inner.Parts.{words_in}
use Rattle.ply.proofs.get_words.Goals as goal

pub loop-k-init : goal.loop-k-init
loop-k-init c = rw each_none (written_none _ _)

pub loop-k-preserved : goal.loop-k-preserved
loop-k-preserved c = let l = c.loop-k in
    let a = c.args in
    written-turn (λ i. number_at 8 a.s.now (a.at + i * 8) ∷ []) l.k l.invariant (rw c.get8.ensures (written_one l.words l.k (number_at 8 a.s.now (a.at + l.k * 8))))

pub returns : goal.returns
unfolding words_in
returns c = let l = c.loop-k in
    let a = c.args in
    let w = written-done (λ i. number_at 8 a.s.now (a.at + i * 8) ∷ []) l.k a.n l.invariant (omega (arith, l.auto.k-end)) c.loop-k-test.false in
    let e : l.k ≡ a.n = omega (arith, l.auto.k-end, c.loop-k-test.false) in
    rw e at w
