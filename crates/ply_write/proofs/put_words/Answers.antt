-- `ply_write::put_words` meets its contract. Assumes nothing.
use native.Mathlib.Omega.{arith}
use native.Mathlib.Nat.{le_of_eq}
use mathlib.Core.Path.{◌≡◌, sym, ap, ◌∙◌}
use mathlib.Core.List.{map}
use lib.ListN.{length, get_or, length-map}
use borrow.Author.Count.{below_more}
use Rattle.laws.proofs.Lists.{get_d_map, all-index}
use Rattle.laws.proofs.Ranges.{each_none}
use Rattle.laws.proofs.Written.{written_none, written-turn, written-done, written-room}
use Rattle.little_endian.specs.Bytes.{bytes_of}
use Rattle.little_endian.proofs.Bytes.{bytes_length}
use Rattle.ply_write.specs.Form.{words_text}
use Rattle.ply_write.proofs.put_words.Goals as goal

pub loop-w-init : goal.loop-w-init
loop-w-init g c = record { written = rw each_none (written_none _ _); small = λ k h. absurd (omega (arith, h)) }

pub put8-next-requires : goal.put8-next-requires
put8-next-requires g c = let l = c.loop-w in
    let ws = map g.W.Word.bits c.args.words.now in
    written-room (λ i. bytes_of 8 (get_or ws i 0)) 8 (λ i. le_of_eq (bytes_length 8 (get_or ws i 0))) l.w-index (length c.args.words.now) l.invariant.written c.loop-w-test.true c.requires

pub loop-w-preserved : goal.loop-w-preserved
loop-w-preserved g c = let l = c.loop-w in
    let ws = map g.W.Word.bits c.args.words.now in
    let e : c.word.result ≡ get_or ws l.w-index 0 = c.word.ensures ∙ ap g.W.Word.bits c.w-item.is ∙ sym (get_d_map g.W.Word.bits c.args.words.now l.w-index c.w-item.result 0 c.loop-w-test.true) in
    record {
      written = written-turn (λ i. bytes_of 8 (get_or ws i 0)) l.w-index l.invariant.written (rw e at c.put8-next.ensures);
      small = below_more _ _ l.invariant.small (rw (← e) (omega arith));
    }

pub returns-clause-written : goal.returns-clause-written
unfolding words_text
returns-clause-written g c = let l = c.loop-w in
    let ws = map g.W.Word.bits c.args.words.now in
    rw (length-map c.args.words.now g.W.Word.bits) (written-done (λ i. bytes_of 8 (get_or ws i 0)) l.w-index (length c.args.words.now) l.invariant.written (omega (arith, l.auto.w-index-end)) c.loop-w-test.false)

pub returns-clause-small : goal.returns-clause-small
returns-clause-small g c =
    all-index 0 _ (map g.W.Word.bits c.args.words.now) (λ k h. c.loop-w.invariant.small k (omega (arith, h, c.loop-w-test.false, length-map c.args.words.now g.W.Word.bits)))
