-- `lines::dec_line` meets its contract. Assumes nothing.
use mathlib.Core.Path.{sym, ◌∙◌}
use Rattle.lines.specs.Lines.{dec_end, Small}
use Rattle.lines.proofs.Keys.{no_key, key-within, after-key}
use Rattle.lines.proofs.dec_line.Goals as goal

pub dec_at-requires : goal.dec_at-requires
dec_at-requires c = let a = c.args in
    key-within dec_end Small a.s.now a.at a.key.now c.requires (sym c.has.ensures ∙ c.if-has.true)

pub returns-then-has : goal.returns-then-has
returns-then-has c = let a = c.args in
    after-key dec_end Small a.s.now a.at a.key.now (sym c.has.ensures ∙ c.if-has.true) c.dec_at.result c.dec_at.ensures

pub returns : goal.returns
returns c = let a = c.args in
    no_key dec_end Small a.s.now a.at a.key.now (sym c.has.ensures ∙ c.if-has.false)
