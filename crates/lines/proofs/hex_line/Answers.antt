-- `lines::hex_line` meets its contract. Assumes nothing.
use mathlib.Core.Path.{sym, ◌∙◌}
use Rattle.lines.specs.Lines.{hex_end, Word}
use Rattle.lines.proofs.Keys.{no_key, key-within, after-key}
use Rattle.lines.proofs.hex_line.Goals as goal

pub hex_at-requires : goal.hex_at-requires
hex_at-requires c = let a = c.args in
    key-within hex_end Word a.s.now a.at a.key.now c.requires (sym c.has.ensures ∙ c.if-has.true)

pub returns-then-has : goal.returns-then-has
returns-then-has c = let a = c.args in
    after-key hex_end Word a.s.now a.at a.key.now (sym c.has.ensures ∙ c.if-has.true) c.hex_at.result c.hex_at.ensures

pub returns : goal.returns
returns c = let a = c.args in
    no_key hex_end Word a.s.now a.at a.key.now (sym c.has.ensures ∙ c.if-has.false)
