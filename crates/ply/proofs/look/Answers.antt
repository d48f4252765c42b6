-- `ply::look` meets its contract. Assumes nothing.
use native.Mathlib.Omega.{arith}
use mathlib.Core.Path.{refl}
use Rattle.ply.specs.Answers.{no_body}
use Rattle.ply.proofs.Heads.{header_headed}
use Rattle.ply.proofs.Reading.{short_body, bad-faces, file-found}
use Rattle.ply.proofs.look.Goals as goal

pub returns-then-s-head : goal.returns-then-s-head
returns-then-s-head c = no_body (header_headed _ _ _ _ c.in-Some.ensures) (short_body _ _ _ _ c.in-Some.ensures c.if-s-head.true) refl

pub returns-then-not-faces_fit : goal.returns-then-not-faces_fit
returns-then-not-faces_fit c = no_body (header_headed _ _ _ _ c.in-Some.ensures) (bad-faces _ _ _ _ c.in-Some.ensures c.if-not-faces_fit.ensures) refl

pub returns : goal.returns
returns c = file-found _ _ _ _ c.in-Some.ensures c.if-s-head.false (λ i. omega (arith, c.type_inv.s i)) c.if-not-faces_fit.ensures
