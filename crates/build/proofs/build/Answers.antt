-- `build::build` meets its contract. Assumes nothing.
use Rattle.build.proofs.Answering.{refused-build, order_grantable, done-build}
use Rattle.build.specs.Answer.{order, lists, lengths_of}
use Rattle.refusals.proofs.Status.{number-not, told_refusal, told_granted}
use mathlib.Core.Path.{refl, ◌∙◌}
use Rattle.build.proofs.build.Goals as goal

pub returns-in-Err : goal.returns-in-Err
returns-in-Err c = let a = c.args in
    let o = order a.n a.method a.rounds a.threshold a.frame a.samples.now (lengths_of (lists a.masks.now a.table.now a.positions.now a.book.now a.tris.now a.edges.now)) in
    let e = told_refusal a.n a.method a.rounds a.frame a.samples.now o.lent a.threshold c.request.ensures c.in-Err.is in
    refused-build o (λ z. number-not c.in-Err.refusal (e ∙ z)) (c.number.ensures ∙ e) c.refused.ensures

pub grant-requires : goal.grant-requires
grant-requires c = let a = c.args in
    let o = order a.n a.method a.rounds a.threshold a.frame a.samples.now (lengths_of (lists a.masks.now a.table.now a.positions.now a.book.now a.tris.now a.edges.now)) in
    order_grantable o (told_granted a.n a.method a.rounds a.frame a.samples.now o.lent a.threshold c.request.ensures c.in-Ok.is).0 refl

pub returns : goal.returns
returns c = let a = c.args in
    let o = order a.n a.method a.rounds a.threshold a.frame a.samples.now (lengths_of (lists a.masks.now a.table.now a.positions.now a.book.now a.tris.now a.edges.now)) in
    let g = told_granted a.n a.method a.rounds a.frame a.samples.now o.lent a.threshold c.request.ensures c.in-Ok.is in
    done-build o g.0 g.1 c.grant.ensures
