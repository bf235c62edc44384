-- One way for each answer.
use mathlib.Core.Path.{◌≡◌}
use lib.ListN.{length}
use Rattle.engines.proofs.Served.{goes_in, done-in, met-in, refused-in}
use borrow.Author.Rules.{rules}
use Rattle.engines.proofs.request_in.Goals as goal

pub act-held-requires : goal.act-held-requires
act-held-requires c =
    let a = c.args in
    let r = c.verdict_in-r in
    goes_in a.image.now a.session.now a.i a.q a.given.now a.buffer.now r.result r.ensures.0 _ r.ensures.1 c.in-Done.is

pub returns-in-Done : goal.returns-in-Done
returns-in-Done c =
    let a = c.args in
    let r = c.verdict_in-r in
    let z : length a.code.now ≡ 135 = search rules in
    done-in a.image.now a.session.now a.i a.q a.given.now a.buffer.now r.result r.ensures.0 _ r.ensures.1 c.in-Done.is a.code.now _ z r.ensures.2 _ c.part.ensures _ _ c.act-held.result c.act-held.ensures _ c.put_next.ensures

pub returns-in-Met : goal.returns-in-Met
returns-in-Met c =
    let a = c.args in
    let r = c.verdict_in-r in
    met-in a.image.now a.session.now a.i a.q a.given.now a.buffer.now r.result r.ensures.0 _ r.ensures.1 _ c.in-Met.is _ c.put_next-in-Met.ensures

pub returns-in-Refused : goal.returns-in-Refused
returns-in-Refused c =
    let a = c.args in
    let r = c.verdict_in-r in
    refused-in a.image.now a.session.now a.i a.q a.given.now a.buffer.now r.result r.ensures.0 _ r.ensures.1 _ c.in-Refused.is
