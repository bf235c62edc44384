-- 12 and 8 are given at once; behind them the entry and its state are lawful.
use Rattle.judging.proofs.Entered.{twelve, eight, inside, enters, ruled}
use Rattle.judging.proofs.ruling_on.Goals as goal

pub returns-then-not-seen : goal.returns-then-not-seen
returns-then-not-seen c = λ i.
    let a = c.args in
    let x = a.seen in
    twelve a.image.now x.lawful x.opened x.entry x.file x.hold.held a.over.now i a.q a.given.now a.code a.buffer.now c.if-not-seen.true _

pub returns-then-e-eq-FREE : goal.returns-then-e-eq-FREE
returns-then-e-eq-FREE c = λ i.
    let a = c.args in
    let x = a.seen in
    eight a.image.now x.lawful x.opened x.entry x.file x.hold.held a.over.now i a.q a.given.now a.code a.buffer.now c.if-not-seen.false c.if-e-eq-FREE.true _

pub extent_of-requires : goal.extent_of-requires
extent_of-requires c =
    let a = c.args in
    let x = a.seen in
    inside a.image.now x.lawful x.opened x.entry x.file x.hold.held a.over.now 0 a.q a.given.now a.code a.buffer.now c.if-not-seen.false c.requires c.if-e-eq-FREE.false

pub ruling-requires : goal.ruling-requires
ruling-requires c =
    let a = c.args in
    let x = a.seen in
    enters a.image.now x.lawful x.opened x.entry x.file x.hold.held a.over.now 0 a.q a.given.now a.code a.buffer.now c.if-not-seen.false c.requires c.if-e-eq-FREE.false c.extent_of.result.now c.extent_of.ensures

pub returns : goal.returns
returns c = λ i.
    let a = c.args in
    let x = a.seen in
    let b = c.extent_of in
    ruled a.image.now x.lawful x.opened x.entry x.file x.hold.held a.over.now i a.q a.given.now a.code a.buffer.now c.if-not-seen.false b.result.now _ _ _ b.ensures (c.ruling.ensures i)
