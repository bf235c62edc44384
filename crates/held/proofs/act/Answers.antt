-- `held::act` meets its contract: one way for each request that the image or a buffer shows, one for the others.
use mathlib.Core.Path.{ap, ◌∙◌}
use Rattle.directory.specs.declared.Entry.{Entry}
use Rattle.straight.specs.Moving.{scene}
use Rattle.straight.specs.Moving.{all_moved_by}
use Rattle.held.specs.Held.{effects_with}
use Rattle.held.proofs.Agree.{reads, writes}
use Rattle.held.proofs.Cases.{orders, stays, stores}
use borrow.Author.Rules.{rules}
use Rattle.held.proofs.act.Goals as goal

pub returns-in-Read : goal.returns-in-Read
unfolding effects_with
returns-in-Read g c =
    let a = c.args in
    rw c.in-Read.is (c.read.ensures.0 ∙ reads (g.M.Mover.entry a.m.now) a.f g.M.Mover.way a.i (g.M.Mover.bench a.m.now) _ a.k, c.read.ensures.1)

pub returns-in-Write : goal.returns-in-Write
unfolding effects_with
returns-in-Write g c =
    let a = c.args in
    rw c.in-Write.is (c.write.ensures.0 ∙ writes (g.M.Mover.entry a.m.now) a.f g.M.Mover.way a.i (g.M.Mover.bench a.m.now) a.given.now a.code.now, c.write.ensures.1)

pub returns-in-GranuleWrite : goal.returns-in-GranuleWrite
returns-in-GranuleWrite g c =
    let a = c.args in
    rw c.in-GranuleWrite.is (c.store.ensures.0 ∙ stores g.M.Mover.way a.i (g.M.Mover.entry a.m.now) a.f a.given.now a.code.now a.k (g.M.Mover.bench a.m.now) _, c.store.ensures.1)

pub returns-in-Position : goal.returns-in-Position
unfolding effects_with
returns-in-Position g c =
    let a = c.args in
    let e : Entry = g.M.Mover.entry a.m.now in
    rw c.in-Position.is (c.order.ensures.0 ∙ ap (λ xs. all_moved_by g.M.Mover.way (scene a.i e) xs (g.M.Mover.bench a.m.now)) (orders a.i e _), c.order.ensures.1)

pub returns-in_default : goal.returns-in_default
returns-in_default g c =
    let a = c.args in
    (stays g.M.Mover.way a.i (g.M.Mover.entry a.m.now) a.f a.given.now a.code.now a.k (g.M.Mover.bench a.m.now) a.q (search rules), g.met.M.Mover.same_itself _)
