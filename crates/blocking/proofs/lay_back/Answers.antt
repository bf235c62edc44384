-- `blocking::lay_back` meets its contract: a changed buffer is laid, any other left.
use mathlib.Core.Path.{ap, ◌∙◌}
use mathlib.Core.Bool.{false}
use Rattle.geometry.specs.Bytes.{lay}
use Rattle.blocking.specs.Blocking.{lent}
use Rattle.blocking.proofs.Cases.{lay-changed, lay-unchanged}
use Rattle.blocking.proofs.lay_back.Goals as goal

pub returns-then-h : goal.returns-then-h
returns-then-h c =
    let a = c.args in
    ap (λ image. lent image (record { holds = a.h.holds; held = a.h.held; changed = false }) a.buffer.now) (c.lay.ensures ∙ ap (λ at. lay a.image.now at a.buffer.now) c.sector_at.ensures)
    ∙ lay-changed a.e (lent a.image.now a.h a.buffer.now) c.if-h.true

pub returns : goal.returns
returns c = lay-unchanged c.args.e (lent c.args.image.now c.args.h c.args.buffer.now) c.if-h.false
