-- One way for each engine: the buffer of the file's state is lent, and what it then has is laid in its place; or bytes are moved straight.
use mathlib.Core.Path.{refl, sym, ◌∙◌}
use native.Mathlib.Omega.{arith}
use Rattle.storing.proofs.Laid.{held-long}
use Rattle.engines.proofs.Parts.{acted, moved-held, moved_plain}
use borrow.Author.Rules.{rules}
use Rattle.engines.proofs.act.Goals as goal

pub slice_bounds-act-end : goal.slice_bounds-act-end
slice_bounds-act-end c = omega (arith, held-long c.args.session.now (sym c.has_buffers.ensures ∙ c.if-has_buffers.true))

pub returns-then-has_buffers : goal.returns-then-has_buffers
returns-then-has_buffers c =
    let a = c.args in
    moved-held a.seen a.i a.q a.given.now a.code.now a.k a.image.now a.session.now _ _ c.has_buffers.result c.has_buffers.ensures _ c.if-has_buffers.true
    (acted a.seen a.i a.q a.given.now a.code.now a.k a.image.now a.session.now _ _ c.requires (sym c.has_buffers.ensures ∙ c.if-has_buffers.true) _ c.make_ready.ensures _ (search rules) c.act.ensures)

pub returns-else-has_buffers : goal.returns-else-has_buffers
returns-else-has_buffers c =
    let a = c.args in
    moved_plain a.seen a.i a.q a.given.now a.code.now a.k a.image.now a.session.now _ _ c.has_buffers.result c.has_buffers.ensures _ c.if-has_buffers.false c.act-else-has_buffers.ensures refl
