-- `buffered::act` meets its contract: what is moved by way of the buffer is what the buffer's own definition does.
use mathlib.Core.Path.{◌≡◌, ◌∙◌}
use mathlib.Core.List.{List}
use Rattle.steps.specs.Effects.{Effect, Bench}
use Rattle.straight.specs.Moving.{scene}
use Rattle.blocking.specs.Blocking.{lent}
use Rattle.held.specs.Held.{held_all, effects_with}
use Rattle.held.proofs.Agree.{held-moved}
use borrow.Author.Rules.{rules}
use Rattle.buffered.proofs.act.Goals as goal

pub returns : goal.returns
returns c =
    let a = c.args in
    let xs : List Effect = effects_with a.q a.e a.f a.given.now a.code.now a.k in
    let w : Bench = lent a.image.now a.h a.buffer.now in
    let p : lent c.act.new.m.image.now c.act.new.m.hold c.act.new.m.buffer.now ≡ held_all (scene a.i a.e) xs w = c.act.ensures.0 ∙ held-moved (scene a.i a.e) xs w in
    search rules
