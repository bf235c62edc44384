-- `directory::is_named` meets its contract, test by test.
use mathlib.Core.Path.{sym, ap, ◌∙◌}
use Rattle.geometry.specs.Lists.{same}
use Rattle.geometry.proofs.Tests.{equal_same}
use Rattle.directory.proofs.Find.{match-tested, match-refused}
use Rattle.directory.proofs.is_named.Goals as goal

pub returns-then-name-e : goal.returns-then-name-e
returns-then-name-e c =
    let a = c.args in
    c.eq.ensures ∙ equal_same _ a.name.now ∙ ap (λ x. same x a.name.now) c.as_slice.ensures ∙ sym (match-tested a.name.now a.e c.if-name-e.true)

pub returns-else-name-e : goal.returns-else-name-e
returns-else-name-e c =
    let a = c.args in
    sym (match-refused a.name.now a.e c.if-name-e.false)
