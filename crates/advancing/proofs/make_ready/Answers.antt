-- One way for a state in use, one for any other.
use Rattle.advancing.proofs.Parts.{made-ready, is-ready}
use borrow.Author.Rules.{rules}
use Rattle.advancing.proofs.make_ready.Goals as goal

pub returns-then-not-used : goal.returns-then-not-used
returns-then-not-used c =
    let a = c.args in
    made-ready a.session.now a.k a.used (search rules) c.idle.result c.idle.ensures _ c.put_fresh.ensures

pub returns-else-not-used : goal.returns-else-not-used
returns-else-not-used c = let a = c.args in is-ready a.session.now a.k a.used (search rules)
