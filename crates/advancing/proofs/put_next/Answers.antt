-- The count and flags are laid, then the state, with its buffer only where it is closed.
use Rattle.advancing.proofs.Parts.{laid-open, laid-shut}
use borrow.Author.Rules.{rules}
use Rattle.advancing.proofs.put_next.Goals as goal

pub returns-then-f : goal.returns-then-f
returns-then-f c =
    let a = c.args in
    laid-open a.session.now a.i a.k a.v a.h _ c.put_counts.ensures _ (search rules) c.put_state.ensures

pub returns-else-f : goal.returns-else-f
returns-else-f c =
    let a = c.args in
    laid-shut a.session.now a.i a.k a.v a.h _ c.put_counts.ensures _ (search rules) c.put_fresh.ensures
