-- An answer says which of the two it is, and how far on.
use mathlib.Core.Path.{sym, ◌∙◌}
use mathlib.Core.Logic.{inl, inr}
use Rattle.walking.proofs.Starts.{leads-good, leads-bad}
use Rattle.walking.proofs.leads.Goals as goal

pub further-requires : goal.further-requires
further-requires c = c.requires c.in-Ok.e (inl c.in-Ok.is)

pub further-requires-in-Err : goal.further-requires-in-Err
further-requires-in-Err c = c.requires c.in-Err.bad.at (inr c.in-Err.is)

pub returns-in-Ok : goal.returns-in-Ok
returns-in-Ok c = λ d is. rw c.further.ensures (leads-good c.args.q d c.in-Ok.e (sym c.in-Ok.is ∙ is))

pub returns-in-Err : goal.returns-in-Err
returns-in-Err c = λ d is. rw c.further-in-Err.ensures (leads-bad c.args.q d c.in-Err.bad.at (sym c.in-Err.is ∙ is))
