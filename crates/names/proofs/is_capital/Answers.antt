-- `names::is_capital` meets its contract: the set of 26 bits is that of the capitals.
use mathlib.Core.Path.{◌∙◌}
use borrow.Author.Rules.{rules}
use Rattle.names.proofs.Sets.{capitals}
use Rattle.names.proofs.is_capital.Goals as goal

pub returns : goal.returns
returns c = c.is_in.ensures ∙ capitals c.args.c (search rules)
