-- `names::is_capital_or_digit` meets its contract: the set of 36 bits is that of the capitals and digits.
use mathlib.Core.Path.{◌∙◌}
use borrow.Author.Rules.{rules}
use Rattle.names.proofs.Sets.{capitals-and-digits}
use Rattle.names.proofs.is_capital_or_digit.Goals as goal

pub returns : goal.returns
returns c = c.is_in.ensures ∙ capitals-and-digits c.args.c (search rules)
