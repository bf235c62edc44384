-- The edit, its answer as a number.
use mathlib.Core.Path.{ap, ◌∙◌}
use Rattle.requests.specs.Numbers.{number_of}
use Rattle.lleuadrys.proofs.lleuadrys_delete.Goals as goal

pub returns : goal.returns
returns c =
    let h = c.edit.ensures in
    (c.from.ensures ∙ ap number_of h.0, h.1, h.2)
