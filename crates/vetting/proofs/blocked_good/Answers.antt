-- `directory::blocked_good` meets its contract: R first, then the count.
use mathlib.Core.Path.{sym, ap, ◌∙◌}
use lib.Dec.{leb}
use Rattle.directory.specs.Rules.{longest}
use Rattle.directory.proofs.Grouped.{sizes-off, sizes-blocked}
use Rattle.vetting.proofs.blocked_good.Goals as goal

pub returns-then-not-length_good : goal.returns-then-not-length_good
unfolding longest
returns-then-not-length_good c =
    let a = c.args in
    sym (sizes-off a.e 360 (ap longest c.requires) (sym c.length_good.ensures ∙ c.if-not-length_good.true))

pub returns : goal.returns
returns c =
    let a = c.args in
    ap (leb a.e.count) c.capacity.ensures ∙ sizes-blocked a.e c.requires (sym c.length_good.ensures ∙ c.if-not-length_good.false)
