-- `directory::random_good` meets its contract: R first, then the count.
use mathlib.Core.Path.{sym, ap, ◌∙◌}
use mathlib.Core.Bool.{Bool, ◌&&◌, not}
use lib.Dec.{eqb}
use Rattle.directory.specs.Rules.{longest}
use Rattle.directory.proofs.Grouped.{sizes-off, sizes-random}
use Rattle.vetting.proofs.random_good.Goals as goal

pub returns-then-not-length_good : goal.returns-then-not-length_good
unfolding longest
returns-then-not-length_good c =
    let a = c.args in
    sym (sizes-off a.e 3600 (ap longest c.requires) (sym c.length_good.ensures ∙ c.if-not-length_good.true))

pub returns : goal.returns
returns c =
    let a = c.args in
    ap (λ (m : Bool). eqb a.e.count 0 && not m) c.is_marked.ensures ∙ sizes-random a.e c.requires (sym c.length_good.ensures ∙ c.if-not-length_good.false)
