-- Judged and searched where it lies.
use mathlib.Core.Path.{◌∙◌}
use Rattle.finding.proofs.States.{seen-of, its-own}
use Rattle.finding.proofs.LentSession.seen.Goals as goal

pub returns : goal.returns
returns c =
    let s = c.args.self.now in
    seen-of s c.args.i c.args.image.now _ _ _ _ _ _ _ c.is_lawful.ensures c.holds_good.ensures c.opened.ensures c.slot-k.ensures c.hold-hold.ensures c.entry.ensures (c.file.ensures ∙ its-own s c.args.i _ c.slot-k.ensures)
