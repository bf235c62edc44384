-- The held sector is the one lent, and any other the extent's own.
use mathlib.Core.Path.{sym, ◌∙◌}
use Rattle.walking.proofs.Overlaid.{sector-held, sector-own}
use Rattle.walking.proofs.Extent.sector.Goals as goal

pub returns-then-is_held : goal.returns-then-is_held
returns-then-is_held c =
    let x = c.args.self.now in
    sym (sector-held x.bytes.now x.held x.over.now c.args.n (sym c.if-is_held.ensures))

pub returns-else-is_held : goal.returns-else-is_held
returns-else-is_held c =
    let x = c.args.self.now in
    c.sector_of.ensures ∙ sym (sector-own x.bytes.now x.held x.over.now c.args.n (sym c.if-is_held.ensures))
