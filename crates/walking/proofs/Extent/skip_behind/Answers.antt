-- The record is measured from its start on, in that place's sector.
use mathlib.Core.Path.{sym, ap, ◌∙◌}
use Rattle.packing.specs.Reading.{led_to}
use Rattle.walking.specs.Extent.{read_in}
use Rattle.walking.proofs.Starts.{own-size, read-own}
use Rattle.walking.proofs.Extent.skip_behind.Goals as goal

pub skip_at-requires : goal.skip_at-requires
skip_at-requires c =
    let a = c.args in
    let s = c.start-q in
    own-size a.length a.sectors (read_in a.self.now) a.p s.result s.ensures c.sector.result.now c.sector.ensures

pub returns : goal.returns
returns c =
    let a = c.args in
    let s = c.start-q in
    c.skip_at.ensures ∙ ap led_to (sym (read-own a.length a.sectors (read_in a.self.now) a.p s.result s.ensures c.sector.result.now c.sector.ensures))
