-- A compressed file's count records are walked; any other file ends at its start.
use mathlib.Core.Path.{sym, ap, ◌∙◌}
use borrow.Author.Tests.{eq-eqb, ne_eqb}
use Rattle.mounting.specs.Mounting.{counted_walk}
use Rattle.std.specs.Prelude.{Ok}
use Rattle.judging.proofs.Turns.{end-packed, end-fixed}
use Rattle.judging.proofs.Sight.end_place.Goals as goal

pub returns-then-e-eq-COMPRESSED : goal.returns-then-e-eq-COMPRESSED
unfolding counted_walk
returns-then-e-eq-COMPRESSED c =
    let a = c.args in
    let x = a.self.now in
    c.walk.ensures ∙ sym (end-packed x.entry x.extent.bytes.now (eq-eqb x.entry.kind 3 c.if-e-eq-COMPRESSED.true))

pub returns-else-e-eq-COMPRESSED : goal.returns-else-e-eq-COMPRESSED
returns-else-e-eq-COMPRESSED c =
    let a = c.args in
    let x = a.self.now in
    ap Ok c.start.ensures ∙ sym (end-fixed x.entry x.extent.bytes.now (ne_eqb x.entry.kind 3 c.if-e-eq-COMPRESSED.false))
