-- At the end nothing is passed over; a compressed record is measured; any other has its place in the extent by its number.
use Rattle.judging.proofs.Here.{packed-led, fixed-led}
use Rattle.judging.proofs.Turns.{here_end}
use borrow.Author.Tests.{le-ltb, eq-eqb, ne_eqb}
use mathlib.Core.Path.{sym, ◌∙◌}
use Rattle.judging.proofs.Sight.skip_here.Goals as goal

pub returns-then-e-f : goal.returns-then-e-f
returns-then-e-f c =
    let a = c.args in
    let x = a.self.now in
    sym (here_end x.entry x.file _ (le-ltb x.file.position x.entry.count c.if-e-f.true))

pub returns-then-e-eq-COMPRESSED : goal.returns-then-e-eq-COMPRESSED
returns-then-e-eq-COMPRESSED c =
    let a = c.args in
    let x = a.self.now in
    c.skip_behind.ensures ∙ sym (packed-led x.entry x.file x.extent.bytes.now x.extent.over.now x.extent.held c.requires c.if-e-f.false (eq-eqb x.entry.kind 3 c.if-e-eq-COMPRESSED.true))

pub returns : goal.returns
returns c =
    let a = c.args in
    let x = a.self.now in
    sym (fixed-led x.entry x.file x.extent.bytes.now x.extent.over.now x.extent.held c.requires c.if-e-f.false (ne_eqb x.entry.kind 3 c.if-e-eq-COMPRESSED.false))
