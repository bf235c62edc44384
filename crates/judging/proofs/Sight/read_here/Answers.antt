-- At the end nothing is read; a compressed record is read behind the place, into the buffer's first R bytes; any other is copied.
use Rattle.judging.proofs.Here.{packed-led, packed-into, fixed-led, fixed-into, fixed-here}
use Rattle.judging.proofs.Turns.{here_end, here-kept}
use Rattle.directory.specs.Entries.{is_kind}
use Rattle.geometry.specs.Sizes.{compressed}
use borrow.Author.Tests.{le-ltb, eq-eqb, ne_eqb}
use lib.Seq.{length-take-le}
use lib.ListN.{length, take, drop}
use lib.Dec.{ltb}
use Prim.Native.Nat.{ℕ}
use mathlib.Core.List.{List, ◌++◌}
use mathlib.Core.Bool.{true, false}
use mathlib.Core.Path.{◌≡◌, sym, ap, ◌∙◌}
use Rattle.judging.proofs.Sight.read_here.Goals as goal

pub returns-then-e-f : goal.returns-then-e-f
returns-then-e-f c =
    let a = c.args in
    let x = a.self.now in
    let k : ltb x.file.position x.entry.count ≡ false = le-ltb x.file.position x.entry.count c.if-e-f.true in
    (sym (here_end x.entry x.file _ k), sym (here-kept x.entry x.file _ a.buffer.now k))

pub slice_bounds-read_behind-end-then-e-eq-COMPRESSED : goal.slice_bounds-read_behind-end-then-e-eq-COMPRESSED
slice_bounds-read_behind-end-then-e-eq-COMPRESSED c =
    let a = c.args in
    let x = a.self.now in
    sym (length-take-le x.entry.length a.buffer.now c.requires.2)

pub returns-then-e-eq-COMPRESSED : goal.returns-then-e-eq-COMPRESSED
returns-then-e-eq-COMPRESSED c =
    let a = c.args in
    let x = a.self.now in
    let p = c.requires in
    let n : length (take x.entry.length a.buffer.now) ≡ x.entry.length = length-take-le x.entry.length a.buffer.now p.2 in
    let k : is_kind compressed x.entry ≡ true = eq-eqb x.entry.kind 3 c.if-e-eq-COMPRESSED.true in (
      (rw n at c.read_behind.ensures.0) ∙ sym (packed-led x.entry x.file x.extent.bytes.now x.extent.over.now x.extent.held p.0.opened c.if-e-f.false k),
      ap (λ (l : List ℕ). l ++ drop x.entry.length a.buffer.now) (rw n at c.read_behind.ensures.1) ∙ sym (packed-into x.entry x.file x.extent.bytes.now x.extent.over.now x.extent.held p.0.opened c.if-e-f.false a.buffer.now k p.2),
    )

pub copy_record-requires : goal.copy_record-requires
copy_record-requires c =
    let a = c.args in
    let x = a.self.now in
    let p = c.requires in
    fixed-here x.entry x.file (length x.extent.bytes.now) p.0 (ne_eqb x.entry.kind 3 c.if-e-eq-COMPRESSED.false) p.1 c.if-e-f.false

pub returns : goal.returns
returns c =
    let a = c.args in
    let x = a.self.now in
    let p = c.requires in
    let k : is_kind compressed x.entry ≡ false = ne_eqb x.entry.kind 3 c.if-e-eq-COMPRESSED.false in
    (sym (fixed-led x.entry x.file x.extent.bytes.now x.extent.over.now x.extent.held p.0.opened c.if-e-f.false k), c.copy_record.ensures ∙ sym (fixed-into x.entry x.file x.extent.bytes.now x.extent.over.now x.extent.held p.0.opened c.if-e-f.false a.buffer.now k))
