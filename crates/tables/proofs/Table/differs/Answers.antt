-- `tables::Table::differs` meets its contract: names are the same if their numbers are.
use Prim.Native.Nat.{◌*◌}
use native.Mathlib.Omega.{arith}
use Rattle.tables.proofs.Numbers.{at_front}
use Rattle.tables.proofs.Widths.{room}
use Rattle.tables.proofs.Tables.{names-other, names_same}
use Rattle.tables.proofs.Table.differs.Goals as goal

pub returns-then-eight-name : goal.returns-then-eight-name
returns-then-eight-name c =
    let a = c.args in
    let t = a.self.now in
    let r = room t.width a.j t.rows t.bytes.now t.fits c.requires in
    let n = at_front t.bytes.now (t.width * a.j) _ c.eight.ensures in
    λ end room' q u. names-other t.width t.bytes.now (t.width * a.j) (omega (arith, r, t.wide.0)) _ n end room' a.name q c.if-eight-name.true

pub returns : goal.returns
returns c =
    let a = c.args in
    let t = a.self.now in
    let r = room t.width a.j t.rows t.bytes.now t.fits c.requires in
    let n = at_front t.bytes.now (t.width * a.j) _ c.eight.ensures in
    λ end room' q u. names_same t.width t.bytes.now (t.width * a.j) (omega (arith, r, t.wide.0)) _ n end room' a.name q c.if-eight-name.false _ c.word.ensures u
