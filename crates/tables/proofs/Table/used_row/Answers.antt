-- `tables::Table::used_row` meets its contract: it has a name, and keeps the other rules.
use Prim.Native.Nat.{◌*◌}
use Rattle.tables.proofs.Widths.{room}
use Rattle.tables.proofs.Entries.{unnamed_told, used-told}
use Rattle.tables.proofs.Table.used_row.Goals as goal

pub returns-then-not-is_name : goal.returns-then-not-is_name
returns-then-not-is_name c =
    let a = c.args in
    let t = a.self.now in
    let r = room t.width a.i t.rows t.bytes.now t.fits c.requires.0 in
    let m = rw c.place-at.ensures.0 at c.is_name.ensures in
    unnamed_told t.bytes.now t.width (t.width * a.i) t.wide r a.n c.requires.1 _ m c.if-not-is_name.true

pub returns : goal.returns
returns c =
    let a = c.args in
    let t = a.self.now in
    let r = room t.width a.i t.rows t.bytes.now t.fits c.requires.0 in
    let m = rw c.place-at.ensures.0 at c.is_name.ensures in
    used-told t.bytes.now t.width (t.width * a.i) t.wide r a.n c.requires.1 _ m c.if-not-is_name.false _ _ c.row.ensures c.used_good.ensures
