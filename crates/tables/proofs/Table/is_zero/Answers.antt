-- `tables::Table::is_zero` meets its contract: the bytes are three numbers of eight, of which the last begins in the one before.
use Prim.Native.Nat.{◌*◌}
use Rattle.tables.proofs.Numbers.{at_front}
use Rattle.tables.proofs.Widths.{room}
use Rattle.tables.proofs.Entries.{zero-not, zero-not-next, zero-first}
use Rattle.tables.proofs.Table.is_zero.Goals as goal

pub returns-then-eight-ne0 : goal.returns-then-eight-ne0
returns-then-eight-ne0 c =
    let i = c.args.i in
    let t = c.args.self.now in
    let r = room t.width i t.rows t.bytes.now t.fits c.requires in
    zero-not t.bytes.now t.width (t.width * i) t.wide r _ c.eight.ensures.0 c.if-eight-ne0.true

pub returns-then-eight-ne0-2 : goal.returns-then-eight-ne0-2
returns-then-eight-ne0-2 c =
    let i = c.args.i in
    let t = c.args.self.now in
    let r = room t.width i t.rows t.bytes.now t.fits c.requires in
    zero-not-next t.bytes.now t.width (t.width * i) t.wide r _ c.eight.ensures.0 c.if-eight-ne0.false _ c.eight-2.ensures.0 c.if-eight-ne0-2.true

pub returns : goal.returns
returns c =
    let i = c.args.i in
    let t = c.args.self.now in
    let r = room t.width i t.rows t.bytes.now t.fits c.requires in
    zero-first t.bytes.now t.width (t.width * i) t.wide r _ c.eight.ensures.0 c.if-eight-ne0.false _ c.eight-2.ensures.0 c.if-eight-ne0-2.false
    _ (at_front t.bytes.now (t.width * i) _ c.eight-3.ensures).0
