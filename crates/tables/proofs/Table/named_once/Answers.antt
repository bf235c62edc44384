-- `tables::Table::named_once` meets its contract: each entry that is passed has another name.
use Prim.Native.Nat.{◌*◌}
use mathlib.Core.Path.{sym, ◌∙◌}
use native.Mathlib.Omega.{arith}
use Rattle.tables.proofs.Numbers.{at_front}
use Rattle.tables.proofs.Widths.{room}
use Rattle.tables.proofs.Tables.{every-none, every_on, every_off}
use Rattle.tables.proofs.Table.named_once.Goals as goal

pub loop-j-init : goal.loop-j-init
loop-j-init c = every-none _ _ _

pub returns-then-not-differs : goal.returns-then-not-differs
returns-then-not-differs c =
    let a = c.args in
    let t = a.self.now in
    let r = room t.width a.i t.rows t.bytes.now t.fits c.requires.0 in
    let told = c.differs.ensures (t.width * a.i) (omega (arith, r, t.wide.0)) (at_front t.bytes.now (t.width * a.i) _ c.eight-name.ensures) c.requires.1 in
    every_off t.width t.bytes.now _ c.loop-j.j a.i c.loop-j-test.true (sym told ∙ c.if-not-differs.true)

pub loop-j-preserved : goal.loop-j-preserved
loop-j-preserved c =
    let a = c.args in
    let t = a.self.now in
    let r = room t.width a.i t.rows t.bytes.now t.fits c.requires.0 in
    let told = c.differs.ensures (t.width * a.i) (omega (arith, r, t.wide.0)) (at_front t.bytes.now (t.width * a.i) _ c.eight-name.ensures) c.requires.1 in
    every_on t.width t.bytes.now _ c.loop-j.j c.loop-j.invariant (sym told ∙ c.if-not-differs.false)
