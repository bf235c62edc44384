-- `tables::Table::stands_apart` meets its contract: each entry that is passed keeps both rules of two with it.
use Prim.Native.Nat.{◌*◌}
use mathlib.Core.Path.{sym, ◌∙◌}
use native.Mathlib.Omega.{arith}
use Rattle.tables.specs.Tables.{entry_in}
use Rattle.tables.proofs.Numbers.{at_front}
use Rattle.tables.proofs.Widths.{room}
use Rattle.tables.proofs.Tables.{every-none, every_on, every_off, two-shared, two-apart}
use Rattle.tables.proofs.Table.stands_apart.Goals as goal

pub loop-j-init : goal.loop-j-init
loop-j-init c = every-none _ _ _

pub returns-then-not-apart : goal.returns-then-not-apart
unfolding entry_in
returns-then-not-apart c =
    let a = c.args in
    let t = a.self.now in
    let e = entry_in t.width t.bytes.now (t.width * a.i) in
    let told = c.apart.ensures e c.word-first.ensures c.end-behind.ensures c.requires.1 in
    every_off t.width t.bytes.now _ c.loop-j.j a.i c.loop-j-test.true (two-shared _ e (sym told ∙ c.if-not-apart.true))

pub returns-then-not-differs : goal.returns-then-not-differs
unfolding entry_in
returns-then-not-differs c =
    let a = c.args in
    let t = a.self.now in
    let r = room t.width a.i t.rows t.bytes.now t.fits c.requires.0 in
    let e = entry_in t.width t.bytes.now (t.width * a.i) in
    let apart = c.apart.ensures e c.word-first.ensures c.end-behind.ensures c.requires.1 in
    let told = c.differs.ensures (t.width * a.i) (omega (arith, r, t.wide.0)) (at_front t.bytes.now (t.width * a.i) _ c.eight-name.ensures) c.requires.1 in
    every_off t.width t.bytes.now _ c.loop-j.j a.i c.loop-j-test.true (two-apart _ e (sym apart ∙ c.if-not-apart.false) ∙ sym told ∙ c.if-not-differs.true)

pub loop-j-preserved : goal.loop-j-preserved
unfolding entry_in
loop-j-preserved c =
    let a = c.args in
    let t = a.self.now in
    let r = room t.width a.i t.rows t.bytes.now t.fits c.requires.0 in
    let e = entry_in t.width t.bytes.now (t.width * a.i) in
    let apart = c.apart.ensures e c.word-first.ensures c.end-behind.ensures c.requires.1 in
    let told = c.differs.ensures (t.width * a.i) (omega (arith, r, t.wide.0)) (at_front t.bytes.now (t.width * a.i) _ c.eight-name.ensures) c.requires.1 in
    every_on t.width t.bytes.now _ c.loop-j.j c.loop-j.invariant (two-apart _ e (sym apart ∙ c.if-not-apart.false) ∙ sym told ∙ c.if-not-differs.false)
