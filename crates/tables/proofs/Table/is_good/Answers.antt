-- `tables::Table::is_good` meets its contract: what is passed of the table keeps every rule, and the greatest end of an extent is carried along.
use Prim.Native.Nat.{◌*◌, ◌<◌}
use mathlib.Core.Path.{◌≡◌, sym, ◌∙◌}
use mathlib.Core.Bool.{false}
use native.Mathlib.Omega.{arith}
use Rattle.directory.specs.Grouped.{is_zero}
use Rattle.tables.specs.Tables.{entry_in}
use Rattle.tables.proofs.Widths.{room}
use Rattle.tables.proofs.Entries.{good-used}
use Rattle.tables.proofs.Tables.{passed_none, passed-zero, passed-used, passed-behind, passed-one, passed-two, passed-whole}
use Rattle.tables.proofs.Table.is_good.Goals as goal
use Rattle.tables.proofs.Table.is_good.Goals.{then-not-is_zero+else-not-used_row+else-not-two_good, else-not-is_zero}

pub loop-i-init : goal.loop-i-init
loop-i-init c = passed_none _ _ _

pub returns-then-not-used_row : goal.returns-then-not-used_row
returns-then-not-used_row c =
    let a = c.args in
    let t = a.self.now in
    passed-one t.width a.n t.bytes.now _ _ c.loop-i.invariant _ c.loop-i-test.true (sym c.used_row.ensures ∙ c.if-not-used_row.true) ∙ sym (c.rows_in_use-i-end.ensures.1 a.n)

pub two_good-requires : goal.two_good-requires
two_good-requires c =
    let a = c.args in
    let t = a.self.now in
    let i = c.loop-i.i in
    let h : i < t.rows = omega arith in
    let r = room t.width i t.rows t.bytes.now t.fits h in
    let z : is_zero (entry_in t.width t.bytes.now (t.width * i)) ≡ false = sym c.is_zero.ensures ∙ c.if-not-is_zero.true in
    ((h, good-used t.bytes.now t.width (t.width * i) t.wide r a.n z (sym c.used_row.ensures ∙ c.if-not-used_row.false)), passed-behind t.width a.n t.bytes.now _ _ c.loop-i.invariant)

pub returns-then-not-two_good : goal.returns-then-not-two_good
returns-then-not-two_good c =
    let a = c.args in
    let t = a.self.now in
    passed-two t.width a.n t.bytes.now _ _ c.loop-i.invariant _ c.loop-i-test.true _ c.two_good.ensures c.if-not-two_good.true ∙ sym (c.rows_in_use-i-end.ensures.1 a.n)

pub loop-i-preserved : goal.loop-i-preserved
loop-i-preserved c =
    let a = c.args in
    let t = a.self.now in
    let o = c.loop-i.invariant in
    let told = c.is_zero.ensures in
    elim c.if-not-is_zero.branch [
      | then-not-is_zero+else-not-used_row+else-not-two_good w ↦ passed-used t.width a.n t.bytes.now _ _ o (sym w.used_row.ensures ∙ w.if-not-used_row.false) _ w.two_good.ensures w.if-not-two_good.false _ _ w.end.ensures (w.behind-is ∙ w.max-behind.ensures)
      | else-not-is_zero w ↦ passed-zero t.width a.n t.bytes.now _ _ o (sym told ∙ w.if-not-is_zero.false) _ w.behind-is
    ]

pub returns : goal.returns
returns c =
    let a = c.args in
    let t = a.self.now in
    passed-whole t.width a.n t.bytes.now _ _ c.loop-i.invariant _ (omega arith) ∙ sym (c.rows_in_use-i-end.ensures.1 a.n)
