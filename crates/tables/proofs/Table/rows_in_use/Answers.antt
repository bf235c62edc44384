-- `tables::Table::rows_in_use` meets its contract: a last entry that is zero is left out, and the table is as good as with it.
use mathlib.Core.Path.{sym, ◌∙◌}
use Rattle.tables.proofs.Tables.{zero-less}
use Rattle.tables.proofs.Table.rows_in_use.Goals as goal

pub loop-i-preserved : goal.loop-i-preserved
loop-i-preserved c =
    let t = c.args.self.now in
    λ N. c.loop-i.invariant N ∙ zero-less t.width c.loop-i.i t.bytes.now c.loop-i-test.true (sym c.is_zero.ensures ∙ c.if-not-is_zero.false) N
