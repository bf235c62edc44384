-- `tables::Table::entry` meets its contract: entry i stands at width·i.
use mathlib.Core.Path.{refl, sym, ◌∙◌}
use native.Mathlib.Omega.{arith}
use lib.ListN.{get_or-eq_default}
use Rattle.directory.specs.Entries.{free_entry}
use Rattle.tables.specs.Table.{rows_of}
use Rattle.tables.proofs.Tables.{length-entries, entry-is}
use Rattle.tables.proofs.Table.entry.Goals as goal

pub returns-then-i-self : goal.returns-then-i-self
returns-then-i-self c =
    let t = c.args.self.now in
    c.row.ensures ∙ sym (entry-is t.width t.rows t.bytes.now c.args.i _ c.if-i-self.true refl)

pub returns-else-i-self : goal.returns-else-i-self
returns-else-i-self c =
    let t = c.args.self.now in
    c.free_entry.ensures ∙ sym (get_or-eq_default (rows_of t) free_entry (omega (arith, length-entries t.width t.rows t.bytes.now)))
