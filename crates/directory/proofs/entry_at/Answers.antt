-- `directory::entry_at` meets its contract: entry i is read from its 20 bytes.
use mathlib.Core.Path.{◌≡◌, sym, ◌∙◌, ap}
use native.Mathlib.Omega.{arith}
use lib.ListN.{length, get_or-eq_default}
use Rattle.directory.specs.Entries.{table_of, free_entry, entry_from}
use Rattle.directory.proofs.Table.{table_at, length-table}
use Rattle.directory.proofs.entry_at.Goals as goal

pub returns-then-i-lt-ENTRIES : goal.returns-then-i-lt-ENTRIES
returns-then-i-lt-ENTRIES c =
    let a = c.args in
    c.entry_from.ensures ∙ ap entry_from c.part.ensures ∙ sym (table_at a.image.now a.i (omega arith))

pub returns-else-i-lt-ENTRIES : goal.returns-else-i-lt-ENTRIES
returns-else-i-lt-ENTRIES c =
    let a = c.args in
    let l : length (table_of a.image.now) ≡ 18 = length-table a.image.now in
    c.free_entry.ensures ∙ sym (get_or-eq_default (table_of a.image.now) free_entry {n = a.i} (omega arith))
