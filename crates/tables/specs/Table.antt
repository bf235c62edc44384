-- The entries of a table where it lies. Definitions only.
use Rattle.std.specs.Prelude.{List}
use Rattle.directory.specs.declared.Entry.{Entry}
use Rattle.tables.specs.declared.Table.{Table}
use Rattle.tables.specs.Tables.{entries_in}

abbrev pub rows_of : Table → List Entry
rows_of t = entries_in t.width t.rows t.bytes.now
