-- `laying::copy_rows` meets its contract: each entry is laid behind those before it.
use Prim.Native.Nat.{◌*◌}
use mathlib.Core.Path.{◌≡◌}
use lib.ListN.{length, take}
use Rattle.geometry.specs.Bytes.{lay}
use Rattle.tables.specs.Rows.{row_of}
use Rattle.tables.specs.Table.{rows_of}
use Rattle.tables.specs.Tables.{entry_of}
use Rattle.laying.proofs.copy_rows.Given as goal

abbrev pub invariant-loop-i : goal.invariant-loop-i
invariant-loop-i l = (l.out ≡ lay l.initial.out 0 (row_of (entry_of l.to) (take l.i (rows_of l.t)))) × (length (row_of (entry_of l.to) (take l.i (rows_of l.t))) ≡ l.to * l.i)
