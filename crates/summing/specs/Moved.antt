-- The bytes that a row's request moved. Definitions only.
use Rattle.std.specs.Prelude.{true, false, List, [], ◌∷◌, ℕ, eqb, get_or}
use Rattle.geometry.specs.Bytes.{part}
use Rattle.directory.specs.Entries.{entry_at, table_of}
use Rattle.looking.specs.Looking.{look_in}
use Rattle.asking.specs.Requested.{Left}
use Rattle.scripts.specs.declared.Row.{Row}

module _ (row : Row) (given : List ℕ) where
  -- the bytes that a request answered 0 moved, by code from 0 on: a read's in the buffer, R as the directory has it, a write's as they were
  -- given, and what a look shows
  unfoldable pub moved_by : Left → List (List ℕ)
  moved_by a =
      let read : List ℕ = part a.buffer 0 (entry_at (table_of a.image) row.entry).length in
      [] ∷ [] ∷ read ∷ given ∷ read ∷ given ∷ look_in a.image a.session row.entry row.granule ∷ []

  -- any other moved none
  unfoldable pub moved : Left → List ℕ
  moved a = elim (eqb a.number 0) [ true ↦ get_or (moved_by a) row.code [] | false ↦ [] ]
