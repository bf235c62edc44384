-- Document 01, "Rewind off-line: close, writing count and flags to bytes 16–19 of the entry". Definitions only.
use Rattle.std.specs.Prelude.{true, false, List, ◌++◌, ℕ, ◌+◌, ◌*◌, ◌%◌, ltb}
use Rattle.geometry.specs.Bytes.{lay, word}
use Rattle.geometry.specs.Sizes.{entries, entry_size}
use Rattle.directory.specs.declared.Entry.{Entry}

-- the four bytes: a count on an image is one word
unfoldable pub stamp_bytes : ℕ → ℕ → List ℕ
stamp_bytes count flags = word (count % 65536) ++ word flags

-- the image with count and flags in bytes 16–19 of entry i; as it was where there is no such entry
unfoldable pub stamped : List ℕ → ℕ → ℕ → ℕ → List ℕ
stamped image i count flags = elim (ltb i entries) [ true ↦ lay image (entry_size * i + 16) (stamp_bytes count flags) | false ↦ image ]

-- an entry with another count and other flags
abbrev pub restamped : Entry → ℕ → ℕ → Entry
restamped e count flags = record { name = e.name; kind = e.kind; length = e.length; first = e.first; sectors = e.sectors; count = count; flags = flags }
