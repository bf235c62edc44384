-- Document 01, "Sizes and the directory": an entry and its 20 bytes. Definitions only.
use Rattle.std.specs.Prelude.{Bool, List, [], ◌∷◌, ◌++◌, ℕ, zero, suc, ◌%◌, take, drop, get_or, replicate, eqb, leb}
use Rattle.geometry.specs.Bytes.{part, padded, word_at, word}
use Rattle.geometry.specs.Sizes.{entries, entry_size, free}
use Rattle.directory.specs.declared.Entry.{Entry}

-- the table of bytes 0–19: name, kind, record or granule length R, first sector, number of sectors, count of records, flags.
-- Past the end stand zeros, in a name as in a word
unfoldable pub entry_from : List ℕ → Entry
entry_from b = record {
  name = padded 0 8 (part b 0 8);
  kind = word_at b 8;
  length = word_at b 10;
  first = word_at b 12;
  sectors = word_at b 14;
  count = word_at b 16;
  flags = word_at b 18;
}

-- and back
unfoldable pub entry_bytes : Entry → List ℕ
entry_bytes e =
    e.name ++ (word e.kind ++ (word e.length ++ (word e.first ++ (word e.sectors ++ (word e.count ++ word e.flags)))))

-- an entry as bytes can hold it: "count of records" is one word
abbrev pub one_word : Entry → Entry
one_word e = record {
  name = e.name;
  kind = e.kind;
  length = e.length;
  first = e.first;
  sectors = e.sectors;
  count = e.count % 65536;
  flags = e.flags;
}

-- the first n entries of a directory's bytes
unfoldable pub entries_from : ℕ → List ℕ → List Entry
entries_from zero b = []
entries_from (suc n) b = entry_from (take entry_size b) ∷ entries_from n (drop entry_size b)

-- "Sector 0 is the directory: 18 entries of 20 bytes, numbered 0 to 17"
unfoldable pub table_of : List ℕ → List Entry
table_of image = entries_from entries image

-- a free entry; also what stands where there is no entry of that number
abbrev pub free_entry : Entry
free_entry = record { name = replicate 8 0; kind = 0; length = 0; first = 0; sectors = 0; count = 0; flags = 0 }

abbrev pub entry_at : List Entry → ℕ → Entry
entry_at table i = get_or table i free_entry

abbrev pub is_free : Entry → Bool
is_free e = eqb e.kind free

abbrev pub is_kind : ℕ → Entry → Bool
is_kind k e = eqb e.kind k

-- "flags: 1 marked, 2 write protected, 3 both"
unfoldable pub is_marked : Entry → Bool
is_marked e = eqb (e.flags % 2) 1

unfoldable pub is_protected : Entry → Bool
is_protected e = leb 2 e.flags
