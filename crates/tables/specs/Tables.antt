-- A table of entries in bytes, by the width of an entry: name 8, kind 2, length 2, first 2, sectors 2, count 2 or 4, flags 2, high byte first. Definitions only.
use Rattle.std.specs.Prelude.{◌≡◌, Bool, true, false, ◌&&◌, ◌||◌, List, [], ◌++◌, ℕ, ◌+◌, ◌-◌, ◌*◌, ◌%◌, ◌≤◌, eqb, leb, ltb, length}
use Rattle.geometry.specs.Bytes.{part, lay, padded, word_at, word}
use Rattle.directory.specs.declared.Entry.{Entry}
use Rattle.tables.specs.Numbers.{long_at, long}
use Rattle.tables.specs.Rows.{row_of, row_in}

-- ---- widths

-- an entry on an image of edition one, whose count is one word
abbrev pub one_word_wide : ℕ
one_word_wide = 20

-- and one whose count is two
abbrev pub two_words_wide : ℕ
two_words_wide = 22

-- one of the two, as arithmetic
abbrev pub Wide : ℕ → Type 0
Wide w = (20 ≤ w) × (w ≤ 22) × (w % 2 ≡ 0)

-- whether bytes have room for n entries of a width that there is
unfoldable pub has_rows : ℕ → ℕ → List ℕ → Bool
has_rows w n b = (eqb w one_word_wide || eqb w two_words_wide) && leb (w * n) (length b)

-- ---- an entry

-- the count, which takes what the other fields leave
unfoldable pub count_at : ℕ → List ℕ → ℕ → ℕ
count_at w b at = elim (eqb w one_word_wide) [ true ↦ word_at b at | false ↦ long_at b at ]

unfoldable pub count_of : ℕ → ℕ → List ℕ
count_of w count = elim (eqb w one_word_wide) [ true ↦ word (count % 65536) | false ↦ long count ]

-- the entry of w bytes that begins at a byte; past the end stand zeros
unfoldable pub entry_in : ℕ → List ℕ → ℕ → Entry
entry_in w b at = record {
  name = padded 0 8 (part b at 8);
  kind = word_at b (at + 8);
  length = word_at b (at + 10);
  first = word_at b (at + 12);
  sectors = word_at b (at + 14);
  count = count_at w b (at + 16);
  flags = word_at b (at + (w - 2));
}

-- and back
unfoldable pub entry_of : ℕ → Entry → List ℕ
entry_of w e =
    e.name ++ (word e.kind ++ (word e.length ++ (word e.first ++ (word e.sectors ++ (count_of w e.count ++ word e.flags)))))

-- ---- a table

-- the n entries of w bytes that bytes begin with
unfoldable pub entries_in : ℕ → ℕ → List ℕ → List Entry
entries_in w n b = row_in (entry_in w) w n b 0

-- the table that bytes hold: none where they have no room for it, or it is of another width
unfoldable pub table_in : ℕ → ℕ → List ℕ → List Entry
table_in w n b = elim (has_rows w n b) [ true ↦ entries_in w n b | false ↦ [] ]

-- ---- laying a part of a table

-- bytes with x at byte k of entry i; as they were where there is no such entry
unfoldable pub lay_row : ℕ → ℕ → List ℕ → ℕ → ℕ → List ℕ → List ℕ
lay_row w n b i k x = elim (has_rows w n b && ltb i n) [ true ↦ lay b (w * i + k) x | false ↦ b ]

-- another entry of number i
abbrev pub lay_entry : ℕ → ℕ → List ℕ → ℕ → Entry → List ℕ
lay_entry w n b i e = lay_row w n b i 0 (entry_of w e)

-- another count and other flags of entry i
abbrev pub lay_counts : ℕ → ℕ → List ℕ → ℕ → ℕ → ℕ → List ℕ
lay_counts w n b i count flags = lay_row w n b i 16 (count_of w count ++ word flags)

-- ---- a table in another width

-- bytes with the table of n entries in front that others hold; as they were where either has no room for it
unfoldable pub copied : ℕ → List ℕ → ℕ → List ℕ → ℕ → List ℕ
copied v out w b n = elim (has_rows v n out && has_rows w n b) [ true ↦ lay out 0 (row_of (entry_of v) (entries_in w n b)) | false ↦ out ]
