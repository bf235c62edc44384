-- An entry laid in an image's directory: its 20 bytes are read back as what they were made of, and every other byte is as it was, so the other entries and all that
-- lies behind sector 0 are too.
use mathlib.Core.Path.{◌≡◌, refl, sym, ap, ◌∙◌}
use mathlib.Core.Logic.{◌≢◌}
use mathlib.Core.Bool.{Bool, true, false, ◌&&◌}
use mathlib.Core.List.{List}
use Prim.Native.Nat.{ℕ, ◌+◌, ◌*◌, ◌≤◌, ◌<◌}
use native.Mathlib.Omega.{arith}
use native.Mathlib.Decide.{ℕ_discrete}
use lib.Dec.{ltb}
use lib.ListN.{length, set, length-set}
use lib.Seq.{get_or-set_same, get_or-set_other, ext_get_or}
use Rattle.geometry.specs.Bytes.{part, lay}
use Rattle.geometry.specs.Sizes.{sector, entries}
use Rattle.geometry.proofs.Bytes.{Outside, outside-lay, outside-same, outside-part, length-lay, part-lay-same}
use Rattle.directory.specs.Entries.{entry_from, one_word, table_of, free_entry, entry_at}
use Rattle.directory.proofs.Back.{entry-back}
use Rattle.directory.proofs.Table.{length-table, table_at}
use Rattle.tables.specs.Tables.{one_word_wide, has_rows, entry_of, lay_row, lay_entry}
use Rattle.tables.proofs.Laid.{entry-one, length-entry, row-there}
use Rattle.tables.proofs.Widths.{rows-there}
use Rattle.sessions.specs.Session.{extent}
use Rattle.directory.specs.declared.Entry.{Entry}

module _ (image : List ℕ) (n : ℕ) (e : Entry) where
  abbrev laid : List ℕ
  laid = lay_entry one_word_wide entries image n e

  pub length-laid : length laid ≡ length image
  unfolding lay_row
  length-laid = go (has_rows one_word_wide entries image && ltb n entries)
    where
      go : (b : Bool) → length {A = ℕ} (elim b [ true ↦ lay image (one_word_wide * n + 0) (entry_of one_word_wide e) | false ↦ image ]) ≡ length image
      go true = length-lay image (one_word_wide * n + 0) (entry_of one_word_wide e)
      go false = refl

  module _ (eight : length e.name ≡ 8) where
    size : length (entry_of one_word_wide e) ≡ 20
    size = length-entry e eight one_word_wide (omega arith, omega arith, refl)

    -- every byte but the entry's 20 is as it was
    pub laid-outside : Outside laid image (20 * n) 20
    unfolding lay_row
    laid-outside = go (has_rows one_word_wide entries image && ltb n entries)
      where
        go : (b : Bool) → Outside (elim b [ true ↦ lay image (one_word_wide * n + 0) (entry_of one_word_wide e) | false ↦ image ]) image (20 * n) 20
        go true = outside-lay image (20 * n + 0) (entry_of one_word_wide e) (20 * n) 20 (omega arith) (omega (arith, size))
        go false = outside-same image (20 * n) 20

    module _ (none : e.count ≡ 0) (inside : n < entries) (long : 360 ≤ length image) where
      read_back : entry_from (entry_of one_word_wide e) ≡ e
      read_back =
          let z : one_word e ≡ e = rw none in
          ap entry_from (entry-one one_word_wide e refl) ∙ entry-back (one_word e) eight ∙ z

      entry-laid : entry_at (table_of laid) n ≡ e
      entry-laid =
          table_at laid n inside
          ∙ ap (λ (x : List ℕ). entry_from (part x (20 * n) 20)) (row-there one_word_wide entries image n 0 (entry_of one_word_wide e) (20 * n) (omega arith) (rows-there one_word_wide entries image (omega arith, omega arith, refl) (omega arith)) inside)
          ∙ ap entry_from (part-lay-same image (20 * n) (entry_of one_word_wide e) 20 size (omega arith))
          ∙ read_back

      entry_kept : (j : ℕ) → j < 18 → j ≢ n → entry_at (table_of laid) j ≡ entry_at (table_of image) j
      entry_kept j h d =
          table_at laid j h ∙ ap entry_from (outside-part laid image (20 * n) 20 (20 * j) 20 laid-outside (omega (arith, d))) ∙ sym (table_at image j h)

      -- the directory has it, and the other entries as they were
      pub table-laid : table_of laid ≡ set (table_of image) n e
      table-laid =
          let l : length (table_of image) ≡ 18 = length-table image in
          ext_get_or free_entry (table_of laid) (set (table_of image) n e) (length-table laid ∙ sym l ∙ sym (length-set (table_of image) n e)) λ j h.
          go j (omega (arith, length-table laid)) (ℕ_discrete j n)
        where
          go : (j : ℕ) → j < 18 → Dec (j ≡ n) → entry_at (table_of laid) j ≡ entry_at (set (table_of image) n e) j
          go j h (yes q) = rw q (entry-laid ∙ sym (get_or-set_same (table_of image) n e free_entry (omega (arith, inside, length-table image))))
          go j h (no d) = entry_kept j h d ∙ sym (get_or-set_other (table_of image) n j e free_entry d)

    -- what lies behind sector 0 is as it was
    pub extent-laid : n < entries → (d : Entry) → 1 ≤ d.first → extent d laid ≡ extent d image
    unfolding extent
    extent-laid inside d starts = outside-part laid image (20 * n) 20 (sector * d.first) (sector * d.sectors) laid-outside (omega arith)
