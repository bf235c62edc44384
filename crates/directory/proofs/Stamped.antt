-- A stamp lays four bytes: no other byte changes, and the table changes at that entry alone.
use mathlib.Core.Path.{◌≡◌, refl, sym, ap, ◌∙◌, subst}
use mathlib.Core.List.{List}
use Prim.Native.Nat.{ℕ, ◌+◌, ◌*◌, ◌%◌, ◌≤◌, ◌<◌}
use native.Mathlib.Omega.{arith}
use native.Mathlib.Decide.{dec_lt, ℕ_discrete}
use lib.ListN.{length, set, length-set}
use lib.Seq.{get_or-set_same, get_or-set_other, ext_get_or}
use borrow.Author.Tests.{lt-ltb, le-ltb}
use Rattle.geometry.specs.Bytes.{part, lay, word, word_at}
use Rattle.geometry.proofs.Bytes.{Outside, outside-lay, outside-same, outside-part, length-lay, lay-append, part-lay-apart, part-lay-within, word_at-lay, word_at-apart, length_part, length-word}
use Rattle.directory.specs.declared.Entry.{Entry}
use Rattle.directory.specs.Entries.{entry_from, table_of, free_entry, entry_at}
use Rattle.directory.specs.Stamp.{stamp_bytes, stamped, restamped}
use Rattle.directory.proofs.Table.{length-table, table_at}

length-stamp_bytes : (count flags : ℕ) → length (stamp_bytes count flags) ≡ 4
unfolding stamp_bytes word
length-stamp_bytes count flags = refl

-- ---- one entry's bytes with four of them laid

module _ (b : List ℕ) (count flags : ℕ) (size : length b ≡ 20) (small : count ≤ 65535) where
  abbrev new : List ℕ
  new = lay b 16 (stamp_bytes count flags)

  two-words : new ≡ lay (lay b 16 (word count)) 18 (word flags)
  unfolding stamp_bytes word
  two-words =
      let e : count % 65536 ≡ count = omega arith in
      rw e (lay-append b 16 (word count) (word flags) (omega arith))

  same_word : (k : ℕ) → k + 2 ≤ 16 → word_at new k ≡ word_at b k
  same_word k h =
      let l : length (stamp_bytes count flags) ≡ 4 = length-stamp_bytes count flags in
      word_at-apart b k 16 (stamp_bytes count flags) (omega arith)

  same_name : part new 0 8 ≡ part b 0 8
  same_name =
      let l : length (stamp_bytes count flags) ≡ 4 = length-stamp_bytes count flags in
      part-lay-apart b 16 (stamp_bytes count flags) 0 8 (omega arith)

  new-count : word_at new 16 ≡ count
  new-count =
      let l : length (word flags) ≡ 2 = length-word flags in
      ap (λ (x : List ℕ). word_at x 16) two-words ∙ word_at-apart (lay b 16 (word count)) 16 18 (word flags) (omega arith) ∙ word_at-lay b 16 count (omega arith)

  new-flags : word_at new 18 ≡ flags
  new-flags =
      let l : length (lay b 16 (word count)) ≡ length b = length-lay b 16 (word count) in
      ap (λ (x : List ℕ). word_at x 18) two-words ∙ word_at-lay (lay b 16 (word count)) 18 flags (omega arith)

  entry-stamped : entry_from new ≡ restamped (entry_from b) count flags
  unfolding entry_from
  entry-stamped =
      rw (same_name, same_word 8 (omega arith), same_word 10 (omega arith), same_word 12 (omega arith), same_word 14 (omega arith), new-count, new-flags)

-- ---- the image

module _ (image : List ℕ) (i count flags : ℕ) where
  pub stamped-in : i < 18 → stamped image i count flags ≡ lay image (20 * i + 16) (stamp_bytes count flags)
  unfolding stamped
  stamped-in h = rw (lt-ltb i 18 h, stamped)

  pub stamped-none : 18 ≤ i → stamped image i count flags ≡ image
  unfolding stamped
  stamped-none h = rw (le-ltb i 18 h, stamped)

  -- every byte but 16 to 19 of the entry is as it was, and so is the length
  pub stamped-outside : Outside (stamped image i count flags) image (20 * i + 16) 4
  stamped-outside = go (dec_lt i 18)
    where
      go : Dec (i < 18) → Outside (stamped image i count flags) image (20 * i + 16) 4
      go (yes h) =
          let l : length (stamp_bytes count flags) ≡ 4 = length-stamp_bytes count flags in
          subst (λ (x : List ℕ). Outside x image (20 * i + 16) 4) (sym (stamped-in h)) (outside-lay image (20 * i + 16) (stamp_bytes count flags) (20 * i + 16) 4 (omega arith) (omega arith))
      go (no h) = subst (λ (x : List ℕ). Outside x image (20 * i + 16) 4) (sym (stamped-none (omega arith))) (outside-same image (20 * i + 16) 4)

  -- the table changes at that entry alone
  pub stamp-table : i < 18 → count ≤ 65535 → 360 ≤ length image
      → table_of (stamped image i count flags) ≡ set (table_of image) i (restamped (entry_at (table_of image) i) count flags)
  stamp-table h small long =
      let l : length (table_of image) ≡ 18 = length-table image in
      let l₁ : length (table_of (stamped image i count flags)) ≡ 18 = length-table (stamped image i count flags) in
      let l₂ : length (set (table_of image) i (restamped (entry_at (table_of image) i) count flags)) ≡ length (table_of image) = length-set (table_of image) i _ in
      ext_get_or free_entry _ _ (l₁ ∙ sym l ∙ sym l₂) λ (j : ℕ) (q : j < length (table_of (stamped image i count flags))).
      go j (omega arith) (ℕ_discrete j i)
    where
      at-stamp : entry_at (table_of (stamped image i count flags)) i ≡ restamped (entry_at (table_of image) i) count flags
      at-stamp =
          let s : length (stamp_bytes count flags) ≡ 4 = length-stamp_bytes count flags in
          table_at (stamped image i count flags) i h
          ∙ ap (λ (x : List ℕ). entry_from (part x (20 * i) 20)) (stamped-in h)
          ∙ ap entry_from (part-lay-within image (20 * i) 20 16 (stamp_bytes count flags) (omega arith))
          ∙ entry-stamped (part image (20 * i) 20) count flags (length_part image (20 * i) 20 (omega arith)) small
          ∙ ap (λ (e : Entry). restamped e count flags) (sym (table_at image i h))

      at_other : (j : ℕ) → j < 18 → ¬ (j ≡ i) → entry_at (table_of (stamped image i count flags)) j ≡ entry_at (table_of image) j
      at_other j k d =
          table_at (stamped image i count flags) j k
          ∙ ap entry_from (outside-part (stamped image i count flags) image (20 * i + 16) 4 (20 * j) 20 stamped-outside (omega (arith, d)))
          ∙ sym (table_at image j k)

      go : (j : ℕ) → j < 18 → Dec (j ≡ i) → entry_at (table_of (stamped image i count flags)) j ≡ entry_at (set (table_of image) i (restamped (entry_at (table_of image) i) count flags)) j
      go j k (yes e) =
          let l : length (table_of image) ≡ 18 = length-table image in
          let new : Entry = restamped (entry_at (table_of image) i) count flags in
          ap (entry_at (table_of (stamped image i count flags))) e ∙ at-stamp ∙ sym (ap (entry_at (set (table_of image) i new)) e ∙ get_or-set_same (table_of image) i new free_entry (omega arith))
      go j k (no d) = at_other j k d ∙ sym (get_or-set_other (table_of image) i j (restamped (entry_at (table_of image) i) count flags) free_entry d)
