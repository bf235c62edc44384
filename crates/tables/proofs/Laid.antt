-- Laying an entry, a count with flags, or a table: what the bytes are by the width, and what is laid where there is room.
use mathlib.Core.Path.{◌≡◌, refl, sym, ap, ◌∙◌}
use mathlib.Core.Bool.{true, false, ◌&&◌, and-false}
use mathlib.Core.List.{List, ◌++◌}
use Prim.Native.Nat.{ℕ, ◌+◌, ◌-◌, ◌*◌, ◌≤◌, ◌<◌}
use native.Mathlib.Omega.{arith}
use native.Mathlib.Decide.{ℕ_discrete}
use lib.Dec.{ltb}
use lib.ListN.{length, length-append}
use borrow.Author.Tests.{lt-ltb, le-ltb}
use Rattle.geometry.specs.Bytes.{lay, word}
use Rattle.directory.specs.Entries.{entry_bytes, one_word}
use Rattle.directory.specs.declared.Entry.{Entry}
use Rattle.tables.specs.Numbers.{long}
use Rattle.tables.specs.Rows.{row_of}
use Rattle.tables.specs.Tables.{Wide, has_rows, count_of, entry_of, entries_in, lay_row, copied}

-- ---- the bytes of a count, and of an entry

pub counts-one : (w count : ℕ) → w ≡ 20 → count_of w count ≡ count_of 20 count
counts-one w count e = ap (λ (v : ℕ). count_of v count) e

pub counts-two : (w count : ℕ) → Wide w → ¬ (w ≡ 20) → count_of w count ≡ count_of 22 count
counts-two w count h n = let e : w ≡ 22 = omega (arith, n) in ap (λ (v : ℕ). count_of v count) e

pub entry-one : (w : ℕ) (e : Entry) → w ≡ 20 → entry_of w e ≡ entry_bytes (one_word e)
unfolding entry_of entry_bytes count_of
entry-one w e q = rw q

pub entry-two : (w : ℕ) (e : Entry) → Wide w → ¬ (w ≡ 20) → entry_of w e ≡ entry_of 22 e
entry-two w e h n = let q : w ≡ 22 = omega (arith, n) in ap (λ (v : ℕ). entry_of v e) q

module _ (e : Entry) (named : length e.name ≡ 8) where
  long-one : length (entry_of 20 e) ≡ 20
  unfolding entry_of count_of word
  long-one = length-append e.name _ ∙ ap (λ (k : ℕ). k + 12) named

  long-two : length (entry_of 22 e) ≡ 22
  unfolding entry_of count_of word long
  long-two = length-append e.name _ ∙ ap (λ (k : ℕ). k + 14) named

  pub length-entry : (w : ℕ) → Wide w → length (entry_of w e) ≡ w
  length-entry w h = go (ℕ_discrete w 20)
    where
      go : Dec (w ≡ 20) → length (entry_of w e) ≡ w
      go (yes q) = ap (λ (v : ℕ). length (entry_of v e)) q ∙ long-one ∙ sym q
      go (no n) =
          let q : w ≡ 22 = omega (arith, n) in
          ap (λ (v : ℕ). length (entry_of v e)) q ∙ long-two ∙ sym q

pub length-counts : (w count flags : ℕ) → Wide w → length (count_of w count ++ word flags) ≡ w - 16
length-counts w count flags h = go (ℕ_discrete w 20)
  where
    one : length (count_of 20 count ++ word flags) ≡ 4
    one = unfold count_of word in refl

    two : length (count_of 22 count ++ word flags) ≡ 6
    two = unfold count_of word long in refl

    go : Dec (w ≡ 20) → length (count_of w count ++ word flags) ≡ w - 16
    go (yes q) = ap (λ (v : ℕ). length (count_of v count ++ word flags)) q ∙ one ∙ omega arith
    go (no n) = let q : w ≡ 22 = omega (arith, n) in ap (λ (v : ℕ). length (count_of v count ++ word flags)) q ∙ two ∙ omega arith

-- ---- where there is room, and where not

module _ (w n : ℕ) (b : List ℕ) (i k : ℕ) (x : List ℕ) where
  pub row-there : (p : ℕ) → p ≡ w * i + k → has_rows w n b ≡ true → i < n → lay_row w n b i k x ≡ lay b p x
  unfolding lay_row
  row-there p e h l = rw (h, lt-ltb i n l, lay_row) (ap (λ (q : ℕ). lay b q x) (sym e))

  pub row-not : n ≤ i → lay_row w n b i k x ≡ b
  unfolding lay_row
  row-not l = rw (le-ltb i n l, and-false (has_rows w n b), lay_row)

  pub row-placed : (has_rows w n b && ltb i n) ≡ true → (p : ℕ) → p ≡ w * i + k → lay_row w n b i k x ≡ lay b p x
  unfolding lay_row
  row-placed h p e = rw (h, lay_row) (ap (λ (q : ℕ). lay b q x) (sym e))

  pub row-unplaced : (has_rows w n b && ltb i n) ≡ false → lay_row w n b i k x ≡ b
  unfolding lay_row
  row-unplaced h = rw (h, lay_row)

module _ (v : ℕ) (out : List ℕ) (w : ℕ) (b : List ℕ) (n : ℕ) where
  pub copied-there : has_rows v n out ≡ true → has_rows w n b ≡ true → copied v out w b n ≡ lay out 0 (row_of (entry_of v) (entries_in w n b))
  unfolding copied
  copied-there h k = rw (h, k, copied)

  pub copied-not : has_rows w n b ≡ false → copied v out w b n ≡ out
  unfolding copied
  copied-not k = rw (k, and-false (has_rows v n out), copied)

  pub copied_none : has_rows v n out ≡ false → copied v out w b n ≡ out
  unfolding copied
  copied_none h = rw (h, copied)
