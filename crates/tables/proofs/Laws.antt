-- What a table in bytes is: the directory of an image is the one of 18 entries of 20 bytes; and one laid in 22 bytes an entry is read as what was laid.
use mathlib.Core.Path.{◌≡◌, refl, sym, ap, ◌∙◌}
use mathlib.Core.Bool.{Bool, true}
use mathlib.Core.List.{List, [], ◌∷◌, ◌++◌}
use Prim.Native.Nat.{ℕ, ◌+◌, ◌*◌, ◌/◌, ◌%◌, ◌≤◌, ◌<◌}
use native.Mathlib.Omega.{arith}
use native.Mathlib.Numerals.{unary_clauses}
use lib.Dec.{eqb}
use lib.ListN.{length, take, length-append}
use lib.Seq.{take_at, drop_at, take-length, ext_get_or}
use borrow.Author.Tests.{eq-eqb, eqb-true}
use Rattle.geometry.specs.Bytes.{part, padded, word, word_at}
use Rattle.geometry.specs.Lists.{every}
use Rattle.geometry.proofs.Bytes.{length-part-min, part-part, length-padded, padded-long, word_at-part}
use Rattle.geometry.proofs.Tests.{and_left, and_right, every-from}
use Rattle.directory.specs.Entries.{entry_from, table_of, free_entry}
use Rattle.directory.specs.declared.Entry.{Entry}
use Rattle.directory.proofs.Back.{eight}
use Rattle.directory.proofs.Table.{length-table, table_at}
use Rattle.tables.specs.Numbers.{long_at, long}
use Rattle.tables.specs.Rows.{row_of, row_in}
use Rattle.tables.specs.Tables.{count_at, count_of, entry_in, entry_of, entries_in}
use Rattle.tables.proofs.Tables.{length-entries, entry-is}
use Rattle.tables.proofs.Laid.{length-entry}

-- ---- edition one

module _ (b : List ℕ) (at : ℕ) where
  name-part : (n : ℕ) → 8 ≤ n → part (part b at n) 0 8 ≡ part b at 8
  name-part n h = let z : at + 0 ≡ at = omega arith in part-part b at n 0 8 h ∙ ap (λ (k : ℕ). part b k 8) z

  entry-from : entry_in 20 b at ≡ entry_from (part b at 20)
  unfolding entry_in entry_from count_at
  entry-from =
      sym (rw (name-part 20 (omega arith), word_at-part b at 20 8 (omega arith), word_at-part b at 20 10 (omega arith), word_at-part b at 20 12 (omega arith), word_at-part b at 20 14 (omega arith), word_at-part b at 20 16 (omega arith), word_at-part b at 20 18 (omega arith)))

-- the directory of an image
pub on-image : (image : List ℕ) → entries_in 20 18 image ≡ table_of image
on-image image =
    let l : length (entries_in 20 18 image) ≡ 18 = length-entries 20 18 image in
    ext_get_or free_entry (entries_in 20 18 image) (table_of image) (l ∙ sym (length-table image)) λ (i : ℕ) (q : i < length (entries_in 20 18 image)).
    let h : i < 18 = omega arith in
    entry-is 20 18 image i (20 * i) h refl ∙ entry-from image (20 * i) ∙ sym (table_at image i h)

-- ---- read back, where the count has two words

again : (n : ℕ) → 256 * (n / 256) + n % 256 ≡ n
again n = omega arith

long-again : (n : ℕ) → 65536 * (n / 65536) + n % 65536 ≡ n
long-again n = omega arith

module _ (e : Entry) (named : length e.name ≡ 8) where
  abbrev numbers : List ℕ
  numbers =
      word e.kind ++ (word e.length ++ (word e.first ++ (word e.sectors ++ (long e.count ++ word e.flags))))

  front : padded 0 8 (part (e.name ++ numbers) 0 8) ≡ e.name
  unfolding part
  front = rw (take_at e.name numbers 8 named) (padded-long 0 8 e.name (omega arith))

  own : entry_in 22 (entry_of 22 e) 0 ≡ e
  unfolding entry_in entry_of count_at count_of long_at long word_at word
  own =
      rw (front, ap (λ (x : List ℕ). x ++ numbers) (eight e.name named), again e.kind, again e.length, again e.first, again e.sectors, again (e.count / 65536), again (e.count % 65536), long-again e.count, again e.flags)

pub moved : (b : List ℕ) (at : ℕ) → entry_in 22 (part b at 22) 0 ≡ entry_in 22 b at
unfolding entry_in count_at long_at
moved b at =
    let z : (at + 16) + 2 ≡ at + 18 = omega arith in
    rw (name-part b at 22 (omega arith), word_at-part b at 22 8 (omega arith), word_at-part b at 22 10 (omega arith), word_at-part b at 22 12 (omega arith), word_at-part b at 22 14 (omega arith), word_at-part b at 22 16 (omega arith), word_at-part b at 22 18 (omega arith), word_at-part b at 22 20 (omega arith), z)

-- ---- bytes that stand in other bytes

-- the bytes xs stand in b from byte `at` on
abbrev Stands : List ℕ → ℕ → List ℕ → Type 0
Stands b at xs = part b at (length xs) ≡ xs

-- two behind one another
cut : (b : List ℕ) (at : ℕ) (xs ys : List ℕ) (n at' : ℕ) → length xs ≡ n → at + n ≡ at' → Stands b at (xs ++ ys) → (part b at n ≡ xs) × Stands b at' ys
unfolding part
cut b at xs ys n at' l e s =
    let a : length (xs ++ ys) ≡ length xs + length ys = length-append xs ys in
    let z : at + 0 ≡ at = omega arith in (
      ap (λ (k : ℕ). part b k n) (sym z) ∙ sym (part-part b at (length (xs ++ ys)) 0 n (omega arith)) ∙ ap (λ (x : List ℕ). part x 0 n) s ∙ take_at xs ys n l,
      ap (λ (k : ℕ). part b k (length ys)) (sym e) ∙ sym (part-part b at (length (xs ++ ys)) n (length ys) (omega arith))
          ∙ ap (λ (x : List ℕ). part x n (length ys)) s
          ∙ ap (take (length ys)) (drop_at xs ys n l)
          ∙ take-length ys,
    )

-- an entry with a name of eight bytes
abbrev pub is_named : Entry → Bool
is_named e = eqb (length e.name) 8

size : (e : Entry) → is_named e ≡ true → length (entry_of 22 e) ≡ 22
size e h = length-entry e (eqb-true (length e.name) 8 h) 22 (omega arith, omega arith, refl)

entry-back : (e : Entry) → is_named e ≡ true → (b : List ℕ) (at : ℕ) → part b at 22 ≡ entry_of 22 e → entry_in 22 b at ≡ e
entry-back e h b at s = sym (moved b at) ∙ ap (λ (x : List ℕ). entry_in 22 x 0) s ∙ own e (eqb-true (length e.name) 8 h)

pub entry-back-at : (e : Entry) → length e.name ≡ 8 → (b : List ℕ) (at : ℕ) → part b at 22 ≡ entry_of 22 e → entry_in 22 b at ≡ e
entry-back-at e h b at s = entry-back e (eq-eqb (length e.name) 8 h) b at s

-- what stands there is read as what it was made of
row_back : (xs : List Entry) → every is_named xs ≡ true → (b : List ℕ) (at : ℕ) → Stands b at (row_of (entry_of 22) xs) → row_in (entry_in 22) 22 (length xs) b at ≡ xs
unfolding row_of row_in every
row_back [] h b at s = refl
row_back (x ∷ xs) h b at s =
    let q : is_named x ≡ true = and_left (is_named x) (every is_named xs) h in
    let c = cut b at (entry_of 22 x) (row_of (entry_of 22) xs) 22 (at + 22) (size x q) refl s in
    rw (entry-back x q b at c.0) (ap (λ (r : List Entry). x ∷ r) (row_back xs (and_right (is_named x) (every is_named xs) h) b (at + 22) c.1))

row-size : (xs : List Entry) → every is_named xs ≡ true → length (row_of (entry_of 22) xs) ≡ 22 * length xs
unfolding row_of every
row-size [] h = omega arith
row-size (x ∷ xs) h =
    let l : length (entry_of 22 x) ≡ 22 = size x (and_left (is_named x) (every is_named xs) h) in
    let r : length (row_of (entry_of 22) xs) ≡ 22 * length xs = row-size xs (and_right (is_named x) (every is_named xs) h) in
    length-append (entry_of 22 x) (row_of (entry_of 22) xs) ∙ rw (l, r) (simp unary_clauses (omega arith))

-- ---- a table copied into rows of 22 bytes, as mounting does

-- an entry that bytes hold has a name of eight, with zeros past the end
in-named : (w : ℕ) (b : List ℕ) (at : ℕ) → is_named (entry_in w b at) ≡ true
unfolding entry_in
in-named w b at = eq-eqb (length (padded 0 8 (part b at 8))) 8 (length-padded 0 8 (part b at 8) (omega (arith, length-part-min b at 8)))

pub all_named : (w n : ℕ) (b : List ℕ) → every is_named (entries_in w n b) ≡ true
all_named w n b =
    every-from is_named (entries_in w n b) free_entry λ (i : ℕ) (q : i < length (entries_in w n b)).
    ap is_named (entry-is w n b i (w * i) (omega (arith, length-entries w n b)) refl) ∙ in-named w b (w * i)
