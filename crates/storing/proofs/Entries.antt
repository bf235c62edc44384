-- An entry of 22 bytes and its bytes, each read back from the other: words and long numbers are, and a name is its eight bytes.
use mathlib.Core.Path.{◌≡◌, refl, sym, ap, ◌∙◌}
use mathlib.Core.Bool.{true}
use mathlib.Core.List.{List}
use Prim.Native.Nat.{ℕ, ◌+◌, ◌*◌, ◌/◌, ◌%◌, ◌≤◌, ◌<◌, ◌^◌}
use native.Mathlib.Omega.{arith}
use lib.ListN.{length, get_or}
use borrow.Author.Tests.{lt-ltb, ltb-true}
use Rattle.geometry.specs.Bytes.{part, word, word_at, is_byte}
use Rattle.geometry.specs.Lists.{every}
use Rattle.geometry.proofs.Tests.{and_both, all_get_d, every-get_or}
use Rattle.directory.specs.declared.Entry.{Entry}
use Rattle.tables.specs.Numbers.{long, long_at}
use Rattle.tables.specs.Tables.{count_at, count_of, entry_in, entry_of}
use Rattle.tables.proofs.Entries.{name-is}
use Rattle.tables.proofs.Laid.{length-entry}
use Rattle.tables.proofs.Laws.{entry-back-at}
use Rattle.storing.specs.Fits.{fits, entry_fits}
use Rattle.storing.proofs.Back.{bytes-size}
use Rattle.storing.proofs.Bytes.{every_append, array-bytes}
use Rattle.storing.proofs.Parts.{Stands, next, after}

module _ (e : Entry) (h : entry_fits e ≡ true) where
  named : length e.name ≡ 8
  unfolding entry_fits
  named = bytes-size 8 e.name (all_get_d _ 0 h)

  pub entry-size : length (entry_of 22 e) ≡ 22
  entry-size = length-entry e named 22 (omega arith, omega arith, refl)

  pub entry-back : (b : List ℕ) (at : ℕ) → Stands b at (entry_of 22 e) → entry_in 22 b at ≡ e
  entry-back b at s = entry-back-at e named b at (ap (part b at) (sym entry-size) ∙ s)

-- ---- words from bytes

module _ (b : List ℕ) (bytes : every is_byte b ≡ true) where
  word_same : (at : ℕ) → at + 2 ≤ length b → word (word_at b at) ≡ part b at 2
  unfolding word word_at
  word_same at h =
      let x : get_or b at 0 < 256 = ltb-true _ 256 (every-get_or is_byte b at 0 bytes (omega arith)) in
      let y : get_or b (at + 1) 0 < 256 = ltb-true _ 256 (every-get_or is_byte b (at + 1) 0 bytes (omega arith)) in
      let high : (256 * get_or b at 0 + get_or b (at + 1) 0) / 256 ≡ get_or b at 0 = omega arith in
      let low : (256 * get_or b at 0 + get_or b (at + 1) 0) % 256 ≡ get_or b (at + 1) 0 = omega arith in
      rw (high, low) (after b at (at + 1) 1 refl (omega arith) (after b (at + 1) (at + 2) 0 (omega arith) (omega arith) (unfold part in refl)))

  small : (at : ℕ) → at + 2 ≤ length b → word_at b at < 65536
  unfolding word_at
  small at h =
      let x : get_or b at 0 < 256 = ltb-true _ 256 (every-get_or is_byte b at 0 bytes (omega arith)) in
      let y : get_or b (at + 1) 0 < 256 = ltb-true _ 256 (every-get_or is_byte b (at + 1) 0 bytes (omega arith)) in
      omega arith

  long_same : (at : ℕ) → at + 4 ≤ length b → long (long_at b at) ≡ part b at 4
  unfolding long long_at
  long_same at h =
      let y : word_at b (at + 2) < 65536 = small (at + 2) (omega arith) in
      let high : (65536 * word_at b at + word_at b (at + 2)) / 65536 ≡ word_at b at = omega arith in
      let low : (65536 * word_at b at + word_at b (at + 2)) % 65536 ≡ word_at b (at + 2) = omega arith in
      rw (high, low, word_same at (omega arith), word_same (at + 2) (omega arith)) (next b at 2 (at + 2) 2 refl refl)

  pub entry-same : (at : ℕ) → at + 22 ≤ length b → entry_of 22 (entry_in 22 b at) ≡ part b at 22
  unfolding entry_of entry_in count_of count_at
  entry-same at h =
      rw (
        name-is b at (omega arith),
        word_same (at + 8) (omega arith),
        word_same (at + 10) (omega arith),
        word_same (at + 12) (omega arith),
        word_same (at + 14) (omega arith),
        long_same (at + 16) (omega arith),
        word_same (at + 20) (omega arith),
      ) (next b at 8 (at + 8) 14 refl (next b (at + 8) 2 (at + 10) 12 (omega arith) (next b (at + 10) 2 (at + 12) 10 (omega arith) (next b (at + 12) 2 (at + 14) 8 (omega arith) (next b (at + 14) 2 (at + 16) 6 (omega arith) (next b (at + 16) 4 (at + 20) 2 (omega arith) refl))))))

-- ---- bytes that are bytes

word_bytes : (n : ℕ) → fits 2 n ≡ true → every is_byte (word n) ≡ true
unfolding word every fits
word_bytes n h =
    let s : n < 256 ^ 2 = ltb-true n (256 ^ 2) h in
    and_both (is_byte (n / 256)) _ (lt-ltb (n / 256) 256 (omega arith)) (and_both (is_byte (n % 256)) true (lt-ltb (n % 256) 256 (omega arith)) refl)

long-bytes : (n : ℕ) → fits 4 n ≡ true → every is_byte (long n) ≡ true
unfolding long fits
long-bytes n h =
    let s : n < 256 ^ 4 = ltb-true n (256 ^ 4) h in
    every_append is_byte (word (n / 65536)) (word (n % 65536)) (word_bytes (n / 65536) (lt-ltb (n / 65536) (256 ^ 2) (omega arith))) (word_bytes (n % 65536) (lt-ltb (n % 65536) (256 ^ 2) (omega arith)))

pub entry-bytes : (e : Entry) → entry_fits e ≡ true → every is_byte (entry_of 22 e) ≡ true
unfolding entry_of entry_fits count_of
entry-bytes e h =
    every_append is_byte e.name _ (array-bytes 8 e.name (all_get_d _ 0 h))
    (every_append is_byte (word e.kind) _ (word_bytes e.kind (all_get_d _ 1 h))
    (every_append is_byte (word e.length) _ (word_bytes e.length (all_get_d _ 2 h))
    (every_append is_byte (word e.first) _ (word_bytes e.first (all_get_d _ 3 h))
    (every_append is_byte (word e.sectors) _ (word_bytes e.sectors (all_get_d _ 4 h))
    (every_append is_byte (long e.count) _ (long-bytes e.count (all_get_d _ 5 h)) (word_bytes e.flags (all_get_d _ 6 h)))))))
