-- A session that is read from bytes fits them: a number of n bytes is less than 256 to the n.
use mathlib.Core.Path.{◌≡◌, refl}
use mathlib.Core.Bool.{Bool, true, false}
use mathlib.Core.List.{List, [], ◌∷◌}
use Prim.Native.Nat.{ℕ, zero, suc, ◌+◌, ◌*◌, ◌^◌, ◌≤◌, ◌<◌}
use native.Mathlib.Nat.{pow-succ', mul-suc}
use native.Mathlib.Omega.{arith}
use lib.ListN.{length, get_or}
use borrow.Author.Tests.{ltb-true, lt-ltb, eq-eqb}
use Rattle.geometry.specs.Bytes.{part, word_at, is_byte}
use Rattle.geometry.specs.Lists.{all, every}
use Rattle.geometry.specs.Sizes.{sector, entries, most_open}
use Rattle.geometry.proofs.Bytes.{length-part-min, length_part, word_at-small}
use Rattle.geometry.proofs.Tests.{and_left, and_right, and_both, either, every_any}
use Rattle.tables.specs.Numbers.{number_in, long_at}
use Rattle.tables.specs.Rows.{row_in}
use Rattle.tables.specs.Tables.{two_words_wide, count_at, entry_in, entries_in}
use Rattle.tables.proofs.Entries.{name-is}
use Rattle.tables.proofs.Rows.{length-row}
use Rattle.sessions.specs.Session.{fresh}
use Rattle.sessions.specs.declared.OpenFile.{OpenFile}
use Rattle.storing.specs.Fits.{fits, are_bytes, are_all, entry_fits, file_fits, held_fits, buffered_fits}
use Rattle.storing.specs.Stored.{said_at, saying_in, held_width, files_at, width, size_of, place_in, file_in, held_in, state_in, is_session, table_in, states_in, session_in, unlawful}
use Rattle.storing.proofs.Parts.{part_bytes}
use Rattle.storing.proofs.Read.{session-is, session-none, session-bytes, session-size}

-- ---- numbers

pub pow-some : (n : ℕ) → 1 ≤ 256 ^ n
pow-some zero = omega arith
pow-some (suc n) = let p : 256 ^ suc n ≡ 256 * 256 ^ n = pow-succ' 256 n in omega (arith, pow-some n)

number_small : (n : ℕ) (xs : List ℕ) → length xs ≤ n → every is_byte xs ≡ true → number_in xs < 256 ^ n
unfolding number_in every
number_small n [] l h = omega (arith, pow-some n)
number_small zero (x ∷ xs) l h = absurd (omega arith)
number_small (suc n) (x ∷ xs) l h =
    let p : 256 ^ suc n ≡ 256 * 256 ^ n = pow-succ' 256 n in
    let s : x < 256 = ltb-true x 256 (and_left (is_byte x) (every is_byte xs) h) in
    let m : length xs ≤ n = omega arith in
    let k : number_in xs < 256 ^ n = number_small n xs m (and_right (is_byte x) (every is_byte xs) h) in
    omega arith

-- with a buffer that holds nothing
pub fresh-fits : (f : OpenFile) → file_fits f ≡ true → held_fits (fresh f) ≡ true
unfolding held_fits all fits are_bytes every
fresh-fits f h = rw h

module _ (b : List ℕ) (bytes : every is_byte b ≡ true) where
  part-fits : (at n : ℕ) → fits n (number_in (part b at n)) ≡ true
  unfolding fits
  part-fits at n =
      lt-ltb (number_in (part b at n)) (256 ^ n) (number_small n (part b at n) (omega (arith, length-part-min b at n)) (part_bytes b bytes at n))

  part-are : (at n : ℕ) → at + n ≤ length b → are_bytes n (part b at n) ≡ true
  unfolding are_bytes
  part-are at n l = and_both _ _ (eq-eqb (length (part b at n)) n (length_part b at n l)) (part_bytes b bytes at n)

  byte_small : (k : ℕ) → get_or b k 0 < 256
  byte_small k = ltb-true (get_or b k 0) 256 (every_any is_byte b k 0 bytes refl)

  word_small : (at : ℕ) → word_at b at < 65536
  word_small at = word_at-small b at (byte_small at) (byte_small (at + 1))

  word_fits : (at : ℕ) → fits 2 (word_at b at) ≡ true
  unfolding fits
  word_fits at = lt-ltb (word_at b at) (256 ^ 2) (omega (arith, word_small at))

  long-fits : (at : ℕ) → fits 4 (long_at b at) ≡ true
  unfolding fits long_at
  long-fits at = lt-ltb (65536 * word_at b at + word_at b (at + 2)) (256 ^ 4) (omega (arith, word_small at, word_small (at + 2)))

  -- ---- entries and states

  entry-fits : (at : ℕ) → at + two_words_wide ≤ length b → entry_fits (entry_in two_words_wide b at) ≡ true
  unfolding entry_fits entry_in count_at all
  entry-fits at l =
      rw (
        name-is b at (omega arith),
        part-are at 8 (omega arith),
        word_fits (at + 8),
        word_fits (at + 10),
        word_fits (at + 12),
        word_fits (at + 14),
        long-fits (at + 16),
        word_fits (at + 20),
      )

  file-fits : (at : ℕ) → file_fits (file_in b at) ≡ true
  unfolding file_fits file_in place_in all
  file-fits at = rw (part-fits (at + 1) 8, part-fits (at + 9) 4, part-fits (at + 14) 4, part-fits (at + 14 + 4) 4, part-fits (at + 22) 4, part-fits (at + 22 + 4) 4)

  held_fits_lem : (at : ℕ) → at + held_width ≤ length b → held_fits (held_in b at) ≡ true
  unfolding held_fits held_in all
  held_fits_lem at l = rw (file-fits at, part-fits (at + 31) 4, part-are (at + 36) sector (omega arith))

  state-fits : (u : Bool) (at : ℕ) → at + width u ≤ length b → held_fits (state_in u b at) ≡ true
  unfolding state_in width
  state-fits true at l = held_fits_lem at l
  state-fits false at l = fresh-fits (file_in b at) (file-fits at)

-- ---- rows of them

row_fits : {A : Type 0} (g : List ℕ → ℕ → A) (p : A → Bool) (w : ℕ) (b : List ℕ) → ((at : ℕ) → at + w ≤ length b → p (g b at) ≡ true)
    → (n at : ℕ) → at + w * n ≤ length b → every p (row_in g w n b at) ≡ true
unfolding row_in every
row_fits g p w b one zero at l = refl
row_fits g p w b one (suc n) at l =
    let m = mul-suc w n in
    and_both (p (g b at)) _ (one at (omega arith)) (row_fits g p w b one n (at + w) (omega arith))

row-are : {A : Type 0} (g : List ℕ → ℕ → A) (p : A → Bool) (w : ℕ) (b : List ℕ) → ((at : ℕ) → at + w ≤ length b → p (g b at) ≡ true)
    → (n at : ℕ) → at + w * n ≤ length b → are_all n p (row_in g w n b at) ≡ true
unfolding are_all
row-are g p w b one n at l = and_both _ _ (eq-eqb (length (row_in g w n b at)) n (length-row g w n b at)) (row_fits g p w b one n at l)

-- ---- sessions

none-fits : buffered_fits unlawful ≡ true
unfolding buffered_fits unlawful are_all every entry_fits file_fits held_fits all are_bytes fits
none-fits = refl

module _ (u : Bool) (b : List ℕ) where
  told-fits : is_session u b ≡ true → buffered_fits (record { says = saying_in b (said_at u); table = table_in b; files = states_in u b }) ≡ true
  unfolding buffered_fits entries_in states_in size_of
  told-fits h =
      let l : length b ≡ files_at + width u * most_open + 1 = session-size u b h in
      let y : every is_byte b ≡ true = session-bytes u b h in
      and_both _ _ (row-are (entry_in two_words_wide) entry_fits two_words_wide b (entry-fits b y) entries 0 (omega arith))
      (row-are (state_in u) held_fits (width u) b (state-fits b y u) most_open files_at (omega arith))

  pub read_fits : buffered_fits (session_in u b) ≡ true
  read_fits = either (is_session u b) (λ h. rw (session-is u b h) (told-fits h)) (λ h. rw (session-none u b h) none-fits)
