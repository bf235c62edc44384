-- A session with nothing open: its states are zero bytes, and a table with no used entry is too; behind them stands what it says of itself.
use mathlib.Core.Path.{◌≡◌, refl, sym, ap, ◌∙◌}
use mathlib.Core.Bool.{Bool, true, false, ◌||◌, false≢true}
use mathlib.Core.List.{List, ◌++◌}
use Prim.Native.Nat.{ℕ, ◌+◌, ◌-◌, ◌*◌, ◌≤◌}
use native.Mathlib.Omega.{arith}
use lib.ListN.{length, replicate, length-append, length-replicate}
use lib.Dec.{eqb}
use borrow.Author.Tests.{eq-eqb, ne_eqb, eqb-true}
use Rattle.geometry.specs.Bytes.{lay, word}
use Rattle.geometry.specs.Sizes.{entries, most_open}
use Rattle.geometry.proofs.Bytes.{lay-all}
use Rattle.geometry.proofs.Tests.{either, or-either, neither_left, neither_right}
use Rattle.directory.specs.Entries.{free_entry, table_of}
use Rattle.directory.specs.declared.Entry.{Entry}
use Rattle.tables.specs.Numbers.{long}
use Rattle.tables.specs.Rows.{row_of}
use Rattle.tables.specs.Tables.{one_word_wide, two_words_wide, has_rows, count_of, entry_of, entries_in, copied}
use Rattle.tables.proofs.Laid.{length-entry, copied-there, copied-not}
use Rattle.tables.proofs.Laws.{is_named, all_named, on-image}
use Rattle.tables.proofs.Tables.{length-entries}
use Rattle.tables.proofs.Widths.{rows-there}
use Rattle.sessions.specs.Session.{idle, fresh}
use Rattle.sessions.specs.declared.Saying.{Saying}
use Rattle.storing.specs.Numbers.{bytes_of, flag_of}
use Rattle.storing.specs.Stored.{files_at, width, said_at, said_width, size_of, has_buffers, place_stored, file_stored, hold_stored, held_stored, state_stored, saying_stored, stored, start_table, lay_start}
use Rattle.storing.proofs.Read.{size-plain, size-buffered, told-by-size}
use Rattle.storing.proofs.Rows.{row-size, lay-first}

abbrev states : Bool → List ℕ
states u = row_of (state_stored u) (replicate most_open (fresh idle))

idle-bytes : (u : Bool) → states u ≡ replicate (width u * most_open) 0
unfolding row_of state_stored width held_stored file_stored place_stored hold_stored bytes_of flag_of
idle-bytes true = refl
idle-bytes false = refl

free_bytes : row_of (entry_of two_words_wide) (replicate entries free_entry) ≡ replicate files_at 0
unfolding row_of entry_of count_of long word
free_bytes = refl

-- zeros with what a session says of itself laid over the last
zeros-said : (u : Bool) (s : Saying) → lay (replicate (size_of u) 0) (said_at u) (saying_stored s) ≡ replicate files_at 0 ++ (replicate (width u * most_open) 0 ++ saying_stored s)
unfolding lay width size_of saying_stored
zeros-said true s = refl
zeros-said false s = refl

said-last : (u : Bool) (n : ℕ) → n ≡ size_of u → n - said_width ≡ said_at u
unfolding size_of
said-last u n l = omega arith

-- ---- as the program lays it

-- whether bytes are as many as a session takes
abbrev pub is_size : List ℕ → Bool
is_size b = eqb (length b) 517 || eqb (length b) 1981

module _ (b image : List ℕ) where
  abbrev u : Bool
  u = has_buffers b

  pub sized : is_size b ≡ true → length b ≡ size_of u
  sized h = or-either (eqb (length b) 517) (eqb (length b) 1981) h (λ (q : eqb (length b) 517 ≡ true). of_size false (eqb-true (length b) 517 q ∙ sym size-plain)) (λ (q : eqb (length b) 1981 ≡ true). of_size true (eqb-true (length b) 1981 q ∙ sym size-buffered))
    where
      of_size : (v : Bool) → length b ≡ size_of v → length b ≡ size_of u
      of_size v n = n ∙ ap size_of (sym (told-by-size v b n))

  pub has-saying : is_size b ≡ true → said_width ≤ length b
  has-saying h = let l : length b ≡ said_at u + said_width = (unfold size_of in sized h) in omega arith

  start_is : (s : Saying) (table : List Entry) → length b ≡ size_of u → lay_start b s table ≡ row_of (entry_of two_words_wide) table ++ (states u ++ saying_stored s)
  unfolding lay_start stored
  start_is s table l = rw (eq-eqb (length b) (size_of u) l, lay_start)

  pub other-number : is_size b ≡ false → eqb (length b) (size_of u) ≡ false
  other-number h = ne_eqb (length b) (size_of u) (differs u)
    where
      differs : (v : Bool) → ¬ (length b ≡ size_of v)
      differs true l = false≢true (sym (neither_right (eqb (length b) 517) (eqb (length b) 1981) h) ∙ eq-eqb (length b) 1981 (l ∙ size-buffered))
      differs false l = false≢true (sym (neither_left (eqb (length b) 517) (eqb (length b) 1981) h) ∙ eq-eqb (length b) 517 (l ∙ size-plain))

  pub start-other : (s : Saying) (table : List Entry) → is_size b ≡ false → b ≡ lay_start b s table
  unfolding lay_start
  start-other s table h = rw (other-number h, lay_start)

  module _ (size : length b ≡ size_of u) (b₁ : List ℕ) (filled : b₁ ≡ lay b 0 (replicate (length b) 0)) (s : Saying) (x : List ℕ) (told : x ≡ saying_stored s) (b₂ : List ℕ) (said : b₂ ≡ lay b₁ (length b - said_width) x) where
    abbrev table : List ℕ
    table = row_of (entry_of two_words_wide) (entries_in one_word_wide entries image)

    zeros : b₁ ≡ replicate (size_of u) 0
    zeros = filled ∙ lay-all (length b) b (replicate (length b) 0) refl (length-replicate {A = ℕ} (length b) 0) ∙ ap (λ (n : ℕ). replicate n 0) size

    front : b₂ ≡ replicate files_at 0 ++ (states u ++ saying_stored s)
    front = said ∙ rw (zeros, told, said-last u (length b) size) (zeros-said u s) ∙ ap (λ (r : List ℕ). replicate files_at 0 ++ (r ++ saying_stored s)) (sym (idle-bytes u))

    none : b₂ ≡ lay_start b s (replicate entries free_entry)
    none = front ∙ sym (start_is s (replicate entries free_entry) size ∙ rw free_bytes)

    pub start_none : b₂ ≡ lay_start b s (start_table false image)
    unfolding start_table
    start_none = none

    table-long : length table ≡ files_at
    table-long =
        row-size (entry_of two_words_wide) is_named two_words_wide (λ (e : Entry) h. length-entry e (eqb-true (length e.name) 8 h) two_words_wide (omega arith, omega arith, refl)) (entries_in one_word_wide entries image) (all_named one_word_wide entries image)
        ∙ ap (λ (n : ℕ). two_words_wide * n) (length-entries one_word_wide entries image)

    zeros-long : length {A = ℕ} (replicate files_at 0) ≡ files_at
    zeros-long = length-replicate {A = ℕ} files_at 0

    has_room : has_rows two_words_wide entries b₂ ≡ true
    has_room =
        let l : length b₂ ≡ files_at + length (states u ++ saying_stored s) = ap length front ∙ length-append (replicate files_at 0) (states u ++ saying_stored s) ∙ ap (λ (n : ℕ). n + length (states u ++ saying_stored s)) zeros-long in
        rows-there two_words_wide entries b₂ (omega arith, omega arith, refl) (omega arith)

    pub start-table : (b₃ : List ℕ) → b₃ ≡ copied two_words_wide b₂ one_word_wide image entries → b₃ ≡ lay_start b s (start_table true image)
    unfolding start_table
    start-table b₃ e = either (has_rows one_word_wide entries image)
        (λ (h : has_rows one_word_wide entries image ≡ true).
        rw (h, start_table)
        (e ∙ copied-there two_words_wide b₂ one_word_wide image entries has_room h
        ∙ ap (λ (c : List ℕ). lay c 0 table) front
        ∙ lay-first (replicate files_at 0) (states u ++ saying_stored s) table 0 (omega (arith, zeros-long, table-long))
        ∙ ap (λ (c : List ℕ). c ++ (states u ++ saying_stored s)) (lay-all files_at (replicate files_at 0) table zeros-long table-long)
        ∙ ap (λ (t : List Entry). row_of (entry_of two_words_wide) t ++ (states u ++ saying_stored s)) (on-image image)
        ∙ sym (start_is s (table_of image) size)))
        (λ (h : has_rows one_word_wide entries image ≡ false). rw (h, start_table) (e ∙ copied-not two_words_wide b₂ one_word_wide image entries h ∙ none))
