-- An entry laid in the table is the table with it. Count and flags are the last six bytes of one: laid over those of one that stands there, they
-- make it the entry with these.
use mathlib.Core.Path.{◌≡◌, refl, sym, ap, ◌∙◌}
use mathlib.Core.Bool.{Bool, true}
use mathlib.Core.List.{List, ◌++◌, append_assoc}
use Prim.Native.Nat.{ℕ, ◌+◌, ◌*◌, ◌≤◌, ◌<◌}
use native.Mathlib.Omega.{arith}
use native.Mathlib.Decide.{dec_lt}
use lib.ListN.{length, set, length-append, get_or-eq_default}
use lib.Seq.{take-append-le, take-length}
use Rattle.geometry.specs.Bytes.{part, lay, word, is_byte}
use Rattle.geometry.specs.Lists.{every}
use Rattle.geometry.specs.Sizes.{entries, most_open}
use Rattle.geometry.proofs.Bytes.{length_part, lay-append, lay-part, part-part}
use Rattle.directory.specs.Entries.{free_entry, entry_at}
use Rattle.directory.specs.Stamp.{restamped}
use Rattle.directory.specs.declared.Entry.{Entry}
use Rattle.tables.specs.Numbers.{long}
use Rattle.tables.specs.Tables.{two_words_wide, has_rows, entry_in, entry_of, count_of, lay_entry, lay_counts}
use Rattle.tables.proofs.Entries.{name-is}
use Rattle.tables.proofs.Laid.{length-entry, row-there, row-not}
use Rattle.tables.proofs.Tables.{length-entries, entry-is}
use Rattle.tables.proofs.Widths.{rows-there}
use Rattle.sessions.specs.declared.BufferedFile.{BufferedFile}
use Rattle.sessions.specs.declared.BufferedSession.{BufferedSession}
use Rattle.storing.specs.Fits.{entry_fits}
use Rattle.storing.specs.Stored.{files_at, width, said_at, said_width, size_of, has_buffers, state_stored, stored, is_session, table_in, session_in, lay_part}
use Rattle.storing.proofs.Entries.{entry-size, entry-same}
use Rattle.storing.proofs.Laid.{part-there, part-not, laid-buffers}
use Rattle.storing.proofs.Laws.{stored-entered, stored-laid}
use Rattle.storing.proofs.Read.{session-bytes, session-size, session-is}

-- the front of what is there, laid there again
lay-front : (b : List ℕ) (at n : ℕ) (xs ys : List ℕ) → length xs ≤ n → part b at n ≡ xs ++ ys → lay b at xs ≡ b
lay-front b at n xs ys h e = ap (lay b at) same ∙ lay-part b at (length xs)
  where
    first : xs ≡ part (xs ++ ys) 0 (length xs)
    first = unfold part in sym (take-append-le (length xs) xs ys (omega arith) ∙ take-length xs)

    same : xs ≡ part b at (length xs)
    same =
        let z : at + 0 ≡ at = omega arith in
        first ∙ ap (λ (x : List ℕ). part x 0 (length xs)) (sym e) ∙ part-part b at n 0 (length xs) (omega arith) ∙ ap (λ (m : ℕ). part b m (length xs)) z

-- the bytes before count and flags, and these
abbrev front : Entry → List ℕ
front e = e.name ++ (word e.kind ++ (word e.length ++ (word e.first ++ word e.sectors)))

abbrev pub back : ℕ → ℕ → List ℕ
back count flags = count_of two_words_wide count ++ word flags

joined : (e : Entry) → entry_of two_words_wide e ≡ front e ++ back e.count e.flags
unfolding entry_of word
joined e = sym (append_assoc e.name (word e.kind ++ (word e.length ++ (word e.first ++ word e.sectors))) (back e.count e.flags))

front_long : (e : Entry) → length e.name ≡ 8 → length (front e) ≡ 16
unfolding word
front_long e n = length-append e.name (word e.kind ++ (word e.length ++ (word e.first ++ word e.sectors))) ∙ ap (λ (k : ℕ). k + 8) n

pub back_long : (count flags : ℕ) → length (back count flags) ≡ 6
unfolding count_of long word
back_long count flags = refl

-- ---- a whole entry

pub has-table : (b : List ℕ) → files_at ≤ length b → has_rows two_words_wide entries b ≡ true
has-table b room = rows-there two_words_wide entries b (omega arith, omega arith, refl) room

entry-laid : (b : List ℕ) → files_at ≤ length b → (i : ℕ) (e : Entry) → lay_entry two_words_wide entries b i e ≡ lay_part entries 0 two_words_wide b i (entry_of two_words_wide e)
entry-laid b room i e = go (dec_lt i entries)
  where
    go : Dec (i < entries) → lay_entry two_words_wide entries b i e ≡ lay_part entries 0 two_words_wide b i (entry_of two_words_wide e)
    go (yes h) =
        row-there two_words_wide entries b i 0 (entry_of two_words_wide e) (two_words_wide * i) (omega arith) (has-table b room) h
        ∙ sym (part-there entries 0 two_words_wide b i (entry_of two_words_wide e) (two_words_wide * i) (omega arith) h)
    go (no h) = row-not two_words_wide entries b i 0 (entry_of two_words_wide e) (omega arith) ∙ sym (part-not entries 0 two_words_wide b i _ (omega arith))

module _ (u : Bool) (b : List ℕ) (h : is_session u b ≡ true) where
  table-there : files_at ≤ length b
  table-there = let size : length b ≡ said_at u + said_width = (unfold size_of in session-size u b h) in omega arith

  -- laying an entry that fits is setting it in the table
  pub entry_set : (i : ℕ) (e : Entry) → entry_fits e ≡ true
      → lay_entry two_words_wide entries b i e ≡ stored u (record { says = (session_in u b).says; table = set (session_in u b).table i e; files = (session_in u b).files })
  entry_set i e q = entry-laid b table-there i e ∙ sym (stored-entered u b h i e (entry-size e q))

  pub entry-buffers : (i : ℕ) (e : Entry) → has_buffers (lay_entry two_words_wide entries b i e) ≡ has_buffers b
  entry-buffers i e = ap has_buffers (entry-laid b table-there i e) ∙ laid-buffers entries 0 two_words_wide b i (entry_of two_words_wide e)

-- ---- count and flags

module _ (b : List ℕ) (bytes : every is_byte b ≡ true) (room : files_at ≤ length b) (i count flags : ℕ) where
  abbrev at : ℕ
  at = two_words_wide * i

  entry_named : (e : Entry) → i < entries → e ≡ entry_in two_words_wide b at → length e.name ≡ 8
  entry_named e h q =
      ap (λ (e : Entry). length e.name) q ∙ (unfold entry_in in (ap length (name-is b at (omega arith)) ∙ length_part b at 8 (omega arith)))

  here : (e : Entry) → i < entries → e ≡ entry_in two_words_wide b at → lay b (at + 16) (back count flags) ≡ lay b at (entry_of two_words_wide (restamped e count flags))
  here e h q =
      let long : length (front e) ≡ 16 = front_long e (entry_named e h q) in
      let size : length (back count flags) ≡ 6 = back_long count flags in
      let whole : part b at two_words_wide ≡ front e ++ back e.count e.flags = sym (ap (entry_of two_words_wide) q ∙ entry-same b bytes at (omega arith)) ∙ joined e in
      ap (λ (m : ℕ). lay b (at + m) (back count flags)) (sym long)
      ∙ ap (λ (x : List ℕ). lay x (at + length (front e)) (back count flags)) (sym (lay-front b at two_words_wide (front e) _ (omega arith) whole))
      ∙ sym (lay-append b at (front e) (back count flags) (omega arith))
      ∙ ap (lay b at) (sym (joined (restamped e count flags)))

  counts-laid : lay_counts two_words_wide entries b i count flags ≡ lay_part entries 0 two_words_wide b i (entry_of two_words_wide (restamped (entry_at (table_in b) i) count flags))
  counts-laid = go (dec_lt i entries)
    where
      go : Dec (i < entries) → lay_counts two_words_wide entries b i count flags ≡ lay_part entries 0 two_words_wide b i (entry_of two_words_wide (restamped (entry_at (table_in b) i) count flags))
      go (yes h) =
          row-there two_words_wide entries b i 16 (back count flags) (at + 16) refl (has-table b room) h
          ∙ here (entry_at (table_in b) i) h (entry-is two_words_wide entries b i at h refl)
          ∙ sym (part-there entries 0 two_words_wide b i (entry_of two_words_wide (restamped (entry_at (table_in b) i) count flags)) at (omega arith) h)
      go (no h) = row-not two_words_wide entries b i 16 (back count flags) (omega arith) ∙ sym (part-not entries 0 two_words_wide b i _ (omega arith))

  recounted-long : length (entry_of two_words_wide (restamped (entry_at (table_in b) i) count flags)) ≡ two_words_wide
  recounted-long = length-entry (restamped (entry_at (table_in b) i) count flags) (named (dec_lt i entries)) two_words_wide (omega arith, omega arith, refl)
    where
      named : Dec (i < entries) → length (entry_at (table_in b) i).name ≡ 8
      named (yes h) = entry_named (entry_at (table_in b) i) h (entry-is two_words_wide entries b i at h refl)
      named (no h) =
          let n : length (table_in b) ≡ entries = length-entries two_words_wide entries b in
          ap (λ (e : Entry). length e.name) (get_or-eq_default (table_in b) free_entry (omega arith))

-- so a session with another count and other flags of an entry, and another state, stands in its bytes with these laid over them
pub stored-counted : (u : Bool) (b : List ℕ) (i k count flags : ℕ) → is_session u b ≡ true → (f : BufferedFile) → length (state_stored u f) ≡ width u
    → stored u (record { says = (session_in u b).says; table = set (session_in u b).table i (restamped (entry_at (session_in u b).table i) count flags); files = set (session_in u b).files k f })
    ≡ lay_part most_open files_at (width u) (lay_counts two_words_wide entries b i count flags) k (state_stored u f)
stored-counted u b i k count flags h f l =
    let bytes = session-bytes u b h in
    let room = table-there u b h in
    let t : (session_in u b).table ≡ table_in b = ap (λ (s : BufferedSession). s.table) (session-is u b h) in
    stored-laid u b h i (restamped (entry_at (session_in u b).table i) count flags) (rw t (recounted-long b bytes room i count flags)) k f l
    ∙ ap (λ (x : List ℕ). lay_part most_open files_at (width u) x k (state_stored u f)) (rw t (sym (counts-laid b bytes room i count flags)))
