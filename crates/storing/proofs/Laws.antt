-- The law of the pair that reads and stores a session: each undoes the other. And what is laid is the session with that part. One argument for
-- sessions with buffers and with none.
use mathlib.Core.Path.{◌≡◌, refl, sym, ap, ◌∙◌}
use mathlib.Core.Bool.{Bool, true, false}
use mathlib.Core.List.{List, [], ◌∷◌, ◌++◌, map, map-id}
use Prim.Native.Nat.{ℕ, ◌+◌, ◌*◌}
use native.Mathlib.Omega.{arith}
use lib.Dec.{eqb}
use lib.ListN.{length, set, length-append, length-map}
use lib.Seq.{take-length}
use borrow.Author.Tests.{eqb-true, eq-eqb}
use Rattle.geometry.specs.Bytes.{part, is_byte}
use Rattle.geometry.specs.Lists.{all, every}
use Rattle.geometry.specs.Sizes.{sector, entries, most_open}
use Rattle.geometry.proofs.Bytes.{length_part, part-all}
use Rattle.geometry.proofs.Tests.{and_left, and_right, all_get_d}
use Rattle.directory.specs.declared.Entry.{Entry}
use Rattle.tables.specs.Rows.{row_of, row_in}
use Rattle.tables.specs.Tables.{two_words_wide, entry_in, entry_of, entries_in}
use Rattle.tables.proofs.Rows.{length-row}
use Rattle.tables.proofs.Tables.{length-entries}
use Rattle.sessions.specs.Session.{fresh, bare, unheld}
use Rattle.sessions.specs.declared.BufferedFile.{BufferedFile}
use Rattle.sessions.specs.declared.BufferedSession.{BufferedSession}
use Rattle.sessions.specs.declared.OpenFile.{OpenFile}
use Rattle.sessions.specs.declared.Session.{Session}
use Rattle.storing.specs.Fits.{are_all, entry_fits, file_fits, held_fits, session_fits, buffered_fits}
use Rattle.storing.specs.Stored.{files_at, width, said_at, said_width, size_of, state_stored, state_in, state_flags, saying_stored, saying_in, stored, is_session, table_in, states_in, session_in, plain_in, plain_stored, lay_part}
use Rattle.storing.proofs.Back.{bytes-size, kept_in, state_fits, state-back, state-flagged, state-same, saying-flagged, saying-back, saying-same}
use Rattle.storing.proofs.Bytes.{every_append, row-bytes, state-bytes, saying-bytes}
use Rattle.storing.proofs.Entries.{entry-size, entry-back, entry-same, entry-bytes}
use Rattle.storing.proofs.Laid.{length-state, length-file, length-saying, length-laid}
use Rattle.storing.proofs.Parts.{Stands, cut, next}
use Rattle.storing.proofs.Read.{session-bytes, session-size, session-flags, session-said, session-is, plain-holds-nothing}
use Rattle.storing.proofs.Rows.{row-size, row_told, row_same, row_sized, row_laid, part-first, part-second}

-- ---- arrays of things that fit

module _ {A : Type 0} (n : ℕ) (p : A → Bool) (xs : List A) (h : are_all n p xs ≡ true) where
  all-count : length xs ≡ n
  unfolding are_all
  all-count = eqb-true (length xs) n (and_left (eqb (length xs) n) (every p xs) h)

  all_fit : every p xs ≡ true
  unfolding are_all
  all_fit = and_right (eqb (length xs) n) (every p xs) h

all_true : {A : Type 0} (xs : List A) → all (map (λ x. true) xs) ≡ true
unfolding all
all_true [] = refl
all_true (x ∷ xs) = all_true xs

state-size : (u : Bool) (x : BufferedFile) → state_fits u x ≡ true → length (state_stored u x) ≡ width u
unfolding state_fits held_fits state_stored width
state-size true x q = unfold state_stored width in length-state true x (bytes-size sector x.buffer (all_get_d _ 2 q))
state-size false x q = length-file x.file

-- ---- what is stored is read back

module _ (u : Bool) (s : BufferedSession) (ht : are_all entries entry_fits s.table ≡ true) (hf : are_all most_open (state_fits u) s.files ≡ true) where
  abbrev t : List ℕ
  t = row_of (entry_of two_words_wide) s.table

  abbrev f : List ℕ
  f = row_of (state_stored u) s.files

  table-size : length t ≡ files_at
  table-size = row-size (entry_of two_words_wide) entry_fits two_words_wide entry-size s.table (all_fit entries entry_fits s.table ht) ∙ ap (λ (n : ℕ). two_words_wide * n) (all-count entries entry_fits s.table ht)

  files-size : length f ≡ width u * most_open
  files-size = row-size (state_stored u) (state_fits u) (width u) (state-size u) s.files (all_fit most_open (state_fits u) s.files hf) ∙ ap (λ (n : ℕ). width u * n) (all-count most_open (state_fits u) s.files hf)

  abbrev says : List ℕ
  says = saying_stored s.says

  abbrev b : List ℕ
  b = t ++ (f ++ says)

  stands : Stands b 0 b
  unfolding part
  stands = take-length b

  abbrev parts : (part b 0 files_at ≡ t) × Stands b files_at (f ++ says)
  parts = cut b 0 t (f ++ says) files_at files_at table-size refl stands

  abbrev behind : (part b files_at (width u * most_open) ≡ f) × Stands b (said_at u) says
  behind = cut b files_at f says (width u * most_open) (said_at u) files-size refl parts.1

  table-stands : Stands b 0 t
  table-stands = ap (part b 0) table-size ∙ parts.0

  files-stand : Stands b files_at f
  files-stand = ap (part b files_at) files-size ∙ behind.0

  table-back : table_in b ≡ s.table
  unfolding entries_in
  table-back =
      ap (λ (n : ℕ). row_in (entry_in two_words_wide) two_words_wide n b 0) (sym (all-count entries entry_fits s.table ht))
      ∙ row_told (entry_of two_words_wide) entry_fits two_words_wide entry-size (entry_in two_words_wide) (λ x. x) entry-back s.table (all_fit entries entry_fits s.table ht) b 0 table-stands
      ∙ map-id s.table

  told-files : {B : Type 0} (h : List ℕ → ℕ → B) (v : BufferedFile → B) → ((x : BufferedFile) → state_fits u x ≡ true → (c : List ℕ) (at : ℕ) → Stands c at (state_stored u x) → h c at ≡ v x)
      → row_in h (width u) most_open b files_at ≡ map v s.files
  told-files h v tells =
      ap (λ (n : ℕ). row_in h (width u) n b files_at) (sym (all-count most_open (state_fits u) s.files hf))
      ∙ row_told (state_stored u) (state_fits u) (width u) (state-size u) h v tells s.files (all_fit most_open (state_fits u) s.files hf) b files_at files-stand

  pub stored-told : is_session u (stored u s) ≡ true
  unfolding is_session stored size_of
  stored-told =
      let l : length b ≡ length t + length (f ++ says) = length-append t (f ++ says) in
      let m : length (f ++ says) ≡ length f + length says = length-append f says in
      let n : length b ≡ said_at u + said_width = omega (arith, table-size, files-size, length-saying s.says) in
      rw (
        every_append is_byte t (f ++ says) (row-bytes (entry_of two_words_wide) entry_fits entry-bytes s.table (all_fit entries entry_fits s.table ht)) (every_append is_byte f says (row-bytes (state_stored u) (state_fits u) (state-bytes u) s.files (all_fit most_open (state_fits u) s.files hf)) (saying-bytes s.says)),
        eq-eqb (length b) (said_at u + said_width) n,
        ap all (told-files (state_flags u) (λ x. true) (λ x q. state-flagged u x)) ∙ all_true s.files,
      ) (saying-flagged s.says b (said_at u) behind.1)

  pub stored_back : session_in u (stored u s) ≡ record { says = s.says; table = s.table; files = map (kept_in u) s.files }
  stored_back =
      session-is u (stored u s) stored-told ∙ (unfold stored states_in in rw (saying-back s.says b (said_at u) behind.1, table-back, told-files (state_in u) (kept_in u) (state-back u)))

-- ---- and bytes are stored again as they were

module _ (u : Bool) (b : List ℕ) (ok : is_session u b ≡ true) where
  long : length b ≡ said_at u + said_width
  unfolding size_of
  long = session-size u b ok

  abbrev table : List ℕ
  table = row_of (entry_of two_words_wide) (table_in b)

  abbrev files : List ℕ
  files = row_of (state_stored u) (states_in u b)

  table-part : table ≡ part b 0 files_at
  unfolding entries_in all row_in
  table-part = row_same (entry_of two_words_wide) (entry_in two_words_wide) (λ b at. true) two_words_wide b (λ at h k. entry-same b (session-bytes u b ok) at h) entries 0 (omega (arith, long)) refl

  files-part : files ≡ part b files_at (width u * most_open)
  unfolding states_in
  files-part = row_same (state_stored u) (state_in u) (state_flags u) (width u) b (state-same u b (session-bytes u b ok)) most_open files_at (omega (arith, long)) (session-flags u b ok)

  abbrev said : List ℕ
  said = saying_stored (saying_in b (said_at u))

  said-part : said ≡ part b (said_at u) said_width
  said-part = saying-same b (said_at u) (omega (arith, long)) (session-said u b ok)

  whole : table ++ (files ++ said) ≡ b
  whole =
      let z : files_at + (width u * most_open + said_width) ≡ said_at u + said_width = omega arith in
      rw (table-part, files-part)
      (next b 0 files_at files_at (width u * most_open + said_width) refl (next b files_at (width u * most_open) (said_at u) said_width refl said-part)
      ∙ ap (part b 0) z ∙ part-all b (said_at u + said_width) long)

  pub stored-kept : stored u (session_in u b) ≡ b
  unfolding stored
  stored-kept = rw (session-is u b ok) whole

  table-sized : every (λ x. eqb (length (entry_of two_words_wide x)) two_words_wide) (table_in b) ≡ true
  unfolding entries_in all row_in
  table-sized = row_sized (entry_of two_words_wide) (entry_in two_words_wide) (λ b at. true) two_words_wide b (λ at h k. entry-same b (session-bytes u b ok) at h) entries 0 (omega (arith, long)) refl

  files-sized : every (λ x. eqb (length (state_stored u x)) (width u)) (states_in u b) ≡ true
  unfolding states_in
  files-sized = row_sized (state_stored u) (state_in u) (state_flags u) (width u) b (state-same u b (session-bytes u b ok)) most_open files_at (omega (arith, long)) (session-flags u b ok)

  files-count : length (states_in u b) ≡ most_open
  unfolding states_in
  files-count = length-row (state_in u) (width u) most_open b files_at

  -- with another entry
  module _ (i : ℕ) (e : Entry) (le : length (entry_of two_words_wide e) ≡ two_words_wide) where
    table-long : length table ≡ files_at
    table-long = ap length table-part ∙ length_part b 0 files_at (omega (arith, long))

    entered : lay_part entries 0 two_words_wide table i (entry_of two_words_wide e) ++ (files ++ said) ≡ lay_part entries 0 two_words_wide b i (entry_of two_words_wide e)
    entered =
        sym (part-first two_words_wide entries table (files ++ said) (entry_of two_words_wide e) le i table-long) ∙ ap (λ (c : List ℕ). lay_part entries 0 two_words_wide c i (entry_of two_words_wide e)) whole

    pub stored-entered : stored u (record { says = (session_in u b).says; table = set (session_in u b).table i e; files = (session_in u b).files })
        ≡ lay_part entries 0 two_words_wide b i (entry_of two_words_wide e)
    unfolding stored
    stored-entered =
        rw (session-is u b ok) (rw (row_laid (entry_of two_words_wide) two_words_wide entries (table_in b) i e table-sized (length-entries two_words_wide entries b) le) entered)

    -- and another state
    pub stored-laid : (k : ℕ) (x : BufferedFile) → length (state_stored u x) ≡ width u
        → stored u (record { says = (session_in u b).says; table = set (session_in u b).table i e; files = set (session_in u b).files k x })
        ≡ lay_part most_open files_at (width u) (lay_part entries 0 two_words_wide b i (entry_of two_words_wide e)) k (state_stored u x)
    unfolding stored
    stored-laid k x lx =
        let lf : length files ≡ width u * most_open = ap length files-part ∙ length_part b files_at (width u * most_open) (omega (arith, long)) in
        let lr : length (files ++ said) ≡ length files + length said = length-append files said in
        rw (session-is u b ok)
        (rw (row_laid (entry_of two_words_wide) two_words_wide entries (table_in b) i e table-sized (length-entries two_words_wide entries b) le, row_laid (state_stored u) (width u) most_open (states_in u b) k x files-sized files-count lx)
        (ap (λ (c : List ℕ). lay_part entries 0 two_words_wide table i (entry_of two_words_wide e) ++ c) (sym (part-first (width u) most_open files said (state_stored u x) lx k lf))
        ∙ sym (part-second (width u) most_open (lay_part entries 0 two_words_wide table i (entry_of two_words_wide e)) (files ++ said) (state_stored u x) lx k files_at (length-laid entries 0 two_words_wide table i (entry_of two_words_wide e) ∙ table-long) (omega arith))
        ∙ ap (λ (c : List ℕ). lay_part most_open files_at (width u) c k (state_stored u x)) entered))

-- ---- of the engine with buffers, and of the one with none

pub buffered-told : (s : BufferedSession) → buffered_fits s ≡ true → is_session true (stored true s) ≡ true
unfolding buffered_fits
buffered-told s h = stored-told true s (and_left (are_all entries entry_fits s.table) _ h) (unfold state_fits in and_right (are_all entries entry_fits s.table) _ h)

pub buffered-back : (s : BufferedSession) → buffered_fits s ≡ true → session_in true (stored true s) ≡ s
unfolding buffered_fits
buffered-back s h =
    stored_back true s (and_left (are_all entries entry_fits s.table) _ h) (unfold state_fits in and_right (are_all entries entry_fits s.table) _ h)
    ∙ (unfold kept_in in ap (λ (fs : List BufferedFile). record { says = s.says; table = s.table; files = fs }) (map-id s.files))

module _ (s : Session) (h : session_fits s ≡ true) where
  fits-unheld : (fs : List OpenFile) → every file_fits fs ≡ true → every (state_fits false) (map fresh fs) ≡ true
  unfolding every state_fits
  fits-unheld [] q = refl
  fits-unheld (f ∷ fs) q = rw (and_left (file_fits f) (every file_fits fs) q) (fits-unheld fs (and_right (file_fits f) (every file_fits fs) q))

  table_fits : are_all entries entry_fits s.table ≡ true
  unfolding session_fits
  table_fits = and_left (are_all entries entry_fits s.table) (are_all most_open file_fits s.files) h

  files-fit : are_all most_open (state_fits false) (unheld s).files ≡ true
  unfolding session_fits are_all unheld
  files-fit =
      let q : are_all most_open file_fits s.files ≡ true = and_right (are_all entries entry_fits s.table) (are_all most_open file_fits s.files) h in
      rw (length-map s.files fresh, eq-eqb (length s.files) most_open (all-count most_open file_fits s.files q)) (fits-unheld s.files (all_fit most_open file_fits s.files q))

  bare-kept : (fs : List OpenFile) → map (λ f. f.file) (map (kept_in false) (map fresh fs)) ≡ fs
  unfolding kept_in
  bare-kept [] = refl
  bare-kept (f ∷ fs) = ap (λ (gs : List OpenFile). f ∷ gs) (bare-kept fs)

  pub plain-told : is_session false (plain_stored s) ≡ true
  plain-told = stored-told false (unheld s) (unfold unheld in table_fits) files-fit

  pub plain_back : plain_in (plain_stored s) ≡ s
  plain_back =
      ap bare (stored_back false (unheld s) (unfold unheld in table_fits) files-fit)
      ∙ (unfold bare unheld in ap (λ (fs : List OpenFile). record { says = s.says; table = s.table; files = fs }) (bare-kept s.files))

pub plain-kept : (b : List ℕ) → is_session false b ≡ true → plain_stored (plain_in b) ≡ b
plain-kept b h = ap (stored false) (plain-holds-nothing b) ∙ stored-kept false b h
