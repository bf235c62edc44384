-- Laying a count, flags and a state over the bytes of a session is storing the session with them, buffer and all: the layings of entries lie apart from those of
-- states, and what is laid last in a state's bytes is what stands there.
use mathlib.Core.Path.{◌≡◌, refl, sym, ap, ◌∙◌}
use mathlib.Core.Bool.{Bool, true, false, ◌&&◌}
use mathlib.Core.List.{List, ◌++◌, append_assoc}
use Prim.Native.Nat.{ℕ, ◌+◌, ◌*◌, ◌≤◌, ◌<◌}
use native.Mathlib.Omega.{arith}
use native.Mathlib.Decide.{dec_lt}
use lib.ListN.{length, get_or, set}
use lib.Dec.{ltb}
use Rattle.geometry.specs.Bytes.{part, lay}
use Rattle.geometry.specs.Sizes.{sector, entries, most_open}
use Rattle.geometry.proofs.Bytes.{length-lay, lay-part, part-lay-same, lay-lay-over, lay-lay-same, lay-lay-apart, lay-append}
use Rattle.geometry.proofs.Tests.{either, chosen, not_chosen, all_get_d}
use Rattle.directory.specs.Entries.{entry_at}
use Rattle.directory.specs.Stamp.{restamped}
use Rattle.sessions.specs.Session.{idle, fresh}
use Rattle.steps.specs.Step.{kept}
use Rattle.steps.proofs.Standing.{kept-used, kept-unused}
use Rattle.blocking.specs.Blocking.{state_with}
use Rattle.tables.specs.Rows.{row_in}
use Rattle.tables.specs.Tables.{two_words_wide, has_rows, lay_row, lay_counts}
use Rattle.tables.proofs.Laid.{row-there, row-not}
use Rattle.tables.proofs.Rows.{get_or-row}
use Rattle.storing.specs.Stored.{held_width, files_at, width, has_buffers, file_stored, hold_of, hold_stored, held_stored, front_stored, state_stored, state_in, state_flags, is_session, states_in, session_in, stored, lay_part, lay_state, lay_fresh}
use Rattle.storing.proofs.Back.{state-same}
use Rattle.storing.proofs.Laid.{part-there, length-laid, length_front, length-state}
use Rattle.storing.proofs.Counts.{back, back_long, has-table, stored-counted}
use Rattle.storing.proofs.Read.{size-buffered, told-by-size, session-is, session-bytes, session-size, session-flags}
use Rattle.finding.specs.Lent.{in_use, state_at, buffer_at}
use Rattle.advancing.specs.Advancing.{readied, lay_next}
use Rattle.advancing.proofs.Sessions.{fresh-whole, own-whole}
use Rattle.directory.specs.declared.Entry.{Entry}
use Rattle.sessions.specs.declared.Holding.{Holding}
use Rattle.sessions.specs.declared.BufferedFile.{BufferedFile}
use Rattle.sessions.specs.declared.BufferedSession.{BufferedSession}
use Rattle.sessions.specs.declared.OpenFile.{OpenFile}
use Rattle.steps.specs.declared.Verdict.{Verdict}

-- ---- a count and flags

module _ (b : List ℕ) (i count flags : ℕ) where
  abbrev counted : List ℕ → List ℕ
  counted c = lay_counts two_words_wide entries c i count flags

  there : files_at ≤ length b → i < entries → counted b ≡ lay b (two_words_wide * i + 16) (back count flags)
  there room n = row-there two_words_wide entries b i 16 (back count flags) (two_words_wide * i + 16) refl (has-table b room) n

  pub length-counted : length (counted b) ≡ length b
  unfolding lay_row
  length-counted = either (has_rows two_words_wide entries b && ltb i entries)
      (λ t. ap length (chosen (has_rows two_words_wide entries b && ltb i entries) (lay b (two_words_wide * i + 16) (back count flags)) b t) ∙ length-lay b (two_words_wide * i + 16) (back count flags))
      (λ t. ap length (not_chosen (has_rows two_words_wide entries b && ltb i entries) (lay b (two_words_wide * i + 16) (back count flags)) b t))

  -- they are laid apart from the states
  counts_past : files_at ≤ length b → (p : ℕ) (x : List ℕ) → files_at ≤ p → counted (lay b p x) ≡ lay (counted b) p x
  counts_past room p x h = go (dec_lt i entries)
    where
      go : Dec (i < entries) → counted (lay b p x) ≡ lay (counted b) p x
      go (yes n) =
          let l : length (back count flags) ≡ 6 = back_long count flags in
          let m : length (lay b p x) ≡ length b = length-lay b p x in
          row-there two_words_wide entries (lay b p x) i 16 (back count flags) (two_words_wide * i + 16) refl (has-table (lay b p x) (omega arith)) n
          ∙ lay-lay-apart b p x (two_words_wide * i + 16) (back count flags) (omega arith)
          ∙ ap (λ (r : List ℕ). lay r p x) (sym (there room n))
      go (no n) =
          row-not two_words_wide entries (lay b p x) i 16 (back count flags) (omega arith)
          ∙ ap (λ (r : List ℕ). lay r p x) (sym (row-not two_words_wide entries b i 16 (back count flags) (omega arith)))

-- ---- a state's bytes, and then its buffer

abbrev lay_held : List ℕ → ℕ → BufferedFile → List ℕ
lay_held b k f = lay_part most_open files_at (width true) b k (state_stored true f)

module _ (b : List ℕ) (long : files_at + held_width * most_open ≤ length b) (k : ℕ) (n : k < most_open) where
  abbrev at : ℕ
  at = files_at + held_width * k

  held-there : (c x : List ℕ) → lay_part most_open files_at (width true) c k x ≡ lay c at x
  held-there c x = part-there most_open files_at (width true) c k x at (unfold width in refl) n

  abbrev first : BufferedFile → List ℕ
  first f = front_stored true f.file (hold_of f)

  -- its first bytes, then its buffer
  in_two : (f : BufferedFile) → state_stored true f ≡ first f ++ f.buffer
  unfolding state_stored front_stored held_stored
  in_two f = sym (append_assoc (file_stored f.file) (hold_stored (hold_of f)) f.buffer)

  laid-in-two : (c : List ℕ) → files_at + held_width * most_open ≤ length c → (f : BufferedFile) → length f.buffer ≡ sector
      → lay c at (state_stored true f) ≡ lay (lay c at (first f)) (buffer_at k) f.buffer
  laid-in-two c l f w =
      let s : length (first f) ≡ 36 = length_front f.file (hold_of f) in
      ap (lay c at) (in_two f) ∙ lay-append c at (first f) f.buffer (omega arith) ∙ ap (λ (m : ℕ). lay (lay c at (first f)) (at + m) f.buffer) s

  -- the buffer stands behind
  buffer-there : (f : BufferedFile) → length f.buffer ≡ sector → part (lay_held b k f) (buffer_at k) sector ≡ f.buffer
  buffer-there f w =
      let l : length (lay b at (first f)) ≡ length b = length-lay b at (first f) in
      ap (λ (c : List ℕ). part c (buffer_at k) sector) (held-there b (state_stored true f) ∙ laid-in-two b long f w) ∙ part-lay-same (lay b at (first f)) (buffer_at k) f.buffer sector w (omega arith)

  state-size : (f : BufferedFile) → length f.buffer ≡ sector → length (state_stored true f) ≡ 396
  unfolding width
  state-size f w = length-state true f w

  module _ (old : BufferedFile) (whole : length old.buffer ≡ sector) (room : List ℕ) (size : length room ≡ sector) (i count flags : ℕ) where
    abbrev worked : List ℕ
    worked = lay (lay_held b k old) (buffer_at k) room

    abbrev c : List ℕ
    c = lay_counts two_words_wide entries b i count flags

    abbrev d : List ℕ
    d = lay c at (state_stored true old)

    -- the count and flags, before the state
    counts-first : lay_counts two_words_wide entries worked i count flags ≡ lay d (buffer_at k) room
    counts-first =
        let l : length (lay_held b k old) ≡ length b = length-laid most_open files_at (width true) b k (state_stored true old) in
        counts_past (lay_held b k old) i count flags (omega arith) (buffer_at k) room (omega arith)
        ∙ ap (λ (r : List ℕ). lay r (buffer_at k) room) (ap (λ (r : List ℕ). lay_counts two_words_wide entries r i count flags) (held-there b (state_stored true old)) ∙ counts_past b i count flags (omega arith) at (state_stored true old) (omega arith))

    d-long : files_at + held_width * most_open ≤ length d
    d-long = omega (arith, length-lay c at (state_stored true old), length-counted b i count flags, long)

    -- the whole state again
    over : (y : BufferedFile) → length y.buffer ≡ sector → lay d at (state_stored true y) ≡ lay_held c k y
    over y w = lay-lay-same c at (state_stored true old) (state_stored true y) (state-size old whole ∙ sym (state-size y w)) ∙ sym (held-there c (state_stored true y))

    -- one that keeps its buffer
    open-laid : (f : OpenFile) (h : Holding) → lay_state true (lay_counts two_words_wide entries worked i count flags) k f h ≡ lay_held c k (state_with f h room)
    open-laid f h =
        let y : BufferedFile = state_with f h room in
        let s : length (first y) ≡ 36 = length_front f h in
        held-there (lay_counts two_words_wide entries worked i count flags) (first y)
        ∙ ap (λ (r : List ℕ). lay r at (first y)) counts-first
        ∙ lay-lay-apart d (buffer_at k) room at (first y) (omega arith)
        ∙ sym (laid-in-two d d-long y size)
        ∙ over y size

    -- one that is laid with its buffer
    whole-laid : (y : BufferedFile) → length y.buffer ≡ sector → lay_held (lay_counts two_words_wide entries worked i count flags) k y ≡ lay_held c k y
    whole-laid y w =
        let z : length (state_stored true y) ≡ 396 = state-size y w in
        held-there (lay_counts two_words_wide entries worked i count flags) (state_stored true y)
        ∙ ap (λ (r : List ℕ). lay r at (state_stored true y)) counts-first
        ∙ lay-lay-over d (buffer_at k) room at (state_stored true y) (omega (arith, d-long)) (omega arith) (omega arith)
        ∙ over y w

-- ---- the state of number k of a session with buffers

pub length-readied : (u : Bool) (b : List ℕ) (k : ℕ) (used : Bool) → length (readied u b k used) ≡ length b
unfolding readied
length-readied u b k used = either used
    (λ t. ap length (chosen used b (lay_fresh u b k idle) t))
    (λ t. ap length (not_chosen used b (lay_fresh u b k idle) t) ∙ length-laid most_open files_at (width u) b k (state_stored u (fresh idle)))

module _ (b : List ℕ) (ok : is_session true b ≡ true) (k : ℕ) (n : k < most_open) where
  long : files_at + held_width * most_open ≤ length b
  long = omega (arith, session-size true b ok, size-buffered)

  abbrev place : ℕ
  place = files_at + held_width * k

  abbrev state : BufferedFile
  state = get_or (session_in true b).files k (fresh idle)

  abbrev own : BufferedFile
  own = state_at (session_in true b).files k

  state-there : state ≡ state_in true b place
  unfolding states_in width
  state-there = ap (λ (s : BufferedSession). get_or s.files k (fresh idle)) (session-is true b ok) ∙ get_or-row (state_in true) held_width most_open b files_at k (fresh idle) n

  same_bytes : state_stored true (state_in true b place) ≡ part b place 396
  unfolding width
  same_bytes =
      state-same true b (session-bytes true b ok) place (omega (arith, long))
      (sym (get_or-row (state_flags true) held_width most_open b files_at k true n) ∙ all_get_d (row_in (state_flags true) held_width most_open b files_at) k (session-flags true b ok))

  -- in use or not, its bytes are then those of the state that it counts as
  readied-is : (u : Bool) → u ≡ state.file.used → readied true b k u ≡ lay_held b k own
  unfolding readied state_at in_use
  readied-is u h = either u
      (λ (t : u ≡ true).
      chosen u b (lay_fresh true b k idle) t
      ∙ sym (ap (lay_held b k) (chosen state.file.used state (fresh idle) (sym h ∙ t) ∙ state-there)
      ∙ held-there b long k n b (state_stored true (state_in true b place))
      ∙ ap (lay b place) same_bytes
      ∙ lay-part b place 396))
      (λ (t : u ≡ false). not_chosen u b (lay_fresh true b k idle) t ∙ ap (lay_held b k) (sym (not_chosen state.file.used state (fresh idle) (sym h ∙ t))))

  pub readied-buffer : (u : Bool) → u ≡ state.file.used → part (readied true b k u) (buffer_at k) sector ≡ own.buffer
  readied-buffer u h = ap (λ (c : List ℕ). part c (buffer_at k) sector) (readied-is u h) ∙ buffer-there b long k n own (own-whole true b k)

  -- one in use has its buffer where it is
  pub used-stays : (u : Bool) → u ≡ state.file.used → u ≡ true → b ≡ lay (readied true b k u) (buffer_at k) own.buffer
  unfolding readied
  used-stays u h t = sym (ap (lay (readied true b k u) (buffer_at k)) (sym (readied-buffer u h)) ∙ lay-part (readied true b k u) (buffer_at k) sector ∙ chosen u b (lay_fresh true b k idle) t)

  -- the next count, flags and state, behind another buffer
  held_next : (u : Bool) → u ≡ state.file.used → (room : List ℕ) → length room ≡ sector → (i : ℕ) (v : Verdict) (h : Holding) (f : OpenFile)
      → lay_next true (lay (readied true b k u) (buffer_at k) room) i k v h
      ≡ lay_held (lay_counts two_words_wide entries b i v.entry.count v.entry.flags) k (kept v.file (state_with f h room))
  unfolding lay_next
  held_next u t room size i v h f =
      ap (λ (c : List ℕ). lay_next true (lay c (buffer_at k) room) i k v h) (readied-is u t)
      ∙ either v.file.used
      (λ (z : v.file.used ≡ true).
      chosen v.file.used _ _ z
      ∙ open-laid b long k n own (own-whole true b k) room size i v.entry.count v.entry.flags v.file h
      ∙ ap (lay_held _ k) (sym (kept-used v.file (state_with f h room) z)))
      (λ (z : v.file.used ≡ false).
      not_chosen v.file.used _ _ z
      ∙ whole-laid b long k n own (own-whole true b k) room size i v.entry.count v.entry.flags (fresh v.file) (fresh-whole v.file)
      ∙ ap (lay_held _ k) (sym (kept-unused v.file (state_with f h room) z)))

-- ---- in either engine

-- with no buffers, only the open-file state is laid
plain-next : (b : List ℕ) (i k : ℕ) (v : Verdict) (h : Holding)
    → lay_next false b i k v h ≡ lay_part most_open files_at (width false) (lay_counts two_words_wide entries b i v.entry.count v.entry.flags) k (state_stored false (fresh v.file))
unfolding lay_next front_stored state_stored
plain-next b i k v h = either v.file.used (λ z. chosen v.file.used _ _ z) (λ z. not_chosen v.file.used _ _ z)

-- bytes that lack but the count, the flags and the front of the file's next state y: with buffers, what it then holds is in the room of its buffer
abbrev pub Behind : Bool → List ℕ → ℕ → OpenFile → Verdict → Holding → List ℕ → BufferedFile → List ℕ → Type 0
Behind true b k f v h room y c =
    (f.used ≡ (get_or (session_in true b).files k (fresh idle)).file.used) × (length room ≡ sector) × (c ≡ lay (readied true b k f.used) (buffer_at k) room) × (y ≡ kept v.file (state_with f h room))
Behind false b k f v h room y c = (c ≡ b) × (y ≡ fresh v.file)

kept_whole : (f : OpenFile) (x : BufferedFile) → length x.buffer ≡ sector → length (kept f x).buffer ≡ sector
kept_whole f x l = either f.used
    (λ u. ap (λ (b : BufferedFile). length b.buffer) (kept-used f x u) ∙ l)
    (λ u. ap (λ (b : BufferedFile). length b.buffer) (kept-unused f x u) ∙ fresh-whole f)

module _ (b : List ℕ) (k : ℕ) (n : k < most_open) (f : OpenFile) (v : Verdict) (h : Holding) (room : List ℕ) (y : BufferedFile) (c : List ℕ) where
  behind-size : (u : Bool) → Behind u b k f v h room y c → length c ≡ length b
  behind-size true p = ap length p.2 ∙ length-lay (readied true b k f.used) (buffer_at k) room ∙ length-readied true b k f.used
  behind-size false p = ap length p.0

  next-whole : (u : Bool) → Behind u b k f v h room y c → length y.buffer ≡ sector
  next-whole true p = ap (λ (x : BufferedFile). length x.buffer) p.3 ∙ kept_whole v.file (state_with f h room) p.1
  next-whole false p = ap (λ (x : BufferedFile). length x.buffer) p.1 ∙ fresh-whole v.file

  next-laid : (u : Bool) → is_session u b ≡ true → Behind u b k f v h room y c → (i : ℕ)
      → lay_next u c i k v h ≡ lay_part most_open files_at (width u) (lay_counts two_words_wide entries b i v.entry.count v.entry.flags) k (state_stored u y)
  next-laid true ok p i =
      ap (λ (c : List ℕ). lay_next true c i k v h) p.2 ∙ held_next b ok k n f.used p.0 room p.1 i v h f ∙ ap (lay_held _ k) (sym p.3)
  next-laid false ok p i =
      ap (λ (c : List ℕ). lay_next false c i k v h) p.0 ∙ plain-next b i k v h ∙ ap (λ (x : BufferedFile). lay_part most_open files_at (width false) (lay_counts two_words_wide entries b i v.entry.count v.entry.flags) k (state_stored false x)) (sym p.1)

  -- what is laid makes them the bytes of the next session
  pub next-stored : (u : Bool) → is_session u b ≡ true → Behind u b k f v h room y c → (i : ℕ) → v.entry ≡ restamped (entry_at (session_in u b).table i) v.entry.count v.entry.flags
      → lay_next (has_buffers c) c i k v h ≡ stored u (record { says = (session_in u b).says; table = set (session_in u b).table i v.entry; files = set (session_in u b).files k y })
  next-stored u ok p i same =
      ap (λ (w : Bool). lay_next w c i k v h) (told-by-size u c (behind-size u p ∙ session-size u b ok))
      ∙ next-laid u ok p i
      ∙ sym (stored-counted u b i k v.entry.count v.entry.flags ok y (length-state u y (next-whole u p)))
      ∙ ap (λ (e : Entry). stored u (record { says = (session_in u b).says; table = set (session_in u b).table i e; files = set (session_in u b).files k y })) (sym same)
