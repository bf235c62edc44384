-- An open-file state in bytes of its own: what is read of them is what the state says, with its buffer or without. And the states of a session: each stands in
-- its own part of the bytes.
use mathlib.Core.Path.{◌≡◌, refl, sym, ap, ◌∙◌}
use mathlib.Core.Bool.{Bool, true, false, ◌&&◌, not}
use mathlib.Core.List.{List}
use Prim.Native.Nat.{ℕ, zero, suc, ◌+◌, ◌*◌, ◌≤◌, ◌<◌, ◌-◌}
use native.Mathlib.Nat.{mul-le-mul_left}
use native.Mathlib.Omega.{arith}
use lib.ListN.{length, get_or, take, drop, get_or-map, get_or-eq_default}
use Rattle.std.proofs.lemmas.List.{length-map}
use borrow.Author.Tests.{leb-true}
use Rattle.geometry.specs.Bytes.{part}
use Rattle.geometry.specs.Lists.{every, first_with, how_many}
use Rattle.geometry.specs.Sizes.{sector, entries, most_open}
use Rattle.geometry.proofs.Bytes.{length_part, get_d_part, part-part}
use Rattle.geometry.proofs.Tests.{either, and_left, all_get_d, many-more-yes, many-more-no}
use Rattle.sessions.specs.Session.{idle, fresh, bare, is_of, file_of, slot_of, open_files, held_good, saying_good, legal, buffered_legal}
use Rattle.directory.specs.Entries.{entry_at}
use Rattle.directory.specs.declared.Entry.{Entry}
use Rattle.sessions.specs.declared.BufferedFile.{BufferedFile}
use Rattle.sessions.specs.declared.BufferedSession.{BufferedSession}
use Rattle.sessions.specs.declared.Holding.{Holding}
use Rattle.sessions.specs.declared.OpenFile.{OpenFile}
use Rattle.std.specs.Prelude.{Option, Some, None}
use Rattle.std.specs.Option.{unwrap_or}
use Rattle.std.proofs.lemmas.Option.{MatchOption-at_none, MatchOption-at_some}
use Rattle.sessions.proofs.Files.{slot-own, slot-new}
use Rattle.sessions.proofs.Grouped.{held-unused, held-told}
use Rattle.sessions.specs.Grouped.{hold_good}
use Rattle.tables.specs.Numbers.{number_in}
use Rattle.tables.specs.Tables as Tables
use Rattle.tables.specs.Tables.{two_words_wide, has_rows, entries_in}
use Rattle.directory.specs.Rules.{table_good}
use Rattle.storing.proofs.Counts.{has-table}
use Rattle.finding.proofs.Lent.{table_is, own-file}
use lib.Dec.{eqb}
use Rattle.directory.specs.Entries.{is_free}
use Rattle.tables.specs.Rows.{row_in}
use Rattle.tables.proofs.Rows.{length-row, get_or-row}
use Rattle.storing.specs.Numbers.{is_set, is_flag, flag_of}
use Rattle.storing.specs.Stored.{files_at, width, size_of, has_buffers, place_in, file_in, file_flags, held_in, held_flags, state_in, state_flags, hold_of, no_hold, is_session, table_in, states_in, unlawful, lent_session}
use Rattle.storing.proofs.Read.{width-least, width-most, session-size, session-flags, session-is, session-none, bare-state}
use Rattle.finding.specs.Lent.{if_used, in_use, state_at, seen_of, seen_in}
use Rattle.finding.specs.Whole.{whole_in, IsFirst}

-- ---- one state

module _ (u : Bool) (b : List ℕ) where
  pub room : width u ≤ length b → 30 ≤ length b
  room h = omega (arith, width-least u)

  pub held-room : width u ≤ length b → u ≡ true → 396 ≤ length b
  held-room h t = let e : width u ≡ 396 = ap width t ∙ (unfold width in refl) in omega arith

  -- its first byte is 0 or 1
  used-flag : state_flags u b 0 ≡ true → is_flag (get_or b 0 0) ≡ true
  unfolding state_flags held_flags file_flags
  used-flag = go u
    where
      go : (v : Bool) → state_flags v b 0 ≡ true → is_flag (get_or b 0 0) ≡ true
      go true f = and_left (is_flag (get_or b 0 0)) _ (and_left (is_flag (get_or b 0 0) && is_flag (get_or b 13 0)) _ f)
      go false f = and_left (is_flag (get_or b 0 0)) _ f

  module _ (x : BufferedFile) (e : state_in u b 0 ≡ x) where
    pub file-read : file_in b 0 ≡ x.file
    file-read = sym (bare-state u b 0) ∙ ap (λ (y : BufferedFile). y.file) e

    pub used-read : is_set (get_or b 0 0) ≡ x.file.used
    unfolding file_in
    used-read = ap (λ (f : OpenFile). f.used) file-read

    pub entry-read : number_in (part b 1 8) ≡ x.file.entry
    unfolding file_in
    entry-read = ap (λ (f : OpenFile). f.entry) file-read

    pub flag-read : state_flags u b 0 ≡ true → (get_or b 0 0 ≡ flag_of x.file.used) × (get_or b 0 0 ≤ 1)
    unfolding flag_of
    flag-read f =
        let h : get_or b 0 0 ≤ 1 = leb-true (get_or b 0 0) 1 (used-flag f) in
        (told (get_or b 0 0) h ∙ ap flag_of used-read, h)
      where
        told : (n : ℕ) → n ≤ 1 → n ≡ flag_of (is_set n)
        told zero h = refl
        told (suc zero) h = refl
        told (suc (suc n)) h = absurd (omega arith)

    pub hold-read : u ≡ true → record { holds = is_set (get_or b 30 0); held = number_in (part b 31 4); changed = is_set (get_or b 35 0) } ≡ hold_of x
    unfolding state_in held_in
    hold-read t = ap hold_of (sym (ap (λ (v : Bool). state_in v b 0) t) ∙ e)

    pub hold-none : u ≡ false → no_hold ≡ hold_of x
    unfolding state_in
    hold-none t = ap hold_of (sym (ap (λ (v : Bool). state_in v b 0) t) ∙ e)

-- one that is used, and one that is not
module _ (x : BufferedFile) (u : Bool) (e : u ≡ x.file.used) where
  pub file-used : u ≡ true → x.file ≡ if_used x.file
  unfolding if_used
  file-used t = rw (sym e, t)

  pub file-idle : u ≡ false → idle ≡ if_used x.file
  unfolding if_used
  file-idle t = rw (sym e, t)

  pub hold-used : u ≡ true → hold_of x ≡ hold_of (in_use x)
  unfolding in_use
  hold-used t = rw (sym e, t)

  pub hold-idle : u ≡ false → no_hold ≡ hold_of (in_use x)
  unfolding in_use
  hold-idle t = rw (sym e, t)

-- ---- the states of a session

pub length-whole : (u : Bool) (b : List ℕ) → length (whole_in u b).files ≡ most_open
unfolding states_in
length-whole u b = length-row (state_in u) (width u) most_open b files_at

pub below : (u : Bool) (b : List ℕ) (s : BufferedSession) → whole_in u b ≡ s → (k : ℕ) → k < length s.files → k < 4
below u b s e k h =
    let n : length s.files ≡ 4 = ap (λ (x : BufferedSession). length x.files) (sym e) ∙ length-whole u b in
    omega arith

module _ (u : Bool) (b : List ℕ) (told : is_session u b ≡ true) where
  pub session-room : length b ≡ 396 + width u * 4 + 1
  session-room = session-size u b told ∙ (unfold size_of in refl)

  module _ (w : ℕ) (pw : w ≡ width u) (k : ℕ) (h : k < 4) where
    pub least : w * k ≤ 1188
    least =
        let m : w * k ≤ w * 3 = mul-le-mul_left w (omega arith) in
        omega (arith, pw, width-most u)

    abbrev at : ℕ
    at = files_at + w * k

    pub inside : at + w ≤ length b
    inside =
        let m : w * k ≤ w * 3 = mul-le-mul_left w (omega arith) in
        omega (arith, session-room)

    abbrev pub its : List ℕ
    its = part b at w

    pub its-length : length its ≡ w
    its-length = length_part b at w inside

    pub its-is : take (at + w - at) (drop at b) ≡ its
    unfolding part
    its-is = ap (λ (n : ℕ). take n (drop at b)) (omega arith)

    -- what is read of them is read at their place
    module _ (v : Bool) (wide : width v ≤ w) where
      byte-is : (j m : ℕ) → j < width v → at + j ≡ m → get_or its j 0 ≡ get_or b m 0
      byte-is j m l e = get_d_part b at w j 0 (omega arith) ∙ ap (λ (i : ℕ). get_or b i 0) e

      part-is : (j m n : ℕ) → j + n ≤ width v → at + j ≡ m → part its j n ≡ part b m n
      part-is j m n l e = part-part b at w j n (omega arith) ∙ ap (λ (i : ℕ). part b i n) e

      file-same : file_in its 0 ≡ file_in b at
      unfolding file_in place_in
      file-same =
          let l : 30 ≤ width v = width-least v in
          rw (
            byte-is 0 at (omega arith) (omega arith),
            part-is 1 (at + 1) 8 (omega arith) refl,
            part-is 9 (at + 9) 4 (omega arith) refl,
            byte-is 13 (at + 13) (omega arith) refl,
            part-is 14 (at + 14) 4 (omega arith) refl,
            part-is 18 (at + 14 + 4) 4 (omega arith) (omega arith),
            part-is 22 (at + 22) 4 (omega arith) refl,
            part-is 26 (at + 22 + 4) 4 (omega arith) (omega arith),
          )

    state-same : (v : Bool) → width v ≤ w → state_in v its 0 ≡ state_in v b at
    unfolding state_in held_in width
    state-same true wide =
        rw (file-same true wide, byte-is true wide 30 (at + 30) (omega arith) refl, part-is true wide 31 (at + 31) 4 (omega arith) refl, byte-is true wide 35 (at + 35) (omega arith) refl, part-is true wide 36 (at + 36) sector (omega arith) refl)
    state-same false wide = ap fresh (file-same false wide)

    flags-same : (v : Bool) → width v ≤ w → state_flags v its 0 ≡ state_flags v b at
    unfolding state_flags held_flags file_flags width
    flags-same true wide =
        rw (byte-is true wide 0 at (omega arith) (omega arith), byte-is true wide 13 (at + 13) (omega arith) refl, byte-is true wide 30 (at + 30) (omega arith) refl, byte-is true wide 35 (at + 35) (omega arith) refl)
    flags-same false wide = rw (byte-is false wide 0 at (omega arith) (omega arith), byte-is false wide 13 (at + 13) (omega arith) refl)

    at-is : files_at + width u * k ≡ at
    at-is = ap (λ (m : ℕ). files_at + m * k) (sym pw)

    -- they are state k, and its truth values are 0 or 1
    pub its-state : state_in u its 0 ≡ get_or (whole_in u b).files k (fresh idle)
    unfolding states_in
    its-state =
        state-same u (omega (arith, pw))
        ∙ ap (state_in u b) (sym at-is)
        ∙ sym (get_or-row (state_in u) (width u) most_open b files_at k (fresh idle) h)

    pub its-flags : state_flags u its 0 ≡ true
    its-flags =
        let flags : List Bool = row_in (state_flags u) (width u) most_open b files_at in
        flags-same u (omega (arith, pw))
        ∙ ap (state_flags u b) (sym at-is)
        ∙ sym (get_or-row (state_flags u) (width u) most_open b files_at k true h)
        ∙ all_get_d flags k (session-flags u b told)

-- the session that bytes are
module _ (u : Bool) (b : List ℕ) (e : u ≡ has_buffers b) where
  pub whole-is : is_session u b ≡ true → whole_in u b ≡ lent_session b
  whole-is t = rw (sym e) (sym (session-is u b t))

  pub whole-not : is_session u b ≡ false → unlawful ≡ lent_session b
  whole-not t = rw (sym e) (sym (session-none u b t))

-- ---- the states of a session, without their buffers

pub length-bare : (s : BufferedSession) → length (bare s).files ≡ length s.files
unfolding bare
length-bare s = length-map s.files (λ f. f.file)

module _ (s : BufferedSession) (k : ℕ) (x : BufferedFile) (e : x ≡ get_or s.files k (fresh idle)) where
  pub its-file : get_or (bare s).files k idle ≡ x.file
  unfolding bare
  its-file = get_or-map (λ f. f.file) s.files k (fresh idle) ∙ ap (λ (y : BufferedFile). y.file) (sym e)

  pub its-used : (u : Bool) → u ≡ x.file.used → (get_or (bare s).files k idle).used ≡ u
  its-used u p = ap (λ (f : OpenFile). f.used) its-file ∙ sym p

  pub its-of : (i : ℕ) (r : Bool) → r ≡ is_of i x.file → is_of i (get_or (bare s).files k idle) ≡ r
  its-of i r p = ap (is_of i) its-file ∙ sym p

-- one more truth value, counted
pub open-more : (fs : List OpenFile) (k : ℕ) → k < length fs → (v : ℕ) → v ≡ flag_of (get_or fs k idle).used → how_many (λ f. f.used) (take k fs) + v ≡ how_many (λ f. f.used) (take (k + 1) fs)
unfolding flag_of
open-more fs k h v e =
    either (get_or fs k idle).used
    (λ (t : (get_or fs k idle).used ≡ true).
    let n : v ≡ 1 = e ∙ ap flag_of t in
    omega (arith, many-more-yes (λ f. f.used) fs k idle h t))
    (λ (t : (get_or fs k idle).used ≡ false).
    let n : v ≡ 0 = e ∙ ap flag_of t in
    omega (arith, many-more-no (λ f. f.used) fs k idle h t))

-- what is read of a state decides of the sector that it holds
module _ (t : List Entry) (x : BufferedFile) (u : Bool) (pu : u ≡ x.file.used) (h : Holding) (ph : h ≡ hold_of x) where
  both : (u && h.holds) ≡ (x.file.used && x.holds)
  both = rw (pu, ph)

  pub hold-told : (n : ℕ) (e : Entry) (r : Bool) → n ≡ x.file.entry → e ≡ entry_at t n → r ≡ hold_good e h.held → (u && h.holds) ≡ true → held_good t x ≡ r
  hold-told n e r pn pe pr y = held-told t x e r (pe ∙ ap (entry_at t) pn) (pr ∙ ap (λ (g : Holding). hold_good e g.held) ph) (sym both ∙ y)

  pub hold-untold : (u && h.holds) ≡ false → held_good t x ≡ true
  hold-untold y = held-unused t x (sym both ∙ y)

-- ---- what is seen of a session

module _ (s : BufferedSession) (i : ℕ) where
  pub seen-of : (image : List ℕ) (l m : Bool) (n k : ℕ) (h : Holding) (e : Entry) (f : OpenFile)
      → l ≡ legal image (bare s) → m ≡ every (held_good s.table) s.files
      → n ≡ open_files (bare s).files → k ≡ slot_of (bare s).files i → h ≡ hold_of (state_at s.files k)
      → e ≡ entry_at s.table i → f ≡ file_of (bare s).files i
      → record { lawful = l && m; opened = n; slot = k; entry = e; file = f; hold = h } ≡ seen_of image s i
  unfolding seen_of buffered_legal
  seen-of image l m n k h e f pl pm pn pk ph pe pf = rw (pl, pm, pn, ph, pk, pe, pf)

-- the same of the session that bytes are
module _ (image b : List ℕ) (u : Bool) (told : u ≡ has_buffers b) (i : ℕ) where
  pub seen-is : is_session u b ≡ true → (l m : Bool) (n k : ℕ) (h : Holding) (e : Entry) (f : OpenFile)
      → l ≡ legal image (bare (whole_in u b)) → m ≡ every (held_good (table_in b)) (states_in u b)
      → n ≡ open_files (bare (whole_in u b)).files → k ≡ slot_of (bare (whole_in u b)).files i → h ≡ hold_of (state_at (states_in u b) k)
      → e ≡ entry_at (table_in b) i → f ≡ file_of (bare (whole_in u b)).files i
      → record { lawful = l && m; opened = n; slot = k; entry = e; file = f; hold = h } ≡ seen_in image b i
  seen-is t l m n k h e f pl pm pn pk ph pe pf =
      seen-of (whole_in u b) i image l m n k h e f pl pm pn pk ph pe pf
      ∙ ap (λ (s : BufferedSession). seen_of image s i) (whole-is u b told t)

-- past the last state
module _ (xs : List BufferedFile) (k : ℕ) (h : length xs ≤ k) where
  past : get_or xs k (fresh idle) ≡ fresh idle
  past = get_or-eq_default xs (fresh idle) h

  pub none-used : idle ≡ if_used (get_or xs k (fresh idle)).file
  unfolding if_used
  none-used = rw past refl

  pub none-held : no_hold ≡ hold_of (state_at xs k)
  unfolding state_at in_use
  none-held = rw past refl

-- the state that is an entry's, or else the first that is not in use
module _ (fs : List OpenFile) (i : ℕ) (o : Option ℕ) (own : IsFirst (is_of i) fs o) where
  pub slot-found : (k : ℕ) → o ≡ Some k → k ≡ slot_of fs i
  slot-found k e =
      let q : (first_with (is_of i) fs ≡ k) × (k < length fs) = MatchOption-at_some _ _ k e own in
      sym (slot-own fs i (omega arith) ∙ q.0)

  pub slot-else : o ≡ None → (a : Option ℕ) → IsFirst (λ f. not f.used) fs a → unwrap_or a (length fs) ≡ slot_of fs i
  slot-else e a u =
      let q : first_with (is_of i) fs ≡ length fs = MatchOption-at_none _ _ e own in
      number a u ∙ sym (slot-new fs i (omega arith))
    where
      number : (a : Option ℕ) → IsFirst (λ f. not f.used) fs a → unwrap_or a (length fs) ≡ first_with (λ f. not f.used) fs
      number None t = sym t
      number (Some k) t = sym t.0

-- the table of a session stands in front of its bytes
pub its-table : (u : Bool) (b : List ℕ) → is_session u b ≡ true → (s : BufferedSession) → whole_in u b ≡ s → Tables.table_in two_words_wide entries b ≡ s.table
its-table u b t s e = table_is b (omega (arith, session-room u b t)) ∙ ap (λ (x : BufferedSession). x.table) e

pub table-judged : (u : Bool) (b : List ℕ) → is_session u b ≡ true → (s : BufferedSession) → whole_in u b ≡ s → (n : ℕ)
    → (has_rows two_words_wide entries b && table_good n (entries_in two_words_wide entries b)) ≡ table_good n s.table
table-judged u b t s e n =
    rw (has-table b (omega (arith, session-room u b t))) (ap (λ (x : BufferedSession). table_good n x.table) e)

-- ---- what it says of itself

module _ (s : BufferedSession) (r : Bool) (told : r ≡ s.says.refused) where
  pub says-refused : r ≡ true → (x : Bool) (n : ℕ) → x ≡ every is_free s.table → n ≡ open_files (bare s).files → (x && eqb n 0) ≡ saying_good (bare s)
  unfolding saying_good bare
  says-refused t x n px pn = rw (sym told, t, px, pn)

  pub says-mounted : r ≡ false → true ≡ saying_good (bare s)
  unfolding saying_good bare
  says-mounted t = rw (sym told, t)

-- an entry's file is in the state that is its own
pub its-own : (s : BufferedSession) (i k : ℕ) → k ≡ slot_of (bare s).files i → if_used (get_or s.files k (fresh idle)).file ≡ file_of (bare s).files i
its-own s i k e =
    ap if_used (sym (its-file s k _ refl))
    ∙ ap (λ (j : ℕ). if_used (get_or (bare s).files j idle)) e
    ∙ own-file (bare s).files i
