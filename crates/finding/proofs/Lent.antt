-- Sessions in lent bytes, read where they lie: a state stands at w·k behind the first, and what is tested of its bytes is tested of the state that they hold.
use mathlib.Core.Path.{◌≡◌, refl, sym, ap, ◌∙◌}
use mathlib.Core.Bool.{Bool, true, false, ◌&&◌, not, false≢true}
use mathlib.Core.List.{List, []}
use Prim.Native.Nat.{ℕ, zero, suc, ◌+◌, ◌*◌, ◌≤◌, ◌<◌}
use native.Mathlib.Omega.{arith}
use native.Mathlib.Decide.{dec_lt}
use lib.Dec.{eqb, ltb}
use lib.ListN.{length, take, drop, get_or, get_or-eq_default}
use lib.Seq.{length-take-le, get_or-take}
use borrow.Author.Tests.{eq-eqb, eqb-true, lt-ltb, not-true}
use Rattle.geometry.specs.Bytes.{part}
use Rattle.geometry.specs.Lists.{every, first_with, how_many}
use Rattle.geometry.specs.Sizes.{sector, entries, most_open}
use Rattle.geometry.proofs.Left.{every-on, every-off, every-end}
use Rattle.geometry.proofs.Tests.{either, alike, every-alike, every-from, first_holds}
use Rattle.directory.specs.Entries.{entry_at}
use Rattle.directory.specs.declared.Entry.{Entry}
use Rattle.sessions.specs.Session.{idle, fresh, bare, is_of, of_other, stand, file_of, slot_of, open_files, spot_of, held_good, buffered_legal}
use Rattle.sessions.specs.Grouped.{file_good, open_good}
use Rattle.sessions.proofs.Files.{Finds, opened, closed, finds}
use Rattle.sessions.proofs.Grouped.{file-told, held-unused}
use Rattle.sessions.specs.declared.BufferedFile.{BufferedFile}
use Rattle.sessions.specs.declared.BufferedSession.{BufferedSession}
use Rattle.sessions.specs.declared.Holding.{Holding}
use Rattle.sessions.specs.declared.OpenFile.{OpenFile}
use Rattle.std.specs.Prelude.{None}
use Rattle.tables.specs.Tables.{two_words_wide}
use Rattle.tables.specs.Tables as Tables
use Rattle.tables.proofs.Rows.{length-row, get_or-row}
use Rattle.storing.specs.Numbers.{is_set}
use Rattle.storing.specs.Stored.{held_width, files_at, width, size_of, has_buffers, file_in, held_in, state_in, hold_of, no_hold, is_session, table_in, states_in, unlawful, lent_session}
use Rattle.storing.proofs.Read.{session-size, session-is, session-none}
use Rattle.storing.proofs.Counts.{has-table}
use Rattle.storing.proofs.Illegal.{unlawful-held}
use Rattle.finding.specs.Lent.{if_used, in_use, state_at, lent_by, lent_in, buffer_at, own_state, seen_of}

-- ---- the table

pub table_is : (b : List ℕ) → files_at ≤ length b → Tables.table_in two_words_wide entries b ≡ table_in b
unfolding Tables.table_in
table_is b room = rw (has-table b room, Tables.table_in)

-- the table of a session is the one that stands in front of its bytes
pub lent-table : (b : List ℕ) → is_session (has_buffers b) b ≡ true → (lent_session b).table ≡ Tables.table_in two_words_wide entries b
unfolding size_of
lent-table b h =
    let l : length b ≡ size_of (has_buffers b) = session-size (has_buffers b) b h in
    ap (λ (s : BufferedSession). s.table) (session-is (has_buffers b) b h) ∙ sym (table_is b (omega arith))

-- ---- those before number i

-- tested from the front: what is left of them decides
module _ {A : Type 0} (p : A → Bool) (xs : List A) (i j : ℕ) (m : i ≤ length xs) where
  pub before-end : i ≤ j → every p (drop j (take i xs)) ≡ true
  before-end h =
      let n : length (take i xs) ≡ i = length-take-le i xs m in
      every-end p (take i xs) j (omega arith)

  module _ (d : A) (h : j < i) where
    inside : j < length (take i xs)
    inside =
        let n : length (take i xs) ≡ i = length-take-le i xs m in
        omega arith

    pub before_on : p (get_or xs j d) ≡ true → every p (drop j (take i xs)) ≡ every p (drop (j + 1) (take i xs))
    before_on e = every-on p (take i xs) j d inside (ap p (get_or-take i xs j d h) ∙ e)

    pub before-off : p (get_or xs j d) ≡ false → every p (drop j (take i xs)) ≡ false
    before-off e = every-off p (take i xs) j d inside (ap p (get_or-take i xs j d h) ∙ e)

-- a state that is used, and one that is not
used-is : (f : OpenFile) (u : Bool) → u ≡ f.used → u ≡ true → f ≡ if_used f
unfolding if_used
used-is f u e t = rw (sym e, t)

used-not : (f : OpenFile) (u : Bool) → u ≡ f.used → u ≡ false → idle ≡ if_used f
unfolding if_used
used-not f u e t = rw (sym e, t)

-- an entry's file is the state that is its own; one that an opening would take is not in use
pub own-file : (files : List OpenFile) (i : ℕ) → if_used (get_or files (slot_of files i) idle) ≡ file_of files i
own-file files i = go (finds files i)
  where
    idle-at : (k : ℕ) → k ≡ first_with (λ f. not f.used) files → (get_or files k idle).used ≡ false
    idle-at k e = at (dec_lt k (length files))
      where
        at : Dec (k < length files) → (get_or files k idle).used ≡ false
        at (yes h) = not-true (get_or files k idle).used (rw e (first_holds (λ f. not f.used) files idle (rw e at h)))
        at (no h) = ap (λ (f : OpenFile). f.used) (get_or-eq_default files idle (omega arith))

    go : Finds files i → if_used (get_or files (slot_of files i) idle) ≡ file_of files i
    go (opened h e u n b) = sym (used-is (get_or files (slot_of files i) idle) (file_of files i).used (ap (λ (f : OpenFile). f.used) e) u) ∙ sym e
    go (closed e s n) = sym (used-not (get_or files (slot_of files i) idle) false (sym (idle-at (slot_of files i) s)) refl) ∙ sym e

-- of a state x that is used, f was read: those before it are not of its entry
pub others-told : (x f : OpenFile) → x ≡ f → (gs : List OpenFile) (r : Bool) → r ≡ every (λ g. not (is_of f.entry g)) gs → x.used ≡ true
    → every (λ g. of_other g x) gs ≡ r
unfolding of_other is_of
others-told x f q gs r p u =
    every-alike (λ g. of_other g x) (λ g. not (is_of x.entry g)) gs idle (λ i l. rw (u, same-either-way x.entry (get_or gs i idle).entry))
    ∙ ap (λ (y : OpenFile). every (λ g. not (is_of y.entry g)) gs) q ∙ sym p
  where
    same-either-way : (m n : ℕ) → eqb m n ≡ eqb n m
    same-either-way m n = alike (eqb m n) (eqb n m) (λ (h : eqb m n ≡ true). eq-eqb n m (sym (eqb-true m n h))) (λ (h : eqb n m ≡ true). eq-eqb m n (sym (eqb-true n m h)))

-- and its entry decides of it
pub one-file-told : (t : List Entry) (x f : OpenFile) → x ≡ f → (e : Entry) (r : Bool) → e ≡ entry_at t f.entry → r ≡ open_good e f → x.used ≡ true → file_good t x ≡ r
one-file-told t x f q e r p s u = ap (file_good t) q ∙ file-told t f e r p s (sym (ap (λ (g : OpenFile). g.used) q) ∙ u)

-- ---- a held sector where it lies

module _ (b : List ℕ) (k at : ℕ) (h : k < most_open) (q : at ≡ files_at + held_width * k) (d : BufferedFile) where
  held-is : get_or (states_in true b) k d ≡ held_in b at
  unfolding states_in state_in width
  held-is = get_or-row (state_in true) held_width most_open b files_at k d h ∙ ap (held_in b) (sym q)

pub length-states : (u : Bool) (b : List ℕ) → length (states_in u b) ≡ most_open
unfolding states_in
length-states u b = length-row (state_in u) (width u) most_open b files_at

-- a fresh state holds nothing, in use or not
fresh_holds : (f : OpenFile) → hold_of (in_use (fresh f)) ≡ no_hold
unfolding in_use
fresh_holds f = either f.used (λ (t : f.used ≡ true). rw t) (λ (t : f.used ≡ false). rw t)

plain_at : (b : List ℕ) (k : ℕ) → k < most_open → get_or (states_in false b) k (fresh idle) ≡ fresh (file_in b (files_at + width false * k))
unfolding states_in state_in
plain_at b k h = get_or-row (state_in false) (width false) most_open b files_at k (fresh idle) h

-- without buffers nothing is held
plain-state : (b : List ℕ) (k : ℕ) → hold_of (state_at (states_in false b) k) ≡ no_hold
unfolding state_at
plain-state b k = go (dec_lt k most_open)
  where
    go : Dec (k < most_open) → hold_of (in_use (get_or (states_in false b) k (fresh idle))) ≡ no_hold
    go (yes h) = ap (λ (f : BufferedFile). hold_of (in_use f)) (plain_at b k h) ∙ fresh_holds (file_in b (files_at + width false * k))
    go (no h) =
        let l : length (states_in false b) ≡ most_open = length-states false b in
        ap (λ (f : BufferedFile). hold_of (in_use f)) (get_or-eq_default (states_in false b) (fresh idle) (omega arith)) ∙ fresh_holds idle

pub plain-good : (t : List Entry) (b : List ℕ) → every (held_good t) (states_in false b) ≡ true
plain-good t b =
    every-from (held_good t) (states_in false b) (fresh idle) λ (k : ℕ) (q : k < length (states_in false b)).
    let l : length (states_in false b) ≡ most_open = length-states false b in
    ap (held_good t) (plain_at b k (omega arith)) ∙ good (file_in b (files_at + width false * k))
  where
    good : (f : OpenFile) → held_good t (fresh f) ≡ true
    good f = held-unused t (fresh f) (either f.used (λ (z : f.used ≡ true). rw z) (λ (z : f.used ≡ false). rw z))

module _ (b : List ℕ) (k : ℕ) where
  state-here : (at : ℕ) → k < most_open → at ≡ files_at + held_width * k → in_use (held_in b at) ≡ state_at (states_in true b) k
  unfolding state_at
  state-here at h q = ap in_use (sym (held-is b k at h q (fresh idle)))

  state-past : (u : Bool) → most_open ≤ k → fresh idle ≡ state_at (states_in u b) k
  unfolding state_at in_use
  state-past u h =
      let n : length (states_in u b) ≡ most_open = length-states u b in
      let l : length (states_in u b) ≤ k = omega arith in
      ap in_use (sym (get_or-eq_default (states_in u b) (fresh idle) l))

  -- one that holds a sector has it in the bytes of its buffer
  abbrev Lends : BufferedFile → Type 0
  Lends y = y.holds ≡ true → (k < most_open) × (y.buffer ≡ part b (buffer_at k) sector)

  told_part : (xs : List ℕ) (z : Bool) → z ≡ true → elim z [ true ↦ xs | false ↦ [] ] ≡ xs
  told_part xs z e = rw e

  untold-part : (xs : List ℕ) (z : Bool) → z ≡ false → ◌≡◌ {A = List ℕ} (elim z [ true ↦ xs | false ↦ [] ]) []
  untold-part xs z e = rw e

  -- as the program lends it
  module _ (h : Bool) (xs : List ℕ) where
    pub lent-part : (h && ltb k most_open) ≡ true → (at : ℕ) → at ≡ files_at + held_width * k → xs ≡ part b (at + 36) sector → xs ≡ lent_in b k h
    unfolding lent_in
    lent-part t at q p = p ∙ ap (λ (m : ℕ). part b (m + 36) sector) q ∙ sym (told_part (part b (buffer_at k) sector) (h && ltb k most_open) t)

    pub lent_none : (h && ltb k most_open) ≡ false → xs ≡ part b 0 0 → xs ≡ lent_in b k h
    unfolding lent_in part
    lent_none t p = p ∙ sym (untold-part (part b (buffer_at k) sector) (h && ltb k most_open) t)

  lends : (y : BufferedFile) → Lends y → lent_in b k y.holds ≡ lent_by y
  unfolding lent_in lent_by
  lends y h = either y.holds
      (λ (t : y.holds ≡ true). rw t (told_part (part b (buffer_at k) sector) (ltb k most_open) (lt-ltb k most_open (h t).0) ∙ sym (h t).1))
      (λ (t : y.holds ≡ false). rw t)

  used-lends : k < most_open → Lends (in_use (held_in b (files_at + held_width * k)))
  unfolding in_use held_in file_in
  used-lends h = either (is_set (get_or b (files_at + held_width * k) 0)) (λ u. rw u (λ t. (h, refl))) (λ u. rw u (λ (t : false ≡ true). absurd (false≢true t)))

  nothing-lends : (y : BufferedFile) → hold_of y ≡ no_hold → Lends y
  nothing-lends y e t = absurd (false≢true (sym (ap (λ (h : Holding). h.holds) e) ∙ t))

  state-lends : (u : Bool) → Lends (state_at (states_in u b) k)
  state-lends true = go (dec_lt k most_open)
    where
      go : Dec (k < most_open) → Lends (state_at (states_in true b) k)
      go (yes h) = rw (state-here (files_at + held_width * k) h refl) at (used-lends h)
      go (no h) = rw (sym (state-past true (omega arith))) (λ (t : false ≡ true). absurd (false≢true t))
  state-lends false = nothing-lends (state_at (states_in false b) k) (plain-state b k)

-- a session with none open, which is legal for no image
none-held : (k : ℕ) → hold_of (state_at unlawful.files k) ≡ no_hold
unfolding state_at in_use unlawful
none-held zero = refl
none-held (suc zero) = refl
none-held (suc (suc zero)) = refl
none-held (suc (suc (suc zero))) = refl
none-held (suc (suc (suc (suc k)))) = refl

pub none-stands : (i : ℕ) → spot_of (bare unlawful) i ≡ None
unfolding spot_of stand file_of unlawful bare is_of first_with
none-stands i = refl

pub none_seen : (image : List ℕ) (i : ℕ) (e : Entry) → e ≡ entry_at unlawful.table i
    → record { lawful = false; opened = 0; slot = 0; entry = e; file = idle; hold = no_hold } ≡ seen_of image unlawful i
none_seen image i e p = sym (unfold seen_of slot_of file_of open_files is_of first_with how_many bare unlawful state_at in_use in rw (unlawful-is, p))
  where
    unlawful-is : buffered_legal image unlawful ≡ false
    unlawful-is = unlawful-held image

-- the held sector lies where the bytes have it
pub lent-own : (b : List ℕ) (i : ℕ) → lent_in b (slot_of (bare (lent_session b)).files i) (own_state (lent_session b) i).holds ≡ lent_by (own_state (lent_session b) i)
lent-own b i =
    lends b (slot_of (bare (lent_session b)).files i) (own_state (lent_session b) i)
    (either (is_session (has_buffers b) b)
    (λ (t : is_session (has_buffers b) b ≡ true). rw (session-is (has_buffers b) b t) (state-lends b _ (has_buffers b)))
    (λ (t : is_session (has_buffers b) b ≡ false). rw (session-none (has_buffers b) b t) (nothing-lends b _ (state_at unlawful.files (slot_of (bare unlawful).files i)) (none-held (slot_of (bare unlawful).files i)))))
