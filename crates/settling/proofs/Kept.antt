-- What holds of every session of the buffered engine from a mounting on, and what it says of one file among the others: its buffer is as
-- legality says, and what the others hold lies elsewhere.
use mathlib.Core.Path.{◌≡◌, refl, sym, ap, subst, ◌∙◌}
use mathlib.Core.Bool.{true, false, ◌&&◌}
use mathlib.Core.List.{List, map}
use Prim.Native.Nat.{ℕ, ◌+◌, ◌*◌, ◌≤◌, ◌<◌}
use native.Mathlib.Omega.{arith}
use lib.ListN.{length, get_or, set, length-set, get_or-map}
use lib.Dec.{eqb}
use borrow.Author.Tests.{eqb-true, eqb-false, eq-eqb}
use Rattle.geometry.specs.Bytes.{part}
use Rattle.geometry.specs.Lists.{every}
use Rattle.geometry.specs.Sizes.{sector, entries, most_open, sectors_of}
use Rattle.geometry.proofs.Bytes.{Apart}
use Rattle.geometry.proofs.Places.{lawful-whole}
use Rattle.geometry.proofs.Tests.{either, and_left, and_right, and_both, every_any, every_set, chosen, not_chosen}
use Rattle.directory.specs.Entries.{table_of, entry_at, free_entry, is_free}
use Rattle.directory.specs.Rules.{table_good}
use Rattle.directory.proofs.Table.{table-part}
use Rattle.directory.proofs.Good.{Lies, lies, extents-apart}
use Rattle.sessions.specs.Session.{idle, fresh, bare, has_buffer, holds_one, legal, buffered_legal, typed}
use Rattle.sessions.proofs.Legal.{lawful-length, good-table, entry-inside, entry-used, bare-legal, held-inside}
use Rattle.steps.specs.Effects.{sector_at}
use Rattle.steps.proofs.Standing.{held_at, bare-at}
use Rattle.settling.proofs.Settle.{Hold, empty, hold_at, Off, held_by, hold_of, settle, back-get_or, back-part}
use Rattle.settling.proofs.Bench.{Within, Fits, Clear, held-off}
use Rattle.directory.specs.declared.Entry.{Entry}
use Rattle.sessions.specs.declared.BufferedFile.{BufferedFile}
use Rattle.sessions.specs.declared.BufferedSession.{BufferedSession}
use Rattle.sessions.specs.declared.OpenFile.{OpenFile}

-- a buffer that is not changed equals its sector
abbrev pub InStep : List ℕ → List Entry → BufferedFile → Type 0
InStep image table b =
    b.file.used ≡ true → holds_one (entry_at table b.file.entry) b ≡ true → b.changed ≡ false → b.buffer ≡ part image (sector_at (entry_at table b.file.entry) b.held) sector

pub record Kept (image : List ℕ) (s : BufferedSession) : Type 0 where
  pub is_legal : buffered_legal image s ≡ true
  pub is_typed : typed s ≡ true
  pub in_step : (k : ℕ) → InStep image s.table (held_at s k)

-- ---- what `typed` says

module _ (s : BufferedSession) (t : typed s ≡ true) where
  pub table-length : length s.table ≡ entries
  unfolding typed
  table-length = eqb-true (length s.table) entries (and_left (eqb (length s.table) entries) _ t)

  pub names-eight : every (λ e. eqb (length e.name) 8) s.table ≡ true
  unfolding typed
  names-eight = and_left (every (λ e. eqb (length e.name) 8) s.table) _ (and_right (eqb (length s.table) entries) _ t)

  rest : (eqb (length s.files) most_open && every (λ b. eqb (length b.buffer) sector) s.files) ≡ true
  unfolding typed
  rest = and_right (every (λ e. eqb (length e.name) 8) s.table) _ (and_right (eqb (length s.table) entries) _ t)

  pub files-length : length s.files ≡ most_open
  files-length = eqb-true (length s.files) most_open (and_left (eqb (length s.files) most_open) _ rest)

  pub buffers-whole : every (λ b. eqb (length b.buffer) sector) s.files ≡ true
  buffers-whole = and_right (eqb (length s.files) most_open) _ rest

  pub buffer-length : (k : ℕ) → length (held_at s k).buffer ≡ sector
  buffer-length k = eqb-true (length (held_at s k).buffer) sector (every_any (λ b. eqb (length b.buffer) sector) s.files k (fresh idle) buffers-whole refl)

  name-length : (i : ℕ) → length (entry_at s.table i).name ≡ 8
  name-length i = eqb-true (length (entry_at s.table i).name) 8 (every_any (λ e. eqb (length e.name) 8) s.table i free_entry names-eight refl)

  -- another entry with a name of 8 bytes
  pub typed-entry : (i : ℕ) (a : Entry) → length a.name ≡ 8 → typed (record { says = s.says; table = set s.table i a; files = s.files }) ≡ true
  unfolding typed
  typed-entry i a n =
      and_both _ _ (eq-eqb (length (set s.table i a)) entries (length-set s.table i a ∙ table-length))
      (and_both _ _ (every_set (λ e. eqb (length e.name) 8) s.table i a names-eight (eq-eqb (length a.name) 8 n)) rest)

  -- another state with a buffer
  typed-file : (k : ℕ) (b : BufferedFile) → length b.buffer ≡ sector → typed (record { says = s.says; table = s.table; files = set s.files k b }) ≡ true
  unfolding typed
  typed-file k b l =
      and_both _ _ (eq-eqb (length s.table) entries table-length)
      (and_both _ _ names-eight
      (and_both _ _ (eq-eqb (length (set s.files k b)) most_open (length-set s.files k b ∙ files-length))
      (every_set (λ b. eqb (length b.buffer) sector) s.files k b buffers-whole (eq-eqb (length b.buffer) sector l))))

-- another entry of the same name, and another state with a buffer
pub typed-set : (s : BufferedSession) → typed s ≡ true → (i : ℕ) (a : Entry) (k : ℕ) (b : BufferedFile) → a.name ≡ (entry_at s.table i).name → length b.buffer ≡ sector
    → typed (record { says = s.says; table = set s.table i a; files = set s.files k b }) ≡ true
typed-set s t i a k b n l = typed-file (record { says = s.says; table = set s.table i a; files = s.files }) (typed-entry s t i a (ap length n ∙ name-length s t i)) k b l

-- ---- the states, bare and with what they hold

abbrev pub holds : BufferedSession → List Hold
holds s = map (hold_of s.table) s.files

pub hold_at_lem : (s : BufferedSession) (k : ℕ) → hold_at (holds s) k ≡ hold_of s.table (held_at s k)
unfolding hold_of
hold_at_lem s k = get_or-map (hold_of s.table) s.files k (fresh idle)

pub hold-used : (table : List Entry) (b : BufferedFile) → b.file.used ≡ true → hold_of table b ≡ held_by (entry_at table b.file.entry) b
unfolding hold_of
hold-used table b h = chosen b.file.used (held_by (entry_at table b.file.entry) b) empty h

pub hold-unused : (table : List Entry) (b : BufferedFile) → b.file.used ≡ false → hold_of table b ≡ empty
unfolding hold_of
hold-unused table b h = not_chosen b.file.used (held_by (entry_at table b.file.entry) b) empty h

-- ---- one file among the others

module _ (image : List ℕ) (s : BufferedSession) (kept : Kept image s) where
  abbrev N : ℕ
  N = sectors_of image

  is-legal : legal image (bare s) ≡ true
  is-legal = bare-legal image s kept.is_legal

  pub entry-lies : (i : ℕ) → is_free (entry_at s.table i) ≡ false → Lies N (entry_at s.table i)
  unfolding bare
  entry-lies i u = lies N s.table (good-table image (bare s) is-legal) i (eqb-false (entry_at s.table i).kind 0 u)

  pub used-entry : (k : ℕ) → (held_at s k).file.used ≡ true → ((held_at s k).file.entry < entries) × (is_free (entry_at s.table (held_at s k).file.entry) ≡ false)
  unfolding bare
  used-entry k u =
      let w : (get_or (bare s).files k idle).used ≡ true = ap (λ (f : OpenFile). f.used) (bare-at s k) ∙ u in
      (rw (bare-at s k) at (entry-inside image (bare s) is-legal k w), rw (bare-at s k) at (entry-used image (bare s) is-legal k w))

  pub held_below : (k : ℕ) → (held_at s k).file.used ≡ true → Within (entry_at s.table (held_at s k).file.entry) (held_at s k)
  held_below k u h = held-inside image s kept.is_legal k (held_at s k) _ refl refl u h

  -- a used entry's extent lies in the image, behind the directory
  pub entry-room : (i : ℕ) → is_free (entry_at s.table i) ≡ false → (1 ≤ (entry_at s.table i).first) × (sector * ((entry_at s.table i).first + (entry_at s.table i).sectors) ≤ length image)
  entry-room i u =
      let l : Lies N (entry_at s.table i) = entry-lies i u in
      (l.starts, omega (arith, l.ends, lawful-whole image (lawful-length image (bare s) is-legal)))

  -- a file's image and buffer
  pub file-fits : (k : ℕ) (e : Entry) → entry_at s.table (held_at s k).file.entry ≡ e → (held_at s k).file.used ≡ true → Fits e (record { image = image; file = held_at s k })
  file-fits k e q u =
      let r = entry-room (held_at s k).file.entry (used-entry k u).1 in
      let f : Fits (entry_at s.table (held_at s k).file.entry) (record { image = image; file = held_at s k }) =
      record { starts = r.0; room = r.1; size = buffer-length s kept.is_typed k; within = held_below k u; unchanged = kept.in_step k u } in
      subst (λ (x : Entry). Fits x (record { image = image; file = held_at s k })) q f

  -- what lies apart from the extent of an open file that has a buffer lies off what it holds
  hold-off : (j a n : ℕ)
      → ((held_at s j).file.used ≡ true → has_buffer (entry_at s.table (held_at s j).file.entry) ≡ true
      → Apart a n (sector * (entry_at s.table (held_at s j).file.entry).first) (sector * (entry_at s.table (held_at s j).file.entry).sectors))
      → Off a n (hold_at (holds s) j)
  hold-off j a n x = either (held_at s j).file.used
      (λ (u : (held_at s j).file.used ≡ true).
      rw (hold_at_lem s j ∙ hold-used s.table (held_at s j) u)
      (held-off (entry_at s.table (held_at s j).file.entry) (held_at s j) a n (buffer-length s kept.is_typed j) (held_below j u) (x u)))
      (λ (u : (held_at s j).file.used ≡ false). rw (hold_at_lem s j ∙ hold-unused s.table (held_at s j) u) (omega arith))

  -- the directory is held by no file
  pub holds-behind : (j : ℕ) → Off 0 sector (hold_at (holds s) j)
  holds-behind j = hold-off j 0 sector (λ u h. omega (arith, (entry-room (held_at s j).file.entry (used-entry j u).1).0))

  -- what another file holds
  pub clear : (i : ℕ) → is_free (entry_at s.table i) ≡ false → (j : ℕ) → ((held_at s j).file.used ≡ true → ¬ ((held_at s j).file.entry ≡ i))
      → Clear (entry_at s.table i) (hold_at (holds s) j)
  clear i v j d = (hold-off j (sector * (entry_at s.table i).first) (sector * (entry_at s.table i).sectors) (λ u h. apart u), holds-behind j)
    where
      good : table_good N s.table ≡ true
      good = unfold bare in good-table image (bare s) is-legal

      apart : (held_at s j).file.used ≡ true
          → Apart (sector * (entry_at s.table i).first) (sector * (entry_at s.table i).sectors) (sector * (entry_at s.table (held_at s j).file.entry).first) (sector * (entry_at s.table (held_at s j).file.entry).sectors)
      apart u =
          let a = extents-apart N s.table good i (held_at s j).file.entry (λ q. d u (sym q)) (eqb-false (entry_at s.table i).kind 0 v)
          (eqb-false (entry_at s.table (held_at s j).file.entry).kind 0 (used-entry j u).1) in
          omega arith

  -- a byte outside the extents of open files that have buffers is in no hold
  pub settle-elsewhere : (a : ℕ)
      → ((j : ℕ) → (held_at s j).file.used ≡ true → has_buffer (entry_at s.table (held_at s j).file.entry) ≡ true
      → Apart a 1 (sector * (entry_at s.table (held_at s j).file.entry).first) (sector * (entry_at s.table (held_at s j).file.entry).sectors))
      → get_or (settle image s) a 0 ≡ get_or image a 0
  unfolding settle
  settle-elsewhere a x = back-get_or (holds s) image a (λ j. hold-off j a 1 (x j))

  -- nor is a part outside them
  pub settle-part : (a m : ℕ)
      → ((j : ℕ) → (held_at s j).file.used ≡ true → Apart a m (sector * (entry_at s.table (held_at s j).file.entry).first) (sector * (entry_at s.table (held_at s j).file.entry).sectors))
      → part (settle image s) a m ≡ part image a m
  unfolding settle
  settle-part a m x = back-part (holds s) image a m (λ j. hold-off j a m (λ u h. x j u))

  pub settle-table : table_of (settle image s) ≡ table_of image
  unfolding settle
  settle-table = sym (table-part (settle image s)) ∙ ap table_of (back-part (holds s) image 0 sector holds-behind) ∙ table-part image
