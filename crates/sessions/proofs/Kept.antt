-- A legal session stays legal where one entry and its state change within the rules: every other state keeps its own entry.
use mathlib.Core.Path.{◌≡◌, refl, sym, ap, ◌∙◌, subst}
use mathlib.Core.Logic.{◌≢◌}
use mathlib.Core.Bool.{Bool, true, false, ◌&&◌, ◌||◌, not}
use mathlib.Core.List.{List}
use Prim.Native.Nat.{ℕ, ◌≤◌, ◌<◌}
use native.Mathlib.Omega.{arith}
use native.Mathlib.Decide.{dec_lt, ℕ_discrete}
use lib.ListN.{length, get_or, set, length-set, get_or-eq_default}
use lib.Seq.{get_or-set_same, get_or-set_other}
use lib.Dec.{eqb, leb, ltb}
use borrow.Author.Tests.{lt-ltb, le-leb, eq-eqb}
use Rattle.geometry.specs.Lists.{all, every, pairwise}
use Rattle.geometry.specs.Sizes.{entries, compressed, most_open, sectors_of, lawful_length}
use Rattle.geometry.proofs.Tests.{either, both_ways, and_left, and_right, and_both, every-from, every-alike, many-most}
use Rattle.directory.specs.Entries.{entry_at, free_entry, is_free, is_kind, is_marked}
use Rattle.directory.specs.Rules.{table_good}
use Rattle.sessions.specs.Session.{idle, is_of, file_of, slot_of, open_files, of_used_entry, of_other, position_good, beyond_good, place_good, places_good, saying_good, session_rules, legal}
use Rattle.sessions.specs.Grouped.{file_good, files_good}
use Rattle.sessions.proofs.Files.{is-of}
use Rattle.sessions.proofs.Grouped.{grouped, file-unused}
use Rattle.sessions.proofs.Legal.{lawful-length, honest, entry-inside, entry-used, position-most, beyond-marked, places-inside}
use Rattle.sessions.proofs.Distinct.{distinct, distinct-rule, distinct-set, only-slot, file-not}
use Rattle.directory.specs.declared.Entry.{Entry}
use Rattle.sessions.specs.declared.OpenFile.{OpenFile}
use Rattle.sessions.specs.declared.Session.{Session}

-- what the rules ask of a state that is used, and of its entry
pub record Keeps (e : Entry) (f : OpenFile) : Type 0 where
  pub real : is_free e ≡ false
  pub standing : f.position ≤ e.count
  pub ahead : f.beyond ≡ true → (is_marked e ≡ true) × (f.position ≡ e.count)
  pub places : is_kind compressed e ≡ true → (place_good e f.here ≡ true) × (place_good e f.end ≡ true)

implies : (a b : Bool) → (a ≡ true → b ≡ true) → (not a || b) ≡ true
implies true b h = h refl
implies false b h = refl

-- the four rules of one state
module _ (t : List Entry) (f : OpenFile) (keeps : f.used ≡ true → (f.entry < entries) × Keeps (entry_at t f.entry) f) where
  abbrev e : Entry
  e = entry_at t f.entry

  used-rule : of_used_entry t f ≡ true
  unfolding of_used_entry
  used-rule = implies f.used _ λ u. and_both (ltb f.entry entries) (not (is_free e)) (lt-ltb f.entry entries (keeps u).0) (ap not (keeps u).1.real)

  position-rule : position_good t f ≡ true
  unfolding position_good
  position-rule = implies f.used _ λ u. le-leb f.position e.count (keeps u).1.standing

  beyond-rule : beyond_good t f ≡ true
  unfolding beyond_good
  beyond-rule = implies (f.used && f.beyond) _ λ h.
      let a = (keeps (and_left f.used f.beyond h)).1.ahead (and_right f.used f.beyond h) in
      and_both (is_marked e) (eqb f.position e.count) a.0 (eq-eqb f.position e.count a.1)

  places-rule : places_good t f ≡ true
  unfolding places_good
  places-rule = implies (f.used && is_kind compressed e) _ λ h.
      let a = (keeps (and_left f.used (is_kind compressed e) h)).1.places (and_right f.used (is_kind compressed e) h) in
      and_both (place_good e f.here) (place_good e f.end) a.0 a.1

module _ (image : List ℕ) (s : Session) (ok : legal image s ≡ true) (four : length s.files ≡ most_open) (i : ℕ) (inside : i < entries) (there : i < length s.table) (real : is_free (entry_at s.table i) ≡ false)
    (e : Entry) (f : OpenFile) (mine : f.used ≡ true → f.entry ≡ i) where
  abbrev k : ℕ
  k = slot_of s.files i

  abbrev table' : List Entry
  table' = set s.table i e

  abbrev files' : List OpenFile
  files' = set s.files k f

  pub legal-set : table_good (sectors_of image) table' ≡ true → (f.used ≡ true → Keeps e f) → legal image (record { says = s.says; table = table'; files = files' }) ≡ true
  unfolding legal session_rules all open_files saying_good
  legal-set good keeps =
      rw (
        lawful-length image s ok,
        good,
        le-leb (open_files files') most_open (omega (arith, many-most (λ g. g.used) files', length-set s.files k f)),
        every-state (of_used_entry table') (used-rule table'),
        distinct-rule files' (distinct-set s.files (distinct image s ok) i f mine),
        every-state (position_good table') (position-rule table'),
        every-state (beyond_good table') (beyond-rule table'),
        every-state (places_good table') (places-rule table'),
        honest image s ok i real,
      )
    where
      new : f.used ≡ true → (f.entry < entries) × Keeps (entry_at table' f.entry) f
      new u = (rw (mine u) inside, subst (λ (j : ℕ). Keeps (entry_at table' j) f) (sym (mine u)) (rw (get_or-set_same s.table i e free_entry there) (keeps u)))

      old : (m : ℕ) → m ≢ k → (get_or s.files m idle).used ≡ true
          → ((get_or s.files m idle).entry < entries) × Keeps (entry_at table' (get_or s.files m idle).entry) (get_or s.files m idle)
      old m ne u =
          let g : OpenFile = get_or s.files m idle in
          let other : g.entry ≢ i = λ (z : g.entry ≡ i). ne (only-slot s.files (distinct image s ok) i m (is-of i g u z)) in (
            entry-inside image s ok m u,
            rw (get_or-set_other s.table i g.entry e free_entry other) (record {
              real = entry-used image s ok m u;
              standing = position-most image s ok m u;
              ahead = beyond-marked image s ok m u;
              places = places-inside image s ok m u;
            }),
          )

      each : (m : ℕ) → (get_or files' m idle).used ≡ true → ((get_or files' m idle).entry < entries) × Keeps (entry_at table' (get_or files' m idle).entry) (get_or files' m idle)
      each m = go (ℕ_discrete m k) (dec_lt k (length s.files))
        where
          go : Dec (m ≡ k) → Dec (k < length s.files) → (get_or files' m idle).used ≡ true
              → ((get_or files' m idle).entry < entries) × Keeps (entry_at table' (get_or files' m idle).entry) (get_or files' m idle)
          go (yes q) (yes h) = rw (q, get_or-set_same s.files k f idle h) new
          go (yes q) (no h) = λ u.
              both_ways (get_or files' m idle).used u (ap (λ (g : OpenFile). g.used) (get_or-eq_default files' idle (omega (arith, length-set s.files k f))))
          go (no q) h = rw (get_or-set_other s.files k m f idle q) (old m q)

      every-state : (r : OpenFile → Bool) → ((g : OpenFile) → (g.used ≡ true → (g.entry < entries) × Keeps (entry_at table' g.entry) g) → r g ≡ true) → every r files' ≡ true
      every-state r h = every-from r files' idle λ m l. h (get_or files' m idle) (each m)

-- ---- and where an entry changes whose file is not open

one_kept : (t : List Entry) (n : ℕ) (e : Entry) (f : OpenFile) → is_of n f ≡ false → file_good (set t n e) f ≡ file_good t f
unfolding file_good of_used_entry position_good beyond_good places_good
one_kept t n e f h = either f.used
    (λ (u : f.used ≡ true). rw (get_or-set_other t n f.entry e free_entry (λ (z : f.entry ≡ n). both_ways (is_of n f) (is-of n f u z) h)))
    (λ (u : f.used ≡ false). file-unused (set t n e) f u ∙ sym (file-unused t f u))

module _ (image : List ℕ) (s : Session) (ok : legal image s ≡ true) (n : ℕ) (shut : (file_of s.files n).used ≡ false) (e : Entry) where
  abbrev edited : Session
  edited = record { says = s.says; table = set s.table n e; files = s.files }

  files-kept : files_good (set s.table n e) s.files ≡ true
  unfolding files_good
  files-kept =
      ap (λ (b : Bool). leb (open_files s.files) most_open && (b && pairwise of_other s.files)) (every-alike (file_good (set s.table n e)) (file_good s.table) s.files idle (λ m l. one_kept s.table n e (get_or s.files m idle) (file-not s.files n shut m)))
      ∙ and_left (files_good s.table s.files) _ (and_right (table_good (sectors_of image) s.table) _ (and_right (lawful_length image) _ (sym (grouped image s) ∙ ok)))

  pub legal-elsewhere : s.says.refused ≡ false → table_good (sectors_of image) (set s.table n e) ≡ true → legal image (record { says = s.says; table = set s.table n e; files = s.files }) ≡ true
  unfolding saying_good
  legal-elsewhere honest good = grouped image edited ∙ rw (lawful-length image s ok, good, files-kept, honest)
