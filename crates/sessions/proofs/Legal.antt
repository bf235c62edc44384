-- What a legal session keeps: each rule, read at an open-file state.
use mathlib.Core.Path.{◌≡◌, refl, sym, ap}
use mathlib.Core.Bool.{Bool, true, false, ◌&&◌, ◌||◌, not}
use mathlib.Core.List.{List}
use Prim.Native.Nat.{ℕ, ◌≤◌, ◌<◌}
use native.Mathlib.Omega.{arith}
use native.Mathlib.Decide.{dec_lt}
use lib.ListN.{length, get_or, get_or-eq_default}
use lib.Dec.{eqb, ltb}
use borrow.Author.Tests.{leb-true, ltb-true, eqb-true, not-true}
use Rattle.geometry.specs.Lists.{every, pairwise}
use Rattle.geometry.specs.Sizes.{entries, compressed, sectors_of, lawful_length}
use Rattle.geometry.proofs.Tests.{and_left, and_right, all_get_d, every_any, pairwise-get_or, both_ways, either}
use Rattle.directory.specs.Entries.{entry_at, free_entry, is_free, is_kind, is_marked}
use Rattle.directory.specs.Rules.{table_good}
use Rattle.sessions.specs.Session.{idle, is_of, open_files, saying_good, of_used_entry, of_other, position_good, beyond_good, places_good, place_good, session_rules, legal, fresh, bare, held_good, buffered_legal}
use Rattle.sessions.proofs.Files.{is-of}
use Rattle.directory.specs.declared.Entry.{Entry}
use Rattle.sessions.specs.declared.BufferedFile.{BufferedFile}
use Rattle.sessions.specs.declared.BufferedSession.{BufferedSession}
use Rattle.sessions.specs.declared.OpenFile.{OpenFile}
use Rattle.sessions.specs.declared.Session.{Session}

-- ---- the rules of a session

implied : (a b : Bool) → (not a || b) ≡ true → a ≡ true → b ≡ true
implied true b h k = h
implied false b h k = both_ways false k refl

module _ (image : List ℕ) (s : Session) (ok : legal image s ≡ true) where
  rule : (k : ℕ) → get_or (session_rules image s) k true ≡ true
  unfolding legal
  rule k = all_get_d (session_rules image s) k ok

  pub lawful-length : lawful_length image ≡ true
  unfolding session_rules
  lawful-length = rule 0

  pub good-table : table_good (sectors_of image) s.table ≡ true
  unfolding session_rules
  good-table = rule 1

  -- a session with a used entry does not say that it is from a refused mounting
  pub honest : (i : ℕ) → is_free (entry_at s.table i) ≡ false → s.says.refused ≡ false
  unfolding session_rules saying_good
  honest i u = either s.says.refused
      (λ (r : s.says.refused ≡ true).
      let h : (every is_free s.table && eqb (open_files s.files) 0) ≡ true = implied s.says.refused _ (rule 8) r in
      both_ways (is_free (entry_at s.table i)) (every_any is_free s.table i free_entry (and_left (every is_free s.table) _ h) refl) u)
      (λ r. r)

  -- the state of number k
  module _ (k : ℕ) (used : (get_or s.files k idle).used ≡ true) where
    abbrev f : OpenFile
    f = get_or s.files k idle

    abbrev e : Entry
    e = entry_at s.table f.entry

    of_entry : (ltb f.entry entries && not (is_free e)) ≡ true
    unfolding session_rules of_used_entry
    of_entry = implied f.used _ (every_any (of_used_entry s.table) s.files k idle (rule 3) refl) used

    pub entry-inside : f.entry < entries
    entry-inside = ltb-true f.entry entries (and_left (ltb f.entry entries) (not (is_free e)) of_entry)

    pub entry-used : is_free e ≡ false
    entry-used = not-true (is_free e) (and_right (ltb f.entry entries) (not (is_free e)) of_entry)

    pub position-most : f.position ≤ e.count
    unfolding session_rules position_good
    position-most = leb-true f.position e.count (implied f.used _ (every_any (position_good s.table) s.files k idle (rule 5) refl) used)

    pub beyond-marked : f.beyond ≡ true → (is_marked e ≡ true) × (f.position ≡ e.count)
    unfolding session_rules beyond_good
    beyond-marked b =
        let h : (is_marked e && eqb f.position e.count) ≡ true =
        implied (f.used && f.beyond) _ (every_any (beyond_good s.table) s.files k idle (rule 6) refl) (rw (used, b)) in
        (and_left (is_marked e) _ h, eqb-true f.position e.count (and_right (is_marked e) (eqb f.position e.count) h))

    pub places-inside : is_kind compressed e ≡ true → (place_good e f.here ≡ true) × (place_good e f.end ≡ true)
    unfolding session_rules places_good
    places-inside c =
        let h : (place_good e f.here && place_good e f.end) ≡ true =
        implied (f.used && is_kind compressed e) _ (every_any (places_good s.table) s.files k idle (rule 7) refl) (rw (used, c)) in
        (and_left (place_good e f.here) _ h, and_right (place_good e f.here) (place_good e f.end) h)

  -- "each a different used entry"
  pub files-differ : (j k : ℕ) → ¬ (j ≡ k) → (get_or s.files j idle).used ≡ true → (get_or s.files k idle).used ≡ true
      → ¬ ((get_or s.files j idle).entry ≡ (get_or s.files k idle).entry)
  files-differ j k d u v e = go (dec_lt j k)
    where
      inside : (k : ℕ) → (get_or s.files k idle).used ≡ true → k < length s.files
      inside k w = there (dec_lt k (length s.files))
        where
          there : Dec (k < length s.files) → k < length s.files
          there (yes h) = h
          there (no h) = both_ways (get_or s.files k idle).used w (ap (λ (f : OpenFile). f.used) (get_or-eq_default s.files idle (omega arith)))

      apart : (a b : ℕ) → a < b → (get_or s.files a idle).used ≡ true → (get_or s.files b idle).used ≡ true
          → (get_or s.files b idle).entry ≡ (get_or s.files a idle).entry → ⊥
      apart a b l p q r = differ (pairwise-get_or of_other s.files a b idle pairs l (inside b q))
        where
          pairs : pairwise of_other s.files ≡ true
          pairs = unfold session_rules in rule 4

          differ : of_other (get_or s.files a idle) (get_or s.files b idle) ≡ true → ⊥
          differ h = both_ways ((get_or s.files a idle).used && is_of (get_or s.files a idle).entry (get_or s.files b idle)) (rw (p, is-of _ (get_or s.files b idle) q r)) (not-true _ (unfold of_other in h))

      go : Dec (j < k) → ⊥
      go (yes l) = apart j k l u v (sym e)
      go (no l) = apart k j (omega (arith, d)) v u e

-- an image is looked at for its length alone
pub legal-length : (a b : List ℕ) (s : Session) → length a ≡ length b → legal a s ≡ legal b s
unfolding legal session_rules lawful_length sectors_of
legal-length a b s e = rw e

-- ---- and of a buffered one

module _ (image : List ℕ) (s : BufferedSession) (ok : buffered_legal image s ≡ true) where
  pub bare-legal : legal image (bare s) ≡ true
  unfolding buffered_legal
  bare-legal = and_left (legal image (bare s)) (every (held_good s.table) s.files) ok

  pub all_held : every (held_good s.table) s.files ≡ true
  unfolding buffered_legal
  all_held = and_right (legal image (bare s)) (every (held_good s.table) s.files) ok

  -- "a held sector lies in its file's extent"
  pub held-inside : (k : ℕ) (b : BufferedFile) (e : Entry) → b ≡ get_or s.files k (fresh idle) → e ≡ entry_at s.table b.file.entry → b.file.used ≡ true → b.holds ≡ true
      → b.held < e.sectors
  unfolding held_good
  held-inside k b e p q u h =
      let g : held_good s.table b ≡ true = rw p (every_any (held_good s.table) s.files k (fresh idle) all_held refl) in
      ltb-true b.held e.sectors (implied (b.file.used && b.holds) _ (rw q g) (rw (u, h)))
