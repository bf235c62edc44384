-- A legal session makes a used entry and its state lawful; and what a request answered 0 does then stays in the file's extent:
-- the tests that it passed say that its record lies below the count or the capacity, or that there is room for its code.
use mathlib.Core.Path.{◌≡◌, refl, sym, subst}
use mathlib.Core.Bool.{Bool, true, false, ◌&&◌, false≢true}
use mathlib.Core.List.{List, [], ◌∷◌, map}
use Prim.Native.Nat.{ℕ, ◌+◌, ◌-◌, ◌*◌, ◌≤◌, ◌<◌}
use native.Mathlib.Omega.{arith}
use lib.ListN.{length, get_or}
use lib.Dec.{ltb}
use borrow.Author.Tests.{eqb-true, eqb-false, ne_eqb, lt-ltb, ltb-true, leb-false}
use Rattle.geometry.specs.Bytes.{padded, word}
use Rattle.geometry.specs.Sizes.{sector, blocked, compressed, random, most_sectors, most_shared, sectors_of}
use Rattle.geometry.specs.Places.{per_sector, small_granules, capacity, place_of, bytes_for, reach_of, byte_of}
use Rattle.geometry.proofs.Tests.{either, both_ways, and_left, neither_left}
use Rattle.geometry.proofs.Places.{lawful-most, sector-below, blocked-shares, small-granule, small-shares, byte-shared, bytes-shared, reach-whole, granule-before, span_of, span-inside, span-straight, bytes-hold}
use Rattle.geometry.proofs.Bytes.{length-padded}
use Rattle.directory.specs.Entries.{entry_at, is_free, is_kind, is_marked}
use Rattle.directory.proofs.Good.{Lies, lies}
use Rattle.sessions.specs.Session.{idle, has_buffer, file_of, slot_of, place_good, legal}
use Rattle.sessions.proofs.Files.{Finds, opened, closed, finds}
use Rattle.sessions.proofs.Legal.{lawful-length, good-table, position-most, beyond-marked, places-inside}
use Rattle.coding.specs.Encode.{code_of}
use Rattle.directory.specs.Stamp.{stamp_bytes}
use Rattle.directory.specs.Rules.{longest}
use Rattle.packing.specs.Reading.{read_behind, read_at, start_of, goes_on}
use Rattle.packing.specs.Placing.{Change, changes}
use Rattle.packing.proofs.One.{Within}
use Rattle.packing.proofs.Placed.{AllIn, changes-in}
use Rattle.geometry.specs.declared.Place.{Place}
use Rattle.requests.specs.Judge.{judge, is_full}
use Rattle.requests.proofs.Done.{Writes, Allows, done-allows, room-coded}
use Rattle.requests.specs.declared.Request.{Request}
use Rattle.requests.specs.declared.Request.TheVariants.{Open, Read, Write, GranuleRead, GranuleWrite, GranuleLook, Position}
use Rattle.requests.specs.declared.Order.TheVariants.{WriteMark, RewindOnline, RewindOffline, RecordForward, RecordBack, FileForward, FileBack}
use Rattle.requests.specs.declared.Answer.TheVariants.{Done}
use Rattle.steps.specs.Effects.{Effect, hold, change, store, stamp, put_back, read_effects, write_effects, blocked_effect, store_effect, effects}
use Rattle.steps.specs.Next.{Scene, facts_of, the_next, bad_in, decoding, is_lost, record_here, code_length}
use Rattle.steps.proofs.Lawful.{Lawful}
use Rattle.steps.proofs.Compressed.{good-within, code_is}
use Rattle.directory.specs.declared.Entry.{Entry}
use Rattle.sessions.specs.declared.OpenFile.{OpenFile}
use Rattle.sessions.specs.declared.Session.{Session}

-- ---- lawful

-- of a state that stands somewhere in its file
record Stands (e : Entry) (f : OpenFile) : Type 0 where
  standing : f.position ≤ e.count
  ahead : f.beyond ≡ true → (is_marked e ≡ true) × (f.position ≡ e.count)
  places : is_kind compressed e ≡ true → (place_good e f.here ≡ true) × (place_good e f.end ≡ true)

idle-stands : (e : Entry) → 1 ≤ e.sectors → Stands e idle
unfolding place_good
idle-stands e h = record {
  standing = omega arith;
  ahead = λ b. absurd (false≢true b);
  places = λ c. (rw (lt-ltb 0 e.sectors h), rw (lt-ltb 0 e.sectors h));
}

lawful-from : (N : ℕ) (e : Entry) (f : OpenFile) → N ≤ most_sectors → Lies N e → Stands e f → Lawful e f
lawful-from N e f n l s = record {
  known = (l.used, l.known);
  some = l.some;
  few = omega (arith, l.ends);
  long = l.least;
  short = l.most;
  flags = l.flagged;
  words = l.counted n;
  counted = λ c r. l.held (omega (arith, l.known, eqb-false e.kind compressed c, eqb-false e.kind random r));
  bare = λ r. (l.bare (eqb-true e.kind random r), l.unmarked (eqb-true e.kind random r));
  standing = s.standing;
  ahead = s.ahead;
  places = s.places;
}

-- a used entry and its state; a file that is not open has the idle one
pub lawful : (image : List ℕ) (s : Session) → legal image s ≡ true → (i : ℕ) → is_free (entry_at s.table i) ≡ false
    → Lawful (entry_at s.table i) (file_of s.files i)
lawful image s ok i used = go (finds s.files i)
  where
    l : Lies (sectors_of image) (entry_at s.table i)
    l = lies (sectors_of image) s.table (good-table image s ok) i (eqb-false (entry_at s.table i).kind 0 used)

    from : Stands (entry_at s.table i) (file_of s.files i) → Lawful (entry_at s.table i) (file_of s.files i)
    from = lawful-from (sectors_of image) (entry_at s.table i) (file_of s.files i) (lawful-most image (lawful-length image s ok)) l

    -- the state of number k is entry i's
    at : (k : ℕ) (f : OpenFile) → get_or s.files k idle ≡ f → f.used ≡ true → f.entry ≡ i → Stands (entry_at s.table i) f
    at k f p u e =
        let w : (get_or s.files k idle).used ≡ true = rw p u in
        let z : Stands (entry_at s.table (get_or s.files k idle).entry) (get_or s.files k idle) =
        record { standing = position-most image s ok k w; ahead = beyond-marked image s ok k w; places = places-inside image s ok k w } in
        subst (λ (j : ℕ). Stands (entry_at s.table j) f) e (rw p at z)

    go : Finds s.files i → Lawful (entry_at s.table i) (file_of s.files i)
    go (opened h p u e b) = from (at (slot_of s.files i) (file_of s.files i) (sym p) u e)
    go (closed p h b) = from (rw p (idle-stands (entry_at s.table i) l.some))

-- ---- what a request may do to a file

-- small granules lie before the bytes at a sector's end that belong to none
abbrev pub Before : Entry → Change → Type 0
Before e x = small_granules e.kind e.length ≡ true → x.place.byte + length x.bytes ≤ per_sector e.length * e.length

-- by way of the buffer one sector of the extent at a time; straight only where there is no buffer
abbrev pub Suits : Entry → Effect → Type 0
Suits e (hold k) = (has_buffer e ≡ true) × (k < e.sectors)
Suits e (change x) = (has_buffer e ≡ true) × (x.place.sector < e.sectors) × (x.place.byte + length x.bytes ≤ sector)
Suits e (store x) = (has_buffer e ≡ false) × (byte_of x.place + length x.bytes ≤ sector * e.sectors) × Before e x
Suits e (stamp xs) = length xs ≡ 4
Suits e put_back = record {}

abbrev pub AllSuit : Entry → List Effect → Type 0
AllSuit e [] = record {}
AllSuit e (x ∷ xs) = Suits e x × AllSuit e xs

-- ---- the requests

small : (e : Entry) (f : OpenFile) → Lawful e f → e.kind ≡ blocked → e.length ≤ sector
unfolding longest
small e f l k =
    let s : e.length ≤ longest e.kind = l.short in
    rw (k, longest) at s

-- the record at the position is there: it starts in a sector of the extent
not-lost : (e : Entry) (bytes : List ℕ) (h : Place) → is_lost (read_behind e.length e.sectors bytes h) ≡ false → (start_of bytes h).sector < e.sectors
unfolding read_behind read_at is_lost
not-lost e bytes h k = either (ltb (start_of bytes h).sector e.sectors) (λ (t : ltb (start_of bytes h).sector e.sectors ≡ true). ltb-true _ _ t)
    (λ (t : ltb (start_of bytes h).sector e.sectors ≡ false). absurd (false≢true (sym (rw (t, read_at) at k))))

module _ (files buffer : ℕ) (c : Scene) (l : Lawful c.entry c.file) where
  abbrev e : Entry
  e = c.entry

  pos : 0 < e.length
  pos = omega (arith, l.long)

  -- a blocked file's sector of a record below the capacity
  blocked-below : (k : ℕ) → is_kind blocked e ≡ true → k < capacity e.kind e.length e.sectors → (place_of blocked e.length k).sector < e.sectors
  blocked-below k b h =
      let q : e.kind ≡ blocked = eqb-true e.kind blocked b in
      sector-below blocked e.length pos (λ z. small e c.file l q) k e.sectors (rw q at h)

  blocked-end : (k : ℕ) → is_kind blocked e ≡ true → (place_of blocked e.length k).byte + e.length ≤ sector
  blocked-end k b = byte-shared blocked e.length pos (λ z. small e c.file l (eqb-true e.kind blocked b)) (blocked-shares blocked e.length refl) k

  not-blocked : is_kind blocked e ≡ false → ¬ (e.kind ≡ blocked)
  not-blocked b = eqb-false e.kind blocked b

  sequential : is_kind blocked e ≡ true → (is_kind compressed e ≡ false) × (is_kind random e ≡ false)
  sequential b =
      let q : e.kind ≡ blocked = eqb-true e.kind blocked b in
      (ne_eqb e.kind compressed (omega arith), ne_eqb e.kind random (omega arith))

  -- a record that is read
  read-suits : c.file.position < e.count → bad_in the_next c ≡ false → AllSuit e (read_effects c)
  unfolding read_effects
  read-suits h bad = go (is_kind blocked e) (is_kind compressed e) refl refl
    where
      there : is_kind compressed e ≡ true → (start_of c.bytes c.file.here).sector < e.sectors
      there k = not-lost e c.bytes c.file.here (unfold record_here bad_in in rw (lt-ltb c.file.position e.count h, k, record_here) at bad)

      one : (g : Bool) → is_kind compressed e ≡ true → has_buffer e ≡ true
          → AllSuit e (elim g [ true ↦ hold c.file.here.sector ∷ hold (start_of c.bytes c.file.here).sector ∷ [] | false ↦ hold (start_of c.bytes c.file.here).sector ∷ [] ])
      one true k b = ((b, (good-within e c.file.here (l.places k).0).0), ((b, there k), record {}))
      one false k b = ((b, there k), record {})

      go : (b k : Bool) → is_kind blocked e ≡ b → is_kind compressed e ≡ k
          → AllSuit e (elim b [
            | true ↦ hold (place_of blocked e.length c.file.position).sector ∷ []
            | false ↦ elim k [
              | true ↦ elim (goes_on c.bytes c.file.here && ltb c.file.here.byte sector) [ true ↦ hold c.file.here.sector ∷ hold (start_of c.bytes c.file.here).sector ∷ [] | false ↦ hold (start_of c.bytes c.file.here).sector ∷ [] ]
              | false ↦ []
            ]
          ])
      go true k p q = ((rw p, blocked-below c.file.position p (omega (arith, l.counted (sequential p).0 (sequential p).1))), record {})
      go false true p q = one (goes_on c.bytes c.file.here && ltb c.file.here.byte sector) q (rw (p, q))
      go false false p q = record {}

  -- record or granule k, written straight
  store-suits : (k : ℕ) → has_buffer e ≡ false → length c.given ≤ e.length → k < capacity e.kind e.length e.sectors → Suits e (store_effect c k)
  unfolding store_effect
  store-suits k b h r =
      let n : ¬ (e.kind ≡ blocked) = not-blocked (neither_left (is_kind blocked e) (is_kind compressed e) b) in
      let s : byte_of (place_of e.kind e.length k) + span_of e.kind e.length k ≤ sector * e.sectors =
      span-inside e.kind e.length pos (λ q. absurd (n q)) k e.sectors r in
      let w : span_of e.kind e.length k ≡ bytes_for e.kind e.length = span-straight e.kind e.length k n in
      let m : e.length ≤ bytes_for e.kind e.length = bytes-hold e.kind e.length pos (λ q. absurd (n q)) in
      let z : length (padded 0 (bytes_for e.kind e.length) c.given) ≡ bytes_for e.kind e.length = length-padded 0 _ c.given (omega arith) in
      (b, omega arith, before z)
    where
      before : length (padded 0 (bytes_for e.kind e.length) c.given) ≡ bytes_for e.kind e.length
          → Before e (record { place = place_of e.kind e.length k; bytes = padded 0 (bytes_for e.kind e.length) c.given })
      before z s =
          let g : (e.kind ≡ random) × (e.length ≤ most_shared) = small-granule e.kind e.length s in
          rw (z, bytes-shared e.kind e.length (small-shares e.kind e.length s), g.0) (granule-before e.length pos g.1 k)

  -- a blocked record
  blocked-suits : is_kind blocked e ≡ true → length c.given ≤ e.length → c.file.position < capacity e.kind e.length e.sectors → Suits e (blocked_effect c)
  unfolding blocked_effect
  blocked-suits b h r =
      let p : Place = place_of blocked e.length c.file.position in
      let n : p.byte + e.length ≤ sector = blocked-end c.file.position b in
      let z : length (padded 0 (sector - p.byte) c.given) ≡ sector - p.byte = length-padded 0 _ c.given (omega arith) in
      (rw b, blocked-below c.file.position b r, omega arith)

  -- the changes of a coded record, each in one sector
  changes-suit : has_buffer e ≡ true → (cs : List Change) → AllIn e.sectors cs → AllSuit e (map change cs)
  changes-suit b [] i = record {}
  changes-suit b (x ∷ cs) i = ((b, i.0.sector-in, omega (arith, i.0.ends)), changes-suit b cs i.1)

  write-suits : Writes (facts_of true files buffer Write c) → AllSuit e (write_effects c)
  unfolding write_effects facts_of is_full
  write-suits w = go (is_kind blocked e) (is_kind compressed e) refl refl
    where
      below : is_kind compressed e ≡ false → c.file.position < capacity e.kind e.length e.sectors
      below k = leb-false (capacity e.kind e.length e.sectors) c.file.position (rw (k, is_full) at w.room)

      go : (b k : Bool) → is_kind blocked e ≡ b → is_kind compressed e ≡ k
          → AllSuit e (elim b [
            | true ↦ blocked_effect c ∷ []
            | false ↦ elim k [ true ↦ map change (changes c.file.here (code_of e.length c.given)) | false ↦ store_effect c c.file.position ∷ [] ]
          ])
      go true k p q = (blocked-suits p w.short (below (sequential p).0), record {})
      go false true p q =
          let code : List ℕ = code_of e.length c.given in
          let s : code_length e c.given ≡ length code = code_is c q w.short in
          let h : Within e.sectors c.file.here = good-within e c.file.here (l.places q).0 in
          changes-suit (rw (p, q)) (changes c.file.here code)
          (changes-in c.file.here code e.sectors h.0 h.1 (omega (arith, w.coded q)) (rw s at (room-coded (facts_of true files buffer Write c) w.room q)))
      go false false p q = (store-suits c.file.position (rw (p, q)) w.short (below q), record {})

-- a random file has no buffer
pub no_buffer : (e : Entry) → is_kind random e ≡ true → has_buffer e ≡ false
no_buffer e r =
    let q : e.kind ≡ random = eqb-true e.kind random r in
    rw (ne_eqb e.kind blocked (omega arith), ne_eqb e.kind compressed (omega arith))

-- a file that has one has no small granules, and may write every byte of its extent
pub no-small : (e : Entry) → has_buffer e ≡ true → small_granules e.kind e.length ≡ false
no-small e b = either (small_granules e.kind e.length)
    (λ (g : small_granules e.kind e.length ≡ true). both_ways (has_buffer e) b (no_buffer e (and_left (is_kind random e) _ g)))
    (λ (g : small_granules e.kind e.length ≡ false). g)

pub reach-buffered : (e : Entry) → has_buffer e ≡ true → reach_of e.kind e.length ≡ sector
reach-buffered e b = reach-whole e.kind e.length (no-small e b)

-- a request that is done: each of its effects suits the file
pub suit : (files buffer : ℕ) (q : Request) (c : Scene) → Lawful c.entry c.file → judge q (facts_of true files buffer q c) ≡ Done → AllSuit c.entry (effects q c)
unfolding effects facts_of decoding stamp_bytes word
suit files buffer q c l d = go q (done-allows q (facts_of true files buffer q c) d)
  where
    go : (q : Request) → Allows q (facts_of true files buffer q c) → AllSuit c.entry (effects q c)
    go Open a = record {}
    go Read a = read-suits files buffer c l a.advances.ahead a.advances.sound
    go Write a = write-suits files buffer c l a
    go (GranuleRead g) a = record {}
    go (GranuleWrite g) a = (store-suits files buffer c l g (no_buffer c.entry a.finds.random) a.short a.finds.there, record {})
    go (GranuleLook g) a = record {}
    go (Position WriteMark) a = (record {}, record {})
    go (Position RewindOnline) a = (record {}, record {})
    go (Position RewindOffline) a = (record {}, (refl, record {}))
    go (Position RecordForward) a = record {}
    go (Position RecordBack) a = record {}
    go (Position FileForward) a = (record {}, record {})
    go (Position FileBack) a = (record {}, record {})
