-- A compressed file answers as its tape does: its tape's records are the walk of the count records, so fewer are a front part of them, the record at
-- the position is read at the file's place, and a written one stands behind that place as the packing's laws say.
use mathlib.Core.Path.{◌≡◌, refl, sym, ap, ◌∙◌}
use mathlib.Core.Bool.{Bool, true, false, ◌&&◌, false≢true}
use mathlib.Core.List.{List, [], ◌∷◌, ◌++◌, map}
use Prim.Native.Nat.{ℕ, suc, ◌+◌, ◌≤◌, ◌<◌}
use native.Mathlib.Omega.{arith}
use native.Mathlib.Numerals.{add-one}
use lib.ListN.{length, take, get_or}
use lib.Seq.{length-take-le}
use lib.Dec.{ltb}
use borrow.Author.Tests.{eqb-true, ltb-true}
use Rattle.geometry.specs.Bytes.{lay}
use Rattle.geometry.specs.Sizes.{compressed, random, blocked}
use Rattle.geometry.specs.Places.{byte_of, origin}
use Rattle.geometry.specs.declared.Place.{Place}
use Rattle.coding.specs.Encode.{code_of}
use Rattle.directory.specs.Entries.{is_kind}
use Rattle.directory.specs.Rules.{longest}
use Rattle.packing.specs.Placing.{has_room, Change, changes, laid}
use Rattle.packing.specs.Reading.{got, Recorded, read_behind, walked, walk, records_of, behind_from, behind}
use Rattle.packing.proofs.One.{Within}
use Rattle.packing.proofs.Walks.{nowhere, behind-take, behind-snoc, behind-next, decodes-walked, walked-decodes, walk-length, walk-prefix, walk_at}
use Rattle.packing.proofs.Placed.{new_at, put-given-walk}
use Rattle.mounting.specs.Mounting.{counted_walk}
use Rattle.requests.proofs.Done.{Tells, Writes, Meets, reads_mark, skips_mark, back_over, back_at_start, file_back_to_start, judge-tells, room-coded}
use Rattle.steps.specs.Next.{Scene, record_here, is_lost, bytes_got, behind_got, Decoding, the_counted, the_next, none, decoding, bad_in, facts_of, behind_written, counted, entry_done, file_done, file_met}
use Rattle.steps.specs.Effects.{change, effects, write_effects}
use Rattle.steps.proofs.Lawful.{own_do, own_all}
use Rattle.steps.proofs.Compressed.{good-within, here-read, here-written, end_is, code_is}
use Rattle.tapes.specs.Tape.{records_in, new_record, pad_byte, tape_record}
use Rattle.tapes.specs.Model.{shape_of}
use Rattle.steps.specs.Verdict.{entry_next, file_next}
use Rattle.serving.proofs.Solo.{Sound, bytes_next, solo_answer, Solo}
use Rattle.serving.proofs.Stays.{lawful-next, rest-next, kind-next, size-next}
use Rattle.serving.proofs.Taped.{records_shown, tape_shown, Taped, own_read, tape-serves}
use Rattle.serving.proofs.Places.{places-next}
use Rattle.directory.specs.declared.Entry.{Entry}
use Rattle.sessions.specs.declared.OpenFile.{OpenFile}
use Rattle.requests.specs.declared.Facts.{Facts}
use Rattle.requests.specs.declared.Order.TheVariants.{WriteMark, RewindOnline, RewindOffline, RecordForward, RecordBack, FileForward, FileBack}
use Rattle.requests.specs.declared.Request.{Request}
use Rattle.requests.specs.declared.Request.TheVariants.{Open, Read, Write, GranuleRead, GranuleWrite, GranuleLook, Position}
use Rattle.requests.specs.declared.Edge.{Edge}
use Rattle.requests.specs.declared.Edge.TheVariants.{EndOfFile, BeginningOfTape}
use Rattle.requests.specs.declared.Answer.{Answer}
use Rattle.requests.specs.declared.Answer.TheVariants.{Done, Met, Refused}

-- ---- the kind

pub longest-packed : (e : Entry) → is_kind compressed e ≡ true → longest e.kind ≡ 132
unfolding longest
longest-packed e k = let is : e.kind ≡ compressed = eqb-true _ _ k in rw is

pub not-random : (e : Entry) → is_kind compressed e ≡ true → is_kind random e ≡ false
not-random e k = let is : e.kind ≡ compressed = eqb-true _ _ k in rw is

pub not-blocked : (e : Entry) → is_kind compressed e ≡ true → is_kind blocked e ≡ false
not-blocked e k = let is : e.kind ≡ compressed = eqb-true _ _ k in rw is

-- a change by way of the buffer is one in the extent's bytes
pub own-changes : (cs : List Change) (bytes : List ℕ) → own_all (map change cs) bytes ≡ laid cs bytes
unfolding own_all own_do
own-changes [] bytes = refl
own-changes (x ∷ cs) bytes = own-changes cs (lay bytes (byte_of x.place) x.bytes)

-- an edge is met by an open file
met-opened : (f : Facts) (q : Request) (x : Edge) → Meets f q x → f.opened ≡ true
met-opened f q x (reads_mark t) = t.running.live.opened
met-opened f q x (skips_mark t) = t.running.live.opened
met-opened f q x (back_over t) = t.running.live.opened
met-opened f q x (back_at_start t) = t.running.live.opened
met-opened f q x (file_back_to_start t) = t.running.live.opened

-- what the bytes say of a compressed file's records and places
record Trail (e : Entry) (f : OpenFile) (bytes : List ℕ) : Type 0 where
  records : List Recorded
  whole : walk e.length e.sectors bytes e.count origin ≡ walked records
  here : f.here ≡ behind_from origin records f.position
  end : f.used ≡ true → f.end ≡ behind_from origin records e.count

-- ---- its records

module _ (c : Scene) (k : is_kind compressed c.entry ≡ true) (s : Sound c.entry c.file c.bytes) where
  -- the records of the tape are those of a walk
  records-are : (bytes : List ℕ) (n : ℕ) → records_in (shape_of c.entry) bytes n ≡ records_of (walk c.entry.length c.entry.sectors bytes n origin)
  unfolding records_in shape_of
  records-are bytes n = rw (k, records_in)

  abbrev rs : List Recorded
  rs = records_of (counted_walk c.entry c.bytes)

  shown-are : records_shown c.entry c.bytes ≡ rs
  unfolding counted_walk
  shown-are = records-are c.bytes c.entry.count

  whole : walk c.entry.length c.entry.sectors c.bytes c.entry.count origin ≡ walked rs
  unfolding counted_walk
  whole = decodes-walked _ (s.sound k)

  many : length rs ≡ c.entry.count
  many = walk-length _ _ c.bytes c.entry.count origin rs whole

  before : c.file.position ≤ c.entry.count
  before = s.lawful.standing

  here-behind : c.file.here ≡ behind_from origin rs c.file.position
  unfolding behind
  here-behind = s.here k

  -- the record at the position
  at_here : c.file.position < c.entry.count → record_here c ≡ got (get_or rs c.file.position nowhere)
  at_here h =
      here-read c k ∙ ap (read_behind c.entry.length c.entry.sectors c.bytes) here-behind
      ∙ walk_at _ _ c.bytes c.entry.count origin rs whole c.file.position h

  -- and those before it
  front : walk c.entry.length c.entry.sectors c.bytes c.file.position origin ≡ walked (take c.file.position rs)
  front = walk-prefix _ _ c.bytes c.entry.count origin rs whole c.file.position before

  -- no record is bad
  fine : (d : Decoding) → bad_in d c ≡ false
  unfolding bad_in is_lost
  fine the_counted = rw (k, s.sound k)
  fine the_next = go (ltb c.file.position c.entry.count) refl
    where
      go : (b : Bool) → ltb c.file.position c.entry.count ≡ b → (b && is_lost (record_here c)) ≡ false
      go true e = rw (at_here (ltb-true _ _ e))
      go false e = refl
  fine none = refl

  -- ---- a write

  -- the bytes that a lawful write makes
  module _ (files buffer : ℕ) (t : Writes (facts_of true files buffer Write c)) where
    write_bytes : own_all (write_effects c) c.bytes ≡ laid (changes c.file.here (code_of c.entry.length c.given)) c.bytes
    unfolding write_effects
    write_bytes = rw (not-blocked c.entry k, k, write_effects) (own-changes (changes c.file.here (code_of c.entry.length c.given)) c.bytes)

    short : length c.given ≤ c.entry.length
    unfolding facts_of
    short = t.short

    small : c.entry.length ≤ 132
    small = omega (arith, s.lawful.short, longest-packed c.entry k)

    room : has_room c.entry.sectors c.file.here (length (code_of c.entry.length c.given)) ≡ true
    unfolding facts_of
    room = rw (code_is c k short) at (room-coded (facts_of true files buffer Write c) t.room k)

    here-within : Within c.entry.sectors c.file.here
    here-within = good-within c.entry c.file.here (s.lawful.places k).0

    -- the records behind it
    written : walk c.entry.length c.entry.sectors (own_all (write_effects c) c.bytes) (c.file.position + 1) origin
        ≡ walked (take c.file.position rs ++ (new_at c.entry.length c.given c.file.here ∷ []))
    written =
        ap (λ (n : ℕ). walk c.entry.length c.entry.sectors (own_all (write_effects c) c.bytes) n origin) (add-one c.file.position)
        ∙ ap (λ (bytes : List ℕ). walk c.entry.length c.entry.sectors bytes (suc c.file.position) origin) write_bytes
        ∙ put-given-walk c.entry.length c.given short small c.entry.sectors c.bytes c.file.here s.size here-within room
        c.file.position origin (take c.file.position rs) (omega arith) front
        (behind-take origin rs c.file.position c.file.position (omega arith) ∙ sym here-behind)

  -- ---- so it is a tape

  new_is : new_record c.given (tape_shown c.entry c.file c.bytes) ≡ new_at c.entry.length c.given c.file.here
  unfolding new_record pad_byte shape_of behind
  new_is =
      rw (k, pad_byte)
      (ap (λ (p : Place). new_at c.entry.length c.given p) (ap (λ (ts : List Recorded). behind_from origin ts c.file.position) shown-are ∙ sym here-behind))

  taped : Taped c
  unfolding tape_record bytes_got behind records_of
  taped = record {
    size = rw shown-are many;
    here = rw shown-are here-behind;
    sound = λ q. fine (decoding q);
    reads = λ h. rw (at_here h, shown-are);
    cut = records-are c.bytes c.file.position ∙ ap records_of front ∙ ap (take c.file.position) (sym shown-are);
    writes = λ files buffer t.
        records-are (own_all (write_effects c) c.bytes) (c.file.position + 1) ∙ ap records_of (written files buffer t)
        ∙ ap (λ (ts : List Recorded). take c.file.position ts ++ (new_at c.entry.length c.given c.file.here ∷ [])) (sym shown-are)
        ∙ ap (λ (r : Recorded). take c.file.position (records_shown c.entry c.bytes) ++ (r ∷ [])) (sym new_is);
  }

  -- ---- and stays one

  -- the same bytes and entry, the file at another position or shut
  stand : (f : OpenFile) → f.here ≡ behind_from origin rs f.position → (f.used ≡ true → f.end ≡ behind_from origin rs c.entry.count) → Trail c.entry f c.bytes
  stand f h e = record { records = rs; whole = whole; here = h; end = e }

  end-behind : c.file.used ≡ true → c.file.end ≡ behind_from origin rs c.entry.count
  unfolding behind
  end-behind u = s.end k u

  -- over the record at the position
  next-behind : c.file.position < c.entry.count → behind_got (record_here c) ≡ behind_from origin rs (c.file.position + 1)
  unfolding behind_got
  next-behind h =
      ap behind_got (at_here h)
      ∙ sym (behind-next origin rs c.file.position (omega (arith, many))) ∙ ap (behind_from origin rs) (sym (add-one c.file.position))

  trail-same : Trail c.entry c.file c.bytes
  trail-same = stand c.file here-behind end-behind

  trail : (files buffer : ℕ) (q : Request) (a : Answer) → Tells q (facts_of true files buffer q c) a
      → Trail (entry_next a q c) (file_next a q c) (bytes_next a q c)
  unfolding facts_of entry_next file_next bytes_next entry_done counted file_done file_met effects own_all own_do behind_from
  trail files buffer Open Done t = stand _ refl (λ u. unfold behind in (end_is c k))
  trail files buffer Read Done t = rw (own_read c c.bytes) (stand _ (next-behind t.advances.ahead) (λ u. end-behind t.advances.running.live.opened))
  trail files buffer Write Done t =
      let p : ℕ = c.file.position in
      let new : Recorded = new_at c.entry.length c.given c.file.here in
      let l : length (take p rs) ≡ p = length-take-le p rs (omega (arith, many, before)) in
      let last : behind_written c ≡ behind_from origin (take p rs ++ (new ∷ [])) (p + 1) =
      here-written c k ∙ sym (behind-snoc origin (take p rs) new) ∙ ap (behind_from origin (take p rs ++ (new ∷ []))) (ap suc l ∙ sym (add-one p)) in
      record { records = take p rs ++ (new ∷ []); whole = written files buffer t; here = last; end = λ u. last }
  trail files buffer (GranuleRead g) Done t = trail-same
  trail files buffer (GranuleWrite g) Done t = absurd (false≢true (sym (not-random c.entry k) ∙ t.finds.random))
  trail files buffer (GranuleLook g) Done t = trail-same
  trail files buffer (Position WriteMark) Done t =
      let p : ℕ = c.file.position in
      let last : c.file.here ≡ behind_from origin (take p rs) p = here-behind ∙ sym (behind-take origin rs p p (omega arith)) in
      record { records = take p rs; whole = front; here = last; end = λ u. last }
  trail files buffer (Position RewindOnline) Done t = stand _ refl (λ u. end-behind t.live.opened)
  trail files buffer (Position RewindOffline) Done t = stand _ refl (λ u. absurd (false≢true u))
  trail files buffer (Position RecordForward) Done t = stand _ (next-behind t.ahead) (λ u. end-behind t.running.live.opened)
  trail files buffer (Position RecordBack) Done t = absurd (false≢true (sym t.fixed ∙ k))
  trail files buffer (Position FileForward) Done t = stand _ (end-behind t.running.live.opened) (λ u. end-behind t.running.live.opened)
  trail files buffer (Position FileBack) Done t = stand _ here-behind (λ u. end-behind t.running.live.opened)
  trail files buffer q (Met EndOfFile) t = stand _ here-behind (λ u. end-behind (met-opened (facts_of true files buffer q c) q EndOfFile t))
  trail files buffer q (Met BeginningOfTape) t = stand _ refl (λ u. end-behind (met-opened (facts_of true files buffer q c) q BeginningOfTape t))
  trail files buffer q (Refused x) t = trail-same

  stays : (files buffer : ℕ) (q : Request) (a : Answer) → Tells q (facts_of true files buffer q c) a → Sound (entry_next a q c) (file_next a q c) (bytes_next a q c)
  stays files buffer q a t = record {
    lawful = lawful-next files buffer q c s.lawful a t (places-next files buffer q c s.lawful a t);
    size = size-next q c a s.size;
    sound = λ z. (walked-decodes _ _ next).0;
    here = λ z. (trail files buffer q a t).here ∙ at_next (file_next a q c).position;
    end = λ z u. (trail files buffer q a t).end u ∙ at_next (entry_next a q c).count;
    nowhere = λ z. absurd (false≢true (sym z ∙ (kind-next compressed q c a ∙ k)));
    closed = rest-next q c a s.closed;
  }
    where
      next : counted_walk (entry_next a q c) (bytes_next a q c) ≡ walked (trail files buffer q a t).records
      next = unfold counted_walk in (trail files buffer q a t).whole

      at_next : (n : ℕ) → behind_from origin (trail files buffer q a t).records n ≡ behind (records_of (counted_walk (entry_next a q c) (bytes_next a q c))) n
      at_next n = unfold behind in (ap (λ (ts : List Recorded). behind_from origin ts n) (sym (walked-decodes _ _ next).1))

-- ---- one compressed file by itself

pub packed-serves : Solo (λ (e : Entry). is_kind compressed e ≡ true)
packed-serves files buffer q c k s =
    let t : Tells q (facts_of true files buffer q c) (solo_answer files buffer q c) = judge-tells q (facts_of true files buffer q c) in
    tape-serves files buffer c s.lawful (not-random c.entry k) (taped c k s) q (solo_answer files buffer q c) t (stays c k s files buffer q (solo_answer files buffer q c) t)
