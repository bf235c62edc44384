-- What a request answered 0 goes by besides (steps/proofs/Granted.antt), in either engine: its entry is one of the table's, the record that it reads lies in the
-- sector in which it starts, and the code of the bytes given is in the room lent for it.
use mathlib.Core.Path.{◌≡◌, refl}
use mathlib.Core.Bool.{Bool, true, false}
use mathlib.Core.List.{List}
use Prim.Native.Nat.{ℕ, ◌<◌}
use native.Mathlib.Omega.{arith}
use lib.ListN.{length}
use lib.Seq.{sets}
use lib.Dec.{ltb}
use borrow.Author.Tests.{eqb-true, eqb-false, ne_eqb, lt-ltb}
use Rattle.geometry.specs.Bytes.{part}
use Rattle.geometry.specs.Sizes.{entries, free, compressed}
use Rattle.geometry.proofs.Tests.{either, both_ways}
use Rattle.decoding.specs.Decode.{Decoded, good, bad}
use Rattle.coding.specs.Encode.{code_of}
use Rattle.directory.specs.Entries.{entry_at, is_kind}
use Rattle.directory.proofs.Good.{used-inside}
use Rattle.packing.specs.Reading.{got_from, start_of, read_at, read_behind}
use Rattle.requests.specs.Judge.{judge}
use Rattle.requests.proofs.Done.{Writes, Reads, done-allows}
use Rattle.sessions.specs.Session.{file_of, legal}
use Rattle.steps.specs.Next.{Scene, the_next, bad_in, decoding, is_lost, behind_got, record_here, facts_of, file_done, code_length}
use Rattle.steps.proofs.Granted.{found, is_real, is_lawful}
use Rattle.steps.proofs.Inside.{lawful}
use Rattle.straight.specs.Straight.{code_given, Encoded}
use Rattle.straight.proofs.Judged.{right-length, short-coded, room-coded}
use Rattle.geometry.specs.declared.Place.{Place}
use Rattle.directory.specs.declared.Entry.{Entry}
use Rattle.requests.specs.declared.Answer.TheVariants.{Done}
use Rattle.requests.specs.declared.Request.{Request}
use Rattle.requests.specs.declared.Request.TheVariants.{Read, Write}
use Rattle.sessions.specs.declared.Session.{Session}

-- ---- a record read lies in the sector in which it starts

behind-starts : (q : Place) (d : Decoded) → is_lost (got_from q d) ≡ false → (behind_got (got_from q d)).sector ≡ q.sector
unfolding got_from is_lost behind_got
behind-starts q (good xs e) h = refl
behind-starts q (bad k) h = both_ways true refl h

behind-sector : (e : Entry) (bytes : List ℕ) (p : Place) → is_lost (read_behind e.length e.sectors bytes p) ≡ false
    → (behind_got (read_behind e.length e.sectors bytes p)).sector ≡ (start_of bytes p).sector
unfolding read_behind read_at is_lost behind_got
behind-sector e bytes p h = either (ltb (start_of bytes p).sector e.sectors)
    (λ (t : ltb (start_of bytes p).sector e.sectors ≡ true). rw (t, read_at) (behind-starts (start_of bytes p) _ (rw (t, read_at) at h)))
    (λ (t : ltb (start_of bytes p).sector e.sectors ≡ false). both_ways true refl (rw (t, read_at) at h))

read-lies : (c : Scene) → c.file.position < c.entry.count → bad_in the_next c ≡ false → is_kind compressed c.entry ≡ true
    → (behind_got (record_here c)).sector ≡ (start_of c.bytes c.file.here).sector
unfolding bad_in record_here
read-lies c h k z = rw (z, record_here) (behind-sector c.entry c.bytes c.file.here (rw (lt-ltb c.file.position c.entry.count h, z, record_here) at k))

-- `ok` is legality as the engine asks for it
module _ (image : List ℕ) (s : Session) (ok : Bool) (sound : ok ≡ true → legal image s ≡ true) (i : ℕ) (bytes given : List ℕ) where
  abbrev e : Entry
  e = entry_at s.table i

  abbrev c : Scene
  c = found s i bytes given

  -- the length of the code is right
  pub right : ok ≡ true → length (code_given e given) ≡ code_length e given
  right h = right-length e given λ (z : is_kind compressed e ≡ true).
      short-coded e (file_of s.files i) (lawful image s (sound h) i (ne_eqb e.kind free (let k : e.kind ≡ compressed = eqb-true e.kind compressed z in omega arith))) z

  module _ (files buffer : ℕ) (q : Request) (d : judge q (facts_of ok files buffer q c) ≡ Done) where
    pub there : length s.table ≡ entries → i < entries
    there h = rw h at (used-inside s.table i (eqb-false _ free (is_real image s ok sound i bytes given files buffer q d).1))

    -- the sector that a compressed record read lies in
    pub lies_in : q ≡ Read → is_kind compressed e ≡ true → (file_done q c).here.sector ≡ (start_of bytes (file_of s.files i).here).sector
    unfolding file_done
    lies_in w z =
        let y : judge Read (facts_of ok files buffer Read c) ≡ Done = rw w at d in
        rw w (go (done-allows Read _ y))
      where
        go : Reads (facts_of ok files buffer Read c) → (behind_got (record_here c)).sector ≡ (start_of bytes (file_of s.files i).here).sector
        go r = unfold facts_of decoding in read-lies c r.advances.ahead r.advances.sound z

    pub encoded : (room : List ℕ) → length room ≡ 135 → Encoded q e given (part (sets room 0 (code_given e given)) 0 (length (code_given e given)))
    encoded room h w z =
        let y : judge Write (facts_of ok files buffer Write c) ≡ Done = rw w at d in
        let m : Writes (facts_of ok files buffer Write c) = done-allows Write _ y in
        go m
      where
        go : Writes (facts_of ok files buffer Write c) → part (sets room 0 (code_given e given)) 0 (length (code_given e given)) ≡ code_of e.length given
        go m = unfold facts_of in room-coded e (file_of s.files i) (is_lawful image s ok sound i bytes given files buffer q d) z given room m.short h
