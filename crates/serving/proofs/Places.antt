-- An answered request leaves a compressed file's places in the extent: a record that was read ends there, and so does one for which there was room.
use mathlib.Core.Path.{◌≡◌}
use mathlib.Core.Bool.{true}
use Prim.Native.Nat.{ℕ}
use lib.ListN.{length}
use Rattle.geometry.specs.Sizes.{compressed}
use Rattle.geometry.specs.Places.{origin}
use Rattle.coding.specs.Encode.{code_of}
use Rattle.directory.specs.Entries.{is_kind}
use Rattle.packing.specs.Placing.{has_room}
use Rattle.packing.proofs.One.{Within}
use Rattle.packing.proofs.Placed.{behind-within}
use Rattle.sessions.specs.Session.{place_good}
use Rattle.requests.proofs.Done.{Tells, room-coded}
use Rattle.steps.specs.Next.{Scene, decoding, code_length, facts_of, behind_written, file_done, file_met}
use Rattle.steps.proofs.Lawful.{Lawful}
use Rattle.steps.proofs.Compressed.{within-good, origin-within, here-written, code_is, read-within, end-within}
use Rattle.steps.specs.Verdict.{file_next}
use Rattle.serving.proofs.Stays.{InPlace}
use Rattle.requests.specs.declared.Order.TheVariants.{WriteMark, RewindOnline, RewindOffline, RecordForward, RecordBack, FileForward, FileBack}
use Rattle.requests.specs.declared.Request.{Request}
use Rattle.requests.specs.declared.Request.TheVariants.{Open, Read, Write, GranuleRead, GranuleWrite, GranuleLook, Position}
use Rattle.requests.specs.declared.Edge.{Edge}
use Rattle.requests.specs.declared.Edge.TheVariants.{EndOfFile, BeginningOfTape}
use Rattle.requests.specs.declared.Answer.{Answer}
use Rattle.requests.specs.declared.Answer.TheVariants.{Done, Met, Refused}

module _ (c : Scene) (w : Lawful c.entry c.file) (k : is_kind compressed c.entry ≡ true) where
  at-start : place_good c.entry origin ≡ true
  at-start = within-good c.entry origin (origin-within _ w.some)

  here-good : place_good c.entry c.file.here ≡ true
  here-good = (w.places k).0

  end-good : place_good c.entry c.file.end ≡ true
  end-good = (w.places k).1

  placed-met : (x : Edge) → (place_good c.entry (file_met x c.file).here ≡ true) × (place_good c.entry (file_met x c.file).end ≡ true)
  unfolding file_met
  placed-met EndOfFile = (here-good, end-good)
  placed-met BeginningOfTape = (at-start, end-good)

  placed : (files buffer : ℕ) (q : Request) (a : Answer) → Tells q (facts_of true files buffer q c) a
      → (place_good c.entry (file_next a q c).here ≡ true) × (place_good c.entry (file_next a q c).end ≡ true)
  unfolding facts_of decoding file_next file_done
  placed files buffer Open Done t = (at-start, within-good _ _ (end-within c k w.some t.sound))
  placed files buffer Read Done t = (within-good _ _ (read-within c k t.advances.ahead t.advances.sound), end-good)
  placed files buffer Write Done t =
      let is : code_length c.entry c.given ≡ length (code_of c.entry.length c.given) = code_is c k t.short in
      let room : has_room c.entry.sectors c.file.here (length (code_of c.entry.length c.given)) ≡ true =
      rw is at (room-coded (facts_of true files buffer Write c) t.room k) in
      let i : Within c.entry.sectors (behind_written c) = rw (here-written c k) (behind-within c.file.here (code_of c.entry.length c.given) c.entry.sectors (rw is at (t.coded k)) room) in
      (within-good _ _ i, within-good _ _ i)
  placed files buffer (GranuleRead g) Done t = (here-good, end-good)
  placed files buffer (GranuleWrite g) Done t = (here-good, end-good)
  placed files buffer (GranuleLook g) Done t = (here-good, end-good)
  placed files buffer (Position WriteMark) Done t = (here-good, here-good)
  placed files buffer (Position RewindOnline) Done t = (at-start, end-good)
  placed files buffer (Position RewindOffline) Done t = (at-start, at-start)
  placed files buffer (Position RecordForward) Done t = (within-good _ _ (read-within c k t.ahead t.sound), end-good)
  placed files buffer (Position RecordBack) Done t = (here-good, end-good)
  placed files buffer (Position FileForward) Done t = (end-good, end-good)
  placed files buffer (Position FileBack) Done t = (here-good, end-good)
  placed files buffer q (Met x) t = placed-met x
  placed files buffer q (Refused x) t = (here-good, end-good)

pub places-next : (files buffer : ℕ) (q : Request) (c : Scene) → Lawful c.entry c.file → (a : Answer) → Tells q (facts_of true files buffer q c) a
    → InPlace c.entry (file_next a q c)
places-next files buffer q c w a t k = placed c w k files buffer q a t
