-- What a request comes to, judged once for both engines: the answer, the next entry and the next state of the file, and the caller's buffer.
-- Document 01, "The tape a file is" and "Answer numbers". Definitions only.
use Rattle.std.specs.Prelude.{Bool, true, false, ◌&&◌, List, ℕ, ◌+◌}
use Rattle.geometry.specs.Bytes.{lay}
use Rattle.geometry.specs.Sizes.{compressed}
use Rattle.directory.specs.Entries.{is_kind}
use Rattle.packing.specs.Placing.{behind_new}
use Rattle.packing.specs.Reading.{overlaid}
use Rattle.requests.specs.Judge.{judge}
use Rattle.sessions.specs.Session.{has_buffer}
use Rattle.steps.specs.Next.{Scene, facts_with, moved, file_done, file_met, entry_done, into_buffer}
use Rattle.geometry.specs.declared.Place.{Place}
use Rattle.directory.specs.declared.Entry.{Entry}
use Rattle.sessions.specs.declared.OpenFile.{OpenFile}
use Rattle.requests.specs.declared.Request.{Request}
use Rattle.requests.specs.declared.Request.TheVariants.{Open, Read, Write, GranuleRead, GranuleWrite, GranuleLook, Position}
use Rattle.requests.specs.declared.Answer.{Answer}
use Rattle.requests.specs.declared.Answer.TheVariants.{Done, Met, Refused}
use Rattle.steps.specs.declared.Verdict.{Verdict}

-- the bytes of a file's extent as the file has them: of an open one that has a buffer the held sector, if 360 bytes are lent for it, in place of its own
unfoldable pub seen_bytes : Entry → OpenFile → List ℕ → ℕ → List ℕ → List ℕ
seen_bytes e f bytes held over = elim (f.used && has_buffer e) [ true ↦ overlaid bytes held over | false ↦ bytes ]

-- a request answered 0 changes entry and state; one answered 1 or 2 the position; any other nothing
unfoldable pub entry_next : Answer → Request → Scene → Entry
entry_next Done q c = entry_done q c
entry_next (Met x) q c = c.entry
entry_next (Refused x) q c = c.entry

unfoldable pub file_next : Answer → Request → Scene → OpenFile
file_next Done q c = file_done q c
file_next (Met x) q c = file_met x c.file
file_next (Refused x) q c = c.file

-- the caller's buffer
unfoldable pub buffer_next : Answer → Request → Scene → List ℕ → List ℕ
buffer_next Done q c buffer = lay buffer 0 (into_buffer q c)
buffer_next (Met x) q c buffer = buffer
buffer_next (Refused x) q c buffer = buffer

-- `legal`: the session is legal; `files` are open; `code` is the length of the code of the bytes given
abbrev pub answer_of : Bool → ℕ → ℕ → ℕ → Request → Scene → Answer
answer_of legal files buffer code q c = judge q (facts_with legal files buffer code q c)

-- answer 0, the code of the bytes given having so many bytes: a record written to a compressed file ends behind it
unfoldable pub done_with : ℕ → Request → Scene → OpenFile
done_with code Open c = file_done Open c
done_with code Read c = file_done Read c
done_with code Write c =
    let p : Place = elim (is_kind compressed c.entry) [ true ↦ behind_new c.file.here code | false ↦ c.file.here ] in
    moved c.file (c.file.position + 1) false p p
done_with code (GranuleRead g) c = file_done (GranuleRead g) c
done_with code (GranuleWrite g) c = file_done (GranuleWrite g) c
done_with code (GranuleLook g) c = file_done (GranuleLook g) c
done_with code (Position o) c = file_done (Position o) c

unfoldable pub file_with : ℕ → Answer → Request → Scene → OpenFile
file_with code Done q c = done_with code q c
file_with code (Met x) q c = file_met x c.file
file_with code (Refused x) q c = c.file

unfoldable pub verdict_of : Bool → ℕ → ℕ → ℕ → Request → Scene → Verdict
verdict_of legal files buffer code q c =
    let a : Answer = answer_of legal files buffer code q c in
    record { answer = a; entry = entry_next a q c; file = file_with code a q c }
