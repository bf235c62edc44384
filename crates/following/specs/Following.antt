-- The next entry and the next state of a file, by the answer and by the place that its request ends at. proofs/Following.antt shows that in a legal
-- session these are document 01's. Definitions only.
use Rattle.std.specs.Prelude.{true, false, ℕ, ◌+◌, ◌-◌, ◌%◌, ◌^◌}
use Rattle.geometry.specs.Places.{origin}
use Rattle.sessions.specs.Session.{idle}
use Rattle.steps.specs.Next.{moved, counted, file_met}
use Rattle.geometry.specs.declared.Place.{Place}
use Rattle.directory.specs.declared.Entry.{Entry}
use Rattle.requests.specs.declared.Order.{Order}
use Rattle.requests.specs.declared.Order.TheVariants.{WriteMark, RewindOnline, RewindOffline, RecordForward, RecordBack, FileForward, FileBack}
use Rattle.requests.specs.declared.Request.{Request}
use Rattle.requests.specs.declared.Request.TheVariants.{Open, Read, Write, GranuleRead, GranuleWrite, GranuleLook, Position}
use Rattle.requests.specs.declared.Answer.{Answer}
use Rattle.requests.specs.declared.Answer.TheVariants.{Done, Met, Refused}
use Rattle.sessions.specs.declared.OpenFile.{OpenFile}
use Rattle.steps.specs.declared.Verdict.{Verdict}

-- one more, as 32 bits have it: 0 of the greatest, which no position of a legal session is
unfoldable pub one_more : ℕ → ℕ
one_more n = (n + 1) % 2 ^ 32

-- ---- the next entry

-- answer 0: a write leaves p + 1 records, unmarked; a write file mark p records, marked
unfoldable pub counted_from : Request → Entry → OpenFile → Entry
counted_from Open e f = e
counted_from Read e f = e
counted_from Write e f = counted e (one_more f.position) 0
counted_from (GranuleRead g) e f = e
counted_from (GranuleWrite g) e f = e
counted_from (GranuleLook g) e f = e
counted_from (Position WriteMark) e f = counted e f.position 1
counted_from (Position RewindOnline) e f = e
counted_from (Position RewindOffline) e f = e
counted_from (Position RecordForward) e f = e
counted_from (Position RecordBack) e f = e
counted_from (Position FileForward) e f = e
counted_from (Position FileBack) e f = e

-- any answer
unfoldable pub entry_from : Answer → Request → Entry → OpenFile → Entry
entry_from Done q e f = counted_from q e f
entry_from (Met x) q e f = e
entry_from (Refused x) q e f = e

-- ---- the next state of the file

-- answer 0, p being the end place of an opening, or the place behind the record read or written
unfoldable pub order_from : Order → Entry → OpenFile → Place → OpenFile
order_from WriteMark e f p = moved f f.position true f.here f.here
order_from RewindOnline e f p = moved f 0 false origin f.end
order_from RewindOffline e f p = idle
order_from RecordForward e f p = moved f (one_more f.position) false p f.end
order_from RecordBack e f p = moved f (f.position - 1) false f.here f.end
order_from FileForward e f p = moved f e.count true f.end f.end
order_from FileBack e f p = moved f f.position false f.here f.end

unfoldable pub done_from : Request → ℕ → Entry → OpenFile → Place → OpenFile
done_from Open i e f p = record { used = true; entry = i; position = 0; beyond = false; here = origin; end = p }
done_from Read i e f p = moved f (one_more f.position) false p f.end
done_from Write i e f p = moved f (one_more f.position) false p p
done_from (GranuleRead g) i e f p = f
done_from (GranuleWrite g) i e f p = f
done_from (GranuleLook g) i e f p = f
done_from (Position o) i e f p = order_from o e f p

-- any answer
unfoldable pub file_from : Answer → Request → ℕ → Entry → OpenFile → Place → OpenFile
file_from Done q i e f p = done_from q i e f p
file_from (Met x) q i e f p = file_met x f
file_from (Refused x) q i e f p = f

abbrev pub verdict_from : Answer → Request → ℕ → Entry → OpenFile → Place → Verdict
verdict_from a q i e f p = record { answer = a; entry = entry_from a q e f; file = file_from a q i e f p }
