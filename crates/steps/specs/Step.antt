-- A request in either engine: answer, image, session and caller's buffer. Document 01, "The tape a file is" and "Answer numbers". Definitions only.
use Rattle.std.specs.Prelude.{true, false, List, ℕ, length, get_or, set}
use Rattle.geometry.specs.Bytes.{lay}
use Rattle.directory.specs.Entries.{entry_at}
use Rattle.requests.specs.Judge.{judge}
use Rattle.sessions.specs.Session.{idle, fresh, bare, file_of, slot_of, open_files, extent, extent_with, legal, buffered_legal}
use Rattle.steps.specs.Effects.{effects, plain_all, Bench, buffered_all}
use Rattle.steps.specs.Next.{Scene, facts_of, file_done, file_met, entry_done, into_buffer}
use Rattle.requests.specs.declared.Answer.{Answer}
use Rattle.requests.specs.declared.Answer.TheVariants.{Done, Met, Refused}
use Rattle.requests.specs.declared.Request.{Request}
use Rattle.sessions.specs.declared.BufferedFile.{BufferedFile}
use Rattle.sessions.specs.declared.BufferedSession.{BufferedSession}
use Rattle.sessions.specs.declared.OpenFile.{OpenFile}
use Rattle.sessions.specs.declared.Session.{Session}

-- ---- a request, in either engine: the answer, and the image, the session and the caller's buffer behind it

pub record After (S : Type 0) : Type 0 where
  pub answer : Answer
  pub image : List ℕ
  pub session : S
  pub buffer : List ℕ

unfoldable pub plain_scene : List ℕ → Session → ℕ → List ℕ → Scene
plain_scene image s i given = record {
  number = i;
  entry = entry_at s.table i;
  file = file_of s.files i;
  bytes = extent (entry_at s.table i) image;
  given = given;
}

unfoldable pub plain_answer : List ℕ → Session → ℕ → Request → List ℕ → ℕ → Answer
plain_answer image s i q given buffer = judge q (facts_of (legal image s) (open_files s.files) buffer q (plain_scene image s i given))

-- 3 to 12: "Nothing changed covers image, session and caller's buffer"; 1 and 2 change the position
unfoldable pub plain_after : Answer → List ℕ → Session → Request → Scene → List ℕ → After Session
plain_after Done image s q c buffer = record {
  answer = Done;
  image = plain_all c (effects q c) image;
  session = record { says = s.says; table = set s.table c.number (entry_done q c); files = set s.files (slot_of s.files c.number) (file_done q c) };
  buffer = lay buffer 0 (into_buffer q c);
}
plain_after (Met x) image s q c buffer = record {
  answer = Met x;
  image = image;
  session = record { says = s.says; table = s.table; files = set s.files (slot_of s.files c.number) (file_met x c.file) };
  buffer = buffer;
}
plain_after (Refused x) image s q c buffer = record { answer = Refused x; image = image; session = s; buffer = buffer }

unfoldable pub plain_step : List ℕ → Session → ℕ → Request → List ℕ → List ℕ → After Session
plain_step image s i q given buffer = plain_after (plain_answer image s i q given (length buffer)) image s q (plain_scene image s i given) buffer

-- entry i's state with its buffer; fresh if it is not open
unfoldable pub held_of : BufferedSession → ℕ → BufferedFile
held_of s i = elim (file_of (bare s).files i).used [ true ↦ get_or s.files (slot_of (bare s).files i) (fresh idle) | false ↦ fresh idle ]

unfoldable pub buffered_scene : List ℕ → BufferedSession → ℕ → List ℕ → Scene
buffered_scene image s i given = record {
  number = i;
  entry = entry_at s.table i;
  file = file_of (bare s).files i;
  bytes = extent_with (entry_at s.table i) (held_of s i) image;
  given = given;
}

unfoldable pub buffered_answer : List ℕ → BufferedSession → ℕ → Request → List ℕ → ℕ → Answer
buffered_answer image s i q given buffer =
    judge q (facts_of (buffered_legal image s) (open_files (bare s).files) buffer q (buffered_scene image s i given))

-- the file's next state, with the buffer that it then has; a closed one has none
unfoldable pub kept : OpenFile → BufferedFile → BufferedFile
kept f b = elim f.used [
  | true ↦ record { file = f; holds = b.holds; held = b.held; changed = b.changed; buffer = b.buffer }
  | false ↦ fresh f
]

unfoldable pub buffered_after : Answer → List ℕ → BufferedSession → Request → Scene → BufferedFile → List ℕ → After BufferedSession
buffered_after Done image s q c b buffer =
    let w : Bench = buffered_all c (effects q c) (record { image = image; file = b }) in
    record {
      answer = Done;
      image = w.image;
      session = record {
        says = s.says;
        table = set s.table c.number (entry_done q c);
        files = set s.files (slot_of (bare s).files c.number) (kept (file_done q c) w.file);
      };
      buffer = lay buffer 0 (into_buffer q c);
    }
buffered_after (Met x) image s q c b buffer = record {
  answer = Met x;
  image = image;
  session = record { says = s.says; table = s.table; files = set s.files (slot_of (bare s).files c.number) (kept (file_met x c.file) b) };
  buffer = buffer;
}
buffered_after (Refused x) image s q c b buffer = record { answer = Refused x; image = image; session = s; buffer = buffer }

unfoldable pub buffered_step : List ℕ → BufferedSession → ℕ → Request → List ℕ → List ℕ → After BufferedSession
buffered_step image s i q given buffer =
    buffered_after (buffered_answer image s i q given (length buffer)) image s q (buffered_scene image s i given) (held_of s i) buffer
