-- One file by itself: its entry, its open-file state and the bytes of its extent; the tape or row that they show; what a request makes of them.
-- A request on an entry touches that entry's file alone, so what is proved of one file is lifted to the whole image in Lifting.
use mathlib.Core.Path.{◌≡◌}
use mathlib.Core.Bool.{true, false}
use mathlib.Core.List.{List}
use Prim.Native.Nat.{ℕ, ◌*◌}
use lib.ListN.{length}
use Rattle.geometry.specs.Sizes.{sector, random, compressed}
use Rattle.geometry.specs.Places.{capacity, origin}
use Rattle.directory.specs.Entries.{is_free, is_kind, is_marked}
use Rattle.packing.specs.Reading.{decodes, records_of, behind}
use Rattle.requests.specs.Judge.{judge}
use Rattle.mounting.specs.Mounting.{counted_walk}
use Rattle.steps.specs.Next.{Scene, facts_of, into_buffer, fixed_at}
use Rattle.steps.specs.Verdict.{entry_next, file_next}
use Rattle.steps.specs.Effects.{effects}
use Rattle.steps.proofs.Lawful.{Lawful, own_all}
use Rattle.tapes.specs.Tape.{records_in}
use Rattle.tapes.specs.Row.{granules_in}
use Rattle.tapes.specs.Model.{Model, nothing, tape, row, shape_of, model_facts, model_next, model_into, model_shown}
use Rattle.directory.specs.declared.Entry.{Entry}
use Rattle.sessions.specs.declared.OpenFile.{OpenFile}
use Rattle.requests.specs.declared.Request.{Request}
use Rattle.requests.specs.declared.Request.TheVariants.{GranuleLook}
use Rattle.requests.specs.declared.Answer.{Answer}
use Rattle.requests.specs.declared.Answer.TheVariants.{Done, Met, Refused}

-- the tape or row that an entry, its open-file state and its extent's bytes show
unfoldable pub shows : Entry → OpenFile → List ℕ → Model
shows e f bytes = elim (is_free e) [
  | true ↦ nothing
  | false ↦
      elim (is_kind random e) [
        | true ↦ row (record { shape = shape_of e; is_open = f.used; granules = granules_in (shape_of e) bytes (capacity random e.length e.sectors) })
        | false ↦
            tape
            (record {
              shape = shape_of e;
              is_open = f.used;
              records = records_in (shape_of e) bytes e.count;
              position = f.position;
              marked = is_marked e;
              beyond = f.beyond;
            })
      ]
]

-- what holds of a used entry, its state and its extent's bytes from a mounting on
pub record Sound (e : Entry) (f : OpenFile) (bytes : List ℕ) : Type 0 where
  pub lawful : Lawful e f
  pub size : length bytes ≡ sector * e.sectors
  -- a compressed file's count records decode; its places are behind the record before the position, and behind the last
  pub sound : is_kind compressed e ≡ true → decodes (counted_walk e bytes) ≡ true
  pub here : is_kind compressed e ≡ true → f.here ≡ behind (records_of (counted_walk e bytes)) f.position
  pub end : is_kind compressed e ≡ true → f.used ≡ true → f.end ≡ behind (records_of (counted_walk e bytes)) e.count
  -- other kinds have no place
  pub nowhere : is_kind compressed e ≡ false → (f.here ≡ origin) × (f.end ≡ origin)
  -- a file that is not open stands at its start
  pub closed : f.used ≡ false → (f.position ≡ 0) × (f.beyond ≡ false)

-- what an answered request makes of the extent's bytes (of entry and state: steps/specs/Verdict)
unfoldable pub bytes_next : Answer → Request → Scene → List ℕ
bytes_next Done q c = own_all (effects q c) c.bytes
bytes_next (Met x) q c = c.bytes
bytes_next (Refused x) q c = c.bytes

-- the answer that a used entry's file gives, where so many files are open and the caller's buffer has so many bytes
abbrev pub solo_answer : ℕ → ℕ → Request → Scene → Answer
solo_answer files buffer q c = judge q (facts_of true files buffer q c)

-- what is proved for every kind: the file answers as its tape or row does, and stays one
pub record Serves (files buffer : ℕ) (q : Request) (c : Scene) (m : Model) (a : Answer) : Type 0 where
  pub judged : facts_of true files buffer q c ≡ model_facts files c.given buffer m
  pub next : shows (entry_next a q c) (file_next a q c) (bytes_next a q c) ≡ model_next q a c.given m
  pub stays : Sound (entry_next a q c) (file_next a q c) (bytes_next a q c)
  pub moved : a ≡ Done → into_buffer q c ≡ model_into q m
  pub seen : (g : ℕ) → q ≡ GranuleLook g → a ≡ Done → fixed_at c g ≡ model_shown q m

-- the statement of Fixed (kinds 1 and 2), Granules (kind 4) and Packed (kind 3)
abbrev pub Solo : (Entry → Type 0) → Type 0
Solo Kind =
    (files buffer : ℕ) (q : Request) (c : Scene) → Kind c.entry → Sound c.entry c.file c.bytes
    → Serves files buffer q c (shows c.entry c.file c.bytes) (solo_answer files buffer q c)
