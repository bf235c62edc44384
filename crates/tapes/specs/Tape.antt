-- Document 01, "The tape a file is": a sequential file as a list of records, a position, a mark and "beyond". Definitions only.
-- Nothing of the image's bytes is in it but the records and, for compressed files, the place behind each: codes written elsewhere
-- need not be our writer's, and room depends on where they end.
use Rattle.std.specs.Prelude.{Bool, true, false, ◌&&◌, not, List, [], ◌∷◌, ◌++◌, ℕ, zero, suc, ◌+◌, ◌-◌, length, take, get_or, eqb, leb}
use Rattle.geometry.specs.Bytes.{part, padded}
use Rattle.geometry.specs.Places.{place_of, byte_of, origin}
use Rattle.geometry.specs.Sizes.{compressed, blank}
use Rattle.coding.specs.Encode.{code_of}
use Rattle.packing.specs.Placing.{behind_new}
use Rattle.packing.specs.Reading.{Recorded, walk, records_of, behind}
use Rattle.requests.specs.declared.Answer.{Answer}
use Rattle.requests.specs.declared.Answer.TheVariants.{Done, Met, Refused}
use Rattle.requests.specs.declared.Edge.{Edge}
use Rattle.requests.specs.declared.Edge.TheVariants.{EndOfFile, BeginningOfTape}
use Rattle.requests.specs.declared.Facts.{Facts}
use Rattle.requests.specs.declared.Order.TheVariants.{WriteMark, RewindOnline, RewindOffline, RecordForward, RecordBack, FileForward, FileBack}
use Rattle.requests.specs.declared.Request.{Request}
use Rattle.requests.specs.declared.Request.TheVariants.{Open, Read, Write, GranuleRead, GranuleWrite, GranuleLook, Position}

-- what no request changes of a file
pub record Shape : Type 0 where
  pub name : List ℕ
  pub kind : ℕ
  -- R
  pub record_length : ℕ
  -- where its extent begins, and how many sectors that has
  pub first : ℕ
  pub sectors : ℕ
  pub protected : Bool

-- "A sequential file is a list of records D, a position p from 0 to its length, a marked flag, and a state beyond"
pub record Tape : Type 0 where
  pub shape : Shape
  pub is_open : Bool
  pub records : List Recorded
  pub position : ℕ
  pub marked : Bool
  pub beyond : Bool

-- ---- the tape that an extent's bytes show

-- record k of a file of kind 1 or 2
unfoldable pub fixed_record : Shape → List ℕ → ℕ → Recorded
fixed_record f bytes k = record { bytes = part bytes (byte_of (place_of f.kind f.record_length k)) f.record_length; behind = origin }

unfoldable pub fixed_records : Shape → List ℕ → ℕ → List Recorded
fixed_records f bytes zero = []
fixed_records f bytes (suc n) = fixed_records f bytes n ++ (fixed_record f bytes n ∷ [])

-- its first n records
unfoldable pub records_in : Shape → List ℕ → ℕ → List Recorded
records_in f bytes n = elim (eqb f.kind compressed) [
  | true ↦ records_of (walk f.record_length f.sectors bytes n origin)
  | false ↦ fixed_records f bytes n
]

unfoldable pub tape_of : Shape → Bool → ℕ → List ℕ → Tape
tape_of f m count bytes = record { shape = f; is_open = false; records = records_in f bytes count; position = 0; marked = m; beyond = false }

-- ---- what a request is judged by

-- the length of the code of the bytes given, where they may be a record of a compressed file
unfoldable pub record_code : Shape → List ℕ → ℕ
record_code f given = elim (eqb f.kind compressed && leb (length given) f.record_length) [ true ↦ length (code_of f.record_length given) | false ↦ 0 ]

unfoldable pub tape_facts : ℕ → List ℕ → ℕ → Tape → Facts
tape_facts files given buffer t = record {
  legal = true;
  files = files;
  kind = t.shape.kind;
  length = t.shape.record_length;
  sectors = t.shape.sectors;
  protected = t.shape.protected;
  opened = t.is_open;
  position = t.position;
  count = length t.records;
  marked = t.marked;
  beyond = t.beyond;
  here = behind t.records t.position;
  bad = false;
  given = length given;
  code = record_code t.shape given;
  buffer = buffer;
}

-- ---- what an answered request makes of the tape

-- the same records and mark, at another position
abbrev pub standing : Tape → Bool → ℕ → Bool → Tape
standing t o p b = record { shape = t.shape; is_open = o; records = t.records; position = p; marked = t.marked; beyond = b }

-- "Short records and granules are padded with zero, in compressed files with blanks"
unfoldable pub pad_byte : ℕ → ℕ
pad_byte kind = elim (eqb kind compressed) [ true ↦ blank | false ↦ 0 ]

-- the record that is written, and in a compressed file the place behind it
unfoldable pub new_record : List ℕ → Tape → Recorded
new_record given t = record {
  bytes = padded (pad_byte t.shape.kind) t.shape.record_length given;
  behind = elim (eqb t.shape.kind compressed) [
    | true ↦ behind_new (behind t.records t.position) (length (code_of t.shape.record_length given))
    | false ↦ origin
  ];
}

-- answer 0
unfoldable pub tape_done : Request → List ℕ → Tape → Tape
-- "Opening gives p = 0"
tape_done Open given t = standing t true 0 false
-- "Read at p below the length of D gives the record, p + 1"
tape_done Read given t = standing t true (t.position + 1) false
-- "Write makes D its first p records and the new one, p + 1, unmarked"
tape_done Write given t = record {
  shape = t.shape;
  is_open = true;
  records = take t.position t.records ++ (new_record given t ∷ []);
  position = t.position + 1;
  marked = false;
  beyond = false;
}
tape_done (GranuleRead g) given t = t
tape_done (GranuleWrite g) given t = t
tape_done (GranuleLook g) given t = t
-- "D becomes its first p records, marked, beyond"
tape_done (Position WriteMark) given t = record {
  shape = t.shape;
  is_open = true;
  records = take t.position t.records;
  position = t.position;
  marked = true;
  beyond = true;
}
-- "p = 0, not beyond"
tape_done (Position RewindOnline) given t = standing t true 0 false
-- "close"
tape_done (Position RewindOffline) given t = standing t false 0 false
-- "as a read that moves no bytes"
tape_done (Position RecordForward) given t = standing t true (t.position + 1) false
-- "otherwise p − 1"
tape_done (Position RecordBack) given t = standing t true (t.position - 1) false
-- "p goes to the end, beyond, 0"
tape_done (Position FileForward) given t = standing t true (length t.records) true
-- "beyond goes before the mark, 0"
tape_done (Position FileBack) given t = standing t true t.position false

-- answer 1 crosses the mark: read and record forward go beyond, record back "steps before the mark". Answer 2: p = 0
unfoldable pub tape_met : Edge → Tape → Tape
tape_met EndOfFile t = standing t true t.position (not t.beyond)
tape_met BeginningOfTape t = standing t true 0 false

-- 3 to 12: "nothing changed"
unfoldable pub tape_next : Request → Answer → List ℕ → Tape → Tape
tape_next q Done given t = tape_done q given t
tape_next q (Met x) given t = tape_met x t
tape_next q (Refused x) given t = t

-- the record at the position
unfoldable pub tape_record : Tape → List ℕ
tape_record t = (get_or t.records t.position (record { bytes = []; behind = origin })).bytes
