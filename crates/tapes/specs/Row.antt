-- Document 01, "Where a record lies", random, with document 02's item 3: a file as a row of granules. Definitions only.
use Rattle.std.specs.Prelude.{Bool, true, false, List, [], ◌∷◌, ◌++◌, ℕ, zero, suc, length, get_or, set}
use Rattle.geometry.specs.Bytes.{part, padded}
use Rattle.geometry.specs.Places.{place_of, byte_of, capacity, origin}
use Rattle.geometry.specs.Sizes.{random}
use Rattle.tapes.specs.Tape.{Shape}
use Rattle.requests.specs.declared.Answer.{Answer}
use Rattle.requests.specs.declared.Answer.TheVariants.{Done, Met, Refused}
use Rattle.requests.specs.declared.Facts.{Facts}
use Rattle.requests.specs.declared.Order.TheVariants.{WriteMark, RewindOnline, RewindOffline, RecordForward, RecordBack, FileForward, FileBack}
use Rattle.requests.specs.declared.Request.{Request}
use Rattle.requests.specs.declared.Request.TheVariants.{Open, Read, Write, GranuleRead, GranuleWrite, GranuleLook, Position}

pub record Row : Type 0 where
  pub shape : Shape
  pub is_open : Bool
  pub granules : List (List ℕ)

-- "granule g begins s·g sectors into the extent"; document 02, item 3, "for R up to 180": "granule g in extent sector g/q rounded down at byte (g mod q)·R"
unfoldable pub granules_in : Shape → List ℕ → ℕ → List (List ℕ)
granules_in f bytes zero = []
granules_in f bytes (suc n) = granules_in f bytes n ++ (part bytes (byte_of (place_of random f.record_length n)) f.record_length ∷ [])

unfoldable pub row_of : Shape → List ℕ → Row
row_of f bytes = record { shape = f; is_open = false; granules = granules_in f bytes (capacity random f.record_length f.sectors) }

-- what a request is judged by
unfoldable pub row_facts : ℕ → List ℕ → ℕ → Row → Facts
row_facts files given buffer w = record {
  legal = true;
  files = files;
  kind = w.shape.kind;
  length = w.shape.record_length;
  sectors = w.shape.sectors;
  protected = w.shape.protected;
  opened = w.is_open;
  position = 0;
  count = 0;
  marked = false;
  beyond = false;
  here = origin;
  bad = false;
  given = length given;
  code = 0;
  buffer = buffer;
}

abbrev pub row_holding : Row → Bool → List (List ℕ) → Row
row_holding w o gs = record { shape = w.shape; is_open = o; granules = gs }

-- an opening, a granule written ("Short records and granules are padded with zero"), a close; nothing else changes a row
unfoldable pub row_done : Request → List ℕ → Row → Row
row_done Open given w = row_holding w true w.granules
row_done Read given w = w
row_done Write given w = w
row_done (GranuleRead g) given w = w
row_done (GranuleWrite g) given w = row_holding w true (set w.granules g (padded 0 w.shape.record_length given))
row_done (GranuleLook g) given w = w
row_done (Position WriteMark) given w = w
row_done (Position RewindOnline) given w = w
row_done (Position RewindOffline) given w = row_holding w false w.granules
row_done (Position RecordForward) given w = w
row_done (Position RecordBack) given w = w
row_done (Position FileForward) given w = w
row_done (Position FileBack) given w = w

unfoldable pub row_next : Request → Answer → List ℕ → Row → Row
row_next q Done given w = row_done q given w
row_next q (Met x) given w = w
row_next q (Refused x) given w = w

unfoldable pub granule : Row → ℕ → List ℕ
granule w g = get_or w.granules g []
