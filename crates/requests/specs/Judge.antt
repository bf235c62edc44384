-- Document 01, "Answer numbers", and document 02, item 1: which answer a request gets, and which an edit. Each has its tests as one list, in the order of the
-- line "Order: 12, 8, 9, 10, 7 for kind, 4, 7 for beyond, 5, 6, then 11, 3, 1, 2 or 7 for the end", in which ADD's own stand behind 11; the first that holds
-- gives the answer, else 0. Definitions only.
use Rattle.std.specs.Prelude.{Bool, true, false, ◌&&◌, ◌||◌, not, List, [], ◌∷◌, ℕ, ◌%◌, eqb, leb, ltb}
use Rattle.geometry.specs.Sizes.{free, compressed, random, most_open, most_records, sector}
use Rattle.geometry.specs.Places.{capacity}
use Rattle.packing.specs.Placing.{has_room}
use Rattle.requests.specs.Numbers.{number_of}
use Rattle.requests.specs.declared.Edit.{Edit}
use Rattle.requests.specs.declared.Edit.TheVariants.{Add, Delete}
use Rattle.requests.specs.declared.Facts.{Facts}
use Rattle.requests.specs.declared.Order.TheVariants.{WriteMark, RewindOnline, RewindOffline, RecordForward, RecordBack, FileForward, FileBack}
use Rattle.requests.specs.declared.Request.{Request}
use Rattle.requests.specs.declared.Request.TheVariants.{Open, Read, Write, GranuleRead, GranuleWrite, GranuleLook, Position}
use Rattle.requests.specs.declared.Edge.TheVariants.{EndOfFile, BeginningOfTape}
use Rattle.requests.specs.declared.Refusal.{Refusal}
use Rattle.requests.specs.declared.Refusal.TheVariants.{NoRoom, Protected, OddCount, BadSize, WrongSequence, NotThere, AlreadyOpen, FifthFile, BadImage, NotLegal, BadName, NameInUse, NoEntry, NoGap, BadShape}
use Rattle.requests.specs.declared.Answer.{Answer}
use Rattle.requests.specs.declared.Answer.TheVariants.{Done, Met, Refused}

-- the order line: "12, 8, 9, 10, 7 for kind, 4, 7 for beyond, 5, 6, then 11, 3, 1, 2 or 7 for the end"; and behind 11, ADD's: "13 .., 17 .., 14 .., 15 .., 16 ..,
-- in that order"
pub data Stage : Type 0 where
  at12 at8 at9 at10 at7-kind at4 at7-beyond at5 at6 at11 at13 at17 at14 at15 at16 at3 at1 at2 at7-end : Stage

-- a test, its place in the order line, and the answer where it holds; F is what it asks about
pub record Test (F : Type 0) : Type 0 where
  pub stage : Stage
  pub holds : F → Bool
  pub gives : Answer

abbrev pub refused_if : {F : Type 0} → Stage → Refusal → (F → Bool) → Test F
refused_if o x p = record { stage = o; holds = p; gives = Refused x }

-- ---- the tests, by the table of answer numbers

-- 12 "session not legal for this image"
abbrev pub not_legal : Test Facts
not_legal = refused_if at12 NotLegal (λ f. not f.legal)

-- 8 "no such entry, or not open"
abbrev pub no_entry : Test Facts
no_entry = refused_if at8 NotThere (λ f. eqb f.kind free)

abbrev pub not_open : Test Facts
not_open = refused_if at8 NotThere (λ f. not f.opened)

-- 9 "opening an open file"
abbrev pub already_open : Test Facts
already_open = refused_if at9 AlreadyOpen (λ f. f.opened)

-- 10 "a fifth open file"
abbrev pub fifth_file : Test Facts
fifth_file = refused_if at10 FifthFile (λ f. leb most_open f.files)

-- 7 "wrong kind for the request": sequential files are kinds 1 to 3, granules are of kind 4; record back on "Compressed files: 7"
abbrev pub not_sequential : Test Facts
not_sequential = refused_if at7-kind WrongSequence (λ f. eqb f.kind random)

abbrev pub not_random : Test Facts
not_random = refused_if at7-kind WrongSequence (λ f. not (eqb f.kind random))

abbrev pub not_backwards : Test Facts
not_backwards = refused_if at7-kind WrongSequence (λ f. eqb f.kind random || eqb f.kind compressed)

-- 4 "write or mark on a protected file"
abbrev pub is_protected : Test Facts
is_protected = refused_if at4 Protected (λ f. f.protected)

-- 7 "Beyond, a read, write, record forward or write file mark gives 7"; file forward too: "beyond or unmarked gives 7"
abbrev pub is_beyond : Test Facts
is_beyond = refused_if at7-beyond WrongSequence (λ f. f.beyond)

-- 5 "odd byte count in a write"
abbrev pub odd_count : Test Facts
odd_count = refused_if at5 OddCount (λ f. eqb (f.given % 2) 1)

-- 6 "write of 0 or over R bytes, or coded record over 360; read buffer under R"
abbrev pub bad_size : Test Facts
bad_size = refused_if at6 BadSize (λ f. eqb f.given 0 || ltb f.length f.given)

abbrev pub long_code : Test Facts
long_code = refused_if at6 BadSize (λ f. eqb f.kind compressed && ltb sector f.code)

abbrev pub short_buffer : Test Facts
short_buffer = refused_if at6 BadSize (λ f. ltb f.buffer f.length)

-- 11 "bad code met"
abbrev pub bad_code : Test Facts
bad_code = refused_if at11 BadImage (λ f. f.bad)

-- 3 "no room: write at p = capacity, or a coded record due in a sector past the extent; position already 65,535"
unfoldable pub is_full : Facts → Bool
is_full f = elim (eqb f.kind compressed) [
  | true ↦ not (has_room f.sectors f.here f.code)
  | false ↦ leb (capacity f.kind f.length f.sectors) f.position
]

abbrev pub no_room : Test Facts
no_room = refused_if at3 NoRoom (λ f. leb most_records f.position || is_full f)

-- 3 "granule number at or over capacity"
abbrev pub no_granule : ℕ → Test Facts
no_granule g = refused_if at3 NoRoom (λ f. leb (capacity f.kind f.length f.sectors) g)

-- 1 "At the end: marked gives 1"; record back: "beyond gives 1"
abbrev pub meets_mark : Test Facts
meets_mark = record { stage = at1; holds = λ f. leb f.count f.position && f.marked; gives = Met EndOfFile }

abbrev pub back_over_mark : Test Facts
back_over_mark = record { stage = at1; holds = λ f. f.beyond; gives = Met EndOfFile }

-- 2 record back: "p = 0 gives 2"; file back: "beyond goes before the mark, 0; otherwise p = 0 with answer 2"
abbrev pub at_start : Test Facts
at_start = record { stage = at2; holds = λ f. eqb f.position 0; gives = Met BeginningOfTape }

abbrev pub back_to_start : Test Facts
back_to_start = record { stage = at2; holds = λ f. not f.beyond; gives = Met BeginningOfTape }

-- 7 "At the end: .. unmarked gives 7"; file forward: "unmarked gives 7"
abbrev pub at_end : Test Facts
at_end = refused_if at7-end WrongSequence (λ f. leb f.count f.position)

abbrev pub not_marked : Test Facts
not_marked = refused_if at7-end WrongSequence (λ f. not f.marked)

-- ---- the tests of each request, in order

unfoldable pub tests : Request → List (Test Facts)
tests Open = not_legal ∷ no_entry ∷ already_open ∷ fifth_file ∷ bad_code ∷ []
tests Read = not_legal ∷ no_entry ∷ not_open ∷ not_sequential ∷ is_beyond ∷ short_buffer ∷ bad_code ∷ meets_mark ∷ at_end ∷ []
tests Write = not_legal ∷ no_entry ∷ not_open ∷ not_sequential ∷ is_protected ∷ is_beyond ∷ odd_count ∷ bad_size ∷ long_code ∷ no_room ∷ []
tests (GranuleRead g) = not_legal ∷ no_entry ∷ not_open ∷ not_random ∷ short_buffer ∷ no_granule g ∷ []
tests (GranuleWrite g) = not_legal ∷ no_entry ∷ not_open ∷ not_random ∷ is_protected ∷ odd_count ∷ bad_size ∷ no_granule g ∷ []
tests (GranuleLook g) = not_legal ∷ no_entry ∷ not_open ∷ not_random ∷ no_granule g ∷ []
tests (Position WriteMark) = not_legal ∷ no_entry ∷ not_open ∷ not_sequential ∷ is_protected ∷ is_beyond ∷ []
tests (Position RewindOnline) = not_legal ∷ no_entry ∷ not_open ∷ not_sequential ∷ []
tests (Position RewindOffline) = not_legal ∷ no_entry ∷ not_open ∷ []
tests (Position RecordForward) =
    not_legal ∷ no_entry ∷ not_open ∷ not_sequential ∷ is_beyond ∷ bad_code ∷ meets_mark ∷ at_end ∷ []
tests (Position RecordBack) = not_legal ∷ no_entry ∷ not_open ∷ not_backwards ∷ back_over_mark ∷ at_start ∷ []
tests (Position FileForward) = not_legal ∷ no_entry ∷ not_open ∷ not_sequential ∷ is_beyond ∷ not_marked ∷ []
tests (Position FileBack) = not_legal ∷ no_entry ∷ not_open ∷ not_sequential ∷ back_to_start ∷ []

-- ---- the tests of an edit

-- what they ask about: the session, the entry that is to be deleted, and what a file that is to be added finds
pub record EditFacts : Type 0 where
  -- the session is legal for this image, and whether it says that it is from a refused mounting
  pub legal : Bool
  pub refused : Bool
  -- there is such an entry, and its file is open
  pub used : Bool
  pub opened : Bool
  -- the bytes given are a name; kind, length and number of sectors are those of a file
  pub named : Bool
  pub shaped : Bool
  -- an entry has that name, an entry is free, so many free sectors stand together
  pub taken : Bool
  pub entry : Bool
  pub gap : Bool

-- 12, as for a request
abbrev pub unlawful_session : Test EditFacts
unlawful_session = refused_if at12 NotLegal (λ f. not f.legal)

-- DELETE: "8 then 9 if open"
abbrev pub not_used : Test EditFacts
not_used = refused_if at8 NotThere (λ f. not f.used)

abbrev pub still_open : Test EditFacts
still_open = refused_if at9 AlreadyOpen (λ f. f.opened)

-- ADD: "11 on a session from a refused mounting"
abbrev pub refused_mounting : Test EditFacts
refused_mounting = refused_if at11 BadImage (λ f. f.refused)

-- "13 bad name"
abbrev pub bad_name : Test EditFacts
bad_name = refused_if at13 BadName (λ f. not f.named)

-- "17 bad kind, length or sector count 0"
abbrev pub bad_shape : Test EditFacts
bad_shape = refused_if at17 BadShape (λ f. not f.shaped)

-- "14 name in use"
abbrev pub name_in_use : Test EditFacts
name_in_use = refused_if at14 NameInUse (λ f. f.taken)

-- "15 no free entry"
abbrev pub no_free_entry : Test EditFacts
no_free_entry = refused_if at15 NoEntry (λ f. not f.entry)

-- "16 no gap"
abbrev pub no_gap : Test EditFacts
no_gap = refused_if at16 NoGap (λ f. not f.gap)

-- "after 12, DELETE gives 8 then 9 if open; ADD gives 11 .., 13 .., 17 .., 14 .., 15 .., 16 .., in that order"
unfoldable pub edit_tests : Edit → List (Test EditFacts)
edit_tests (Add kind length sectors) = unlawful_session ∷ refused_mounting ∷ bad_name ∷ bad_shape ∷ name_in_use ∷ no_free_entry ∷ no_gap ∷ []
edit_tests Delete = unlawful_session ∷ not_used ∷ still_open ∷ []

-- ---- the answer

-- the tests of a request that stand behind 11, "bad code met"
unfoldable pub behind_eleven : List (Test Facts) → List (Test Facts)
behind_eleven [] = []
behind_eleven (t ∷ ts) = elim (eqb (number_of t.gives) 11) [ true ↦ ts | false ↦ behind_eleven ts ]

unfoldable pub whether : Bool → Answer → Answer → Answer
whether true a later = a
whether false a later = later

module _ {F : Type 0} where
  -- the first test that holds gives the answer, else what stands behind the tests
  unfoldable pub or_else : List (Test F) → F → Answer → Answer
  or_else [] f later = later
  or_else (t ∷ ts) f later = whether (t.holds f) t.gives (or_else ts f later)

  -- where none holds, "0 done"
  unfoldable pub first_of : List (Test F) → F → Answer
  first_of ts f = or_else ts f Done

unfoldable pub judge : Request → Facts → Answer
judge q f = first_of (tests q) f

unfoldable pub judge_edit : Edit → EditFacts → Answer
judge_edit x f = first_of (edit_tests x) f

-- the answer to a request that has passed 11: what the tests behind it say
unfoldable pub behind_code : Request → Facts → Answer
behind_code q f = first_of (behind_eleven (tests q)) f

-- ---- the lists above are in order: each test's place in the line is not before that of the test before it

unfoldable pub place_in_line : Stage → ℕ
place_in_line = elim [ at12 ↦ 0 | at8 ↦ 1 | at9 ↦ 2 | at10 ↦ 3 | at7-kind ↦ 4 | at4 ↦ 5 | at7-beyond ↦ 6 | at5 ↦ 7 | at6 ↦ 8 | at11 ↦ 9 | at13 ↦ 10 | at17 ↦ 11 | at14 ↦ 12 | at15 ↦ 13 | at16 ↦ 14 | at3 ↦ 15 | at1 ↦ 16 | at2 ↦ 17 | at7-end ↦ 18 ]

module _ {F : Type 0} where
  unfoldable pub in_order : List (Test F) → Bool
  in_order [] = true
  in_order (t ∷ []) = true
  in_order (t ∷ u ∷ ts) = leb (place_in_line t.stage) (place_in_line u.stage) && in_order (u ∷ ts)
