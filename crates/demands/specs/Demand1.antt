-- Demand 1: "Any image, session, request and buffer gets an answer; anything unfit gets document 01's number, in its order, and leaves
-- image, session and buffer as they were." As statements over an engine.
use Rattle.std.specs.Prelude.{◌≡◌, Bool, true, false, ◌&&◌, not, List, [], ◌∷◌, ℕ, ◌+◌, ◌*◌, eqb, leb, ltb, length, drop, get_or, set}
use Rattle.geometry.specs.Bytes.{part}
use Rattle.geometry.specs.Lists.{every}
use Rattle.geometry.specs.Places.{place_of, byte_of}
use Rattle.geometry.specs.Sizes.{sector, entries, entry_size, random, sectors_of, lawful_length}
use Rattle.directory.specs.Entries.{entry_at}
use Rattle.tables.specs.Tables.{one_word_wide, lay_entry}
use Rattle.requests.specs.Judge.{Test, tests, edit_tests, place_in_line, in_order}
use Rattle.requests.specs.Numbers.{number_of}
use Rattle.sessions.specs.Session.{bare, file_of, slot_of, buffered_legal}
use Rattle.steps.specs.Next.{file_met}
use Rattle.steps.specs.Step.{After, kept, held_of, buffered_answer}
use Rattle.steps.specs.Edit.{edited_number, edited_entry, told_of, Edited, buffered_edit_answer}
use Rattle.tapes.specs.Model.{Asked}
use Rattle.tapes.specs.Edits.{Editing}
use Rattle.tapes.specs.Runs.{Asking}
use Rattle.demands.specs.Engine.{Engine, Standing, step_of, edit_of, next, report_for, reports, run, mounted, are_bytes, give_bytes, sound}
use Rattle.directory.specs.declared.Entry.{Entry}
use Rattle.requests.specs.declared.Edge.{Edge}
use Rattle.requests.specs.declared.Edit.{Edit}
use Rattle.requests.specs.declared.Edit.TheVariants.{Add, Delete}
use Rattle.requests.specs.declared.Refusal.{Refusal}
use Rattle.requests.specs.declared.Request.{Request}
use Rattle.requests.specs.declared.Request.TheVariants.{Open, Read, Write, GranuleRead, GranuleWrite, GranuleLook, Position}
use Rattle.requests.specs.declared.Answer.{Answer}
use Rattle.requests.specs.declared.Answer.TheVariants.{Done, Met, Refused}
use Rattle.sessions.specs.declared.BufferedSession.{BufferedSession}

-- ---- the order

-- "Order: 12, 8, 9, 10, 7 for kind, 4, 7 for beyond, 5, 6, then 11, 3, 1, 2 or 7 for the end." And of document 02: "after 12, DELETE gives 8 then 9 if open; ADD
-- gives 11 .., 13 bad name, 17 bad kind, length or sector count 0, 14 name in use, 15 no free entry, 16 no gap, in that order"
abbrev pub order_line : List ℕ
order_line = 12 ∷ 8 ∷ 9 ∷ 10 ∷ 7 ∷ 4 ∷ 7 ∷ 5 ∷ 6 ∷ 11 ∷ 13 ∷ 17 ∷ 14 ∷ 15 ∷ 16 ∷ 3 ∷ 1 ∷ 2 ∷ 7 ∷ []

-- a test stands where the line has its answer's number
unfoldable pub in_line : {F : Type 0} → Test F → Bool
in_line t = eqb (get_or order_line (place_in_line t.stage) 0) (number_of t.gives)

-- ---- one request

-- answers 1 and 2 leave the "position as above", and nothing else changed
unfoldable pub session_met : Edge → BufferedSession → ℕ → BufferedSession
session_met x s i = record {
  says = s.says;
  table = s.table;
  files = set s.files (slot_of (bare s).files i) (kept (file_met x (file_of (bare s).files i)) (held_of s i));
}

-- the bytes of the caller's buffer that a request answered 0 may change: "the first R bytes of the buffer only"
unfoldable pub may_change : Request → ℕ → ℕ
may_change Open R = 0
may_change Read R = R
may_change Write R = 0
may_change (GranuleRead g) R = R
may_change (GranuleWrite g) R = 0
may_change (GranuleLook g) R = 0
may_change (Position o) R = 0

-- what one request may do, whatever the image, the session, the bytes and the buffer are
pub record Proper (E : Engine) (image : List ℕ) (s : E.Session) (i : ℕ) (q : Request) (given buffer : List ℕ) (r : After E.Session) : Type 0 where
  -- the answer is the first in order of the tests that hold
  pub ordered : r.answer ≡ buffered_answer image (E.seen s) i q given (length buffer)
  -- 3 to 12: "Nothing changed covers image, session and caller's buffer"
  pub refused : (x : Refusal) → r.answer ≡ Refused x → (r.image ≡ image) × (r.session ≡ s) × (r.buffer ≡ buffer)
  -- 1 and 2: the position
  pub met : (x : Edge) → r.answer ≡ Met x → (r.image ≡ image) × (E.seen r.session ≡ session_met x (E.seen s) i) × (r.buffer ≡ buffer)
  -- "A read answered 0 changes the first R bytes of the buffer only; any other read changes none"
  pub buffer_rest : (n : ℕ) → n ≡ may_change q (entry_at (E.seen s).table i).length → drop n r.buffer ≡ drop n buffer
  pub buffer_size : length r.buffer ≡ length buffer

-- what a look shows where `a` is its number's answer: "A granule may also be shown in place in the image, not copied"; it "shows an empty part when refused"
pub record Shows (E : Engine) (image : List ℕ) (s : E.Session) (i g : ℕ) (e : Entry) (a : Answer) : Type 0 where
  pub in_place : a ≡ Done → E.look image s i g ≡ part image (sector * e.first + byte_of (place_of random e.length g)) e.length
  pub empty : (x : Refusal) → a ≡ Refused x → E.look image s i g ≡ []

-- ---- one edit

-- "ADD takes name, kind, length and sector count"; DELETE takes the entry's number
abbrev pub adding : ℕ → ℕ → ℕ → List ℕ → Editing
adding kind size sectors name = record { entry = 0; edit = Add kind size sectors; name = name }

abbrev pub deleting : ℕ → Editing
deleting i = record { entry = i; edit = Delete; name = [] }

-- the session with another entry of number n
abbrev pub with_entry : BufferedSession → ℕ → Entry → BufferedSession
with_entry s n e = record { says = s.says; table = set s.table n e; files = s.files }

-- what one edit may do, whatever the image, the session and the name are
pub record ProperEdit (E : Engine) (image : List ℕ) (s : E.Session) (i : ℕ) (x : Edit) (name : List ℕ) (r : Edited E.Session) : Type 0 where
  -- the answer is the first in order of the tests that hold
  pub ordered : r.answer ≡ buffered_edit_answer image (E.seen s) i x name
  -- "Every refusal leaves image, session, buffer and target as they were", and tells no number; 1 and 2 are no answers of an edit
  pub refused : ¬ (r.answer ≡ Done) → (y : Refusal) × (r.answer ≡ Refused y) × (r.image ≡ image) × (r.session ≡ s) × (r.told ≡ [])
  -- "Both change that one directory entry and no other byte": the entry of the table, and its bytes in the image
  pub one : r.answer ≡ Done → (n : ℕ) → n ≡ edited_number x (E.seen s).table i → (e : Entry) → e ≡ edited_entry x (sectors_of image) (E.seen s).table name
      → (r.told ≡ told_of x n) × (E.seen r.session ≡ with_entry (E.seen s) n e) × (r.image ≡ lay_entry one_word_wide entries image n e)
  pub others : (n : ℕ) → n ≡ edited_number x (E.seen s).table i → (j : ℕ) → (leb (entry_size * n) j && ltb j (entry_size * n + entry_size)) ≡ false
      → get_or r.image j 0 ≡ get_or image j 0
  pub size : length r.image ≡ length image

pub record Orderly (E : Engine) : Type 0 where
  -- the tests of every request stand along the order line, each at its answer's number
  pub line : (q : Request) → (in_order (tests q) ≡ true) × (every in_line (tests q) ≡ true)
  -- and so do those of both edits
  pub edit_line : (x : Edit) → (in_order (edit_tests x) ≡ true) × (every in_line (edit_tests x) ≡ true)
  pub every-edit : (image : List ℕ) (s : E.Session) (i : ℕ) (x : Edit) (name : List ℕ) → ProperEdit E image s i x name (E.edit image s i x name)
  pub every-request : (image : List ℕ) (s : E.Session) (i : ℕ) (q : Request) (given buffer : List ℕ)
      → Proper E image s i q given buffer (E.request image s i q given buffer)
  -- a look: "its number is asked for separately"
  pub every-look : (image : List ℕ) (s : E.Session) (i g : ℕ) (given buffer : List ℕ)
      → Shows E image s i g (entry_at (E.seen s).table i) (E.request image s i (GranuleLook g) given buffer).answer

-- ---- legality

-- an image, and a session that is legal for it
pub record Passes (E : Engine) (w : Standing E.Session) : Type 0 where
  pub is_sound : sound w.image (E.seen w.session) ≡ true
  pub is_legal : buffered_legal w.image (E.seen w.session) ≡ true

-- "Every other session handed out passes, save one handed back with 12": a mounted one, and the one behind every request on a session that passed
pub record Passing (E : Engine) : Type 0 where
  pub mounting : (image : List ℕ) → are_bytes image ≡ true → lawful_length image ≡ true → Passes E (mounted E image)
  pub requests : (w : Standing E.Session) → Passes E w → (a : Asked) → are_bytes a.given ≡ true → Passes E (step_of E w a)
  pub edits : (w : Standing E.Session) → Passes E w → (x : Editing) → are_bytes x.name ≡ true → Passes E (edit_of E w x)

-- ---- a run

-- the requests and edits of a run that are answered 0, 1 or 2
unfoldable pub served : (E : Engine) → Standing E.Session → List Asking → List Asking
served E w [] = []
served E w (a ∷ rest) = elim (leb (report_for E w a).number 2) [ true ↦ a ∷ served E (next E w a) rest | false ↦ served E (next E w a) rest ]

-- any requests and edits from any session that passes
pub record Running (E : Engine) : Type 0 where
  -- never leave what passes
  pub passes : (w : Standing E.Session) → Passes E w → (asked : List Asking) → give_bytes asked ≡ true → Passes E (run E w asked)
  -- and so never get 12
  pub legally : (w : Standing E.Session) → Passes E w → (asked : List Asking) → give_bytes asked ≡ true
      → every (λ r. not (eqb r.number 12)) (reports E w asked) ≡ true
  -- and those that are refused leave no trace: the run ends where it does without them
  pub refusals : (w : Standing E.Session) (asked : List Asking) → run E w asked ≡ run E w (served E w asked)
