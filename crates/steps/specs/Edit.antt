-- Document 02, item 1: the RAD Editor's ADD and DELETE in either engine: the answer, and image and session behind it. "Both change that one directory entry and no
-- other byte." Definitions only.
use Rattle.std.specs.Prelude.{Bool, false, not, List, [], ◌∷◌, ℕ, ltb, length, set}
use Rattle.geometry.specs.Lists.{every}
use Rattle.geometry.specs.Sizes.{entries, sectors_of}
use Rattle.directory.specs.Entries.{entry_at, free_entry, is_free}
use Rattle.directory.specs.Search.{matches}
use Rattle.tables.specs.Tables.{one_word_wide, lay_entry}
use Rattle.gaps.specs.Gaps.{lowest_free, is_taken, lowest_gap}
use Rattle.shapes.specs.Made.{is_named, shape_good, file_made}
use Rattle.requests.specs.Judge.{judge_edit, EditFacts}
use Rattle.sessions.specs.Session.{bare, file_of, legal, buffered_legal}
use Rattle.directory.specs.declared.Entry.{Entry}
use Rattle.requests.specs.declared.Answer.{Answer}
use Rattle.requests.specs.declared.Answer.TheVariants.{Done, Met, Refused}
use Rattle.requests.specs.declared.Edit.{Edit}
use Rattle.requests.specs.declared.Edit.TheVariants.{Add, Delete}
use Rattle.sessions.specs.declared.BufferedSession.{BufferedSession}
use Rattle.sessions.specs.declared.Session.{Session}

-- ---- what an edit finds

-- an entry of that name: "name in use"
unfoldable pub is_taken_name : List Entry → List ℕ → Bool
is_taken_name table name = not (every (λ e. not (matches name e)) table)

-- in an image of N sectors: ADD looks at the whole table, DELETE at entry i and whether its file is open
unfoldable pub edit_facts : Bool → ℕ → Session → ℕ → Edit → List ℕ → EditFacts
edit_facts legal N s i (Add kind length sectors) name = record {
  legal = legal;
  refused = s.says.refused;
  used = false;
  opened = false;
  named = is_named name;
  shaped = shape_good kind length sectors;
  taken = is_taken_name s.table name;
  entry = ltb (lowest_free s.table) entries;
  gap = ltb (lowest_gap (is_taken s.table) N sectors) N;
}
edit_facts legal N s i Delete name = record {
  legal = legal;
  refused = s.says.refused;
  used = not (is_free (entry_at s.table i));
  opened = (file_of s.files i).used;
  named = false;
  shaped = false;
  taken = false;
  entry = false;
  gap = false;
}

-- ---- what an edit makes

-- of which entry: ADD "picks the lowest entry"
unfoldable pub edited_number : Edit → List Entry → ℕ → ℕ
edited_number (Add kind length sectors) table i = lowest_free table
edited_number Delete table i = i

-- which entry it then is: ADD picks "the lowest gap that holds the extent"; "DELETE zeroes the entry"
unfoldable pub edited_entry : Edit → ℕ → List Entry → List ℕ → Entry
edited_entry (Add kind length sectors) N table name = file_made kind length sectors name (lowest_gap (is_taken table) N sectors)
edited_entry Delete N table name = free_entry

-- the number that the caller is told: the new entry's
unfoldable pub told_of : Edit → ℕ → List ℕ
told_of (Add kind length sectors) n = n ∷ []
told_of Delete n = []

-- ---- an edit, in either engine

pub record Edited (S : Type 0) : Type 0 where
  pub answer : Answer
  pub told : List ℕ
  pub image : List ℕ
  pub session : S

-- only answer 0 tells a number and changes the image and the table, and no edit is answered 1 or 2
unfoldable pub told_by : Answer → Edit → ℕ → List ℕ
told_by Done x n = told_of x n
told_by (Met e) x n = []
told_by (Refused e) x n = []

unfoldable pub image_edited : Answer → List ℕ → ℕ → Entry → List ℕ
image_edited Done image n e = lay_entry one_word_wide entries image n e
image_edited (Met x) image n e = image
image_edited (Refused x) image n e = image

unfoldable pub table_edited : Answer → List Entry → ℕ → Entry → List Entry
table_edited Done table n e = set table n e
table_edited (Met x) table n e = table
table_edited (Refused x) table n e = table

-- the answer, and what an edit leaves: `lawful` says whether the session is legal, `s` is the session without its buffers, `tabled` the session with another table
unfoldable pub edit_answer_by : Bool → List ℕ → Session → ℕ → Edit → List ℕ → Answer
edit_answer_by lawful image s i x name = judge_edit x (edit_facts lawful (sectors_of image) s i x name)

unfoldable pub edit_by : {S : Type 0} → Bool → (List Entry → S) → List ℕ → Session → ℕ → Edit → List ℕ → Edited S
edit_by lawful tabled image s i x name =
    let a : Answer = edit_answer_by lawful image s i x name in
    let n : ℕ = edited_number x s.table i in
    let e : Entry = edited_entry x (sectors_of image) s.table name in
    record {
      answer = a;
      told = told_by a x n;
      image = image_edited a image n e;
      session = tabled (table_edited a s.table n e);
    }

-- the engines differ in when a session is legal, and in what one holds
abbrev pub plain_edit_answer : List ℕ → Session → ℕ → Edit → List ℕ → Answer
plain_edit_answer image s i x name = edit_answer_by (legal image s) image s i x name

abbrev pub plain_edit : List ℕ → Session → ℕ → Edit → List ℕ → Edited Session
plain_edit image s i x name = edit_by (legal image s) (λ table. record { says = s.says; table = table; files = s.files }) image s i x name

abbrev pub buffered_edit_answer : List ℕ → BufferedSession → ℕ → Edit → List ℕ → Answer
buffered_edit_answer image s i x name = edit_answer_by (buffered_legal image s) image (bare s) i x name

-- no buffer is put back
abbrev pub buffered_edit : List ℕ → BufferedSession → ℕ → Edit → List ℕ → Edited BufferedSession
buffered_edit image s i x name = edit_by (buffered_legal image s) (λ table. record { says = s.says; table = table; files = s.files }) image (bare s) i x name
