-- A row played by the calls from C, on a session in lent bytes of either engine. Definitions only.
use Rattle.std.specs.Prelude.{true, false, List, [], ℕ, ◌%◌, eqb, get_or, Option}
use Rattle.requests.specs.Codes.{asked_for}
use Rattle.requests.specs.Numbers.{number_of}
use Rattle.requests.specs.declared.Edit.TheVariants.{Add, Delete}
use Rattle.sessions.specs.Session.{bare, spot_of}
use Rattle.sessions.specs.declared.Spot.{Spot}
use Rattle.steps.specs.Edit.{Edited}
use Rattle.editing.specs.Editing.{edited_in}
use Rattle.storing.specs.Stored.{lent_session}
use Rattle.asking.specs.Requested.{Left, left, requested}
use Rattle.numbering.specs.Codes.{standing, record_at}
use Rattle.scripts.specs.declared.Played.{Played}
use Rattle.scripts.specs.declared.Row.{Row}
use Rattle.scripts.specs.Script.{is_edit}
use Rattle.scripts.specs.Sums.{words_of, sum_of}
use Rattle.summing.specs.Moved.{moved}

-- what is said of an edit: its number, the new entry's in place of a sum, and no position
abbrev pub edit_said : ℕ → ℕ → Played
edit_said n told = record { number = n; sum = told; standing = 0; position = 0 }

unfoldable pub said_of_edit : Edited (List ℕ) → Played
said_of_edit w = edit_said (number_of w.answer) (get_or w.told 0 0)

module _ (row : Row) (given : List ℕ) where
  -- what an adding comes to, whose kind, length and sectors are words 1, 3 and 4 and whose name is given; and a deleting
  unfoldable pub edited : List ℕ → List ℕ → Edited (List ℕ)
  edited image session = elim (eqb row.code 14) [
    | true ↦ edited_in image session 0 (Add row.entry (row.granule % 65536) row.sectors) given
    | false ↦ edited_in image session row.entry Delete []
  ]

  -- any other row's request
  unfoldable pub asked : List ℕ → List ℕ → List ℕ → Left
  asked image session buffer = requested image session row.entry (asked_for row.code row.granule) given buffer

  -- what a row answers and leaves: an edit looks at no buffer
  unfoldable pub leaves : List ℕ → List ℕ → List ℕ → Left
  leaves image session buffer = elim (is_edit row.code) [
    | true ↦ let w : Edited (List ℕ) = edited image session in left (number_of w.answer) w.image w.session buffer
    | false ↦ asked image session buffer
  ]

  -- what is said of a row behind its request
  unfoldable pub said_of : Left → Played
  said_of a =
      let spot : Option Spot = spot_of (bare (lent_session a.session)) row.entry in
      record { number = a.number; sum = sum_of (words_of (moved row given a)); standing = standing spot; position = record_at spot 0 }

  unfoldable pub played : List ℕ → List ℕ → List ℕ → Played
  played image session buffer = elim (is_edit row.code) [ true ↦ said_of_edit (edited image session) | false ↦ said_of (asked image session buffer) ]
