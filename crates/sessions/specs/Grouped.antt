-- The rules of a session grouped as a program tests them: those of one open file, and those of two. proofs/Grouped.antt shows that together they are `legal`. Definitions only.
use Rattle.std.specs.Prelude.{Bool, ◌&&◌, ◌||◌, not, List, ℕ, eqb, leb, ltb}
use Rattle.geometry.specs.Lists.{every, pairwise}
use Rattle.geometry.specs.Sizes.{entries, compressed, most_open}
use Rattle.directory.specs.Entries.{is_free, is_kind, is_marked}
use Rattle.directory.specs.declared.Entry.{Entry}
use Rattle.sessions.specs.Session.{open_files, of_used_entry, of_other, position_good, beyond_good, place_good, places_good}
use Rattle.sessions.specs.declared.OpenFile.{OpenFile}

-- the rules of one state
unfoldable pub file_good : List Entry → OpenFile → Bool
file_good table f = of_used_entry table f && (position_good table f && (beyond_good table f && places_good table f))

-- how many files are open, the rules of every state, and that of every two
unfoldable pub files_good : List Entry → List OpenFile → Bool
files_good table files = leb (open_files files) most_open && (every (file_good table) files && pairwise of_other files)

-- what they ask of a state that is used, e being its entry
unfoldable pub open_good : Entry → OpenFile → Bool
open_good e f =
    ltb f.entry entries
    && (not (is_free e)
    && (leb f.position e.count
    && ((not f.beyond || (is_marked e && eqb f.position e.count))
    && (not (is_kind compressed e) || (place_good e f.here && place_good e f.end)))))

-- and of the sector that it holds
unfoldable pub hold_good : Entry → ℕ → Bool
hold_good e held = ltb held e.sectors
