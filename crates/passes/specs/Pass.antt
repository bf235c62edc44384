-- Document 02, item 4: the pass listing of an image and a name as it is typed, over the tapes and rows that the image shows. Definitions only.
use Rattle.std.specs.Prelude.{true, false, List, [], ◌∷◌, ◌++◌, ℕ}
use Rattle.geometry.specs.Lists.{first_with}
use Rattle.packing.specs.Reading.{Recorded}
use Rattle.tapes.specs.Model.{Model, nothing, tape, row, models_of, model_at}
use Rattle.tapes.specs.Edits.{model_named}
use Rattle.listing.specs.Listing.{lists}
use Rattle.typing.specs.Typing.{name_of}
use Rattle.showing.specs.Lines.{line_of, answer_line}

-- "it opens a file by name": the file of that name, if there is one
unfoldable pub named : List Model → List ℕ → Model
named ms name = model_at ms (first_with (model_named name) ms)

-- "one ASCII line per record", in order
unfoldable pub lines_of : List Recorded → List ℕ
lines_of [] = []
lines_of (r ∷ rs) = line_of r.bytes ++ lines_of rs

-- "reads kinds 1 to 3 from the start"; "an unknown name only `ANSWER 8`, a random file only `ANSWER 7`"
unfoldable pub pass_of : Model → List ℕ
pass_of nothing = answer_line 8
pass_of (tape t) = lines_of t.records
pass_of (row w) = answer_line 7

-- "an image that lists as bad prints only `ANSWER 11`"
unfoldable pub pass_listing : List ℕ → List ℕ → List ℕ
pass_listing image typed = elim (lists image) [ true ↦ pass_of (named (models_of image) (name_of typed)) | false ↦ answer_line 11 ]
