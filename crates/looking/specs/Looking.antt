-- Document 01, "A granule may also be shown in place in the image", on a session in lent bytes of either engine. Definitions only.
use Rattle.std.specs.Prelude.{true, false, List, ℕ, ◌+◌, ◌*◌}
use Rattle.geometry.specs.Places.{place_of, byte_of}
use Rattle.geometry.specs.Sizes.{sector, random}
use Rattle.directory.specs.Entries.{entry_at}
use Rattle.steps.specs.Look.{plain_look, plain_look_answer, buffered_look, buffered_look_answer}
use Rattle.storing.specs.Stored.{has_buffers, session_in, plain_in, lent_session}
use Rattle.directory.specs.declared.Entry.{Entry}
use Rattle.requests.specs.declared.Answer.{Answer}
use Rattle.requests.specs.declared.Answer.TheVariants.{Done, Met, Refused}

unfoldable pub look_in : List ℕ → List ℕ → ℕ → ℕ → List ℕ
look_in image b i g = elim (has_buffers b) [ true ↦ buffered_look image (session_in true b) i g | false ↦ plain_look image (plain_in b) i g ]

unfoldable pub look_answer_in : List ℕ → List ℕ → ℕ → ℕ → Answer
look_answer_in image b i g = elim (has_buffers b) [ true ↦ buffered_look_answer image (session_in true b) i g | false ↦ plain_look_answer image (plain_in b) i g ]

-- where the granule that a look shows begins in the image; what was there before where it is refused
unfoldable pub place_by : Answer → Entry → ℕ → ℕ → ℕ
place_by Done e g old = sector * e.first + byte_of (place_of random e.length g)
place_by (Met x) e g old = old
place_by (Refused x) e g old = old

unfoldable pub look_place : List ℕ → List ℕ → ℕ → ℕ → ℕ → ℕ
look_place image b i g old = place_by (look_answer_in image b i g) (entry_at (lent_session b).table i) g old
