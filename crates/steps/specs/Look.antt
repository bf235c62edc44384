-- Document 01, "Where a record lies", random: a granule shown in place. Definitions only.
use Rattle.std.specs.Prelude.{List, [], ℕ, ◌+◌, ◌*◌}
use Rattle.geometry.specs.Bytes.{part}
use Rattle.geometry.specs.Places.{place_of, byte_of}
use Rattle.geometry.specs.Sizes.{sector, random}
use Rattle.directory.specs.Entries.{entry_at}
use Rattle.steps.specs.Step.{plain_answer, buffered_answer}
use Rattle.directory.specs.declared.Entry.{Entry}
use Rattle.requests.specs.declared.Answer.{Answer}
use Rattle.requests.specs.declared.Answer.TheVariants.{Done, Met, Refused}
use Rattle.requests.specs.declared.Request.TheVariants.{GranuleLook}
use Rattle.sessions.specs.declared.BufferedSession.{BufferedSession}
use Rattle.sessions.specs.declared.Session.{Session}

-- "A granule may also be shown in place in the image, not copied"; "shows an empty part when refused"
unfoldable pub shown : Answer → Entry → ℕ → List ℕ → List ℕ
shown Done e g image = part image (sector * e.first + byte_of (place_of random e.length g)) e.length
shown (Met x) e g image = []
shown (Refused x) e g image = []

-- "that look has a read's checks without the buffer's"; "its number is asked for separately"
unfoldable pub plain_look_answer : List ℕ → Session → ℕ → ℕ → Answer
plain_look_answer image s i g = plain_answer image s i (GranuleLook g) [] 0

unfoldable pub plain_look : List ℕ → Session → ℕ → ℕ → List ℕ
plain_look image s i g = shown (plain_look_answer image s i g) (entry_at s.table i) g image

unfoldable pub buffered_look_answer : List ℕ → BufferedSession → ℕ → ℕ → Answer
buffered_look_answer image s i g = buffered_answer image s i (GranuleLook g) [] 0

unfoldable pub buffered_look : List ℕ → BufferedSession → ℕ → ℕ → List ℕ
buffered_look image s i g = shown (buffered_look_answer image s i g) (entry_at s.table i) g image
