-- What the calls of the RAD Editor hand back, and the library's version. Definitions only.
use Rattle.std.specs.Prelude.{◌≡◌, List, ℕ, ◌+◌, ◌*◌}
use Rattle.requests.specs.Numbers.{number_of}
use Rattle.steps.specs.Edit.{Edited}

-- what a call of the RAD Editor hands back of an edit: its answer as a number, and what it leaves in the image and the session's bytes
abbrev pub Edits : Edited (List ℕ) → ℕ → List ℕ → List ℕ → Type 0
Edits w n image session = (n ≡ number_of w.answer) × (image ≡ w.image) × (session ≡ w.session)

-- 3.1.0, as one number
unfoldable pub version : ℕ
version = 10000 * 3 + 100 * 1 + 0
