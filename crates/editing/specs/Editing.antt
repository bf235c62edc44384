-- Document 02, item 1: an edit on a session that stands in lent bytes, in the engine that their number tells. Definitions only.
use Rattle.std.specs.Prelude.{◌≡◌, Bool, true, false, List, ℕ, Result, Ok, Err, get_or}
use Rattle.steps.specs.Edit.{Edited, plain_edit, buffered_edit}
use Rattle.storing.specs.Stored.{has_buffers, is_session, session_in, stored, plain_in, plain_stored}
use Rattle.requests.specs.declared.Answer.{Answer}
use Rattle.requests.specs.declared.Answer.TheVariants.{Done, Refused}
use Rattle.requests.specs.declared.Edit.{Edit}
use Rattle.requests.specs.declared.Refusal.{Refusal}

-- what an edit comes to there: `is_one` says whether the bytes are a session, `stored` how one is stored. The bytes behind the edit are those of the edited
-- session; bytes that are no session stay as they are
unfoldable pub lent_edited : {S : Type 0} → Bool → (S → List ℕ) → List ℕ → Edited S → Edited (List ℕ)
lent_edited is_one stored session w = record {
  answer = w.answer;
  told = w.told;
  image = w.image;
  session = elim is_one [ true ↦ stored w.session | false ↦ session ];
}

-- as many bytes as a session with buffers takes: the engine with buffers; any others: the engine with none
unfoldable pub edited_in : List ℕ → List ℕ → ℕ → Edit → List ℕ → Edited (List ℕ)
edited_in image session i x name = elim (has_buffers session) [
  | true ↦ lent_edited (is_session true session) (stored true) session (buffered_edit image (session_in true session) i x name)
  | false ↦ lent_edited (is_session false session) plain_stored session (plain_edit image (plain_in session) i x name)
]

-- what a call hands back of an edit: its answer, the image, the bytes of the session, and the number that is told, or what stood in its place before
abbrev pub Handed : Edited (List ℕ) → Answer → List ℕ → List ℕ → ℕ → ℕ → Type 0
Handed w answer image session before at = (answer ≡ w.answer) × (image ≡ w.image) × (session ≡ w.session) × (at ≡ get_or w.told 0 before)

-- the same of an addition, which ends in the number that is told, and of a deletion, or in why not
abbrev pub Added : Edited (List ℕ) → Result ℕ Refusal → List ℕ → List ℕ → Type 0
Added w (Ok n) image session = (before : ℕ) → Handed w Done image session before n
Added w (Err y) image session = (before : ℕ) → Handed w (Refused y) image session before before

abbrev pub Deleted : {A : Type 0} → Edited (List ℕ) → Result A Refusal → List ℕ → List ℕ → Type 0
Deleted w (Ok x) image session = (before : ℕ) → Handed w Done image session before before
Deleted w (Err y) image session = (before : ℕ) → Handed w (Refused y) image session before before
