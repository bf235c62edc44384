-- A request on a session that stands in lent bytes, for both engines at once. Definitions only.
use Rattle.std.specs.Prelude.{Bool, true, false, List, ℕ}
use Rattle.steps.specs.Step.{After}
use Rattle.requests.specs.declared.Answer.{Answer}

abbrev pub after_in : Answer → List ℕ → List ℕ → List ℕ → After (List ℕ)
after_in a image session buffer = record { answer = a; image = image; session = session; buffer = buffer }

-- what a step comes to there: `told` says whether the bytes are a session, `stored` how one is stored. The bytes behind the request are those of the next
-- session; bytes that are no session stay as they are
unfoldable pub lent_after : {S : Type 0} → Bool → (S → List ℕ) → List ℕ → After S → After (List ℕ)
lent_after told stored session w =
    after_in w.answer w.image (elim told [ true ↦ stored w.session | false ↦ session ]) w.buffer
