-- A request on a session that stands in lent bytes, in the engine that their number tells. Definitions only.
use Rattle.std.specs.Prelude.{true, false, List, ℕ}
use Rattle.steps.specs.Step.{After, plain_step, buffered_step}
use Rattle.storing.specs.Stored.{has_buffers, is_session, session_in, stored, plain_in, plain_stored}
use Rattle.judging.specs.Lent.{lent_after}
use Rattle.requests.specs.declared.Request.{Request}

-- as many bytes as a session with buffers takes: the engine with buffers; any others: the engine with none, for which bytes that are no session are one that is
-- not legal
unfoldable pub requested : List ℕ → List ℕ → ℕ → Request → List ℕ → List ℕ → After (List ℕ)
requested image session i q given buffer = elim (has_buffers session) [
  | true ↦ lent_after (is_session true session) (stored true) session (buffered_step image (session_in true session) i q given buffer)
  | false ↦ lent_after (is_session false session) plain_stored session (plain_step image (plain_in session) i q given buffer)
]
