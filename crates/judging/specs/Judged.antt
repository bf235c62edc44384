-- What is judged of a request on a session in lent bytes, by what is seen of its entry. Definitions only.
use Rattle.std.specs.Prelude.{List, ℕ, length}
use Rattle.sessions.specs.Session.{extent}
use Rattle.steps.specs.Next.{Scene}
use Rattle.steps.specs.Verdict.{seen_bytes, buffer_next, answer_of, verdict_of}
use Rattle.straight.specs.Straight.{code_given}
use Rattle.judging.specs.Turns.{scene_of}
use Rattle.requests.specs.declared.Request.{Request}
use Rattle.storing.specs.Stored.{lent_session}
use Rattle.finding.specs.Lent.{lent_by, own_state, seen_in}
use Rattle.finding.specs.declared.Seen.{Seen}
use Rattle.judging.specs.declared.Judged.{Judged}

-- the held sector of its file, if there is one, is lent as over
module _ (image : List ℕ) (x : Seen) (over : List ℕ) (i : ℕ) (q : Request) (given : List ℕ) where
  abbrev pub scene_seen : Scene
  scene_seen = scene_of i x.entry x.file (seen_bytes x.entry x.file (extent x.entry image) x.hold.held over) given

  -- the verdict where the buffer to be read into has n bytes, with what was seen, and the length of the code of the bytes given
  unfoldable pub judged_by : ℕ → Judged
  judged_by n = record {
    verdict = verdict_of x.lawful x.opened n (length (code_given x.entry given)) q scene_seen;
    seen = x;
    size = length (code_given x.entry given);
  }

  -- what is then in that buffer
  unfoldable pub buffer_by : List ℕ → List ℕ
  buffer_by old = buffer_next (answer_of x.lawful x.opened (length old) (length (code_given x.entry given)) q scene_seen) q scene_seen old

-- on entry i of the session that lent bytes are
abbrev pub judged_in : List ℕ → List ℕ → ℕ → Request → List ℕ → ℕ → Judged
judged_in image b i q given n = judged_by image (seen_in image b i) (lent_by (own_state (lent_session b) i)) i q given n

abbrev pub buffer_in : List ℕ → List ℕ → ℕ → Request → List ℕ → List ℕ → List ℕ
buffer_in image b i q given old = buffer_by image (seen_in image b i) (lent_by (own_state (lent_session b) i)) i q given old
