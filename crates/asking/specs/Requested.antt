-- A request by its code, on a session in lent bytes: what it answers, as a number, and what it leaves in what was lent. Definitions only.
use Rattle.std.specs.Prelude.{List, ℕ, Option, Some, None}
use Rattle.requests.specs.Numbers.{number_of}
use Rattle.requests.specs.declared.Request.{Request}
use Rattle.steps.specs.Step.{After}
use Rattle.looking.specs.Looking.{look_answer_in}
use Rattle.engines.specs.Engines as Engines
use Rattle.numbering.specs.Codes.{unknown_number}

-- what a request answers, and what it leaves in the image, the session's bytes and the caller's buffer
pub record Left : Type 0 where
  pub number : ℕ
  pub image : List ℕ
  pub session : List ℕ
  pub buffer : List ℕ

abbrev pub left : ℕ → List ℕ → List ℕ → List ℕ → Left
left n image session buffer = record { number = n; image = image; session = session; buffer = buffer }

-- a request, with its answer as a number; a code that names none changes nothing
unfoldable pub requested : List ℕ → List ℕ → ℕ → Option Request → List ℕ → List ℕ → Left
requested image b i (Some q) given buffer =
    let w : After (List ℕ) = Engines.requested image b i q given buffer in
    left (number_of w.answer) w.image w.session w.buffer
requested image b i None given buffer = left (unknown_number (look_answer_in image b i 0)) image b buffer
