-- A call on a session in lent bytes, behind any run from a mounting, answers and moves bytes as the file's tape or row does: it is a request to the engine that
-- the number of the bytes says, which stays the same in a run, and that engine is faithful.
use mathlib.Core.Path.{◌≡◌, ap, ◌∙◌}
use mathlib.Core.Bool.{Bool, true}
use mathlib.Core.List.{List, [], ◌∷◌, ◌++◌}
use Prim.Native.Nat.{ℕ}
use lib.ListN.{length}
use Rattle.geometry.specs.Bytes.{lay}
use Rattle.geometry.specs.Lists.{every}
use Rattle.mounting.specs.Mounting.{mounts}
use Rattle.requests.specs.Judge.{judge}
use Rattle.storing.specs.Stored.{has_buffers}
use Rattle.storing.proofs.Read.{told-by-size, session-size}
use Rattle.engines.specs.Engines.{requested}
use Rattle.tapes.specs.Model.{Model, models_of, model_at, Asked, model_facts, model_next, model_into, model_answer, open_models, if_done}
use Rattle.tapes.specs.Runs.{Asking, of_file, step_in, model_run}
use Rattle.demands.specs.Engine.{Engine, Standing, answered, step_of, next, run, heard, mounted, models_then, are_bytes, give_bytes, in_bytes}
use Rattle.demands.proofs.Answers.{run_more, run-append, step-at, bytes-image, bytes-given, bytes_one, no_bytes, same_answer, same-buffer}
use Rattle.callers.specs.Lent.{lent_engine}
use Rattle.callers.proofs.Called.{called}
use Rattle.callers.proofs.Demands.{lent-faithful}
use Rattle.callers.proofs.Kept.{starts}
use Rattle.callers.proofs.Runs.{next-bytes, next-size, first_gives, rest_gives}
use Rattle.requests.specs.declared.Answer.{Answer}
use Rattle.requests.specs.declared.Request.{Request}

-- nothing is given to a request that opens or reads
abbrev pub ask : ℕ → Request → List ℕ → Asked
ask i q buffer = record { entry = i; request = q; given = []; buffer = buffer }

-- one more at the end of a run
abbrev pub more : List Asking → ℕ → Request → List ℕ → List Asking
more asked i q buffer = asked ++ (of_file (ask i q buffer) ∷ [])

-- nothing is asked yet
pub nothing-asked : (image : List ℕ) → are_bytes image ≡ true → in_bytes image [] ≡ true
unfolding in_bytes every
nothing-asked image bytes = rw bytes

module _ (u : Bool) where
  abbrev E : Engine
  E = lent_engine u

  asked_is : (w : Standing (List ℕ)) (i : ℕ) (q : Request) (buffer : List ℕ) → has_buffers w.session ≡ u
      → requested w.image w.session i q [] buffer ≡ answered E w (ask i q buffer)
  unfolding answered
  asked_is w i q buffer t =
      called.in_rattle w.image w.session i q [] buffer ∙ ap (λ (v : Bool). (lent_engine v).request w.image w.session i q [] buffer) t

  -- a run keeps the number of the session's bytes
  run-told : (asked : List Asking) (w : Standing (List ℕ)) → give_bytes asked ≡ true → are_bytes w.image ≡ true → has_buffers w.session ≡ u
      → has_buffers (run E w asked).session ≡ u
  unfolding run
  run-told [] w h bytes t = t
  run-told (a ∷ rest) w h bytes t =
      let g = first_gives u a rest h in
      run-told rest (next E w a) (rest_gives u a rest h) (next-bytes u w bytes a g) (next-size u w bytes a g t)

  pub start-told : (image : List ℕ) → has_buffers (E.mount image).session ≡ u
  start-told image = told-by-size u _ (session-size u _ (starts u image).0)

  -- where a run from a mounting ends
  abbrev pub then : List ℕ → List Asking → Standing (List ℕ)
  then image asked = run E (mounted E image) asked

  module _ (image : List ℕ) (asked : List Asking) (fit : in_bytes image asked ≡ true) where
    then-told : has_buffers (then image asked).session ≡ u
    unfolding mounted
    then-told = run-told asked (mounted E image) (bytes-given image asked fit) (bytes-image image asked fit) (start-told image)

    module _ (i : ℕ) (q : Request) (buffer : List ℕ) where
      abbrev w : Standing (List ℕ)
      w = then image asked

      pub more-fit : in_bytes image (more asked i q buffer) ≡ true
      more-fit = bytes_one image asked (ask i q buffer) fit no_bytes

      pub call-is : requested w.image w.session i q [] buffer ≡ answered E w (ask i q buffer)
      call-is = asked_is w i q buffer then-told

      pub more-is : then image (more asked i q buffer) ≡ step_of E w (ask i q buffer)
      unfolding run next
      more-is = run_more E asked (of_file (ask i q buffer) ∷ []) (mounted E image)

      module _ (ok : mounts image ≡ true) (m : Model) (here : model_at (models_then E image asked) i ≡ m) where
        abbrev ms : List Model
        ms = models_then E image asked

        abbrev verdict : Answer
        verdict = judge q (model_facts (open_models ms) [] (length buffer) m)

        model-answers : model_answer ms (ask i q buffer) ≡ verdict
        unfolding model_answer
        model-answers = rw here

        pub answers : (answered E w (ask i q buffer)).answer ≡ verdict
        answers = same_answer E (lent-faithful u) image ok asked (ask i q buffer) more-fit ∙ model-answers

        pub gives : (answered E w (ask i q buffer)).buffer ≡ lay buffer 0 (if_done verdict (model_into q m))
        gives = same-buffer E (lent-faithful u) image ok asked (ask i q buffer) more-fit ∙ rw (model-answers, here)

        pub more-here : model_at (models_then E image (more asked i q buffer)) i ≡ model_next q verdict [] m
        unfolding models_then model_run heard step_in
        more-here =
            ap (λ (x : List Model). model_at x i) (run-append E asked (of_file (ask i q buffer) ∷ []) (mounted E image) (models_of image))
            ∙ step-at ms (ask i q buffer) verdict model-answers
            ∙ ap (model_next q verdict []) here
