-- A granule that is written reads back and is shown, and no other granule changes: of every faithful engine, since it is so of the rows.
use mathlib.Core.Path.{◌≡◌, refl, sym, ap, subst, ◌∙◌}
use mathlib.Core.Bool.{true, false}
use mathlib.Core.List.{List, [], ◌∷◌, ◌++◌}
use Prim.Native.Nat.{ℕ, ◌+◌, ◌≤◌, ◌<◌}
use native.Mathlib.Omega.{arith}
use lib.Dec.{eqb}
use lib.ListN.{length, drop, set}
use lib.Seq.{get_or-set_same, get_or-set_other}
use borrow.Author.Tests.{eqb-true, lt-leb, le-ltb}
use Rattle.geometry.specs.Bytes.{lay, padded}
use Rattle.geometry.specs.Places.{capacity}
use Rattle.geometry.specs.Sizes.{free, random}
use Rattle.geometry.proofs.Bytes.{lay-fits, length-padded}
use Rattle.requests.specs.Judge.{judge, tests, first_of, or_else, whether}
use Rattle.requests.proofs.Done.{WritesGranule, done-allows}
use Rattle.mounting.specs.Mounting.{mounts}
use Rattle.tapes.specs.Row.{Row, row_facts, row_done, row_next, row_holding, granule}
use Rattle.tapes.specs.Model.{Model, row, Asked, model_at, models_of, model_facts, model_next, model_granule, model_into, model_shown, model_answer, model_step, open_models, if_done}
use Rattle.tapes.specs.Runs.{Asking, of_file, step_in, model_run}
use Rattle.tapes.proofs.Within.{Within, image-within, run-within}
use Rattle.serving.proofs.Step.{asked}
use Rattle.demands.specs.Engine.{Engine, Standing, if_look, answered, run, heard, mounted, models_then, are_bytes, in_bytes}
use Rattle.demands.specs.Demand2.{Faithful, GranuleBack, granule_writing, granule_reading}
use Rattle.demands.proofs.Answers.{run-append, step-at, bytes_one, no_bytes, same_answer, same-buffer, same-shown}
use Rattle.requests.specs.declared.Answer.{Answer}
use Rattle.requests.specs.declared.Answer.TheVariants.{Done}
use Rattle.requests.specs.declared.Facts.{Facts}
use Rattle.requests.specs.declared.Request.{Request}
use Rattle.requests.specs.declared.Request.TheVariants.{GranuleRead, GranuleWrite, GranuleLook}

-- n bytes laid at the front of a buffer
pub lay-front : (n : ℕ) (buffer xs : List ℕ) → length xs ≡ n → n ≤ length buffer → lay buffer 0 xs ≡ xs ++ drop n buffer
lay-front n buffer xs e l =
    let z : 0 + length xs ≡ n = omega arith in
    lay-fits buffer 0 xs (omega arith) ∙ ap (λ (k : ℕ). xs ++ drop k buffer) z

-- ---- one request on a row

module _ (ms : List Model) (i : ℕ) (w : Row) (e : model_at ms i ≡ row w) where
  module _ (q : Request) (given buffer : List ℕ) where
    row-answer : model_answer ms (asked i q given buffer) ≡ judge q (row_facts (open_models ms) given (length buffer) w)
    unfolding model_answer model_facts
    row-answer = rw e

    row_step : judge q (row_facts (open_models ms) given (length buffer) w) ≡ Done → model_at (model_step ms (asked i q given buffer)) i ≡ row (row_done q given w)
    unfolding model_next row_next
    row_step d = step-at ms (asked i q given buffer) Done (row-answer ∙ d) ∙ rw e

-- ---- the requests behind the write

module _ (f : Facts) (legal : f.legal ≡ true) (used : eqb f.kind free ≡ false) (opened : f.opened ≡ true) (is_random : eqb f.kind random ≡ true)
    (g : ℕ) (room : g < capacity f.kind f.length f.sectors) where
  finds : judge (GranuleLook g) f ≡ Done
  unfolding judge tests first_of or_else whether
  finds = rw (legal, used, opened, is_random, lt-leb (capacity f.kind f.length f.sectors) g room)

  reads : f.length ≤ f.buffer → judge (GranuleRead g) f ≡ Done
  unfolding judge tests first_of or_else whether
  reads h = rw (legal, used, opened, is_random, le-ltb f.buffer f.length h, lt-leb (capacity f.kind f.length f.sectors) g room)

-- how many files are open is nothing to a granule's request, nor what its granules are
same_read : (w : Row) (n m : ℕ) (gs : List (List ℕ)) (h size : ℕ) → w.is_open ≡ true
    → judge (GranuleRead h) (row_facts n [] size (row_holding w true gs)) ≡ judge (GranuleRead h) (row_facts m [] size w)
unfolding judge tests first_of or_else whether row_facts
same_read w n m gs h size o = rw o

same-look : (w : Row) (n m : ℕ) (gs : List (List ℕ)) (h : ℕ) → w.is_open ≡ true
    → judge (GranuleLook h) (row_facts n [] 0 (row_holding w true gs)) ≡ judge (GranuleLook h) (row_facts m [] 0 w)
unfolding judge tests first_of or_else whether row_facts
same-look w n m gs h o = rw o

module _ (E : Engine) (faithful : Faithful E) (image : List ℕ) (ok : mounts image ≡ true) (before : List Asking) (i g : ℕ) (w : Row) (fit : in_bytes image before ≡ true)
    (here : model_at (models_then E image before) i ≡ row w) (given : List ℕ) (bytes : are_bytes given ≡ true)
    (done : (answered E (run E (mounted E image) before) (granule_writing i g given)).answer ≡ Done) where
  abbrev ms : List Model
  ms = models_then E image before

  abbrev R : ℕ
  R = w.shape.record_length

  written : in_bytes image (before ++ (of_file (granule_writing i g given) ∷ [])) ≡ true
  written = bytes_one image before (granule_writing i g given) fit bytes

  judged : judge (GranuleWrite g) (row_facts (open_models ms) given 0 w) ≡ Done
  judged = sym (row-answer ms i w here (GranuleWrite g) given []) ∙ sym (same_answer E faithful image ok before (granule_writing i g given) written) ∙ done

  allowed : WritesGranule g (row_facts (open_models ms) given 0 w)
  allowed = done-allows (GranuleWrite g) _ judged

  opened : w.is_open ≡ true
  unfolding row_facts
  opened = allowed.finds.live.opened

  used : eqb w.shape.kind free ≡ false
  unfolding row_facts
  used = allowed.finds.live.used

  is_random : eqb w.shape.kind random ≡ true
  unfolding row_facts
  is_random = allowed.finds.random

  room : g < capacity w.shape.kind R w.shape.sectors
  unfolding row_facts
  room = allowed.finds.there

  short : length given ≤ R
  unfolding row_facts
  short = allowed.short

  many : length w.granules ≡ capacity random R w.shape.sectors
  unfolding models_then
  many = subst Within here (run-within (heard E (mounted E image) before) (models_of image) (image-within image) i)

  inside : g < length w.granules
  inside =
      let k : w.shape.kind ≡ random = eqb-true w.shape.kind random is_random in
      let c : capacity w.shape.kind R w.shape.sectors ≡ capacity random R w.shape.sectors = ap (λ (n : ℕ). capacity n R w.shape.sectors) k in
      omega (arith, room, many)

  -- behind the write
  abbrev gs : List (List ℕ)
  gs = set w.granules g (padded 0 R given)

  abbrev w' : Row
  w' = row_holding w true gs

  abbrev after : List Asking
  after = before ++ (of_file (granule_writing i g given) ∷ [])

  abbrev ms' : List Model
  ms' = models_then E image after

  here' : model_at ms' i ≡ row w'
  unfolding model_run row_done models_then heard step_in
  here' =
      ap (λ (x : List Model). model_at x i) (run-append E before (of_file (granule_writing i g given) ∷ []) (mounted E image) (models_of image))
      ∙ row_step ms i w here (GranuleWrite g) given [] judged

  abbrev v : Standing E.Session
  v = run E (mounted E image) before

  abbrev v' : Standing E.Session
  v' = run E (mounted E image) after

  read-bytes : (asked : List Asking) → in_bytes image asked ≡ true → (h : ℕ) (buffer : List ℕ) → in_bytes image (asked ++ (of_file (granule_reading i h buffer) ∷ [])) ≡ true
  read-bytes asked t h buffer = bytes_one image asked (granule_reading i h buffer) t (no_bytes)

  abbrev looking : ℕ → Asked
  looking h = record { entry = i; request = GranuleLook h; given = []; buffer = [] }

  look_bytes : (asked : List Asking) → in_bytes image asked ≡ true → (h : ℕ) → in_bytes image (asked ++ (of_file (looking h) ∷ [])) ≡ true
  look_bytes asked t h = bytes_one image asked (looking h) t (no_bytes)

  -- what a read answers and gives, and what a look shows, before and behind
  answer-before : (h : ℕ) (buffer : List ℕ) → (answered E v (granule_reading i h buffer)).answer ≡ judge (GranuleRead h) (row_facts (open_models ms) [] (length buffer) w)
  answer-before h buffer = same_answer E faithful image ok before (granule_reading i h buffer) (read-bytes before fit h buffer) ∙ row-answer ms i w here (GranuleRead h) [] buffer

  answer-behind : (h : ℕ) (buffer : List ℕ) → (answered E v' (granule_reading i h buffer)).answer ≡ judge (GranuleRead h) (row_facts (open_models ms') [] (length buffer) w')
  answer-behind h buffer = same_answer E faithful image ok after (granule_reading i h buffer) (read-bytes after written h buffer) ∙ row-answer ms' i w' here' (GranuleRead h) [] buffer

  buffer-before : (h : ℕ) (buffer : List ℕ) → (answered E v (granule_reading i h buffer)).buffer
      ≡ lay buffer 0 (if_done (judge (GranuleRead h) (row_facts (open_models ms) [] (length buffer) w)) (granule w h))
  unfolding model_into model_granule
  buffer-before h buffer =
      same-buffer E faithful image ok before (granule_reading i h buffer) (read-bytes before fit h buffer)
      ∙ rw (row-answer ms i w here (GranuleRead h) [] buffer, here)

  buffer-behind : (h : ℕ) (buffer : List ℕ) → (answered E v' (granule_reading i h buffer)).buffer
      ≡ lay buffer 0 (if_done (judge (GranuleRead h) (row_facts (open_models ms') [] (length buffer) w')) (granule w' h))
  unfolding model_into model_granule
  buffer-behind h buffer =
      same-buffer E faithful image ok after (granule_reading i h buffer) (read-bytes after written h buffer)
      ∙ rw (row-answer ms' i w' here' (GranuleRead h) [] buffer, here')

  shown-before : (h : ℕ) → E.look v.image v.session i h ≡ if_done (judge (GranuleLook h) (row_facts (open_models ms) [] 0 w)) (granule w h)
  unfolding if_look model_shown model_granule
  shown-before h =
      same-shown E faithful image ok before (looking h) (look_bytes before fit h) ∙ rw (row-answer ms i w here (GranuleLook h) [] [], here)

  shown-behind : (h : ℕ) → E.look v'.image v'.session i h ≡ if_done (judge (GranuleLook h) (row_facts (open_models ms') [] 0 w')) (granule w' h)
  unfolding if_look model_shown model_granule
  shown-behind h =
      same-shown E faithful image ok after (looking h) (look_bytes after written h) ∙ rw (row-answer ms' i w' here' (GranuleLook h) [] [], here')

  -- the granules behind the write
  granule-new : granule w' g ≡ padded 0 R given
  unfolding granule
  granule-new = get_or-set_same w.granules g (padded 0 R given) [] inside

  granule-old : (h : ℕ) → ¬ (h ≡ g) → granule w' h ≡ granule w h
  unfolding granule
  granule-old h n = get_or-set_other w.granules g h (padded 0 R given) [] n

  read_done : (buffer : List ℕ) → R ≤ length buffer → judge (GranuleRead g) (row_facts (open_models ms') [] (length buffer) w') ≡ Done
  unfolding row_facts
  read_done buffer size = reads _ refl used refl is_random g room (omega arith)

  look-done : judge (GranuleLook g) (row_facts (open_models ms') [] 0 w') ≡ Done
  unfolding row_facts
  look-done = finds _ refl used refl is_random g room

  pub granule-back : GranuleBack E v v' i g R given
  unfolding if_done
  granule-back = record {
    reads = λ buffer size. (
      answer-behind g buffer ∙ read_done buffer size,
      buffer-behind g buffer ∙ rw (read_done buffer size, granule-new) (lay-front R buffer (padded 0 R given) (length-padded 0 R given short) size),
    );
    shows = shown-behind g ∙ rw (look-done, granule-new);
    others = λ h n buffer. (
      answer-behind h buffer ∙ same_read w (open_models ms') (open_models ms) gs h (length buffer) opened ∙ sym (answer-before h buffer),
      buffer-behind h buffer
          ∙ ap (λ (a : Answer). lay buffer 0 (if_done a (granule w' h))) (same_read w (open_models ms') (open_models ms) gs h (length buffer) opened)
          ∙ ap (λ (x : List ℕ). lay buffer 0 (if_done (judge (GranuleRead h) (row_facts (open_models ms) [] (length buffer) w)) x)) (granule-old h n)
          ∙ sym (buffer-before h buffer),
      shown-behind h
          ∙ ap (λ (a : Answer). if_done a (granule w' h)) (same-look w (open_models ms') (open_models ms) gs h opened)
          ∙ ap (λ (x : List ℕ). if_done (judge (GranuleLook h) (row_facts (open_models ms) [] 0 w)) x) (granule-old h n)
          ∙ sym (shown-before h),
    );
  }
