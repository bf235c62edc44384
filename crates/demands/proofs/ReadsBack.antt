-- What is written reads back, and a lawful write is refused for want of room alone: of every faithful engine, since it is so of the tapes.
use mathlib.Core.Path.{◌≡◌, refl, sym, ap, subst, ◌∙◌}
use mathlib.Core.Bool.{Bool, true, false, ◌||◌}
use mathlib.Core.List.{List, [], ◌∷◌, ◌++◌, map}
use Prim.Native.Nat.{ℕ, zero, suc, ◌+◌, ◌≤◌, ◌<◌}
use native.Mathlib.Omega.{arith}
use lib.Dec.{eqb, leb}
use lib.ListN.{length, take, drop, replicate, length-append}
use lib.Seq.{length-take-le, get_or_at}
use borrow.Author.Tests.{lt-leb, le-ltb}
use Rattle.geometry.specs.Bytes.{padded}
use Rattle.geometry.specs.Lists.{every}
use Rattle.geometry.specs.Sizes.{free, random, most_records}
use Rattle.geometry.proofs.Bytes.{length-padded}
use Rattle.geometry.proofs.Tests.{both_ways, and_left, and_right, and_both, every-replicate}
use Rattle.requests.specs.Judge.{Test, no_room, is_full, judge, tests, first_of, or_else, whether}
use Rattle.requests.proofs.Done.{Writes, done-allows}
use Rattle.mounting.specs.Mounting.{mounts}
use Rattle.tapes.specs.Tape.{Tape, pad_byte, tape_facts, tape_done, tape_next, tape_record, new_record}
use Rattle.tapes.specs.Model.{Model, tape, Asked, model_at, models_of, model_facts, model_next, model_record, model_into, model_answer, model_step, open_models, if_done}
use Rattle.tapes.specs.Runs.{Asking, of_file, model_run}
use Rattle.tapes.proofs.Within.{Within, image-within, run-within}
use Rattle.packing.specs.Reading.{Recorded}
use Rattle.serving.proofs.Step.{asked}
use Rattle.demands.specs.Engine.{Engine, answered, run, heard, mounted, models_then, are_bytes, gives_bytes, give_bytes, in_bytes}
use Rattle.demands.specs.Demand2.{Faithful, ReadsBack, RoomAlone, checks_before3, writing, skipping, asking}
use Rattle.demands.proofs.Answers.{run-append, files_run, files-heard, file-bytes, step-at, bytes-more, bytes_one, no_bytes, same_answer, same-buffer}
use Rattle.demands.proofs.Granules.{lay-front, granule-back}
use Rattle.requests.specs.declared.Answer.{Answer}
use Rattle.requests.specs.declared.Answer.TheVariants.{Done, Met, Refused}
use Rattle.requests.specs.declared.Facts.{Facts}
use Rattle.requests.specs.declared.Refusal.TheVariants.{NoRoom}
use Rattle.requests.specs.declared.Order.TheVariants.{RewindOnline, RecordForward}
use Rattle.requests.specs.declared.Request.{Request}
use Rattle.requests.specs.declared.Request.TheVariants.{Read, Write, Position}

-- ---- one request on a tape

module _ (ms : List Model) (i : ℕ) (t : Tape) (e : model_at ms i ≡ tape t) where
  module _ (q : Request) (given buffer : List ℕ) where
    tape-answer : model_answer ms (asked i q given buffer) ≡ judge q (tape_facts (open_models ms) given (length buffer) t)
    unfolding model_answer model_facts
    tape-answer = rw e

    tape-step : judge q (tape_facts (open_models ms) given (length buffer) t) ≡ Done → model_at (model_step ms (asked i q given buffer)) i ≡ tape (tape_done q given t)
    unfolding model_next tape_next
    tape-step d = step-at ms (asked i q given buffer) Done (tape-answer ∙ d) ∙ rw e

-- ---- the requests that read a record back are done

module _ (f : Facts) (legal : f.legal ≡ true) (used : eqb f.kind free ≡ false) (opened : f.opened ≡ true) (sequential : eqb f.kind random ≡ false) where
  rewinds : judge (Position RewindOnline) f ≡ Done
  unfolding judge tests first_of or_else whether
  rewinds = rw (legal, used, opened, sequential)

  module _ (before : f.beyond ≡ false) (good : f.bad ≡ false) (ahead : f.position < f.count) where
    skips : judge (Position RecordForward) f ≡ Done
    unfolding judge tests first_of or_else whether
    skips = rw (legal, used, opened, sequential, before, good, lt-leb f.count f.position ahead)

    pub reads : f.length ≤ f.buffer → judge Read f ≡ Done
    unfolding judge tests first_of or_else whether
    reads h = rw (legal, used, opened, sequential, before, le-ltb f.buffer f.length h, good, lt-leb f.count f.position ahead)

-- ---- a record written at p, and read back

abbrev rewind : ℕ → Asked
rewind i = asked i (Position RewindOnline) [] []

abbrev forward : ℕ → Asked
forward i = asked i (Position RecordForward) [] []

module _ (i : ℕ) (t : Tape) (given : List ℕ) (standing : t.position ≤ length t.records) (used : eqb t.shape.kind free ≡ false)
    (sequential : eqb t.shape.kind random ≡ false) where
  -- the first p records and the new one
  abbrev rs : List Recorded
  rs = take t.position t.records ++ (new_record given t ∷ [])

  length-rs : length rs ≡ t.position + 1
  length-rs = length-append (take t.position t.records) _ ∙ ap (λ (n : ℕ). n + 1) (length-take-le t.position t.records standing)

  -- the tape that has them, at record k
  abbrev at : ℕ → Tape
  at k = record { shape = t.shape; is_open = true; records = rs; position = k; marked = false; beyond = false }

  goes-forward : (ms : List Model) (k : ℕ) → model_at ms i ≡ tape (at k) → k < t.position + 1 → model_at (model_step ms (forward i)) i ≡ tape (at (k + 1))
  unfolding tape_done tape_facts
  goes-forward ms k e h =
      tape-step ms i (at k) e (Position RecordForward) [] [] (skips _ refl used refl sequential refl refl (omega (arith, length-rs)))

  goes-far : (n : ℕ) (ms : List Model) (k : ℕ) → model_at ms i ≡ tape (at k) → k + n ≤ t.position → model_at (files_run ms (replicate n (forward i))) i ≡ tape (at (k + n))
  unfolding files_run
  goes-far zero ms k e h = let z : k ≡ k + 0 = omega arith in e ∙ ap (λ (m : ℕ). tape (at m)) z
  goes-far (suc n) ms k e h =
      let z : k + 1 + n ≡ k + suc n = omega arith in
      goes-far n (model_step ms (forward i)) (k + 1) (goes-forward ms k e (omega arith)) (omega arith) ∙ ap (λ (m : ℕ). tape (at m)) z

  module _ (ms : List Model) (here : model_at ms i ≡ tape t) (done : model_answer ms (writing i given) ≡ Done) where
    -- behind the write, the rewinding and the skips
    abbrev then : List Model
    then = files_run ms (writing i given ∷ skipping i t.position)

    then_at : model_at then i ≡ tape (at t.position)
    unfolding files_run tape_done tape_facts
    then_at =
        let z : 0 + t.position ≡ t.position = omega arith in
        let w : model_at (model_step ms (writing i given)) i ≡ tape (tape_done Write given t) = tape-step ms i t here Write given [] (sym (tape-answer ms i t here Write given []) ∙ done) in
        let r : model_at (model_step (model_step ms (writing i given)) (rewind i)) i ≡ tape (at 0) =
        tape-step (model_step ms (writing i given)) i (tape_done Write given t) w (Position RewindOnline) [] [] (rewinds _ refl used refl sequential) in
        goes-far t.position _ 0 r (omega arith) ∙ ap (λ (m : ℕ). tape (at m)) z

    module _ (buffer : List ℕ) (size : t.shape.record_length ≤ length buffer) where
      back-answer : model_answer then (asking i [] buffer) ≡ Done
      unfolding tape_facts
      back-answer =
          tape-answer then i (at t.position) then_at Read [] buffer
          ∙ reads _ refl used refl sequential refl refl (omega (arith, length-rs)) (omega arith)

      back-record : model_into Read (model_at then i) ≡ padded (pad_byte t.shape.kind) t.shape.record_length given
      unfolding model_into model_record tape_record new_record
      back-record =
          rw then_at
          (ap (λ (r : Recorded). r.bytes) (get_or_at (take t.position t.records) (new_record given t) [] _ t.position (length-take-le t.position t.records standing)))

module _ (E : Engine) (faithful : Faithful E) (image : List ℕ) (ok : mounts image ≡ true) (before : List Asking) (i : ℕ) (t : Tape) (fit : in_bytes image before ≡ true)
    (here : model_at (models_then E image before) i ≡ tape t) (given : List ℕ) (bytes : are_bytes given ≡ true) where
  abbrev ms : List Model
  ms = models_then E image before

  module _ (buffer : List ℕ) (size : t.shape.record_length ≤ length buffer) (done : (answered E (run E (mounted E image) before) (writing i given)).answer ≡ Done) where
    wrote : model_answer ms (writing i given) ≡ Done
    wrote = sym (same_answer E faithful image ok before (writing i given) (bytes_one image before (writing i given) fit bytes)) ∙ done

    allowed : Writes (tape_facts (open_models ms) given 0 t)
    allowed = done-allows Write _ (sym (tape-answer ms i t here Write given []) ∙ wrote)

    standing : t.position ≤ length t.records
    unfolding models_then
    standing = subst Within here (run-within (heard E (mounted E image) before) (models_of image) (image-within image) i)

    used : eqb t.shape.kind free ≡ false
    unfolding tape_facts
    used = allowed.marks.running.live.used

    sequential : eqb t.shape.kind random ≡ false
    unfolding tape_facts
    sequential = allowed.marks.running.sequential

    short : length given ≤ t.shape.record_length
    unfolding tape_facts
    short = allowed.short

    abbrev all : List Asking
    all = before ++ map of_file (writing i given ∷ skipping i t.position)

    skips-bytes : give_bytes (map of_file (writing i given ∷ skipping i t.position)) ≡ true
    unfolding every gives_bytes
    skips-bytes =
        and_both (are_bytes given) _ bytes (and_both (are_bytes []) _ no_bytes (file-bytes (replicate t.position (forward i)) (every-replicate (λ (a : Asked). are_bytes a.given) t.position _ no_bytes)))

    -- the model behind them
    all-run : models_then E image all ≡ files_run ms (writing i given ∷ skipping i t.position)
    unfolding models_then
    all-run =
        run-append E before (map of_file (writing i given ∷ skipping i t.position)) (mounted E image) (models_of image)
        ∙ files-heard E (writing i given ∷ skipping i t.position) (run E (mounted E image) before) (model_run (models_of image) (heard E (mounted E image) before))

    all-bytes : in_bytes image (all ++ (of_file (asking i [] buffer) ∷ [])) ≡ true
    all-bytes = bytes_one image all (asking i [] buffer) (bytes-more image before _ fit skips-bytes) (no_bytes)

    answers : (answered E (run E (mounted E image) all) (asking i [] buffer)).answer ≡ Done
    answers =
        same_answer E faithful image ok all (asking i [] buffer) all-bytes
        ∙ rw all-run (back-answer i t given standing used sequential ms here wrote buffer size)

    gives : (answered E (run E (mounted E image) all) (asking i [] buffer)).buffer
        ≡ padded (pad_byte t.shape.kind) t.shape.record_length given ++ drop t.shape.record_length buffer
    unfolding if_done
    gives =
        same-buffer E faithful image ok all (asking i [] buffer) all-bytes
        ∙ rw (
          all-run,
          back-answer i t given standing used sequential ms here wrote buffer size,
          back-record i t given standing used sequential ms here wrote buffer size,
        ) (lay-front t.shape.record_length buffer _ (length-padded _ t.shape.record_length given short) size)

pub reads-back : (E : Engine) → Faithful E → ReadsBack E
reads-back E faithful = record {
  back = λ image ok before i t fit here given buffer bytes size done.
      (answers E faithful image ok before i t fit here given bytes buffer size done, gives E faithful image ok before i t fit here given bytes buffer size done);
  granule = granule-back E faithful;
}

-- ---- room

-- tests that all refuse, and of which none holds, hand on
unfoldable pub is_refusal : Answer → Bool
is_refusal Done = false
is_refusal (Met x) = false
is_refusal (Refused x) = true

pub passed : {F : Type 0} (ts : List (Test F)) (f : F) (later : Answer) → every (λ u. is_refusal u.gives) ts ≡ true → or_else ts f Done ≡ Done → or_else ts f later ≡ later
unfolding or_else every is_refusal whether
passed [] f later r e = refl
passed (u ∷ ts) f later r e = go (u.holds f) e (passed ts f later (and_right (is_refusal u.gives) _ r))
  where
    go : (b : Bool) → whether b u.gives (or_else ts f Done) ≡ Done → (or_else ts f Done ≡ Done → or_else ts f later ≡ later)
        → whether b u.gives (or_else ts f later) ≡ later
    go true h more = both_ways (is_refusal u.gives) (and_left (is_refusal u.gives) _ r) (ap is_refusal h)
    go false h more = more h

module _ (E : Engine) (faithful : Faithful E) (image : List ℕ) (ok : mounts image ≡ true) (before : List Asking) (i : ℕ) (t : Tape) (given : List ℕ) (f : Facts)
    (fit : in_bytes image before ≡ true) (bytes : are_bytes given ≡ true) (here : model_at (models_then E image before) i ≡ tape t) (is : f ≡ tape_facts (open_models (models_then E image before)) given 0 t)
    (lawful : first_of checks_before3 f ≡ Done) where
  last-test : judge Write f ≡ whether (leb most_records t.position || is_full f) (Refused NoRoom) Done
  unfolding judge tests first_of or_else is_refusal every tape_facts
  last-test =
      passed checks_before3 f (or_else (no_room ∷ []) f Done) refl lawful
      ∙ ap (λ (p : ℕ). whether (leb most_records p || is_full f) (Refused NoRoom) Done) (ap (λ (g : Facts). g.position) is)

  decides : (answered E (run E (mounted E image) before) (writing i given)).answer ≡ whether (leb most_records t.position || is_full f) (Refused NoRoom) Done
  decides = same_answer E faithful image ok before (writing i given) (bytes_one image before (writing i given) fit bytes) ∙ tape-answer (models_then E image before) i t here Write given [] ∙ ap (judge Write) (sym is) ∙ last-test

pub room-alone : (E : Engine) → Faithful E → RoomAlone E
unfolding whether
room-alone E faithful = record {
  refusing = λ image ok before i t given f fit bytes here is lawful.
      let d = decides E faithful image ok before i t given f fit bytes here is lawful in
      ((λ full. d ∙ rw full), (λ free. d ∙ rw free));
}
