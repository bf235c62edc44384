-- The calls for the next line print the lines of a tape's records from where it stands: each reads a record of R bytes into a room that has as many and one
-- more, prints its line and leaves the tape one further; at the end the answer is 1 or 7, which prints nothing.
use mathlib.Core.Path.{◌≡◌, refl, sym, ap, ◌∙◌}
use mathlib.Core.Bool.{Bool, true, false}
use mathlib.Core.List.{List, [], ◌++◌}
use Prim.Native.Nat.{ℕ, zero, suc, ◌+◌, ◌≤◌, ◌<◌}
use native.Mathlib.Omega.{arith}
use native.Mathlib.Decide.{dec_lt}
use native.Mathlib.Numerals.{add-one}
use lib.ListN.{length, take, drop, get_or, drop_of_length-le}
use lib.Seq.{length-sets, length_front, length-take-le, drop-cons}
use borrow.Author.Tests.{le-leb, le-ltb}
use Rattle.geometry.proofs.Bytes.{lay-all}
use Rattle.mounting.specs.Mounting.{mounts}
use Rattle.packing.specs.Reading.{Recorded}
use Rattle.packing.proofs.Walks.{nowhere}
use Rattle.requests.specs.Judge.{judge, tests, first_of, or_else, whether}
use Rattle.requests.specs.Numbers.{number_of}
use Rattle.requests.specs.declared.Answer.{Answer}
use Rattle.requests.specs.declared.Answer.TheVariants.{Done, Met, Refused}
use Rattle.requests.specs.declared.Edge.TheVariants.{EndOfFile}
use Rattle.requests.specs.declared.Refusal.TheVariants.{WrongSequence}
use Rattle.requests.specs.declared.Request.TheVariants.{Read}
use Rattle.steps.specs.Step.{After}
use Rattle.engines.specs.Engines.{requested}
use Rattle.tapes.specs.Tape.{Tape, standing, tape_facts, tape_done, tape_next, tape_record}
use Rattle.tapes.specs.Model.{tape, model_at, model_facts, model_next, model_record, model_into, open_models, if_done}
use Rattle.tapes.specs.Runs.{Asking}
use Rattle.demands.specs.Engine.{Engine, Standing, answered, step_of, models_then, in_bytes}
use Rattle.demands.proofs.ReadsBack.{reads}
use Rattle.showing.specs.Lines.{line_of, printed}
use Rattle.showing.specs.Showing.{read_into, room_after}
use Rattle.callers.specs.Lent.{lent_engine}
use Rattle.passes.specs.Pass.{lines_of}
use Rattle.passes.specs.Printed.{goes_on, lines_by}
use Rattle.passes.proofs.Asks.{then, ask, more, more-fit, call-is, more-is, answers, gives, more-here}
use Rattle.passes.proofs.Records.{Listed}
use Rattle.passes.proofs.Rooms.{text-whole, text-none, line-most, room-for}

-- ---- one call, by what its read comes to

module _ (k : ℕ) (image b : List ℕ) (i R : ℕ) (out : List ℕ) (room : R < length out) (r : After (List ℕ))
    (is : requested image b i Read [] (take R out) ≡ r) where
  read_is : read_into image b i R out ≡ r
  unfolding read_into
  read_is = rw (room-for R out room) is

  after_is : room_after image b i R out ≡ r.buffer ++ drop R out
  unfolding room_after
  after_is = rw (read_is, room-for R out room)

  module _ (size : length r.buffer ≡ R) where
    after-size : length (room_after image b i R out) ≡ length out
    after-size = ap length after_is ∙ length_front out r.buffer R (size ∙ sym (length-take-le R out (omega arith)))

    -- a record: its line, and on in a room of that size
    goes : r.answer ≡ Done → (rest : List ℕ) → ((out' : List ℕ) → R < length out' → lines_by k r.image r.session i R out' ≡ rest)
        → lines_by (suc k) image b i R out ≡ line_of r.buffer ++ rest
    unfolding lines_by printed goes_on
    goes d rest then =
        let fits : length (line_of r.buffer) ≤ length (room_after image b i R out) = omega (arith, line-most r.buffer, after-size, size) in
        rw (read_is, d, text-whole (room_after image b i R out) (line_of r.buffer) fits)
        (ap (λ (x : List ℕ). line_of r.buffer ++ x) (then _ (omega (arith, length-sets (room_after image b i R out) 0 (line_of r.buffer), after-size))))

  -- an end
  ends : (n : ℕ) → number_of r.answer ≡ suc n → printed (suc n) r.buffer ≡ [] → lines_by (suc k) image b i R out ≡ []
  unfolding lines_by goes_on
  ends n e p = rw (read_is, e, p, text-none (room_after image b i R out))

-- ---- a tape, open at record p

module _ (files size : ℕ) (t : Tape) (listed : Listed t) (enough : t.shape.record_length ≤ size) (p : ℕ) where
  abbrev verdict : Answer
  verdict = judge Read (tape_facts files [] size (standing t true p false))

  reads_on : p < length t.records → verdict ≡ Done
  unfolding tape_facts
  reads_on h = reads _ refl listed.used refl listed.sequential refl refl h enough

  meets-end : length t.records ≤ p → verdict ≡ whether t.marked (Met EndOfFile) (Refused WrongSequence)
  unfolding judge tests first_of or_else whether tape_facts
  meets-end h = rw (listed.used, listed.sequential, le-ltb size t.shape.record_length enough, le-leb (length t.records) p h)

-- ---- the calls

no_lines : (rs : List Recorded) (p : ℕ) → length rs ≤ p → lines_of (drop p rs) ≡ []
unfolding lines_of
no_lines rs p h = ap lines_of (drop_of_length-le rs {i = p} h)

module _ (u : Bool) (image : List ℕ) (ok : mounts image ≡ true) (i : ℕ) (t : Tape) (listed : Listed t) where
  abbrev E : Engine
  E = lent_engine u

  abbrev R : ℕ
  R = t.shape.record_length

  -- what is printed behind a run
  abbrev pub lines_then : ℕ → List Asking → List ℕ → List ℕ
  lines_then k asked out = lines_by k (then u image asked).image (then u image asked).session i R out

  -- behind it the tape is open, and stands at p
  abbrev pub StandsAt : ℕ → List Asking → Type 0
  StandsAt p asked = model_at (models_then E image asked) i ≡ tape (standing t true p false)

  -- one read there
  module _ (p : ℕ) (asked : List Asking) (fit : in_bytes image asked ≡ true) (here : StandsAt p asked) (out : List ℕ) (room : R < length out) where
    abbrev buffer : List ℕ
    buffer = take R out

    abbrev r : After (List ℕ)
    r = answered E (then u image asked) (ask i Read buffer)

    full : length buffer ≡ R
    full = length-take-le R out (omega arith)

    abbrev files : ℕ
    files = open_models (models_then E image asked)

    answer-is : r.answer ≡ judge Read (tape_facts files [] (length buffer) (standing t true p false))
    unfolding model_facts
    answer-is = answers u image asked fit i Read buffer ok (tape (standing t true p false)) here

    call : requested (then u image asked).image (then u image asked).session i Read [] buffer ≡ r
    call = call-is u image asked fit i Read buffer

    module _ (ahead : p < length t.records) where
      done : judge Read (tape_facts files [] (length buffer) (standing t true p false)) ≡ Done
      done = reads_on files (length buffer) t listed (omega (arith, full)) p ahead

      -- the record
      buffer-is : r.buffer ≡ (get_or t.records p nowhere).bytes
      unfolding model_facts if_done model_into model_record tape_record
      buffer-is =
          gives u image asked fit i Read buffer ok (tape (standing t true p false)) here
          ∙ rw done (lay-all R buffer (get_or t.records p nowhere).bytes full (listed.long p ahead))

      then-here : StandsAt (p + 1) (more asked i Read buffer)
      unfolding model_facts model_next tape_next tape_done
      then-here = more-here u image asked fit i Read buffer ok (tape (standing t true p false)) here ∙ rw done

      -- its line, and what is printed where the run has one read more
      line-then : (k : ℕ) (rest : List ℕ) → ((out' : List ℕ) → R < length out' → lines_then k (more asked i Read buffer) out' ≡ rest)
          → lines_then (suc k) asked out ≡ line_of (get_or t.records p nowhere).bytes ++ rest
      unfolding step_of
      line-then k rest f =
          goes k _ _ i R out room r call (ap length buffer-is ∙ listed.long p ahead) (answer-is ∙ done) rest
          (λ (out' : List ℕ) (l : R < length out').
          ap (λ (v : Standing (List ℕ)). lines_by k v.image v.session i R out') (sym (more-is u image asked fit i Read buffer)) ∙ f out' l)
          ∙ ap (λ (x : List ℕ). line_of x ++ rest) buffer-is

    -- no record ahead: the answer is 1 or 7
    no_line : (k : ℕ) → length t.records ≤ p → lines_then (suc k) asked out ≡ []
    no_line k end = go t.marked (answer-is ∙ meets-end files (length buffer) t listed (omega (arith, full)) p end)
      where
        go : (m : Bool) → r.answer ≡ whether m (Met EndOfFile) (Refused WrongSequence) → lines_then (suc k) asked out ≡ []
        go true e = unfold printed whether in ends k _ _ i R out room r call 0 (ap number_of e) refl
        go false e = unfold printed whether in ends k _ _ i R out room r call 6 (ap number_of e) refl

  pub lines_are : (k p : ℕ) (asked : List Asking) → in_bytes image asked ≡ true → StandsAt p asked → (out : List ℕ) → R < length out
      → length t.records < k + p → lines_then k asked out ≡ lines_of (drop p t.records)
  unfolding lines_by lines_of
  lines_are zero p asked fit here out room h = sym (no_lines t.records p (omega arith))
  lines_are (suc k) p asked fit here out room h =
      go (dec_lt p (length t.records))
      (λ (l : p < length t.records) (out' : List ℕ) (room' : R < length out').
      lines_are k (p + 1) (more asked i Read (take R out)) (more-fit u image asked fit i Read (take R out)) (then-here p asked fit here out room l) out' room'
      (omega arith))
    where
      go : Dec (p < length t.records)
          → (p < length t.records → (out' : List ℕ) → R < length out'
          → lines_then k (more asked i Read (take R out)) out' ≡ lines_of (drop (p + 1) t.records))
          → lines_then (suc k) asked out ≡ lines_of (drop p t.records)
      go (yes l) rest =
          line-then p asked fit here out room l k (lines_of (drop (p + 1) t.records)) (rest l) ∙ rw (add-one p, drop-cons t.records p nowhere l)
      go (no l) rest = no_line p asked fit here out room k (omega arith) ∙ sym (no_lines t.records p (omega arith))
