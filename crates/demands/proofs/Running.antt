-- A run from a session that passes: each request and each edit leaves one that passes, so none gets 12, which only the test for legality gives; and one that is
-- refused leaves the engine where it stood.
use mathlib.Core.Path.{◌≡◌, refl, sym, ap, ap₂, ◌∙◌}
use mathlib.Core.Bool.{Bool, true, false, ◌||◌, not}
use mathlib.Core.List.{List, [], ◌∷◌}
use Prim.Native.Nat.{ℕ}
use lib.Dec.{eqb, leb}
use Rattle.geometry.specs.Lists.{every}
use Rattle.geometry.specs.Sizes.{sectors_of}
use Rattle.geometry.proofs.Tests.{both_ways, and_left, and_right, and_both, or-either}
use Rattle.requests.specs.Judge.{Test, tests, edit_tests, whether, or_else, first_of, judge, judge_edit, EditFacts}
use Rattle.requests.specs.Numbers.{number_of}
use Rattle.sessions.specs.Session.{bare, buffered_legal}
use Rattle.steps.specs.Next.{facts_of}
use Rattle.steps.specs.Step.{buffered_answer}
use Rattle.steps.specs.Edit.{edit_facts, edit_answer_by}
use Rattle.tapes.specs.Model.{Asked}
use Rattle.tapes.specs.Edits.{Editing}
use Rattle.tapes.specs.Runs.{Asking, of_file, of_directory}
use Rattle.demands.specs.Engine.{Engine, plain_engine, buffered_engine, Standing, answered, step_of, report_of, edited, edit_of, edit_report_of, next, report_for, reports, run, gives_bytes, give_bytes}
use Rattle.demands.specs.Demand1.{Proper, ProperEdit, Orderly, Passes, Passing, served, Running}
use Rattle.demands.proofs.Orderly.{plain-orderly, buffered-orderly}
use Rattle.demands.proofs.Passing.{plain-passing, buffered-passing}
use Rattle.requests.specs.declared.Answer.{Answer}
use Rattle.requests.specs.declared.Answer.TheVariants.{Done, Met, Refused}
use Rattle.requests.specs.declared.Edge.TheVariants.{EndOfFile, BeginningOfTape}
use Rattle.requests.specs.declared.Edit.{Edit}
use Rattle.requests.specs.declared.Edit.TheVariants.{Add, Delete}
use Rattle.requests.specs.declared.Facts.{Facts}
use Rattle.requests.specs.declared.Order.TheVariants.{WriteMark, RewindOnline, RewindOffline, RecordForward, RecordBack, FileForward, FileBack}
use Rattle.requests.specs.declared.Refusal.{Refusal}
use Rattle.requests.specs.declared.Request.{Request}
use Rattle.requests.specs.declared.Request.TheVariants.{Open, Read, Write, GranuleRead, GranuleWrite, GranuleLook, Position}

-- ---- 12 is given where the session is not legal, and nowhere else

abbrev other : Answer → Bool
other a = not (eqb (number_of a) 12)

-- tests that give another number, or do not hold
others : {F : Type 0} (ts : List (Test F)) (f : F) → every (λ t. other t.gives || not (t.holds f)) ts ≡ true → other (or_else ts f Done) ≡ true
unfolding or_else every whether
others [] f h = refl
others (t ∷ ts) f h = go (t.holds f) (and_left (other t.gives || not (t.holds f)) _ h) (others ts f (and_right (other t.gives || not (t.holds f)) _ h))
  where
    go : (b : Bool) → (other t.gives || not b) ≡ true → other (or_else ts f Done) ≡ true → other (whether b t.gives (or_else ts f Done)) ≡ true
    go true x y = or-either (other t.gives) false x (λ z. z) (λ z. both_ways false z refl)
    go false x y = y

only-legality : (q : Request) (f : Facts) → f.legal ≡ true → every (λ t. other t.gives || not (t.holds f)) (tests q) ≡ true
unfolding tests every
only-legality Open f l = rw l
only-legality Read f l = rw l
only-legality Write f l = rw l
only-legality (GranuleRead g) f l = rw l
only-legality (GranuleWrite g) f l = rw l
only-legality (GranuleLook g) f l = rw l
only-legality (Position WriteMark) f l = rw l
only-legality (Position RewindOnline) f l = rw l
only-legality (Position RewindOffline) f l = rw l
only-legality (Position RecordForward) f l = rw l
only-legality (Position RecordBack) f l = rw l
only-legality (Position FileForward) f l = rw l
only-legality (Position FileBack) f l = rw l

edits-legality : (x : Edit) (f : EditFacts) → f.legal ≡ true → every (λ t. other t.gives || not (t.holds f)) (edit_tests x) ≡ true
unfolding edit_tests every
edits-legality (Add kind length sectors) f l = rw l
edits-legality Delete f l = rw l

-- ---- one request, one edit

over-2 : (x : Answer) → leb (number_of x) 2 ≡ false → (y : Refusal) × (x ≡ Refused y)
over-2 Done h = both_ways true refl h
over-2 (Met EndOfFile) h = both_ways true refl h
over-2 (Met BeginningOfTape) h = both_ways true refl h
over-2 (Refused y) h = (y, refl)

module _ (E : Engine) (orderly : Orderly E) (w : Standing E.Session) (a : Asked) where
  proper : Proper E w.image w.session a.entry a.request a.given a.buffer (answered E w a)
  unfolding answered
  proper = orderly.every-request w.image w.session a.entry a.request a.given a.buffer

  not-12 : Passes E w → other (answered E w a).answer ≡ true
  unfolding buffered_answer judge first_of facts_of
  not-12 p = ap other proper.ordered ∙ others (tests a.request) _ (only-legality a.request _ p.is_legal)

  stays : leb (number_of (answered E w a).answer) 2 ≡ false → step_of E w a ≡ w
  unfolding step_of
  stays h =
      let y = over-2 (answered E w a).answer h in
      let n = proper.refused y.0 y.1 in
      ap₂ (λ (x : List ℕ) (s : E.Session). record { image = x; session = s }) n.0 n.1

module _ (E : Engine) (orderly : Orderly E) (w : Standing E.Session) (x : Editing) where
  proper-edit : ProperEdit E w.image w.session x.entry x.edit x.name (edited E w x)
  unfolding edited
  proper-edit = orderly.every-edit w.image w.session x.entry x.edit x.name

  edit-not-12 : Passes E w → other (edited E w x).answer ≡ true
  unfolding edit_answer_by judge_edit first_of
  edit-not-12 p = ap other proper-edit.ordered ∙ others (edit_tests x.edit) _ (edits-legality x.edit _ (facts-legal x.edit p.is_legal))
    where
      facts-legal : (y : Edit) → buffered_legal w.image (E.seen w.session) ≡ true
          → (edit_facts (buffered_legal w.image (E.seen w.session)) (sectors_of w.image) (bare (E.seen w.session)) x.entry y x.name).legal ≡ true
      facts-legal (Add kind length sectors) l = unfold edit_facts in l
      facts-legal Delete l = unfold edit_facts in l

  edit-stays : leb (number_of (edited E w x).answer) 2 ≡ false → edit_of E w x ≡ w
  unfolding edit_of
  edit-stays h =
      let y = over-2 (edited E w x).answer h in
      let n = proper-edit.refused (λ d. both_ways true refl (ap (λ (a : Answer). leb (number_of a) 2) (sym d) ∙ h)) in
      ap₂ (λ (z : List ℕ) (s : E.Session). record { image = z; session = s }) n.2 n.3

-- ---- whichever is asked

module _ (E : Engine) (orderly : Orderly E) (w : Standing E.Session) where
  any-not-12 : (a : Asking) → Passes E w → not (eqb (report_for E w a).number 12) ≡ true
  unfolding report_for report_of edit_report_of
  any-not-12 (of_file a) p = not-12 E orderly w a p
  any-not-12 (of_directory x) p = edit-not-12 E orderly w x p

  any-stays : (a : Asking) → leb (report_for E w a).number 2 ≡ false → next E w a ≡ w
  unfolding report_for report_of edit_report_of next
  any-stays (of_file a) h = stays E orderly w a h
  any-stays (of_directory x) h = edit-stays E orderly w x h

any-passes : (E : Engine) → Passing E → (w : Standing E.Session) → Passes E w → (a : Asking) → gives_bytes a ≡ true → Passes E (next E w a)
unfolding next gives_bytes
any-passes E passing w p (of_file a) h = passing.requests w p a h
any-passes E passing w p (of_directory x) h = passing.edits w p x h

-- ---- a run

module _ (E : Engine) (orderly : Orderly E) where
  without-refused : (asked : List Asking) (w : Standing E.Session) → run E w asked ≡ run E w (served E w asked)
  unfolding run served
  without-refused [] w = refl
  without-refused (a ∷ rest) w = go (leb (report_for E w a).number 2) refl (without-refused rest (next E w a))
    where
      go : (b : Bool) → leb (report_for E w a).number 2 ≡ b → run E (next E w a) rest ≡ run E (next E w a) (served E (next E w a) rest)
          → run E (next E w a) rest ≡ run E w (elim b [ true ↦ a ∷ served E (next E w a) rest | false ↦ served E (next E w a) rest ])
      go true e more = more
      go false e more = more ∙ ap (λ (v : Standing E.Session). run E v (served E (next E w a) rest)) (any-stays E orderly w a e)

  module _ (passing : Passing E) where
    run-passes : (asked : List Asking) → give_bytes asked ≡ true → (w : Standing E.Session) → Passes E w → Passes E (run E w asked)
    unfolding run every
    run-passes [] h w p = p
    run-passes (a ∷ rest) h w p = run-passes rest (and_right (gives_bytes a) _ h) (next E w a) (any-passes E passing w p a (and_left (gives_bytes a) _ h))

    run-not-12 : (asked : List Asking) → give_bytes asked ≡ true → (w : Standing E.Session) → Passes E w → every (λ r. not (eqb r.number 12)) (reports E w asked) ≡ true
    unfolding reports every
    run-not-12 [] h w p = refl
    run-not-12 (a ∷ rest) h w p =
        and_both (not (eqb (report_for E w a).number 12)) _ (any-not-12 E orderly w a p)
        (run-not-12 rest (and_right (gives_bytes a) _ h) (next E w a) (any-passes E passing w p a (and_left (gives_bytes a) _ h)))

    pub running : Running E
    running = record {
      passes = λ w p asked h. run-passes asked h w p;
      legally = λ w p asked h. run-not-12 asked h w p;
      refusals = λ w asked. without-refused asked w;
    }

pub plain-running : Running plain_engine
plain-running = running plain_engine plain-orderly plain-passing

pub buffered-running : Running buffered_engine
buffered-running = running buffered_engine buffered-orderly buffered-passing
