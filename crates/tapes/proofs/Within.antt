-- A tape stands within its records and a row has as many granules as there is room for, however they were run: a read or skip answered 0 has a record ahead,
-- a write or mark leaves as many records as stand before it, and nothing takes a granule away.
use mathlib.Core.Path.{◌≡◌, refl, sym, ap, subst, ◌∙◌}
use mathlib.Core.Bool.{true, false}
use mathlib.Core.List.{List, [], ◌∷◌}
use Prim.Native.Nat.{ℕ, zero, suc, ◌+◌, ◌≤◌, ◌<◌}
use native.Mathlib.Omega.{arith}
use native.Mathlib.Decide.{dec_lt, ℕ_discrete}
use lib.ListN.{length, take, get_or, set, length-append, length-set, get_or-map}
use lib.Seq.{length-take-le, get_or-set_same, get_or-set_other, set_out}
use Rattle.geometry.specs.Places.{capacity}
use Rattle.geometry.specs.Sizes.{random}
use Rattle.geometry.proofs.Tests.{either}
use Rattle.directory.specs.Entries.{table_of, free_entry, is_free, is_kind}
use Rattle.requests.proofs.Done.{done-allows}
use Rattle.sessions.specs.Session.{extent}
use Rattle.tapes.specs.Tape.{Shape, Tape, tape_of, tape_facts, tape_met, tape_done, tape_next, new_record}
use Rattle.tapes.specs.Row.{Row, granules_in, row_of, row_done, row_next}
use Rattle.tapes.specs.Model.{Model, nothing, tape, row, shape_of, model_of, models_of, Asked, model_at, model_facts, model_next, open_models, model_answer, model_step}
use Rattle.tapes.specs.Edits.{Editing, model_made, models_edited, edit_answer, model_number, edit_step}
use Rattle.tapes.specs.Runs.{Asking, of_file, of_directory, Heard, step_in, model_run}
use Rattle.requests.specs.Judge.{judge}
use Rattle.directory.specs.declared.Entry.{Entry}
use Rattle.requests.specs.declared.Answer.{Answer}
use Rattle.requests.specs.declared.Answer.TheVariants.{Done, Met, Refused}
use Rattle.requests.specs.declared.Edge.{Edge}
use Rattle.requests.specs.declared.Edge.TheVariants.{EndOfFile, BeginningOfTape}
use Rattle.requests.specs.declared.Edit.{Edit}
use Rattle.requests.specs.declared.Edit.TheVariants.{Add, Delete}
use Rattle.requests.specs.declared.Order.TheVariants.{WriteMark, RewindOnline, RewindOffline, RecordForward, RecordBack, FileForward, FileBack}
use Rattle.requests.specs.declared.Request.{Request}
use Rattle.requests.specs.declared.Request.TheVariants.{Open, Read, Write, GranuleRead, GranuleWrite, GranuleLook, Position}

abbrev pub Within : Model → Type 0
Within nothing = Unit {0}
Within (tape t) = t.position ≤ length t.records
Within (row w) = length w.granules ≡ capacity random w.shape.record_length w.shape.sectors

-- ---- a request

module _ (files : ℕ) (given : List ℕ) (buffer : ℕ) where
  tape-done : (q : Request) (t : Tape) → judge q (tape_facts files given buffer t) ≡ Done → Within (tape t) → Within (tape (tape_done q given t))
  unfolding tape_done tape_facts
  tape-done Open t e h = omega arith
  tape-done Read t e h = omega (arith, (done-allows Read (tape_facts files given buffer t) e).advances.ahead)
  tape-done Write t e h = omega (arith, length-append (take t.position t.records) (new_record given t ∷ []), length-take-le t.position t.records h)
  tape-done (GranuleRead g) t e h = h
  tape-done (GranuleWrite g) t e h = h
  tape-done (GranuleLook g) t e h = h
  tape-done (Position WriteMark) t e h = omega (arith, length-take-le t.position t.records h)
  tape-done (Position RewindOnline) t e h = omega arith
  tape-done (Position RewindOffline) t e h = omega arith
  tape-done (Position RecordForward) t e h = omega (arith, (done-allows (Position RecordForward) (tape_facts files given buffer t) e).ahead)
  tape-done (Position RecordBack) t e h = omega arith
  tape-done (Position FileForward) t e h = omega arith
  tape-done (Position FileBack) t e h = h

  tape-met : (x : Edge) (t : Tape) → Within (tape t) → Within (tape (tape_met x t))
  unfolding tape_met
  tape-met EndOfFile t h = h
  tape-met BeginningOfTape t h = omega arith

  row_done_lem : (q : Request) (w : Row) → Within (row w) → Within (row (row_done q given w))
  unfolding row_done
  row_done_lem Open w h = h
  row_done_lem Read w h = h
  row_done_lem Write w h = h
  row_done_lem (GranuleRead g) w h = h
  row_done_lem (GranuleWrite g) w h = length-set w.granules g _ ∙ h
  row_done_lem (GranuleLook g) w h = h
  row_done_lem (Position WriteMark) w h = h
  row_done_lem (Position RewindOnline) w h = h
  row_done_lem (Position RewindOffline) w h = h
  row_done_lem (Position RecordForward) w h = h
  row_done_lem (Position RecordBack) w h = h
  row_done_lem (Position FileForward) w h = h
  row_done_lem (Position FileBack) w h = h

  next-within : (q : Request) (m : Model) (a : Answer) → judge q (model_facts files given buffer m) ≡ a → Within m → Within (model_next q a given m)
  unfolding model_next tape_next row_next model_facts
  next-within q nothing a e h = tt
  next-within q (tape t) Done e h = tape-done q t e h
  next-within q (tape t) (Met x) e h = tape-met x t h
  next-within q (tape t) (Refused x) e h = h
  next-within q (row w) Done e h = row_done_lem q w h
  next-within q (row w) (Met x) e h = h
  next-within q (row w) (Refused x) e h = h

-- ---- what bytes show

length-granules : (s : Shape) (bytes : List ℕ) (n : ℕ) → length (granules_in s bytes n) ≡ n
unfolding granules_in
length-granules s bytes zero = refl
length-granules s bytes (suc n) = length-append (granules_in s bytes n) _ ∙ ap (λ (k : ℕ). k + 1) (length-granules s bytes n) ∙ omega arith

of_entry : (image : List ℕ) (e : Entry) → Within (model_of image e)
unfolding model_of tape_of row_of shape_of
of_entry image e =
    either (is_free e) (λ (u : is_free e ≡ true). rw (u, model_of) tt)
    λ (u : is_free e ≡ false). either (is_kind random e)
    (λ (r : is_kind random e ≡ true). rw (u, r, model_of) (length-granules (shape_of e) (extent e image) (capacity random e.length e.sectors)))
    (λ (r : is_kind random e ≡ false). rw (u, r, model_of) (omega arith))

-- ---- all of them

abbrev pub AllWithin : List Model → Type 0
AllWithin ms = (i : ℕ) → Within (model_at ms i)

set-within : (ms : List Model) (n : ℕ) (m : Model) → Within m → AllWithin ms → AllWithin (set ms n m)
set-within ms n m h all i = go (ℕ_discrete i n) (dec_lt n (length ms))
  where
    go : Dec (i ≡ n) → Dec (n < length ms) → Within (model_at (set ms n m) i)
    go (yes z) (yes l) = rw (z, get_or-set_same ms n m nothing l) h
    go (yes z) (no l) = rw (set_out ms n m (omega arith)) (all i)
    go (no d) l = rw (get_or-set_other ms n i m nothing d) (all i)

free-shows : (image : List ℕ) → model_of image free_entry ≡ nothing
unfolding model_of
free-shows image = refl

pub image-within : (image : List ℕ) → AllWithin (models_of image)
unfolding models_of
image-within image i = subst Within (sym (ap (get_or (models_of image) i) (sym (free-shows image)) ∙ get_or-map (model_of image) (table_of image) i free_entry)) (of_entry image (get_or (table_of image) i free_entry))

step-within : (ms : List Model) (a : Asked) → AllWithin ms → AllWithin (model_step ms a)
unfolding model_step model_answer
step-within ms a all = set-within ms a.entry _ (next-within (open_models ms) a.given (length a.buffer) a.request (model_at ms a.entry) _ refl (all a.entry)) all

edit-within : (ms : List Model) (x : Editing) (lies : List ℕ) → AllWithin ms → AllWithin (edit_step ms x lies)
unfolding edit_step
edit-within ms x lies all = go (edit_answer ms x lies)
  where
    made : (e : Edit) → Within (model_made e ms x.name lies)
    made (Add kind length sectors) = unfold model_made in of_entry lies _
    made Delete = unfold model_made in tt

    go : (a : Answer) → AllWithin (models_edited a ms (model_number x.edit ms x.entry) (model_made x.edit ms x.name lies))
    go Done = unfold models_edited in set-within ms _ _ (made x.edit) all
    go (Met e) = unfold models_edited in all
    go (Refused e) = unfold models_edited in all

pub run-within : (hs : List Heard) (ms : List Model) → AllWithin ms → AllWithin (model_run ms hs)
unfolding model_run
run-within [] ms all = all
run-within (h ∷ hs) ms all = run-within hs (step_in ms h.asked h.lies) (one h.asked)
  where
    one : (a : Asking) → AllWithin (step_in ms a h.lies)
    one (of_file a) = unfold step_in in step-within ms a all
    one (of_directory x) = unfold step_in in edit-within ms x h.lies all
