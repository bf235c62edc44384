-- A run of the calls from C is the run of the engine in lent bytes that their number says, and so that of the tapes and rows: a request leaves as many bytes.
use mathlib.Core.Path.{◌≡◌, refl, sym, ap, ap₂, ◌∙◌, fun_ext}
use mathlib.Core.Bool.{Bool, true}
use mathlib.Core.List.{List, [], ◌∷◌, map}
use Prim.Native.Nat.{ℕ}
use Rattle.std.specs.Prelude.{Option, Some}
use lib.ListN.{length}
use Rattle.geometry.specs.Lists.{numbers_from}
use Rattle.geometry.specs.Sizes.{entries}
use Rattle.mounting.specs.Mounting.{mounts, plain_mount}
use Rattle.requests.specs.Codes.{codes, asked_for}
use Rattle.requests.specs.declared.Order.TheVariants.{WriteMark, RewindOnline, RewindOffline, RecordForward, RecordBack, FileForward, FileBack}
use Rattle.requests.specs.Numbers.{number_of}
use Rattle.sessions.specs.Session.{bare, spot_of}
use Rattle.sessions.specs.declared.Spot.{Spot}
use Rattle.steps.specs.Edit.{Edited}
use Rattle.tapes.specs.Model.{Asked, Report, models_of}
use Rattle.tapes.specs.Edits.{Editing}
use Rattle.tapes.specs.Runs.{Asking, of_file, of_directory, Heard, model_reports}
use Rattle.editing.specs.Editing.{edited_in}
use Rattle.storing.specs.Stored.{size_of, has_buffers, lent_session}
use Rattle.storing.proofs.Read.{told-by-size, session-size}
use Rattle.calling.specs.Mounted.{mount_bytes}
use Rattle.asking.specs.Requested.{Left}
use Rattle.demands.specs.Engine.{Engine, Standing, if_look, shown_by, spots_of, answered, step_of, report_of, edited, edit_of, edit_report_of, next, report_for, reports, heard, mounted, are_bytes, give_bytes}
use Rattle.demands.proofs.Answers.{bytes-image, bytes-given}
use Rattle.callers.specs.Lent.{lent_engine, left_of}
use Rattle.callers.specs.Calls.{call, told_by, call_report, edit_call, edit_call_report, asked_call, call_leaves, call_reports, call_heard, Calling, Coded}
use Rattle.callers.proofs.Called.{called}
use Rattle.callers.proofs.Demands.{lent-faithful}
use Rattle.callers.proofs.Kept.{starts}
use Rattle.callers.proofs.Runs.{next-bytes, next-size, first_gives, rest_gives}
use Rattle.requests.specs.declared.Answer.TheVariants.{Done}
use Rattle.requests.specs.declared.Edit.{Edit}
use Rattle.requests.specs.declared.Edit.TheVariants.{Add, Delete}
use Rattle.requests.specs.declared.Request.{Request}
use Rattle.requests.specs.declared.Request.TheVariants.{Open, Read, Write, GranuleRead, GranuleWrite, GranuleLook, Position}

module _ (u : Bool) where
  abbrev E : Engine
  E = lent_engine u

  -- ---- one call, on bytes whose number says this engine

  spots-are : (b : List ℕ) → has_buffers b ≡ u → map (spot_of (bare (lent_session b))) (numbers_from 0 entries) ≡ spots_of E b
  unfolding spots_of
  spots-are b t = ap (λ (f : ℕ → Option Spot). map f (numbers_from 0 entries)) (fun_ext (called.positions b) ∙ ap (λ (v : Bool). (lent_engine v).position b) t)

  module _ (w : Standing (List ℕ)) (a : Asked) (t : has_buffers w.session ≡ u) where
    call-is : call w a ≡ left_of (answered E w a)
    unfolding answered
    call-is =
        called.requests w.image w.session a.entry a.request a.given a.buffer
        ∙ ap (λ (v : Bool). left_of ((lent_engine v).request w.image w.session a.entry a.request a.given a.buffer)) t

    told_is : (g : ℕ) → told_by w.image w.session a.entry g ≡ E.look w.image w.session a.entry g
    told_is g =
        called.places w.image w.session a.entry g _
        ∙ called.shows w.image w.session a.entry g
        ∙ ap (λ (v : Bool). (lent_engine v).look w.image w.session a.entry g) t

    shown-is : if_look (told_by w.image w.session a.entry) a.request ≡ shown_by E w.image w.session a.entry a.request
    shown-is = ap (λ (look : ℕ → List ℕ). if_look look a.request) (fun_ext told_is)

    report-is : has_buffers (step_of E w a).session ≡ u → call_report w a ≡ report_of E w a
    unfolding call_report report_of step_of
    report-is n =
        let spots = ap (λ (x : Left). map (spot_of (bare (lent_session x.session))) (numbers_from 0 entries)) call-is ∙ spots-are (answered E w a).session n in
        λ j. record { number = (call-is j).number; told = []; buffer = (call-is j).buffer; shown = shown-is j; spots = spots j }

    step_is : record { image = (call w a).image; session = (call w a).session } ≡ step_of E w a
    unfolding step_of
    step_is = ap (λ (x : Left). record { image = x.image; session = x.session }) call-is

  -- ---- an adding and a deleting

  module _ (w : Standing (List ℕ)) (x : Editing) (t : has_buffers w.session ≡ u) where
    edit-call-is : edit_call w x x.edit ≡ edited E w x
    unfolding edited
    edit-call-is = any x.edit ∙ called.edits w.image w.session x.entry x.edit x.name ∙ ap (λ (v : Bool). (lent_engine v).edit w.image w.session x.entry x.edit x.name) t
      where
        any : (y : Edit) → edit_call w x y ≡ edited_in w.image w.session x.entry y x.name
        any (Add kind size sectors) = unfold edit_call in called.adds w.image w.session x.entry kind size sectors x.name
        any Delete = unfold edit_call in called.deletes w.image w.session x.entry x.name

    edit-report-is : has_buffers (edit_of E w x).session ≡ u → edit_call_report w x ≡ edit_report_of E w x
    unfolding edit_call_report edit_report_of edit_of
    edit-report-is n =
        let spots = ap (λ (y : Edited (List ℕ)). map (spot_of (bare (lent_session y.session))) (numbers_from 0 entries)) edit-call-is ∙ spots-are (edited E w x).session n in
        λ j. record { number = number_of (edit-call-is j).answer; told = (edit-call-is j).told; buffer = []; shown = []; spots = spots j }

    edit-leaves : record { image = (edit_call w x x.edit).image; session = (edit_call w x x.edit).session } ≡ edit_of E w x
    unfolding edit_of
    edit-leaves = ap (λ (y : Edited (List ℕ)). record { image = y.image; session = y.session }) edit-call-is

  -- ---- whichever is called

  module _ (w : Standing (List ℕ)) (t : has_buffers w.session ≡ u) where
    any-report : (a : Asking) → has_buffers (next E w a).session ≡ u → asked_call w a ≡ report_for E w a
    unfolding asked_call report_for next
    any-report (of_file a) n = report-is w a t n
    any-report (of_directory x) n = edit-report-is w x t n

    any-leaves : (a : Asking) → call_leaves w a ≡ next E w a
    unfolding call_leaves next
    any-leaves (of_file a) = step_is w a t
    any-leaves (of_directory x) = edit-leaves w x t

  -- ---- a run of them

  module _ (a : Asking) (rest : List Asking) (w : Standing (List ℕ)) (t : has_buffers w.session ≡ u) (bytes : are_bytes w.image ≡ true) (h : give_bytes (a ∷ rest) ≡ true) where
    then-told : has_buffers (next E w a).session ≡ u
    then-told = next-size u w bytes a (first_gives u a rest h) t

    then-bytes : are_bytes (next E w a).image ≡ true
    then-bytes = next-bytes u w bytes a (first_gives u a rest h)

  reports-are : (asked : List Asking) (w : Standing (List ℕ)) → has_buffers w.session ≡ u → are_bytes w.image ≡ true → give_bytes asked ≡ true
      → call_reports w asked ≡ reports E w asked
  unfolding call_reports reports
  reports-are [] w t bytes h = refl
  reports-are (a ∷ rest) w t bytes h =
      ap₂ (λ (x : Report) (xs : List Report). x ∷ xs) (any-report w t a (then-told a rest w t bytes h))
      (ap (λ (v : Standing (List ℕ)). call_reports v rest) (any-leaves w t a)
      ∙ reports-are rest (next E w a) (then-told a rest w t bytes h) (then-bytes a rest w t bytes h) (rest_gives u a rest h))

  heard-is : (asked : List Asking) (w : Standing (List ℕ)) → has_buffers w.session ≡ u → are_bytes w.image ≡ true → give_bytes asked ≡ true → call_heard w asked ≡ heard E w asked
  unfolding call_heard heard
  heard-is [] w t bytes h = refl
  heard-is (a ∷ rest) w t bytes h =
      ap (λ (hs : List Heard). record { asked = a; lies = w.image } ∷ hs)
      (ap (λ (v : Standing (List ℕ)). call_heard v rest) (any-leaves w t a)
      ∙ heard-is rest (next E w a) (then-told a rest w t bytes h) (then-bytes a rest w t bytes h) (rest_gives u a rest h))

  -- ---- from a mounting

  start-told : (image : List ℕ) → has_buffers (mounted E image).session ≡ u
  unfolding mounted
  start-told image = told-by-size u _ (session-size u _ (starts u image).0)

  start_is : (image b : List ℕ) → length b ≡ size_of u → record { image = image; session = mount_bytes image b } ≡ mounted E image
  unfolding mounted
  start_is image b l = ap (λ (x : List ℕ). record { image = image; session = x }) (called.session u image b l)

  mount-done : (image : List ℕ) → mounts image ≡ true → (E.mount image).answer ≡ Done
  mount-done image ok = (lent-faithful u).mounting image ∙ (unfold plain_mount in rw (ok, plain_mount))

pub calling : Calling
calling = record {
  mounting = λ u image b l ok. called.number u image b l ∙ ap number_of (mount-done u image ok);
  serves = λ u image b l ok asked fit.
      let bytes : are_bytes (mounted (lent_engine u) image).image ≡ true = unfold mounted in bytes-image image asked fit in
      ap (λ (v : Standing (List ℕ)). call_reports v asked) (start_is u image b l)
      ∙ reports-are u asked (mounted (lent_engine u) image) (start-told u image) bytes (bytes-given image asked fit)
      ∙ (lent-faithful u).serves image ok asked fit
      ∙ ap (model_reports (models_of image))
      (sym (ap (λ (v : Standing (List ℕ)). call_heard v asked) (start_is u image b l) ∙ heard-is u asked (mounted (lent_engine u) image) (start-told u image) bytes (bytes-given image asked fit)));
}

pub coded : Coded
unfolding asked_for codes
coded = record { named = name }
  where
    name : (q : Request) → (code : ℕ) × (g : ℕ) × (asked_for code g ≡ Some q)
    name Open = (1, 0, refl)
    name Read = (2, 0, refl)
    name Write = (3, 0, refl)
    name (GranuleRead g) = (4, g, refl)
    name (GranuleWrite g) = (5, g, refl)
    name (GranuleLook g) = (6, g, refl)
    name (Position WriteMark) = (7, 0, refl)
    name (Position RewindOnline) = (8, 0, refl)
    name (Position RewindOffline) = (9, 0, refl)
    name (Position RecordForward) = (10, 0, refl)
    name (Position RecordBack) = (11, 0, refl)
    name (Position FileForward) = (12, 0, refl)
    name (Position FileBack) = (13, 0, refl)
