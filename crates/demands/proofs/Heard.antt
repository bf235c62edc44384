-- What the tapes and rows hear of the buffered engine's run is what they hear of the plain one's: a buffer that is not put back yet lies in the extent of an open
-- file, and a file is added in sectors that are no file's.
use mathlib.Core.Path.{◌≡◌, refl, sym, ap, ap₂, subst, ◌∙◌}
use mathlib.Core.Bool.{true, false}
use mathlib.Core.List.{List, [], ◌∷◌, ◌++◌, map}
use Prim.Native.Nat.{ℕ, ◌+◌, ◌*◌, ◌≤◌, ◌<◌, ◌/◌}
use native.Mathlib.Omega.{arith}
use lib.ListN.{set}
use lib.Dec.{eqb, leb}
use borrow.Author.Tests.{eqb-true, leb-true, ltb-true}
use Rattle.geometry.specs.Sizes.{sector, random, sectors_of}
use Rattle.geometry.proofs.Bytes.{Apart}
use Rattle.geometry.proofs.Tests.{either, or-either}
use Rattle.directory.specs.Entries.{entry_at, is_free, is_kind, is_marked}
use Rattle.gaps.specs.Gaps.{stands_free, is_taken, lowest_gap}
use Rattle.shapes.specs.Made.{file_made}
use Rattle.gaps.proofs.Gaps.{gap-stands, gap_same}
use Rattle.gaps.proofs.Taken.{gap-apart}
use Rattle.sessions.specs.Session.{bare, extent}
use Rattle.tapes.specs.Tape.{tape_of}
use Rattle.tapes.specs.Row.{row_of}
use Rattle.tapes.specs.Model.{Model, nothing, tape, row, shape_of, model_of, model_spot, if_done, Report}
use Rattle.tapes.specs.Edits.{Editing, model_taken, model_gap, model_edit_facts, edit_answer, model_number, model_made, models_edited, model_told, edit_step, edit_report}
use Rattle.tapes.specs.Runs.{Asking, of_file, of_directory, Heard, step_in, report_in, model_reports, model_run, Site, site_of, touched_file, touched_now, touched}
use Rattle.requests.specs.Judge.{judge_edit}
use Rattle.requests.specs.Numbers.{number_of}
use Rattle.requests.proofs.Edits.{done-edits}
use Rattle.requests.proofs.Numbers.{done-is}
use Rattle.steps.proofs.Edited.{shape-some}
use Rattle.serving.proofs.Sought.{taken-view}
use Rattle.serving.proofs.Lifting.{Stands}
use Rattle.serving.proofs.View.{view}
use Rattle.settling.proofs.Scene.{length-settle}
use Rattle.settling.proofs.Kept.{used-entry, entry-lies, settle-part}
use Rattle.steps.proofs.Standing.{held_at}
use Rattle.demands.specs.Engine.{plain_engine, buffered_engine, Standing, next, heard}
use Rattle.demands.proofs.Plain.{stands-next, view-next}
use Rattle.demands.proofs.Settled.{settled, KeptAt, kept_next, settled-next}
use Rattle.directory.specs.declared.Entry.{Entry}
use Rattle.requests.specs.declared.Answer.{Answer}
use Rattle.requests.specs.declared.Answer.TheVariants.{Done, Met, Refused}
use Rattle.requests.specs.declared.Edit.{Edit}
use Rattle.requests.specs.declared.Edit.TheVariants.{Add, Delete}
use Rattle.sessions.specs.declared.BufferedSession.{BufferedSession}
use Rattle.sessions.specs.declared.Session.{Session}

-- a file goes by the bytes of its extent alone
model-same : (a b : List ℕ) (e : Entry) → extent e a ≡ extent e b → model_of a e ≡ model_of b e
unfolding model_of
model-same a b e h =
    ap (λ (x : List ℕ). elim (is_free e) [
      | true ↦ nothing
      | false ↦ elim (is_kind random e) [ true ↦ row (row_of (shape_of e) x) | false ↦ tape (tape_of (shape_of e) (is_marked e) e.count x) ]
    ]) h

-- ---- one edit

module _ (w : Standing BufferedSession) (ok : KeptAt w) (v : Stands (settled w).image (settled w).session) where
  abbrev ms : List Model
  ms = view (settled w).image (settled w).session

  same-sectors : sectors_of w.image ≡ sectors_of (settled w).image
  unfolding sectors_of
  same-sectors = ap (λ (n : ℕ). n / sector) (sym (length-settle w.image w.session))

  -- the sectors that a file is added in are no open file's
  same_gap : (kind size n : ℕ) (name : List ℕ) → 1 ≤ n → model_gap ms (sectors_of (settled w).image) n < sectors_of (settled w).image
      → extent (file_made kind size n name (model_gap ms (sectors_of (settled w).image) n)) w.image
      ≡ extent (file_made kind size n name (model_gap ms (sectors_of (settled w).image) n)) (settled w).image
  unfolding extent file_made model_gap bare
  same_gap kind size n name some l = sym (settle-part w.image w.session ok _ _ λ j u. apart j (used-entry w.image w.session ok j u).1)
    where
      N : ℕ
      N = sectors_of (settled w).image

      p : ℕ
      p = lowest_gap (model_taken ms) N n

      same : p ≡ lowest_gap (is_taken w.session.table) N n
      same = sym (gap_same (is_taken w.session.table) N n (model_taken ms) (taken-view (settled w).image (settled w).session v.many))

      free : stands_free (is_taken w.session.table) N n p ≡ true
      free = rw same (gap-stands (is_taken w.session.table) N n (rw same at l))

      apart : (j : ℕ) → is_free (entry_at w.session.table (held_at w.session j).file.entry) ≡ false
          → Apart (sector * p) (sector * n) (sector * (entry_at w.session.table (held_at w.session j).file.entry).first) (sector * (entry_at w.session.table (held_at w.session j).file.entry).sectors)
      apart j u =
          let i : ℕ = (held_at w.session j).file.entry in
          let e : Entry = entry_at w.session.table i in
          let d = gap-apart w.session.table N n p free some i u (entry-lies w.image w.session ok i u).some in
          or-either (leb (e.first + e.sectors) p) (leb (p + n) e.first) d
          (λ (b : leb (e.first + e.sectors) p ≡ true). omega (arith, leb-true (e.first + e.sectors) p b))
          (λ (b : leb (p + n) e.first ≡ true). omega (arith, leb-true (p + n) e.first b))

  module _ (x : Editing) where
    answer-heard : edit_answer ms x w.image ≡ edit_answer ms x (settled w).image
    unfolding edit_answer
    answer-heard = ap (λ (n : ℕ). judge_edit x.edit (model_edit_facts n ms x.entry x.edit x.name)) same-sectors

    made-heard : edit_answer ms x (settled w).image ≡ Done → model_made x.edit ms x.name w.image ≡ model_made x.edit ms x.name (settled w).image
    unfolding edit_answer
    made-heard d = go x.edit d
      where
        go : (y : Edit) → judge_edit y (model_edit_facts (sectors_of (settled w).image) ms x.entry y x.name) ≡ Done → model_made y ms x.name w.image ≡ model_made y ms x.name (settled w).image
        go (Add kind size n) d = unfold model_made model_edit_facts in
            let a = done-edits (Add kind size n) _ d in
            ap (λ (N : ℕ). model_of w.image (file_made kind size n x.name (model_gap ms N n))) same-sectors
            ∙ model-same w.image (settled w).image _ (same_gap kind size n x.name (shape-some kind size n a.shaped) (ltb-true _ _ a.gap))
        go Delete d = unfold model_made in refl

    -- an edit that is not done makes nothing
    step-heard : edit_step ms x w.image ≡ edit_step ms x (settled w).image
    unfolding edit_step
    step-heard = ap (λ (a : Answer). models_edited a ms (model_number x.edit ms x.entry) (model_made x.edit ms x.name w.image)) answer-heard ∙ go (edit_answer ms x (settled w).image) refl
      where
        go : (a : Answer) → edit_answer ms x (settled w).image ≡ a
            → models_edited a ms (model_number x.edit ms x.entry) (model_made x.edit ms x.name w.image) ≡ models_edited a ms (model_number x.edit ms x.entry) (model_made x.edit ms x.name (settled w).image)
        go Done e = unfold models_edited in ap (set ms (model_number x.edit ms x.entry)) (made-heard e)
        go (Met y) e = unfold models_edited in refl
        go (Refused y) e = unfold models_edited in refl

    report-heard : edit_report ms x w.image ≡ edit_report ms x (settled w).image
    unfolding edit_report
    report-heard =
        ap₂ (λ (a : Answer) (after : List Model). record {
          number = number_of a;
          told = if_done a (model_told x.edit (model_number x.edit ms x.entry));
          buffer = [];
          shown = [];
          spots = map model_spot after;
        }) answer-heard step-heard

    touched-heard : touched_now ms (of_directory x) w.image ≡ touched_now ms (of_directory x) (settled w).image
    unfolding touched_now
    touched-heard =
        rw (answer-heard, touched_now)
        (either (eqb (number_of (edit_answer ms x (settled w).image)) 0)
        (λ (b : eqb (number_of (edit_answer ms x (settled w).image)) 0 ≡ true).
        rw (b, touched_now) (ap (λ (m : Model). site_of (model_number x.edit ms x.entry) m ∷ []) (site x.edit refl (done-is (edit_answer ms x (settled w).image) (eqb-true _ 0 b)))))
        (λ (b : eqb (number_of (edit_answer ms x (settled w).image)) 0 ≡ false). rw (b, touched_now)))
      where
        site : (y : Edit) → x.edit ≡ y → edit_answer ms x (settled w).image ≡ Done → touched_file y ms x w.image ≡ touched_file y ms x (settled w).image
        site (Add kind size n) z d = unfold touched_file in made-heard d
        site Delete z d = unfold touched_file in refl

  -- ---- whichever is asked

  step_same : (a : Asking) → step_in ms a w.image ≡ step_in ms a (settled w).image
  unfolding step_in
  step_same (of_file a) = refl
  step_same (of_directory x) = step-heard x

  report-same : (a : Asking) → report_in ms a w.image ≡ report_in ms a (settled w).image
  unfolding report_in
  report-same (of_file a) = refl
  report-same (of_directory x) = report-heard x

  touched-same : (a : Asking) → touched_now ms a w.image ≡ touched_now ms a (settled w).image
  touched-same (of_file a) = unfold touched_now in refl
  touched-same (of_directory x) = touched-heard x

-- ---- a run

-- what is heard of one run and of another comes to the same
abbrev pub Alike : List Model → List Heard → List Heard → Type 0
Alike ms hs ks = (model_run ms hs ≡ model_run ms ks) × (model_reports ms hs ≡ model_reports ms ks) × (touched ms hs ≡ touched ms ks)

module _ (w : Standing BufferedSession) (ok : KeptAt w) (v : Stands (settled w).image (settled w).session) (a : Asking) where
  behind-settled : settled (next buffered_engine w a) ≡ next plain_engine (settled w) a
  behind-settled = settled-next w ok a

  stands-behind : Stands (settled (next buffered_engine w a)).image (settled (next buffered_engine w a)).session
  stands-behind = subst (λ (y : Standing Session). Stands y.image y.session) (sym behind-settled) (stands-next (settled w) v a)

  -- the run goes on where the plain engine stands then
  goes_on_lem : (rest : List Asking)
      → Alike (view (settled (next buffered_engine w a)).image (settled (next buffered_engine w a)).session) (heard buffered_engine (next buffered_engine w a) rest) (heard plain_engine (settled (next buffered_engine w a)) rest)
      → Alike (step_in (ms w ok v) a (settled w).image) (heard buffered_engine (next buffered_engine w a) rest) (heard plain_engine (next plain_engine (settled w) a) rest)
  goes_on_lem rest more =
      let m : view (settled (next buffered_engine w a)).image (settled (next buffered_engine w a)).session ≡ step_in (ms w ok v) a (settled w).image =
      ap (λ (y : Standing Session). view y.image y.session) behind-settled ∙ view-next (settled w) v a in
      subst (λ (y : Standing Session). Alike (step_in (ms w ok v) a (settled w).image) (heard buffered_engine (next buffered_engine w a) rest) (heard plain_engine y rest)) behind-settled
      (subst (λ (y : List Model). Alike y (heard buffered_engine (next buffered_engine w a) rest) (heard plain_engine (settled (next buffered_engine w a)) rest)) m more)

  one_more_lem : (hs ks : List Heard) → Alike (step_in (ms w ok v) a (settled w).image) hs ks
      → Alike (ms w ok v) (record { asked = a; lies = w.image } ∷ hs) (record { asked = a; lies = (settled w).image } ∷ ks)
  unfolding model_run model_reports touched
  one_more_lem hs ks more = (
    ap (λ (m : List Model). model_run m hs) (step_same w ok v a) ∙ more.0,
    ap₂ (λ (r : Report) (m : List Model). r ∷ model_reports m hs) (report-same w ok v a) (step_same w ok v a) ∙ ap (λ (rs : List Report). report_in (ms w ok v) a (settled w).image ∷ rs) more.1,
    ap₂ (λ (t : List Site) (m : List Model). t ++ touched m hs) (touched-same w ok v a) (step_same w ok v a) ∙ ap (λ (ts : List Site). touched_now (ms w ok v) a (settled w).image ++ ts) more.2,
  )

pub same-heard : (asked : List Asking) (w : Standing BufferedSession) → KeptAt w → Stands (settled w).image (settled w).session
    → Alike (view (settled w).image (settled w).session) (heard buffered_engine w asked) (heard plain_engine (settled w) asked)
unfolding heard
same-heard [] w ok v = (refl, refl, refl)
same-heard (a ∷ rest) w ok v =
    one_more_lem w ok v a _ _ (goes_on_lem w ok v a rest (same-heard rest (next buffered_engine w a) (kept_next w ok a) (stands-behind w ok v a)))
