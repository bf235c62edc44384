-- A sequential file of a mounted image opens at its first record, since nothing is open behind a mounting, and then the calls print its records.
use mathlib.Core.Path.{◌≡◌, refl, sym, ap, ◌∙◌}
use mathlib.Core.Bool.{Bool, true, false}
use mathlib.Core.List.{List, []}
use Prim.Native.Nat.{ℕ, ◌≤◌, ◌<◌}
use native.Mathlib.Omega.{arith}
use lib.Dec.{eqb}
use lib.ListN.{length}
use Rattle.geometry.specs.Lists.{how_many}
use Rattle.geometry.specs.Sizes.{free, random, most_records}
use Rattle.directory.specs.Entries.{table_of, entry_at, is_free, is_kind, is_marked}
use Rattle.directory.specs.declared.Entry.{Entry}
use Rattle.mounting.specs.Mounting.{mounts, start_with}
use Rattle.requests.specs.Judge.{judge, tests, first_of, or_else, whether}
use Rattle.requests.specs.declared.Answer.TheVariants.{Done}
use Rattle.requests.specs.declared.Request.TheVariants.{Open}
use Rattle.sessions.specs.Session.{extent, open_files}
use Rattle.steps.specs.Step.{After}
use Rattle.engines.specs.Engines.{requested}
use Rattle.tapes.specs.Tape.{Tape, standing, tape_of, tape_facts, tape_done, tape_next}
use Rattle.tapes.specs.Model.{tape, shape_of, models_of, model_at, model_facts, model_next, open_models}
use Rattle.tapes.specs.Runs.{model_run}
use Rattle.demands.specs.Engine.{Engine, Standing, answered, step_of, run, heard, mounted, models_then, are_bytes}
use Rattle.serving.proofs.Mounted.{model-at, mounted-stands, mounted-view}
use Rattle.serving.proofs.View.{open-view}
use Rattle.callers.specs.Lent.{lent_engine}
use Rattle.passes.specs.Pass.{lines_of}
use Rattle.passes.specs.Printed.{lines_by, longest_line}
use Rattle.passes.proofs.Asks.{ask, more, nothing-asked, more-fit, call-is, more-is, answers, more-here}
use Rattle.passes.proofs.Lines.{lines_are}
use Rattle.passes.proofs.Named.{shows-tape}
use Rattle.passes.proofs.Records.{Listed, listed}

none_open : (image : List ℕ) → mounts image ≡ true → open_models (models_of image) ≡ 0
unfolding open_files how_many start_with
none_open image ok = ap open_models (sym (mounted-view image ok)) ∙ sym (open-view image (start_with false (table_of image)) (mounted-stands image ok).ok)

-- so a sequential file that is not open opens
opens : (size : ℕ) (t : Tape) → t.is_open ≡ false → eqb t.shape.kind free ≡ false → judge Open (tape_facts 0 [] size t) ≡ Done
unfolding judge tests first_of or_else whether tape_facts
opens size t o used = rw (o, used)

-- what the opening comes to
abbrev pub opened : Bool → List ℕ → ℕ → After (List ℕ)
opened u image i = answered (lent_engine u) (mounted (lent_engine u) image) (ask i Open [])

module _ (u : Bool) (image : List ℕ) (ok : mounts image ≡ true) (bytes : are_bytes image ≡ true) (i : ℕ) where
  abbrev E : Engine
  E = lent_engine u

  abbrev e : Entry
  e = entry_at (table_of image) i

  module _ (used : is_free e ≡ false) (sequential : is_kind random e ≡ false) where
    abbrev t : Tape
    t = tape_of (shape_of e) (is_marked e) e.count (extent e image)

    here : model_at (models_then E image []) i ≡ tape t
    unfolding models_then heard model_run
    here = model-at image i ∙ shows-tape image e used sequential

    judged : judge Open (model_facts (open_models (models_then E image [])) [] 0 (tape t)) ≡ Done
    unfolding models_then heard model_run model_facts tape_of
    judged = rw (none_open image ok) (opens 0 t refl (listed image ok i used sequential).used)

    pub open-call : requested image (E.mount image).session i Open [] [] ≡ opened u image i
    unfolding run mounted
    open-call = call-is u image [] (nothing-asked image bytes) i Open []

    pub open_done : (opened u image i).answer ≡ Done
    unfolding run
    open_done = answers u image [] (nothing-asked image bytes) i Open [] ok (tape t) here ∙ judged

    then-here : model_at (models_then E image (more [] i Open [])) i ≡ tape (standing t true 0 false)
    unfolding model_next tape_next tape_done
    then-here = more-here u image [] (nothing-asked image bytes) i Open [] ok (tape t) here ∙ rw judged

    -- and its lines are printed
    pub opened-lines : (k : ℕ) (out : List ℕ) → longest_line ≤ length out → most_records < k
        → lines_by k (opened u image i).image (opened u image i).session i e.length out ≡ lines_of t.records
    unfolding run step_of tape_of shape_of
    opened-lines k out room many =
        let l : Listed t = listed image ok i used sequential in
        ap (λ (v : Standing (List ℕ)). lines_by k v.image v.session i e.length out) (sym (more-is u image [] (nothing-asked image bytes) i Open []))
        ∙ lines_are u image ok i t l k 0 (more [] i Open []) (more-fit u image [] (nothing-asked image bytes) i Open []) then-here out
        (omega (arith, l.short)) (omega (arith, l.few))
