-- Demand 3's agreement: the buffered engine's run, settled, is the plain engine's, which serves the tapes and rows; what is held lies in the
-- extents of open files, and where none is open nothing is held.
use mathlib.Core.Path.{◌≡◌, refl, sym, ap, subst, ◌∙◌}
use mathlib.Core.Logic.{◌⊎◌, inl, inr}
use mathlib.Core.Bool.{true, not}
use mathlib.Core.List.{List}
use Prim.Native.Nat.{ℕ, ◌*◌, ◌%◌, ◌≤◌, ◌<◌}
use native.Mathlib.Omega.{arith}
use lib.ListN.{length, get_or}
use Rattle.geometry.specs.Lists.{every}
use Rattle.geometry.specs.Places.{reach_of}
use Rattle.geometry.specs.Sizes.{sector, lawful_length}
use Rattle.geometry.specs.Bytes.{part, lay}
use Rattle.geometry.proofs.Bytes.{Apart, length_part, part-lay-same}
use Rattle.geometry.proofs.Tests.{both_ways, chosen}
use Rattle.directory.specs.Entries.{table_of, entry_at}
use Rattle.sessions.specs.Session.{bare, is_of, file_of, has_buffer, holds_one, extent, extent_with, buffered_legal}
use Rattle.sessions.proofs.Held.{holds-one}
use Rattle.sessions.proofs.Files.{is-of, Finds, opened, closed, finds}
use Rattle.mounting.specs.Mounting.{mounts, buffered_mount}
use Rattle.mounting.proofs.Mounted.{mounts-length}
use Rattle.tapes.specs.Model.{Model, models_of, Asked, model_at}
use Rattle.tapes.specs.Runs.{Asking}
use Rattle.serving.proofs.Mounted.{none_open}
use Rattle.serving.proofs.Lifting.{Stands}
use Rattle.serving.proofs.View.{view}
use Rattle.steps.proofs.Standing.{held_at, bare-at}
use Rattle.steps.specs.Effects.{effects}
use Rattle.steps.specs.Step.{held_of, buffered_scene, buffered_answer, buffered_after, buffered_step}
use Rattle.settling.proofs.Bench.{length-all}
use Rattle.settling.proofs.Kept.{Kept, entry-room, settle-elsewhere, settle-table}
use Rattle.settling.proofs.Scene.{same_bytes}
use Rattle.steps.proofs.Edited.{outside-edit}
use Rattle.steps.proofs.Inside.{reach-buffered}
use Rattle.settling.proofs.Step.{Agrees}
use Rattle.demands.proofs.Heard.{Alike, same-heard}
use Rattle.demands.specs.Engine.{plain_engine, buffered_engine, Standing, answered, step_of, run, heard, mounted, models_then}
use Rattle.demands.specs.Demand2.{closing, Faithful, CountsStored}
use Rattle.demands.specs.Demand3.{belongs, Outside, Untouched, Agreeing, Agree}
use Rattle.demands.proofs.Passing.{held-within}
use Rattle.demands.proofs.Sound.{buffer-used, held-size}
use Rattle.demands.proofs.Plain.{mount-stands, mount-view, then-stands, then-view, afresh, plain-faithful}
use Rattle.demands.proofs.Counts.{plain-counts}
use Rattle.demands.proofs.Untouched.{far, Spared, as_long, mounted-spared, plain-untouched}
use Rattle.demands.proofs.Settled.{settled, KeptAt, agrees, kept_step, start-kept, start-settled, mounted-run-kept, mounted-run, mounted-reports, idle-images}
use Rattle.directory.specs.declared.Entry.{Entry}
use Rattle.requests.specs.declared.Answer.{Answer}
use Rattle.requests.specs.declared.Answer.TheVariants.{Done, Met, Refused}
use Rattle.requests.specs.declared.Request.{Request}
use Rattle.sessions.specs.declared.BufferedFile.{BufferedFile}
use Rattle.sessions.specs.declared.BufferedSession.{BufferedSession}
use Rattle.sessions.specs.declared.Session.{Session}

-- what the tapes and rows hear of the one engine they hear of the other, from a mounting on
mounted-heard : (image : List ℕ) → mounts image ≡ true → (asked : List Asking)
    → Alike (models_of image) (heard buffered_engine (mounted buffered_engine image) asked) (heard plain_engine (mounted plain_engine image) asked)
mounted-heard image ok asked =
    let l : lawful_length image ≡ true = mounts-length image ok in
    let q : settled (mounted buffered_engine image) ≡ mounted plain_engine image = start-settled image l asked in
    let m : view (settled (mounted buffered_engine image)).image (settled (mounted buffered_engine image)).session ≡ models_of image =
    ap (λ (w : Standing Session). view w.image w.session) q ∙ mount-view image ok in
    let v : Stands (settled (mounted buffered_engine image)).image (settled (mounted buffered_engine image)).session = subst (λ (w : Standing Session). Stands w.image w.session) (sym q) (mount-stands image ok) in
    subst (λ (w : Standing Session). Alike (models_of image) (heard buffered_engine (mounted buffered_engine image) asked) (heard plain_engine w asked)) q
    (subst (λ (ms : List Model). Alike ms (heard buffered_engine (mounted buffered_engine image) asked) (heard plain_engine (settled (mounted buffered_engine image)) asked)) m
    (same-heard asked (mounted buffered_engine image) (start-kept image l asked) v))

pub buffered-faithful : Faithful buffered_engine
unfolding buffered_mount
buffered-faithful = record {
  mounting = λ image. refl;
  refused_mounting = λ image e. plain-faithful.refused_mounting image e;
  serves = λ image ok asked fit.
      mounted-reports image (mounts-length image ok) asked ∙ plain-faithful.serves image ok asked fit ∙ sym (mounted-heard image ok asked).1;
}

buffered-long : (image : List ℕ) (s : BufferedSession) (i : ℕ) (q : Request) (given buffer : List ℕ) → length (buffered_step image s i q given buffer).image ≡ length image
unfolding buffered_step buffered_after
buffered-long image s i q given buffer = go (buffered_answer image s i q given (length buffer))
  where
    go : (a : Answer) → length (buffered_after a image s q (buffered_scene image s i given) (held_of s i) buffer).image ≡ length image
    go Done = length-all (buffered_scene image s i given) (effects q (buffered_scene image s i given)) (record { image = image; file = held_of s i })
    go (Met x) = refl
    go (Refused x) = refl

module _ (image : List ℕ) (ok : mounts image ≡ true) (asked : List Asking) where
  abbrev w : Standing BufferedSession
  w = run buffered_engine (mounted buffered_engine image) asked

  abbrev v : Standing Session
  v = run plain_engine (mounted plain_engine image) asked

  kept : Kept w.image w.session
  kept = mounted-run-kept image (mounts-length image ok) asked

  same : settled w ≡ v
  same = mounted-run image (mounts-length image ok) asked

  -- a state in use is found for its entry
  in_use_lem : (k : ℕ) → (held_at w.session k).file.used ≡ true → (file_of v.session.files (held_at w.session k).file.entry).used ≡ true
  in_use_lem k u = ap (λ (x : Standing Session). (file_of x.session.files i).used) (sym same) ∙ go (finds (bare w.session).files i)
    where
      i : ℕ
      i = (held_at w.session k).file.entry

      go : Finds (bare w.session).files (held_at w.session k).file.entry → (file_of (bare w.session).files (held_at w.session k).file.entry).used ≡ true
      go (opened h p z e b) = z
      go (closed p h b) = both_ways (is_of (held_at w.session k).file.entry (held_at w.session k).file) (is-of _ (held_at w.session k).file u refl) (ap (is_of (held_at w.session k).file.entry) (sym (bare-at w.session k)) ∙ b k)

  elsewhere : (j : ℕ) → Outside buffered_engine image asked j → get_or w.image j 0 ≡ get_or image j 0
  unfolding bare
  elsewhere j h =
      let m = mounted-spared image ok asked j (ap (every (λ t. not (belongs j t))) (sym (mounted-heard image ok asked).2) ∙ h) in
      sym (settle-elsewhere w.image w.session kept j (λ k u b. away m.1 (held_at w.session k).file.entry (in_use_lem k u) b))
      ∙ ap (λ (x : Standing Session). get_or x.image j 0) same
      ∙ m.0
    where
      -- a file that has a buffer may write every byte of its extent
      apart : (e : Entry) → has_buffer e ≡ true → Apart j 1 (sector * e.first) (sector * e.sectors) ⊎ (reach_of e.kind e.length ≤ j % sector)
          → Apart j 1 (sector * e.first) (sector * e.sectors)
      apart e b (inl a) = a
      apart e b (inr h) = absurd (omega (arith, reach-buffered e b))

      away : Spared j v → (i : ℕ) → (file_of v.session.files i).used ≡ true → has_buffer (entry_at w.session.table i) ≡ true
          → Apart j 1 (sector * (entry_at w.session.table i).first) (sector * (entry_at w.session.table i).sectors)
      away p i u =
          subst (λ (x : Standing Session). has_buffer (entry_at x.session.table i) ≡ true → Apart j 1 (sector * (entry_at x.session.table i).first) (sector * (entry_at x.session.table i).sectors)) (sym same)
          (λ b. apart (entry_at v.session.table i) b (far j v p i u).1)

  -- the held sector's bytes, as the plain engine has them in its image
  module _ (i : ℕ) (kind : has_buffer (entry_at w.session.table i) ≡ true) (h : (held_of w.session i).holds ≡ true) where
    abbrev e : Entry
    e = entry_at w.session.table i

    abbrev b : BufferedFile
    b = held_of w.session i

    seen_bytes : lay (extent e w.image) (sector * b.held) b.buffer ≡ extent e v.image
    unfolding extent_with
    seen_bytes =
        sym (chosen (holds_one e b) _ (extent e w.image) (holds-one e b h kind))
        ∙ same_bytes w.image w.session kept i
        ∙ ap (λ (x : Standing Session). extent e x.image) same

    extent-size : length (extent e w.image) ≡ sector * e.sectors
    unfolding extent
    extent-size =
        let r = entry-room w.image w.session kept i (buffer-used e kind) in
        length_part w.image (sector * e.first) (sector * e.sectors) (omega (arith, r.1))

    held_bytes : b.buffer ≡ part (extent e v.image) (sector * b.held) sector
    held_bytes =
        let l : b.held < e.sectors = held-within w.image w.session kept.is_legal i h in
        sym (part-lay-same (extent e w.image) (sector * b.held) b.buffer sector (held-size w.session kept.is_typed i) (omega (arith, extent-size)))
        ∙ ap (λ (y : List ℕ). part y (sector * b.held) sector) seen_bytes

  buffered-untouched : Untouched buffered_engine image asked
  buffered-untouched = (as_long buffered_engine buffered-long (λ image s i x name. (outside-edit (buffered_legal image s) _ image (bare s) i x name).size) image asked, elsewhere)

  same-models : models_then buffered_engine image asked ≡ models_then plain_engine image asked
  unfolding models_then
  same-models = (mounted-heard image ok asked).0

  agreeing : Agreeing plain_engine buffered_engine image asked
  agreeing = record {
    alike = sym (mounted-reports image (mounts-length image ok) asked);
    same = sym same-models;
    untouched = (plain-untouched image ok asked, buffered-untouched);
    held = λ i e b p z q h. rw (← p, ← q) (held_bytes i (rw p z) (rw q h));
    when_idle = λ z.
        let f = afresh image ok asked z in
        (sym (idle-images image (mounts-length image ok) asked (λ i l. none_open v.image v.session (then-stands image ok asked) (rw (then-view image ok asked) z) i)), f.0, f.1);
  }

pub agree : Agree plain_engine buffered_engine
agree = record { first = plain-faithful; second = buffered-faithful; agreeing = λ image ok asked x. agreeing image ok asked }

-- the count that a closing stores: the directory is in no buffer
module _ (image : List ℕ) (ok : mounts image ≡ true) (asked : List Asking) (a : Asked) where
  then-kept : KeptAt (step_of buffered_engine (w image ok asked) a)
  then-kept = kept_step (w image ok asked) (kept image ok asked) a

  then_agrees : Agrees (answered buffered_engine (w image ok asked) a) (answered plain_engine (v image ok asked) a)
  then_agrees = rw (same image ok asked) at (agrees (w image ok asked) (kept image ok asked) a)

  same-table : table_of (answered buffered_engine (w image ok asked) a).image ≡ table_of (answered plain_engine (v image ok asked) a).image
  unfolding step_of
  same-table = sym (settle-table (answered buffered_engine (w image ok asked) a).image (answered buffered_engine (w image ok asked) a).session then-kept) ∙ ap table_of then_agrees.image

pub buffered-counts : CountsStored buffered_engine
buffered-counts = record {
  stored = λ image ok asked i fit m here done.
      let p = plain-counts.stored image ok asked i fit m (ap (λ (ms : List Model). model_at ms i) (sym (same-models image ok asked)) ∙ here) (sym (then_agrees image ok asked (closing i)).answer ∙ done) in
      let t = same-table image ok asked (closing i) in
      (ap (λ (table : List Entry). (entry_at table i).count) t ∙ p.0, ap (λ (table : List Entry). (entry_at table i).flags) t ∙ p.1);
}
