-- What is proved of an engine on sessions as values holds of it on lent bytes. One argument for both engines.
use mathlib.Core.Path.{◌≡◌, refl, sym, ap, subst, ◌∙◌}
use mathlib.Core.Bool.{Bool, true, false}
use mathlib.Core.List.{List}
use Prim.Native.Nat.{ℕ}
use Rattle.geometry.proofs.Tests.{either, chosen, not_chosen}
use Rattle.directory.specs.Entries.{entry_at, table_of}
use Rattle.directory.specs.declared.Entry.{Entry}
use Rattle.sessions.specs.Session.{buffered_legal}
use Rattle.steps.specs.Step.{After}
use Rattle.tapes.specs.Model.{Model, models_of, model_at, Asked}
use Rattle.tapes.specs.Runs.{model_reports}
use Rattle.editing.specs.Editing.{lent_edited}
use Rattle.judging.specs.Lent.{lent_after}
use Rattle.storing.specs.Stored.{is_session}
use Rattle.demands.specs.Engine.{Engine, Standing, answered, step_of, edit_of, mounted, are_bytes, sound}
use Rattle.demands.specs.Demand1.{Proper, ProperEdit, Orderly, Passes, Passing}
use Rattle.demands.specs.Demand2.{closing, Faithful, CountsStored}
use Rattle.promises.specs.Buffer.{desk_at, Buffered, Buffering}
use Rattle.promises.specs.Granules.{GranuleWrites}
use Rattle.promises.specs.Quiet.{Quiet}
use Rattle.promises.specs.Writes.{plain_count, buffered_count, in_run, all_done, Counted, Writing}
use Rattle.demands.proofs.Sound.{sound-image}
use Rattle.callers.specs.Lent.{engine_of, read_by, stored_by, lent_engine}
use Rattle.callers.proofs.Kept.{orderly, passing, faithful, counts, granules, quiet, same, starts, meets, edit-goes}
use Rattle.callers.proofs.Runs.{opened, read_left, opened-then, read-edited, opened-edit, run-sum, run-done, then-reports, then-heard, then-models, then-answer, then-image, then-image-of}
use Rattle.requests.specs.declared.Edit.{Edit}
use Rattle.requests.specs.declared.Request.{Request}

module _ (u : Bool) where
  abbrev E : Engine
  E = lent_engine u

  abbrev F : Engine
  F = engine_of u

  abbrev S : Type 0
  S = F.Session

  -- ---- one request

  module _ (image b : List ℕ) (i : ℕ) (q : Request) (given buffer : List ℕ) where
    abbrev r : After S
    r = F.request image (read_by u b) i q given buffer

    abbrev l : After (List ℕ)
    l = E.request image b i q given buffer

    told-stored : is_session u b ≡ true → l.session ≡ stored_by u r.session
    unfolding lent_after
    told-stored h = chosen (is_session u b) (stored_by u r.session) b h

    told-not : is_session u b ≡ false → l.session ≡ b
    unfolding lent_after
    told-not h = not_chosen (is_session u b) (stored_by u r.session) b h

    -- nothing changed
    kept : r.session ≡ read_by u b → l.session ≡ b
    kept e = either (is_session u b) (λ h. told-stored h ∙ ap (stored_by u) e ∙ same u b h) told-not

    lent-proper : Proper E image b i q given buffer l
    unfolding lent_after
    lent-proper =
        let p : Proper F image (read_by u b) i q given buffer r = (orderly u).every-request image (read_by u b) i q given buffer in
        record {
          ordered = p.ordered;
          refused = λ x e. let n = p.refused x e in (n.0, kept n.1, n.2);
          met = λ x e. let n = p.met x e in (n.0, ap F.seen (read_left u image b i q given buffer (meets u image b i q given buffer x e)) ∙ n.1, n.2);
          buffer_rest = p.buffer_rest;
          buffer_size = p.buffer_size;
        }

  -- ---- one edit

  module _ (image b : List ℕ) (i : ℕ) (x : Edit) (name : List ℕ) where
    -- nothing changed
    kept-edit : (F.edit image (read_by u b) i x name).session ≡ read_by u b → (E.edit image b i x name).session ≡ b
    unfolding lent_edited
    kept-edit e = either (is_session u b)
        (λ h. chosen (is_session u b) (stored_by u (F.edit image (read_by u b) i x name).session) b h ∙ ap (stored_by u) e ∙ same u b h)
        (λ h. not_chosen (is_session u b) (stored_by u (F.edit image (read_by u b) i x name).session) b h)

    lent-proper-edit : ProperEdit E image b i x name (E.edit image b i x name)
    unfolding lent_edited
    lent-proper-edit =
        let p : ProperEdit F image (read_by u b) i x name (F.edit image (read_by u b) i x name) = (orderly u).every-edit image (read_by u b) i x name in
        record {
          ordered = p.ordered;
          refused = λ h. let n = p.refused h in (n.0, n.1, n.2, kept-edit n.3, n.4);
          one = λ d n q e t.
              let r = p.one d n q e t in
              (r.0, ap F.seen (read-edited u image b i x name (edit-goes u image b i x name)) ∙ r.1, r.2);
          others = p.others;
          size = p.size;
        }

  pub lent-orderly : Orderly E
  unfolding lent_after
  lent-orderly = record {
    line = (orderly u).line;
    edit_line = (orderly u).edit_line;
    every-edit = lent-proper-edit;
    every-request = lent-proper;
    every-look = λ image b i g given buffer.
        let p = (orderly u).every-look image (read_by u b) i g given buffer in
        record { in_place = p.in_place; empty = p.empty };
  }

  pub lent-passing : Passing E
  unfolding mounted
  lent-passing = record {
    mounting = λ image b ok.
        let p : Passes F (mounted F image) = (passing u).mounting image b ok in
        record {
          is_sound = ap (λ (s : S). sound image (F.seen s)) (starts u image).1 ∙ p.is_sound;
          is_legal = ap (λ (s : S). buffered_legal image (F.seen s)) (starts u image).1 ∙ p.is_legal;
        };
    edits = λ w p x gives.
        let q : Passes F (opened u (edit_of E w x)) =
        subst (λ (v : Standing S). Passes F v) (sym (opened-edit u w x))
        ((passing u).edits (opened u w) (record { is_sound = p.is_sound; is_legal = p.is_legal }) x gives) in
        record { is_sound = q.is_sound; is_legal = q.is_legal };
    requests = λ w p a gives.
        let q : Passes F (opened u (step_of E w a)) =
        subst (λ (v : Standing S). Passes F v) (sym (opened-then u w a (sound-image w.image (F.seen (read_by u w.session)) p.is_sound) gives))
        ((passing u).requests (opened u w) (record { is_sound = p.is_sound; is_legal = p.is_legal }) a gives) in
        record { is_sound = q.is_sound; is_legal = q.is_legal };
  }

  -- ---- a run

  pub lent-faithful : Faithful E
  lent-faithful = record {
    mounting = (faithful u).mounting;
    refused_mounting = λ image e. ap F.seen (starts u image).1 ∙ (faithful u).refused_mounting image e;
    serves = λ image ok asked fit.
        then-reports u image asked fit ∙ (faithful u).serves image ok asked fit ∙ ap (model_reports (models_of image)) (sym (then-heard u image asked fit));
  }

  pub lent-counts : CountsStored E
  lent-counts = record {
    stored = λ image ok asked i fit m here done.
        let p = (counts u).stored image ok asked i fit m (ap (λ (ms : List Model). model_at ms i) (sym (then-models u image asked fit)) ∙ here) (sym (then-answer u image asked fit (closing i)) ∙ done) in
        let e = then-image-of u image asked fit (closing i) in
        (ap (λ (x : List ℕ). (entry_at (table_of x) i).count) e ∙ p.0, ap (λ (x : List ℕ). (entry_at (table_of x) i).flags) e ∙ p.1);
  }

  -- ---- what only reads

  pub lent-quiet : Quiet E
  lent-quiet = record { stays = λ image asked fit h. then-image u image asked fit ∙ (quiet u).stays image asked fit h }

  -- ---- granules

  pub lent-granules : GranuleWrites E
  unfolding lent_after
  lent-granules = record {
    small = λ image b i g given buffer. (granules u).small image (read_by u b) i g given buffer;
    large = λ image b i g given buffer. (granules u).large image (read_by u b) i g given buffer;
  }

  -- ---- the blocking buffer

  value-buffered : (w : Standing (List ℕ)) (a : Asked) (i : ℕ) (e : Entry) → Buffered E w a i e → Buffered F (opened u w) a i e
  value-buffered w a i e b = record { is_sound = b.is_sound; bytes = b.bytes; its = b.its; kind = b.kind }

  desk-then : (w : Standing (List ℕ)) (a : Asked) (i : ℕ) (e : Entry) → Buffered E w a i e → desk_at E (step_of E w a) e i ≡ desk_at F (step_of F (opened u w) a) e i
  desk-then w a i e b =
      ap (λ (v : Standing S). desk_at F v e i) (opened-then u w a (sound-image w.image (F.seen (read_by u w.session)) b.is_sound) b.bytes)

  pub lent-buffering : Buffering F → Buffering E
  unfolding answered lent_after
  lent-buffering buffering = record {
    own = λ w a e b. desk-then w a a.entry e b ∙ buffering.own (opened u w) a e (value-buffered w a a.entry e b);
    others = λ w a i e b n. desk-then w a i e b ∙ buffering.others (opened u w) a i e (value-buffered w a i e b) n;
    edits = λ w x i e b.
        ap (λ (v : Standing S). desk_at F v e i) (opened-edit u w x)
        ∙ buffering.edits (opened u w) x i e (record { is_sound = b.is_sound; its = b.its; kind = b.kind });
    inside = λ w a e b. buffering.inside (opened u w) a e (value-buffered w a a.entry e b);
  }

  -- ---- the sectors written

  pub plain-same : (w : Standing (List ℕ)) (a : Asked) → plain_count E w a ≡ plain_count F (opened u w) a
  unfolding answered lent_after plain_count
  plain-same w a = refl

  pub buffered-same : (w : Standing (List ℕ)) (a : Asked) → buffered_count E w a ≡ buffered_count F (opened u w) a
  unfolding answered lent_after buffered_count
  buffered-same w a = refl

  pub lent-counted : (c : Standing (List ℕ) → Asked → ℕ) (d : Standing S → Asked → ℕ) → ((w : Standing (List ℕ)) (a : Asked) → c w a ≡ d (opened u w) a)
      → Counted F d → Counted E c
  unfolding answered lent_after
  lent-counted c d same counted = record { none = λ w a h. counted.none (opened u w) a (sym (same w a) ∙ h) }

  -- a run from bytes that are given bytes
  module _ (w : Standing (List ℕ)) (i p q : ℕ) (asked : List Asked) (b : Writing E w i p q asked) where
    abbrev v : Standing S
    v = opened u w

    bytes : are_bytes w.image ≡ true
    bytes = sound-image w.image (F.seen (read_by u w.session)) b.is_sound

    pub value-writing : Writing F v i p q asked
    unfolding all_done
    value-writing = record {
      is_sound = b.is_sound;
      standing = b.standing;
      bytes = b.bytes;
      done = sym (run-done u w bytes asked b.bytes) ∙ b.done;
    }

    pub lent-sum : (c : Standing (List ℕ) → Asked → ℕ) (d : Standing S → Asked → ℕ) → ((w : Standing (List ℕ)) (a : Asked) → c w a ≡ d (opened u w) a)
        → in_run E c w asked ≡ in_run F d v asked
    lent-sum c d same = run-sum u c d same w bytes asked b.bytes
