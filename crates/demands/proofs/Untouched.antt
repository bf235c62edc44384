-- "every byte outside the entries and extents of" files "opened, added or deleted" "is as mounted", in the plain engine: a request changes bytes of an open file
-- alone, a file is open only if it was opened since the mounting, and an edit changes its own entry.
use mathlib.Core.Path.{◌≡◌, refl, sym, ap, ◌∙◌}
use mathlib.Core.Logic.{◌⊎◌, inl, inr}
use mathlib.Core.Bool.{Bool, true, false, ◌&&◌, ◌||◌, not, false≢true}
use mathlib.Core.List.{List, [], ◌∷◌}
use Prim.Native.Nat.{ℕ, ◌+◌, ◌*◌, ◌%◌, ◌≤◌}
use native.Mathlib.Omega.{arith}
use lib.ListN.{length, get_or}
use borrow.Author.Tests.{not-true, ltb-false}
use Rattle.geometry.specs.Lists.{every}
use Rattle.geometry.specs.Places.{reach_of}
use Rattle.geometry.specs.Sizes.{sector, entry_size, random}
use Rattle.geometry.proofs.Bytes.{Apart}
use Rattle.geometry.proofs.Tests.{either, both_ways, and_left, and_right}
use Rattle.directory.specs.Entries.{table_of, entry_at, is_free, is_kind}
use Rattle.directory.proofs.Free.{every_append}
use Rattle.directory.specs.Stamp.{restamped}
use Rattle.sessions.specs.Session.{file_of, extent, legal}
use Rattle.sessions.proofs.Distinct.{free-shut}
use Rattle.mounting.specs.Mounting.{mounts, start_with}
use Rattle.steps.specs.Edit.{edited_number, Edited}
use Rattle.steps.specs.Effects.{effects}
use Rattle.steps.specs.Step.{plain_scene, plain_answer, plain_after, plain_step}
use Rattle.steps.proofs.Frame.{length-plain}
use Rattle.tapes.specs.Model.{Model, nothing, tape, row, shape_of, Asked, model_at, is_open_model, opens_now}
use Rattle.tapes.specs.Edits.{Editing, of_shape, edit_answer, model_number}
use Rattle.tapes.specs.Runs.{Asking, of_file, of_directory, step_in, Site, site_of, touched_file, touched_now, touched}
use Rattle.tapes.proofs.Opened.{open_after, open-edited}
use Rattle.steps.proofs.Edited.{eight-done, edit-either, outside-edit}
use Rattle.steps.proofs.Laid.{laid-outside}
use Rattle.serving.proofs.Sought.{edit-number, answer-same}
use Rattle.serving.proofs.Lifting.{Stands}
use Rattle.serving.proofs.Mounted.{mounted-session, nothing-open}
use Rattle.serving.proofs.Step.{untouched-step, bare_step}
use Rattle.serving.proofs.Solo.{shows}
use Rattle.serving.proofs.View.{shows_at, view, view-at, open_at}
use Rattle.demands.specs.Engine.{Engine, plain_engine, Standing, answered, step_of, edited, edit_of, next, run, heard, mounted}
use Rattle.demands.specs.Demand3.{belongs, Outside, Untouched}
use Rattle.demands.proofs.Edits.{apart}
use Rattle.demands.proofs.Plain.{stands-then, view_then, stands-edited, view-edited, view-next, mount-stands, mount-view}
use Rattle.directory.specs.declared.Entry.{Entry}
use Rattle.requests.specs.declared.Answer.{Answer}
use Rattle.requests.specs.declared.Answer.TheVariants.{Done, Met, Refused}
use Rattle.requests.specs.declared.Edit.{Edit}
use Rattle.requests.specs.declared.Request.{Request}
use Rattle.sessions.specs.declared.OpenFile.{OpenFile}
use Rattle.sessions.specs.declared.Session.{Session}

-- ---- a byte that does not belong to a file

not-both : {P : Type 0} (a b : Bool) → (a && b) ≡ false → (a ≡ false → P) → (b ≡ false → P) → P
not-both true b e f g = g e
not-both false b e f g = f e

neither : (a b : Bool) → (a || b) ≡ false → (a ≡ false) × (b ≡ false)
neither true b e = absurd (false≢true (sym e))
neither false b e = (refl, e)

-- a byte that does not belong to a file lies beside its entry and its extent, or at a sector's end behind its granules
beside : (j i first sectors reach : ℕ) → belongs j (record { entry = i; first = first; sectors = sectors; reach = reach }) ≡ false
    → Apart j 1 (entry_size * i) entry_size × (Apart j 1 (sector * first) (sector * sectors) ⊎ (reach ≤ j % sector))
unfolding belongs
beside j i first sectors reach none =
    let sum : sector * (first + sectors) ≡ sector * first + sector * sectors = omega arith in
    let k = neither _ _ none in
    (apart j (entry_size * i) entry_size k.0, not-both _ _ (rw sum at k.1) (λ h. inl (apart j (sector * first) (sector * sectors) h)) (λ h. inr (ltb-false _ _ h)))

-- ---- where the file of an entry lies

abbrev site_at : ℕ → Entry → Site
site_at i e = record { entry = i; first = e.first; sectors = e.sectors; reach = reach_of e.kind e.length }

site-shows : (i : ℕ) (e : Entry) (f : OpenFile) (bytes : List ℕ) → is_free e ≡ false → site_of i (shows e f bytes) ≡ site_at i e
unfolding shows site_of of_shape shape_of
site-shows i e f bytes u =
    either (is_kind random e) (λ (r : is_kind random e ≡ true). rw (u, r, shows)) (λ (r : is_kind random e ≡ false). rw (u, r, shows))

module _ (w : Standing Session) (v : Stands w.image w.session) (k : ℕ) where
  abbrev e : Entry
  e = entry_at w.session.table k

  abbrev m : Model
  m = model_at (view w.image w.session) k

  pub open-file : is_open_model m ≡ (file_of w.session.files k).used
  open-file = rw (view-at w.image w.session v.many k) (open_at w.image w.session v.ok k)

  open-used : is_open_model m ≡ true → is_free e ≡ false
  open-used o = either (is_free e)
      (λ (u : is_free e ≡ true). both_ways (file_of w.session.files k).used (sym open-file ∙ o) (free-shut w.image w.session v.ok k u))
      (λ u. u)

  site-view : is_free e ≡ false → site_of k m ≡ site_at k e
  unfolding shows_at
  site-view u = rw (view-at w.image w.session v.many k) (site-shows k e (file_of w.session.files k) (extent e w.image) u)

-- its entry's bytes are among its bytes
entry-beside : (j n : ℕ) (m : Model) → belongs j (site_of n m) ≡ false → Apart j 1 (entry_size * n) entry_size
unfolding belongs site_of of_shape
entry-beside j n nothing h = apart j (entry_size * n) entry_size (neither _ _ h).0
entry-beside j n (tape t) h = apart j (entry_size * n) entry_size (neither _ _ h).0
entry-beside j n (row w) h = apart j (entry_size * n) entry_size (neither _ _ h).0

-- ---- a run

module _ (j : ℕ) where
  -- what the run keeps: the byte belongs to no file that is open
  pub record Spared (w : Standing Session) : Type 0 where
    pub stands : Stands w.image w.session
    pub none : (k : ℕ) → is_open_model (model_at (view w.image w.session) k) ≡ true → belongs j (site_of k (model_at (view w.image w.session) k)) ≡ false

  -- the byte is none that an open file may write
  pub far : (w : Standing Session) → Spared w → (k : ℕ) → (file_of w.session.files k).used ≡ true
      → Apart j 1 (entry_size * k) entry_size
      × (Apart j 1 (sector * (entry_at w.session.table k).first) (sector * (entry_at w.session.table k).sectors)
      ⊎ (reach_of (entry_at w.session.table k).kind (entry_at w.session.table k).length ≤ j % sector))
  far w p k u =
      let o : is_open_model (model_at (view w.image w.session) k) ≡ true = open-file w p.stands k ∙ u in
      let e : Entry = entry_at w.session.table k in
      beside j k e.first e.sectors (reach_of e.kind e.length) (ap (belongs j) (sym (site-view w p.stands k (open-used w p.stands k o))) ∙ p.none k o)

  -- a request
  module _ (w : Standing Session) (p : Spared w) (a : Asked)
      (now : opens_now (view w.image w.session) a ≡ true → belongs j (site_of a.entry (model_at (view w.image w.session) a.entry)) ≡ false) where
    abbrev w' : Standing Session
    w' = step_of plain_engine w a

    byte-then : get_or w'.image j 0 ≡ get_or w.image j 0
    unfolding step_of answered
    byte-then =
        untouched-step w.image w.session p.stands a.entry a.given a.request a.buffer j λ u.
        let f = far w p a.entry u in record { entry = omega (arith, f.0); extent = f.1 }

    same-entry : (k : ℕ) → restamped (entry_at w'.session.table k) 0 0 ≡ restamped (entry_at w.session.table k) 0 0
    unfolding step_of answered
    same-entry k = bare_step w.image w.session p.stands a.entry a.given a.request a.buffer k

    -- a file that is open behind it lies where it lay
    same-site : (k : ℕ) → is_open_model (model_at (view w'.image w'.session) k) ≡ true
        → site_of k (model_at (view w'.image w'.session) k) ≡ site_of k (model_at (view w.image w.session) k)
    same-site k o =
        let u : is_free (entry_at w'.session.table k) ≡ false = open-used w' (stands-then w p.stands a) k o in
        let t : is_free (entry_at w.session.table k) ≡ false = ap is_free (sym (same-entry k)) ∙ u in
        site-view w' (stands-then w p.stands a) k u ∙ ap (site_at k) (same-entry k) ∙ sym (site-view w p.stands k t)

    spared-then : Spared w'
    spared-then = record {
      stands = stands-then w p.stands a;
      none = λ k h. ap (belongs j) (same-site k h) ∙ go k (open_after (view w.image w.session) a k (rw (view_then w p.stands a) at h));
    }
      where
        go : (k : ℕ) → (is_open_model (model_at (view w.image w.session) k) ≡ true) ⊎ ((k ≡ a.entry) × (opens_now (view w.image w.session) a ≡ true))
            → belongs j (site_of k (model_at (view w.image w.session) k)) ≡ false
        go k (inl o) = p.none k o
        go k (inr o) = rw o.0 (now o.1)

  -- an edit
  module _ (w : Standing Session) (p : Spared w) (x : Editing)
      (now : edit_answer (view w.image w.session) x w.image ≡ Done
      → belongs j (site_of (model_number x.edit (view w.image w.session) x.entry) (touched_file x.edit (view w.image w.session) x w.image)) ≡ false) where
    abbrev shown : List Model
    shown = view w.image w.session

    abbrev behind : Standing Session
    behind = edit_of plain_engine w x

    byte-edited : get_or behind.image j 0 ≡ get_or w.image j 0
    unfolding edit_of edited
    byte-edited =
        edit-either (legal w.image w.session) _ w.image w.session x.entry x.edit x.name (λ (r : Edited Session). get_or r.image j 0 ≡ get_or w.image j 0)
        (λ e.
        let d : edit_answer shown x w.image ≡ Done = sym (answer-same w.image w.session p.stands x.entry x.name x.edit) ∙ e in
        let n : edited_number x.edit w.session.table x.entry ≡ model_number x.edit shown x.entry = edit-number w.image w.session p.stands.many x.edit x.entry in
        (laid-outside w.image _ _ (eight-done (legal w.image w.session) w.image w.session x.entry x.edit x.name e)).byte j
        (rw n (entry-beside j (model_number x.edit shown x.entry) (touched_file x.edit shown x w.image) (now d))))
        (λ y e. refl)

    spared-edited : Spared behind
    spared-edited = record {
      stands = stands-edited w p.stands x;
      none = λ k h.
          let same = open-edited shown x w.image k (rw (view-edited w p.stands x) at h) in
          rw (view-edited w p.stands x) (ap (λ (m : Model). belongs j (site_of k m)) same ∙ p.none k (ap is_open_model (sym same) ∙ rw (view-edited w p.stands x) at h));
    }

  -- whichever is asked
  one : (w : Standing Session) → Spared w → (a : Asking) → every (λ t. not (belongs j t)) (touched_now (view w.image w.session) a w.image) ≡ true
      → (get_or (next plain_engine w a).image j 0 ≡ get_or w.image j 0) × Spared (next plain_engine w a)
  unfolding next touched_now every
  one w p (of_file a) h = (byte-then w p a now, spared-then w p a now)
    where
      now : opens_now (view w.image w.session) a ≡ true → belongs j (site_of a.entry (model_at (view w.image w.session) a.entry)) ≡ false
      now o = not-true _ (and_left (not (belongs j (site_of a.entry (model_at (view w.image w.session) a.entry)))) _ (rw (o, touched_now) at h))
  one w p (of_directory x) h = (byte-edited w p x now, spared-edited w p x now)
    where
      ms : List Model
      ms = view w.image w.session

      t : Site
      t = site_of (model_number x.edit ms x.entry) (touched_file x.edit ms x w.image)

      now : edit_answer (view w.image w.session) x w.image ≡ Done
          → belongs j (site_of (model_number x.edit (view w.image w.session) x.entry) (touched_file x.edit (view w.image w.session) x w.image)) ≡ false
      now d = not-true _ (and_left (not (belongs j t)) _ (rw (d, touched_now) at h))

  spared : (asked : List Asking) (w : Standing Session) → Spared w → every (λ t. not (belongs j t)) (touched (view w.image w.session) (heard plain_engine w asked)) ≡ true
      → (get_or (run plain_engine w asked).image j 0 ≡ get_or w.image j 0) × Spared (run plain_engine w asked)
  unfolding run heard touched
  spared [] w p h = (refl, p)
  spared (a ∷ rest) w p h =
      let ms : List Model = view w.image w.session in
      let first : List Site = touched_now ms a w.image in
      let both : (every (λ t. not (belongs j t)) first && every (λ t. not (belongs j t)) (touched (step_in ms a w.image) (heard plain_engine (next plain_engine w a) rest))) ≡ true =
      sym (every_append (λ t. not (belongs j t)) first _) ∙ h in
      let o = one w p a (and_left (every (λ t. not (belongs j t)) first) _ both) in
      let more = spared rest (next plain_engine w a) o.1 (rw (view-next w p.stands a) (and_right (every (λ t. not (belongs j t)) first) _ both)) in
      (more.0 ∙ o.0, more.1)

module _ (image : List ℕ) (ok : mounts image ≡ true) (j : ℕ) where
  abbrev begun : Standing Session
  begun = mounted plain_engine image

  start : Spared j begun
  unfolding mounted start_with
  start = record {
    stands = mount-stands image ok;
    none = λ k h. both_ways (file_of begun.session.files k).used
        (sym (open-file begun (mount-stands image ok) k) ∙ h)
        (ap (λ (s : Session). (file_of s.files k).used) (mounted-session image ok) ∙ ap (λ (f : OpenFile). f.used) (nothing-open (table_of image) k));
  }

-- ---- an image is as long behind a run as before it

module _ (E : Engine) (request : (image : List ℕ) (s : E.Session) (i : ℕ) (q : Request) (given buffer : List ℕ) → length (E.request image s i q given buffer).image ≡ length image)
    (edit : (image : List ℕ) (s : E.Session) (i : ℕ) (x : Edit) (name : List ℕ) → length (E.edit image s i x name).image ≡ length image) where
  next-long : (a : Asking) (w : Standing E.Session) → length (next E w a).image ≡ length w.image
  unfolding next step_of answered edit_of edited
  next-long (of_file a) w = request w.image w.session a.entry a.request a.given a.buffer
  next-long (of_directory x) w = edit w.image w.session x.entry x.edit x.name

  run_long : (asked : List Asking) (w : Standing E.Session) → length (run E w asked).image ≡ length w.image
  unfolding run
  run_long [] w = refl
  run_long (a ∷ rest) w = run_long rest (next E w a) ∙ next-long a w

  pub as_long : (image : List ℕ) (asked : List Asking) → length (run E (mounted E image) asked).image ≡ length image
  unfolding mounted
  as_long image asked = run_long asked (mounted E image)

plain-long : (image : List ℕ) (s : Session) (i : ℕ) (q : Request) (given buffer : List ℕ) → length (plain_step image s i q given buffer).image ≡ length image
unfolding plain_step plain_after
plain-long image s i q given buffer = go (plain_answer image s i q given (length buffer))
  where
    go : (a : Answer) → length (plain_after a image s q (plain_scene image s i given) buffer).image ≡ length image
    go Done = length-plain (plain_scene image s i given) (effects q (plain_scene image s i given)) image
    go (Met x) = refl
    go (Refused x) = refl

-- what the run from a mounting keeps
pub mounted-spared : (image : List ℕ) → mounts image ≡ true → (asked : List Asking) (j : ℕ) → Outside plain_engine image asked j
    → (get_or (run plain_engine (mounted plain_engine image) asked).image j 0 ≡ get_or image j 0) × Spared j (run plain_engine (mounted plain_engine image) asked)
unfolding mounted
mounted-spared image ok asked j h = spared j asked (mounted plain_engine image) (start image ok j) (rw (mount-view image ok) h)

pub plain-untouched : (image : List ℕ) → mounts image ≡ true → (asked : List Asking) → Untouched plain_engine image asked
plain-untouched image ok asked = (as_long plain_engine plain-long (λ image s i x name. (outside-edit (legal image s) _ image s i x name).size) image asked, λ j h. (mounted-spared image ok asked j h).0)
