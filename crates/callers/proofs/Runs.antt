-- A run on lent bytes is the run on the session that they are: each step leaves bytes that are the next session. One argument for both engines.
use mathlib.Core.Path.{◌≡◌, refl, sym, ap, ap₂, ◌∙◌}
use mathlib.Core.Bool.{Bool, true, ◌&&◌}
use mathlib.Core.List.{List, [], ◌∷◌, map}
use Prim.Native.Nat.{ℕ, ◌+◌}
use lib.Dec.{eqb}
use Rattle.geometry.specs.Lists.{every, numbers_from}
use Rattle.geometry.specs.Sizes.{entries}
use Rattle.geometry.proofs.Tests.{either, and_left, and_right, chosen, not_chosen}
use Rattle.requests.specs.Numbers.{number_of}
use Rattle.sessions.specs.Session.{buffered_legal}
use Rattle.tapes.specs.Model.{models_of, Asked, Report}
use Rattle.tapes.specs.Edits.{Editing}
use Rattle.tapes.specs.Runs.{Asking, of_file, of_directory, Heard, model_run}
use Rattle.editing.specs.Editing.{lent_edited}
use Rattle.judging.specs.Lent.{lent_after}
use Rattle.storing.specs.Stored.{has_buffers, is_session}
use Rattle.storing.proofs.Read.{session-size, told-by-size}
use Rattle.demands.specs.Engine.{Engine, Standing, spots_of, shown_by, answered, step_of, report_of, edited, edit_of, edit_report_of, next, report_for, reports, run, heard, mounted, models_then, are_bytes, gives_bytes, give_bytes, in_bytes}
use Rattle.promises.specs.Writes.{in_run, all_done}
use Rattle.demands.proofs.Answers.{bytes-image, bytes-given}
use Rattle.demands.proofs.Edits.{nothing-edited}
use Rattle.demands.proofs.Illegal.{nothing-changed}
use Rattle.demands.proofs.Sound.{sound-image}
use Rattle.callers.specs.Lent.{engine_of, read_by, lent_engine}
use Rattle.callers.proofs.Kept.{orderly, passing, reads, refuses, Back, starts, goes, edit-goes}
use Rattle.requests.specs.declared.Answer.{Answer}
use Rattle.requests.specs.declared.Edit.{Edit}
use Rattle.requests.specs.declared.Request.{Request}

module _ (u : Bool) where
  abbrev E : Engine
  E = lent_engine u

  abbrev F : Engine
  F = engine_of u

  abbrev S : Type 0
  S = F.Session

  -- the image, and the session that the bytes are
  abbrev pub opened : Standing (List ℕ) → Standing S
  opened w = record { image = w.image; session = read_by u w.session }

  -- ---- one request

  -- the bytes that are left are the session that is left; bytes that are none stay, and so does what is read from them
  pub read_left : (image b : List ℕ) (i : ℕ) (q : Request) (given buffer : List ℕ) → Back u (F.request image (read_by u b) i q given buffer).session
      → read_by u (E.request image b i q given buffer).session ≡ (F.request image (read_by u b) i q given buffer).session
  unfolding lent_after
  read_left image b i q given buffer k = either (is_session u b)
      (λ h. ap (read_by u) (chosen (is_session u b) _ _ h) ∙ k.1)
      (λ h. ap (read_by u) (not_chosen (is_session u b) _ _ h) ∙ sym (nothing-changed F (orderly u) image (read_by u b) i q given buffer (refuses u image b h)).1)

  -- and they are as many as the bytes were
  size-left : (image b : List ℕ) (i : ℕ) (q : Request) (given buffer : List ℕ) → Back u (F.request image (read_by u b) i q given buffer).session
      → has_buffers b ≡ u → has_buffers (E.request image b i q given buffer).session ≡ u
  unfolding lent_after
  size-left image b i q given buffer k t = either (is_session u b)
      (λ h. ap has_buffers (chosen (is_session u b) _ _ h) ∙ told-by-size u _ (session-size u _ k.0))
      (λ h. ap has_buffers (not_chosen (is_session u b) _ _ h) ∙ t)

  module _ (w : Standing (List ℕ)) (a : Asked) where
    pub same_answer : (answered E w a).answer ≡ (answered F (opened w) a).answer
    unfolding answered lent_after
    same_answer = refl

    pub same-image : (answered E w a).image ≡ (answered F (opened w) a).image
    unfolding answered lent_after
    same-image = refl

    same-buffer : (answered E w a).buffer ≡ (answered F (opened w) a).buffer
    unfolding answered lent_after
    same-buffer = refl

    same-shown : shown_by E w.image w.session a.entry a.request ≡ shown_by F (opened w).image (opened w).session a.entry a.request
    same-shown = refl

    module _ (bytes : are_bytes w.image ≡ true) (gives : are_bytes a.given ≡ true) where
      -- the image stays one of bytes
      pub step-bytes : are_bytes (step_of E w a).image ≡ true
      unfolding step_of answered lent_after
      step-bytes = either (buffered_legal w.image (F.seen (read_by u w.session)))
          (λ ok. sound-image _ _ ((passing u).requests (opened w) (record { is_sound = reads u w.image w.session bytes; is_legal = ok }) a gives).is_sound)
          (λ l. rw (nothing-changed F (orderly u) w.image (read_by u w.session) a.entry a.request a.given a.buffer l).0 bytes)

      read-then : read_by u (answered E w a).session ≡ (answered F (opened w) a).session
      unfolding answered
      read-then =
          read_left w.image w.session a.entry a.request a.given a.buffer
          (goes u w.image w.session a.entry a.request a.given a.buffer bytes gives)

      pub size-then : has_buffers w.session ≡ u → has_buffers (step_of E w a).session ≡ u
      unfolding step_of answered
      size-then =
          size-left w.image w.session a.entry a.request a.given a.buffer
          (goes u w.image w.session a.entry a.request a.given a.buffer bytes gives)

      pub opened-then : opened (step_of E w a) ≡ step_of F (opened w) a
      unfolding step_of
      opened-then = ap₂ (λ (x : List ℕ) (s : S). record { image = x; session = s }) same-image read-then

      same-spots : spots_of E (answered E w a).session ≡ spots_of F (answered F (opened w) a).session
      unfolding spots_of
      same-spots = ap (λ (s : S). map (F.position s) (numbers_from 0 entries)) read-then

      same-report : report_of E w a ≡ report_of F (opened w) a
      unfolding report_of
      same-report = λ j. record {
        number = number_of (same_answer j);
        told = [];
        buffer = same-buffer j;
        shown = same-shown j;
        spots = same-spots j;
      }

  -- ---- one edit

  pub read-edited : (image b : List ℕ) (i : ℕ) (x : Edit) (name : List ℕ) → Back u (F.edit image (read_by u b) i x name).session
      → read_by u (E.edit image b i x name).session ≡ (F.edit image (read_by u b) i x name).session
  unfolding lent_edited
  read-edited image b i x name k = either (is_session u b)
      (λ h. ap (read_by u) (chosen (is_session u b) _ _ h) ∙ k.1)
      (λ h. ap (read_by u) (not_chosen (is_session u b) _ _ h) ∙ sym (nothing-edited F (orderly u) image (read_by u b) i x name (refuses u image b h)).1)

  size-edited : (image b : List ℕ) (i : ℕ) (x : Edit) (name : List ℕ) → Back u (F.edit image (read_by u b) i x name).session
      → has_buffers b ≡ u → has_buffers (E.edit image b i x name).session ≡ u
  unfolding lent_edited
  size-edited image b i x name k t = either (is_session u b)
      (λ h. ap has_buffers (chosen (is_session u b) _ _ h) ∙ told-by-size u _ (session-size u _ k.0))
      (λ h. ap has_buffers (not_chosen (is_session u b) _ _ h) ∙ t)

  module _ (w : Standing (List ℕ)) (x : Editing) where
    pub same-edit-answer : (edited E w x).answer ≡ (edited F (opened w) x).answer
    unfolding edited lent_edited
    same-edit-answer = refl

    same-edit-told : (edited E w x).told ≡ (edited F (opened w) x).told
    unfolding edited lent_edited
    same-edit-told = refl

    same-edit-image : (edited E w x).image ≡ (edited F (opened w) x).image
    unfolding edited lent_edited
    same-edit-image = refl

    read-edit : read_by u (edited E w x).session ≡ (edited F (opened w) x).session
    unfolding edited
    read-edit = read-edited w.image w.session x.entry x.edit x.name (edit-goes u w.image w.session x.entry x.edit x.name)

    size-edit : has_buffers w.session ≡ u → has_buffers (edit_of E w x).session ≡ u
    unfolding edit_of edited
    size-edit = size-edited w.image w.session x.entry x.edit x.name (edit-goes u w.image w.session x.entry x.edit x.name)

    pub opened-edit : opened (edit_of E w x) ≡ edit_of F (opened w) x
    unfolding edit_of
    opened-edit = ap₂ (λ (y : List ℕ) (s : S). record { image = y; session = s }) same-edit-image read-edit

    same-edit-report : edit_report_of E w x ≡ edit_report_of F (opened w) x
    unfolding edit_report_of spots_of
    same-edit-report = λ j. record {
      number = number_of (same-edit-answer j);
      told = same-edit-told j;
      buffer = [];
      shown = [];
      spots = map (F.position (read-edit j)) (numbers_from 0 entries);
    }

    -- the image stays one of bytes
    edit-bytes : are_bytes w.image ≡ true → are_bytes x.name ≡ true → are_bytes (edit_of E w x).image ≡ true
    unfolding edit_of edited lent_edited
    edit-bytes bytes gives = either (buffered_legal w.image (F.seen (read_by u w.session)))
        (λ ok. sound-image _ _ ((passing u).edits (opened w) (record { is_sound = reads u w.image w.session bytes; is_legal = ok }) x gives).is_sound)
        (λ l. rw (nothing-edited F (orderly u) w.image (read_by u w.session) x.entry x.edit x.name l).0 bytes)

  -- ---- whichever is asked

  module _ (w : Standing (List ℕ)) (bytes : are_bytes w.image ≡ true) where
    pub next-bytes : (a : Asking) → gives_bytes a ≡ true → are_bytes (next E w a).image ≡ true
    unfolding next gives_bytes
    next-bytes (of_file a) h = step-bytes w a bytes h
    next-bytes (of_directory x) h = edit-bytes w x bytes h

    pub next-size : (a : Asking) → gives_bytes a ≡ true → has_buffers w.session ≡ u → has_buffers (next E w a).session ≡ u
    unfolding next gives_bytes
    next-size (of_file a) h = size-then w a bytes h
    next-size (of_directory x) h = size-edit w x

    opened-next : (a : Asking) → gives_bytes a ≡ true → opened (next E w a) ≡ next F (opened w) a
    unfolding next gives_bytes
    opened-next (of_file a) h = opened-then w a bytes h
    opened-next (of_directory x) h = opened-edit w x

    report-next : (a : Asking) → gives_bytes a ≡ true → report_for E w a ≡ report_for F (opened w) a
    unfolding report_for gives_bytes
    report-next (of_file a) h = same-report w a bytes h
    report-next (of_directory x) h = same-edit-report w x

  -- ---- a run

  pub first_gives : (a : Asking) (asked : List Asking) → give_bytes (a ∷ asked) ≡ true → gives_bytes a ≡ true
  unfolding every
  first_gives a asked h = and_left (gives_bytes a) (give_bytes asked) h

  pub rest_gives : (a : Asking) (asked : List Asking) → give_bytes (a ∷ asked) ≡ true → give_bytes asked ≡ true
  unfolding every
  rest_gives a asked h = and_right (gives_bytes a) (give_bytes asked) h

  pub run-opened : (w : Standing (List ℕ)) → are_bytes w.image ≡ true → (asked : List Asking) → give_bytes asked ≡ true → opened (run E w asked) ≡ run F (opened w) asked
  unfolding run
  run-opened w bytes [] h = refl
  run-opened w bytes (a ∷ asked) h =
      run-opened (next E w a) (next-bytes w bytes a (first_gives a asked h)) asked (rest_gives a asked h)
      ∙ ap (λ (v : Standing S). run F v asked) (opened-next w bytes a (first_gives a asked h))

  pub run-reports : (w : Standing (List ℕ)) → are_bytes w.image ≡ true → (asked : List Asking) → give_bytes asked ≡ true → reports E w asked ≡ reports F (opened w) asked
  unfolding reports
  run-reports w bytes [] h = refl
  run-reports w bytes (a ∷ asked) h =
      ap₂ (λ (x : Report) (xs : List Report). x ∷ xs) (report-next w bytes a (first_gives a asked h))
      (run-reports (next E w a) (next-bytes w bytes a (first_gives a asked h)) asked (rest_gives a asked h)
      ∙ ap (λ (v : Standing S). reports F v asked) (opened-next w bytes a (first_gives a asked h)))

  -- the tapes and rows hear the same
  run-heard : (w : Standing (List ℕ)) → are_bytes w.image ≡ true → (asked : List Asking) → give_bytes asked ≡ true → heard E w asked ≡ heard F (opened w) asked
  unfolding heard
  run-heard w bytes [] h = refl
  run-heard w bytes (a ∷ asked) h =
      ap (λ (hs : List Heard). record { asked = a; lies = w.image } ∷ hs)
      (run-heard (next E w a) (next-bytes w bytes a (first_gives a asked h)) asked (rest_gives a asked h)
      ∙ ap (λ (v : Standing S). heard F v asked) (opened-next w bytes a (first_gives a asked h)))

  -- requests on files that are given bytes: what is counted of each, and is the same of both
  abbrev pub file_gives : List Asked → Bool
  file_gives asked = every (λ a. are_bytes a.given) asked

  pub run-sum : (c : Standing (List ℕ) → Asked → ℕ) (d : Standing S → Asked → ℕ) → ((w : Standing (List ℕ)) (a : Asked) → c w a ≡ d (opened w) a)
      → (w : Standing (List ℕ)) → are_bytes w.image ≡ true → (asked : List Asked) → file_gives asked ≡ true → in_run E c w asked ≡ in_run F d (opened w) asked
  unfolding in_run every
  run-sum c d same w bytes [] h = refl
  run-sum c d same w bytes (a ∷ asked) h =
      let g : are_bytes a.given ≡ true = and_left (are_bytes a.given) (file_gives asked) h in
      ap₂ (λ (n m : ℕ). n + m) (same w a)
      (run-sum c d same (step_of E w a) (step-bytes w a bytes g) asked (and_right (are_bytes a.given) (file_gives asked) h)
      ∙ ap (λ (v : Standing S). in_run F d v asked) (opened-then w a bytes g))

  pub run-done : (w : Standing (List ℕ)) → are_bytes w.image ≡ true → (asked : List Asked) → file_gives asked ≡ true → all_done E w asked ≡ all_done F (opened w) asked
  unfolding all_done every
  run-done w bytes [] h = refl
  run-done w bytes (a ∷ asked) h =
      let g : are_bytes a.given ≡ true = and_left (are_bytes a.given) (file_gives asked) h in
      ap₂ (λ (x : Answer) (y : Bool). eqb (number_of x) 0 && y) (same_answer w a)
      (run-done (step_of E w a) (step-bytes w a bytes g) asked (and_right (are_bytes a.given) (file_gives asked) h)
      ∙ ap (λ (v : Standing S). all_done F v asked) (opened-then w a bytes g))

  -- ---- from a mounting

  module _ (image : List ℕ) (asked : List Asking) (fit : in_bytes image asked ≡ true) where
    start-opened : opened (mounted E image) ≡ mounted F image
    unfolding mounted
    start-opened = ap (λ (s : S). record { image = image; session = s }) (starts u image).1

    start-bytes : are_bytes (mounted E image).image ≡ true
    unfolding mounted
    start-bytes = bytes-image image asked fit

    pub then-opened : opened (run E (mounted E image) asked) ≡ run F (mounted F image) asked
    then-opened = run-opened (mounted E image) start-bytes asked (bytes-given image asked fit) ∙ ap (λ (v : Standing S). run F v asked) start-opened

    pub then-reports : reports E (mounted E image) asked ≡ reports F (mounted F image) asked
    then-reports = run-reports (mounted E image) start-bytes asked (bytes-given image asked fit) ∙ ap (λ (v : Standing S). reports F v asked) start-opened

    pub then-heard : heard E (mounted E image) asked ≡ heard F (mounted F image) asked
    then-heard = run-heard (mounted E image) start-bytes asked (bytes-given image asked fit) ∙ ap (λ (v : Standing S). heard F v asked) start-opened

    pub then-models : models_then E image asked ≡ models_then F image asked
    unfolding models_then
    then-models = ap (model_run (models_of image)) then-heard

    pub then-image : (run E (mounted E image) asked).image ≡ (run F (mounted F image) asked).image
    then-image = ap (λ (v : Standing S). v.image) then-opened

    module _ (a : Asked) where
      pub then-answer : (answered E (run E (mounted E image) asked) a).answer ≡ (answered F (run F (mounted F image) asked) a).answer
      then-answer = same_answer (run E (mounted E image) asked) a ∙ ap (λ (v : Standing S). (answered F v a).answer) then-opened

      pub then-image-of : (answered E (run E (mounted E image) asked) a).image ≡ (answered F (run F (mounted F image) asked) a).image
      then-image-of = same-image (run E (mounted E image) asked) a ∙ ap (λ (v : Standing S). (answered F v a).image) then-opened
