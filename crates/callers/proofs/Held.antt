-- What a request of the buffered engine leaves fits its bytes: what is held is a sector of the extent, and what stands in the buffer is bytes of the
-- image and of those given.
use mathlib.Core.Path.{◌≡◌, refl, sym, ◌∙◌}
use mathlib.Core.Bool.{Bool, true, false, ◌&&◌}
use mathlib.Core.List.{List, [], ◌∷◌, map}
use Prim.Native.Nat.{ℕ, ◌≤◌, ◌<◌}
use native.Mathlib.Omega.{arith}
use lib.Dec.{eqb}
use lib.ListN.{length, get_or, set, length-map}
use lib.Seq.{set-get_or}
use borrow.Author.Tests.{eqb-true, eq-eqb}
use Rattle.geometry.specs.Bytes.{is_byte}
use Rattle.geometry.specs.Lists.{all, every}
use Rattle.geometry.specs.Sizes.{sector, entries, most_open, most_sectors}
use Rattle.geometry.proofs.Tests.{and_left, and_right, and_both, all_get_d, either, every_any}
use Rattle.directory.specs.Entries.{entry_at, free_entry, is_free}
use Rattle.directory.specs.declared.Entry.{Entry}
use Rattle.requests.specs.Judge.{judge}
use Rattle.requests.proofs.Done.{Allows, Meets, done-allows, met-meets}
use Rattle.requests.proofs.Live.{done-real, met-live}
use Rattle.requests.specs.declared.Answer.{Answer}
use Rattle.requests.specs.declared.Answer.TheVariants.{Done, Met, Refused}
use Rattle.requests.specs.declared.Edge.{Edge}
use Rattle.requests.specs.declared.Facts.{Facts}
use Rattle.requests.specs.declared.Request.{Request}
use Rattle.sessions.specs.Session.{idle, fresh, bare, file_of, slot_of, open_files, legal, buffered_legal, typed}
use Rattle.sessions.proofs.Legal.{bare-legal}
use Rattle.sessions.specs.declared.BufferedFile.{BufferedFile}
use Rattle.sessions.specs.declared.BufferedSession.{BufferedSession}
use Rattle.sessions.specs.declared.OpenFile.{OpenFile}
use Rattle.sessions.specs.declared.Session.{Session}
use Rattle.steps.specs.Effects.{Effect, hold, change, store, stamp, put_back, effects, Bench, putting_back, taking, working, buffered_do, buffered_all}
use Rattle.steps.specs.Next.{Scene, facts_of, file_done, file_met, entry_done}
use Rattle.steps.specs.Step.{held_of, kept, buffered_scene, buffered_answer, buffered_after, buffered_step}
use Rattle.steps.specs.Verdict.{entry_next, file_next}
use Rattle.steps.proofs.Answered.{buffered-answered, buffered-is}
use Rattle.steps.proofs.Buffer.{back-cases}
use Rattle.steps.proofs.Inside.{Suits, AllSuit, lawful, suit}
use Rattle.steps.proofs.Lawful.{Lawful}
use Rattle.steps.proofs.Standing.{kept-used, kept-unused}
use Rattle.settling.proofs.Bench.{takes-held}
use Rattle.serving.proofs.Keeping.{Of, done, met}
use Rattle.demands.specs.Engine.{buffered_engine, sound}
use Rattle.demands.proofs.Orderly.{buffered-orderly}
use Rattle.demands.proofs.Bytes.{Bytes, effects-bytes}
use Rattle.demands.proofs.Illegal.{nothing-changed}
use Rattle.demands.proofs.Passing.{start}
use Rattle.demands.proofs.Sound.{sound-of, SoundBench, all_sound}
use Rattle.storing.specs.Fits.{fits, are_bytes, are_all, entry_fits, file_fits, held_fits, session_fits, buffered_fits}
use Rattle.callers.proofs.Next.{below, are-every, are-many, set-are, entry-parts, entry-then, file-then-fits}
use Rattle.callers.proofs.Read.{fresh-fits}
use Rattle.editing.proofs.Entries.{every-weaker}

-- ---- an array of bytes

are-size : (n : ℕ) (xs : List ℕ) → are_bytes n xs ≡ true → length xs ≡ n
unfolding are_bytes
are-size n xs h = eqb-true (length xs) n (and_left (eqb (length xs) n) (every is_byte xs) h)

are_all_lem : (n : ℕ) (xs : List ℕ) → are_bytes n xs ≡ true → Bytes xs
unfolding are_bytes
are_all_lem n xs h = and_right (eqb (length xs) n) (every is_byte xs) h

are : (n : ℕ) (xs : List ℕ) → length xs ≡ n → Bytes xs → are_bytes n xs ≡ true
unfolding are_bytes
are n xs l h = and_both _ _ (eq-eqb (length xs) n l) h

-- ---- a state with its buffer

pub record HeldFits (b : BufferedFile) : Type 0 where
  pub file : file_fits b.file ≡ true
  pub held : fits 4 b.held ≡ true
  pub buffer : are_bytes sector b.buffer ≡ true

pub held-parts : (b : BufferedFile) → held_fits b ≡ true → HeldFits b
unfolding held_fits
held-parts b h = record { file = all_get_d _ 0 h; held = all_get_d _ 1 h; buffer = all_get_d _ 2 h }

pub held_whole : (b : BufferedFile) → HeldFits b → held_fits b ≡ true
unfolding held_fits all
held_whole b f = rw (f.file, f.held, f.buffer)

kept-fits : (f : OpenFile) (b : BufferedFile) → file_fits f ≡ true → fits 4 b.held ≡ true → are_bytes sector b.buffer ≡ true → held_fits (kept f b) ≡ true
kept-fits f b h k a = either f.used
    (λ (u : f.used ≡ true). rw (kept-used f b u) (held_whole _ (record { file = h; held = k; buffer = a })))
    (λ (u : f.used ≡ false). rw (kept-unused f b u) (fresh-fits f h))

-- ---- the sector that is held: one of the extent, or the one that was

module _ (c : Scene) (few : c.entry.sectors ≤ most_sectors) where
  put-held : (w : Bench) → (putting_back c.entry w).file.held ≡ w.file.held
  unfolding putting_back
  put-held w = either (w.file.holds && w.file.changed)
      (λ (t : (w.file.holds && w.file.changed) ≡ true). rw (t, putting_back))
      (λ (t : (w.file.holds && w.file.changed) ≡ false). rw (t, putting_back))

  take-held : (k : ℕ) → k < c.entry.sectors → (w : Bench) → fits 4 (taking c.entry k w).file.held ≡ true
  take-held k l w = rw (takes-held c.entry k w).1 (below 4 k (omega arith))

  do-held : (x : Effect) → Suits c.entry x → (w : Bench) → fits 4 w.file.held ≡ true → fits 4 (buffered_do c x w).file.held ≡ true
  unfolding buffered_do working
  do-held (hold k) s w h = take-held k s.1 w
  do-held (change x) s w h = take-held x.place.sector s.1 w
  do-held (store x) s w h = h
  do-held (stamp xs) s w h = h
  do-held put_back s w h = back-cases (λ (v : Bench). fits 4 v.file.held ≡ true) c w (λ z. rw (put-held w) h) (λ z. h)

  all_held : (xs : List Effect) → AllSuit c.entry xs → (w : Bench) → fits 4 w.file.held ≡ true → fits 4 (buffered_all c xs w).file.held ≡ true
  unfolding buffered_all
  all_held [] s w h = h
  all_held (x ∷ xs) s w h = all_held xs s.1 (buffered_do c x w) (do-held x s.0 w h)

-- ---- a session

files-bare : (fs : List BufferedFile) → every held_fits fs ≡ true → every file_fits (map (λ f. f.file) fs) ≡ true
unfolding every
files-bare [] h = refl
files-bare (f ∷ fs) h =
    and_both (file_fits f.file) _ (held-parts f (and_left (held_fits f) (every held_fits fs) h)).file (files-bare fs (and_right (held_fits f) (every held_fits fs) h))

module _ (s : BufferedSession) (h : buffered_fits s ≡ true) where
  table-are : are_all entries entry_fits s.table ≡ true
  unfolding buffered_fits
  table-are = and_left (are_all entries entry_fits s.table) (are_all most_open held_fits s.files) h

  files-are : are_all most_open held_fits s.files ≡ true
  unfolding buffered_fits
  files-are = and_right (are_all entries entry_fits s.table) (are_all most_open held_fits s.files) h

  pub helds-every : every held_fits s.files ≡ true
  helds-every = are-every most_open held_fits s.files files-are

  pub bare-fits : session_fits (bare s) ≡ true
  unfolding session_fits bare are_all
  bare-fits =
      and_both _ _ table-are
      (and_both _ _ (eq-eqb (length (map (λ f. f.file) s.files)) most_open (length-map s.files (λ f. f.file) ∙ are-many most_open held_fits s.files files-are))
      (files-bare s.files helds-every))

  pub held-of-fits : (i : ℕ) → held_fits (held_of s i) ≡ true
  unfolding held_of
  held-of-fits i = go (file_of (bare s).files i).used
    where
      fresh-idle : held_fits (fresh idle) ≡ true
      fresh-idle = fresh-fits idle (unfold file_fits in unfold all in unfold fits in refl)

      go : (u : Bool) → held_fits (elim u [ true ↦ get_or s.files (slot_of (bare s).files i) (fresh idle) | false ↦ fresh idle ]) ≡ true
      go true = every_any held_fits s.files (slot_of (bare s).files i) (fresh idle) helds-every fresh-idle
      go false = fresh-idle

  -- with another entry and state
  pub next_fits : (i k : ℕ) (e : Entry) (f : BufferedFile) → entry_fits e ≡ true → held_fits f ≡ true
      → buffered_fits (record { says = s.says; table = set s.table i e; files = set s.files k f }) ≡ true
  unfolding buffered_fits
  next_fits i k e f a b =
      and_both _ _ (set-are entries entry_fits s.table i e (are-many entries entry_fits s.table table-are) (are-every entries entry_fits s.table table-are) a)
      (set-are most_open held_fits s.files k f (are-many most_open held_fits s.files files-are) helds-every b)

-- what fits is of its type
pub fits-typed : (s : BufferedSession) → buffered_fits s ≡ true → typed s ≡ true
unfolding typed
fits-typed s h =
    and_both _ _ (eq-eqb (length s.table) entries (are-many entries entry_fits s.table (table-are s h)))
    (and_both _ _
    (every-weaker entry_fits (λ e. eqb (length e.name) 8) (λ e f. eq-eqb (length e.name) 8 (are-size 8 e.name (entry-parts e f).name)) s.table
    (are-every entries entry_fits s.table (table-are s h)))
    (and_both _ _ (eq-eqb (length s.files) most_open (are-many most_open held_fits s.files (files-are s h)))
    (every-weaker held_fits (λ b. eqb (length b.buffer) sector) (λ b f. eq-eqb (length b.buffer) sector (are-size sector b.buffer (held-parts b f).buffer)) s.files
    (helds-every s h))))

pub fits-sound : (image : List ℕ) (s : BufferedSession) → Bytes image → buffered_fits s ≡ true → sound image s ≡ true
fits-sound image s b h = sound-of image s b (fits-typed s h) (every-weaker held_fits (λ c. every is_byte c.buffer) (λ c f. are_all_lem sector c.buffer (held-parts c f).buffer) s.files (helds-every s h))

-- ---- a request in the buffered engine

module _ (image : List ℕ) (s : BufferedSession) (fit : buffered_fits s ≡ true) (ok : buffered_legal image s ≡ true)
    (i : ℕ) (q : Request) (given buffer : List ℕ) where
  abbrev scene : Scene
  scene = buffered_scene image s i given

  abbrev plain : Session
  plain = bare s

  plain-legal : legal image plain ≡ true
  plain-legal = bare-legal image s ok

  its : Of plain i scene
  unfolding buffered_scene bare
  its = record { number = refl; entry = refl; file = refl }

  held : HeldFits (held_of s i)
  held = held-parts (held_of s i) (held-of-fits s fit i)

  abbrev facts : Facts
  facts = facts_of true (open_files plain.files) (length buffer) q scene

  -- answered 1 or 2: what is held stays
  met-fits : (x : Edge) → judge q facts ≡ Met x → buffered_fits (buffered_after (Met x) image s q scene (held_of s i) buffer).session ≡ true
  unfolding buffered_after buffered_scene bare facts_of entry_next file_next
  met-fits x e =
      let a : Meets facts q x = met-meets q _ x e in
      let u : is_free (entry_at s.table i) ≡ false = (met-live _ q x a).used in
      let l = next_fits s fit i (slot_of plain.files i) (entry_at s.table i) (kept (file_met x scene.file) (held_of s i))
      (entry-then image plain plain-legal (bare-fits s fit) i scene its u (length buffer) q (Met x) (met x a))
      (kept-fits (file_met x scene.file) (held_of s i) (file-then-fits image plain plain-legal (bare-fits s fit) i scene its u (length buffer) q (Met x) (met x a)) held.held held.buffer) in
      rw (set-get_or s.table i free_entry) at l

  module _ (bytes : Bytes image) (gives : Bytes given) where
    after-fits : (a : Answer) → judge q facts ≡ a → buffered_fits (buffered_after a image s q scene (held_of s i) buffer).session ≡ true
    unfolding buffered_after buffered_scene bare facts_of entry_next file_next
    after-fits Done e =
        let a : Allows q facts = done-allows q _ e in
        let u : is_free (entry_at s.table i) ≡ false = (done-real q _ a).used in
        let w : Bench = record { image = image; file = held_of s i } in
        let law : Lawful (entry_at s.table i) (file_of plain.files i) = lawful image plain plain-legal i u in
        let inside : AllSuit (entry_at s.table i) (effects q scene) = suit (open_files plain.files) (length buffer) q scene law e in
        let z : SoundBench (entry_at s.table i) (buffered_all scene (effects q scene) w) =
        all_sound scene (effects q scene) inside (effects-bytes scene gives (omega (arith, law.flags)) q) w (start image s (fits-sound image s bytes fit) ok i q given buffer u) in
        next_fits s fit i (slot_of plain.files i) (entry_done q scene) (kept (file_done q scene) (buffered_all scene (effects q scene) w).file)
        (entry-then image plain plain-legal (bare-fits s fit) i scene its u (length buffer) q Done (done a))
        (kept-fits (file_done q scene) (buffered_all scene (effects q scene) w).file
        (file-then-fits image plain plain-legal (bare-fits s fit) i scene its u (length buffer) q Done (done a))
        (all_held scene law.few (effects q scene) inside w held.held)
        (are sector (buffered_all scene (effects q scene) w).file.buffer z.whole.size z.whole.bytes))
    after-fits (Met x) e = met-fits x e
    after-fits (Refused x) e = fit

    step_left : buffered_fits (buffered_step image s i q given buffer).session ≡ true
    unfolding buffered_step buffered_answer
    step_left = after-fits (buffered_answer image s i q given (length buffer)) (rw ok)

  step-met : (x : Edge) → (buffered_step image s i q given buffer).answer ≡ Met x → buffered_fits (buffered_step image s i q given buffer).session ≡ true
  unfolding buffered_answer
  step-met x e =
      let a : buffered_answer image s i q given (length buffer) ≡ Met x = sym (buffered-answered image s i q given buffer) ∙ e in
      rw (buffered-is image s i q given buffer (Met x) e) (met-fits x (rw ok at a))

-- ---- and one on a session that is not legal changes nothing

module _ (image : List ℕ) (s : BufferedSession) (fit : buffered_fits s ≡ true) (i : ℕ) (q : Request) (given buffer : List ℕ) where
  unlawful-same : buffered_legal image s ≡ false → buffered_fits (buffered_step image s i q given buffer).session ≡ true
  unlawful-same l = rw (nothing-changed buffered_engine buffered-orderly image s i q given buffer l).1 fit

  pub step_fits : Bytes image → Bytes given → buffered_fits (buffered_step image s i q given buffer).session ≡ true
  step_fits bytes gives = either (buffered_legal image s) (λ ok. step_left image s fit ok i q given buffer bytes gives) unlawful-same

  pub step-met-fits : (x : Edge) → (buffered_step image s i q given buffer).answer ≡ Met x → buffered_fits (buffered_step image s i q given buffer).session ≡ true
  step-met-fits x e = either (buffered_legal image s) (λ ok. step-met image s fit ok i q given buffer x e) unlawful-same
