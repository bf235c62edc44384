-- "Every other session handed out passes, save one handed back with 12". Without its buffers a session of the buffered engine goes on as a plain one
-- does, and what a request takes into a buffer lies in its file's extent; in both engines what is laid in the image is bytes.
use mathlib.Core.Path.{◌≡◌, refl, sym, ap, ◌∙◌}
use mathlib.Core.Bool.{true, false}
use mathlib.Core.List.{List}
use Prim.Native.Nat.{ℕ}
use native.Mathlib.Omega.{arith}
use lib.Dec.{eqb}
use lib.ListN.{length, set, length-map, length-set}
use lib.Seq.{set-get_or}
use borrow.Author.Tests.{eqb-false}
use Rattle.geometry.specs.Lists.{every}
use Rattle.geometry.specs.Sizes.{entries, most_open, sectors_of}
use Rattle.geometry.proofs.Places.{lawful-whole}
use Rattle.geometry.proofs.Tests.{both_ways, and_both, every-set-same}
use Rattle.directory.specs.Entries.{entry_at, free_entry, is_free}
use Rattle.directory.proofs.Good.{lies}
use Rattle.requests.specs.Judge.{judge}
use Rattle.requests.proofs.Done.{Allows, Meets, done-allows, met-meets}
use Rattle.requests.proofs.Live.{done-real, met-live}
use Rattle.sessions.specs.Session.{fresh, bare, unheld, file_of, slot_of, open_files, legal, buffered_legal, typed}
use Rattle.sessions.proofs.Legal.{lawful-length, good-table, legal-length, bare-legal, all_held, held-inside}
use Rattle.sessions.proofs.Unheld.{unheld-legal, unheld-typed}
use Rattle.mounting.specs.Mounting.{plain_mount, buffered_mount}
use Rattle.mounting.proofs.Mounted.{mounted-legal, mounted-typed}
use Rattle.steps.specs.Effects.{Bench, effects, plain_all, buffered_all}
use Rattle.steps.specs.Next.{Scene, facts_of, file_done, file_met, entry_done}
use Rattle.steps.specs.Step.{held_of, kept, plain_scene, plain_answer, plain_after, plain_step, buffered_scene, buffered_answer, buffered_after, buffered_step}
use Rattle.steps.specs.Verdict.{entry_next, file_next}
use Rattle.steps.proofs.Inside.{lawful, suit}
use Rattle.steps.proofs.Lawful.{Lawful}
use Rattle.serving.proofs.Keeping.{goes-used, goes, Of, done, met, legal-next, legal-step}
use Rattle.settling.proofs.Bench.{Within, within_all, length-all}
use Rattle.steps.proofs.Standing.{held_at, Standing, is_open, is_shut, standing}
use Rattle.settling.proofs.Kept.{table-length, names-eight, files-length}
use Rattle.settling.proofs.Next.{SameShape, same_shape, entry-shape, bare-next, held_next}
use Rattle.settling.proofs.Begin.{mounted-kept}
use Rattle.demands.specs.Engine.{plain_engine, buffered_engine, answered, step_of, edited, edit_of, mounted, sound}
use Rattle.demands.proofs.Edits.{buffered-edit-passes, plain-edit-passes}
use Rattle.demands.specs.Demand1.{Passing}
use Rattle.demands.proofs.Bytes.{Bytes, effects-bytes, plain-bytes}
use Rattle.demands.proofs.Sound.{sound-image, sound-typed, held_whole, sound-next, unheld-sound, SoundBench, all_sound}
use Rattle.directory.specs.declared.Entry.{Entry}
use Rattle.requests.specs.declared.Answer.{Answer}
use Rattle.requests.specs.declared.Answer.TheVariants.{Done, Met, Refused}
use Rattle.requests.specs.declared.Request.{Request}
use Rattle.sessions.specs.declared.BufferedFile.{BufferedFile}
use Rattle.sessions.specs.declared.BufferedSession.{BufferedSession}
use Rattle.sessions.specs.declared.OpenFile.{OpenFile}
use Rattle.sessions.specs.declared.Session.{Session}

-- what entry i's buffer holds lies in its extent
pub held-within : (image : List ℕ) (s : BufferedSession) → buffered_legal image s ≡ true → (i : ℕ) → Within (entry_at s.table i) (held_of s i)
held-within image s ok i = go (standing s i)
  where
    go : Standing s i → Within (entry_at s.table i) (held_of s i)
    go (is_open k o) = rw o.buffer (held-inside image s ok k (held_at s k) (entry_at s.table i) refl (ap (entry_at s.table) (sym o.entry)) o.used)
    go (is_shut h) = rw h.buffer (λ x. both_ways false x refl)

-- ---- the buffered engine

module _ (image : List ℕ) (s : BufferedSession) (fine : sound image s ≡ true) (ok : buffered_legal image s ≡ true) (i : ℕ) (q : Request) (given buffer : List ℕ) where
  abbrev scene : Scene
  scene = buffered_scene image s i given

  abbrev found : Bench
  found = record { image = image; file = held_of s i }

  abbrev plain : Session
  plain = bare s

  types : typed s ≡ true
  types = sound-typed image s fine

  plain-legal : legal image plain ≡ true
  plain-legal = bare-legal image s ok

  its : Of plain i scene
  unfolding buffered_scene bare
  its = record { number = refl; entry = refl; file = refl }

  many : length plain.table ≡ 18
  unfolding bare
  many = table-length s types

  four : length plain.files ≡ 4
  unfolding bare
  four = length-map s.files (λ b. b.file) ∙ files-length s types

  -- what is left of the session is legal if it is without its buffers
  next-legal : (x : List ℕ) (a : Entry) (f : OpenFile) (b : BufferedFile) → length x ≡ length image → SameShape a (entry_at s.table i) → (f.used ≡ true → f.entry ≡ i) → Within (entry_at s.table i) b
      → legal image (record { says = plain.says; table = set plain.table i a; files = set plain.files (slot_of plain.files i) f }) ≡ true
      → buffered_legal x (record { says = s.says; table = set s.table i a; files = set s.files (slot_of plain.files i) (kept f b) }) ≡ true
  unfolding buffered_legal
  next-legal x a f b l z e w g =
      and_both (legal x (bare _)) _ (ap (legal x) (bare-next s i (slot_of plain.files i) a f b) ∙ legal-length x image _ l ∙ g) (held_next s i (slot_of plain.files i) a z f e b w (all_held image s ok))

  after-legal : (a : Answer) → judge q (facts_of true (open_files plain.files) (length buffer) q scene) ≡ a
      → buffered_legal (buffered_after a image s q scene (held_of s i) buffer).image (buffered_after a image s q scene (held_of s i) buffer).session ≡ true
  unfolding buffered_after buffered_scene bare facts_of entry_next file_next
  after-legal Done e =
      let a : Allows q (facts_of true (open_files plain.files) (length buffer) q scene) = done-allows q _ e in
      let u : is_free (entry_at s.table i) ≡ false = (done-real q _ a).used in
      next-legal (buffered_all scene (effects q scene) found).image (entry_done q scene) (file_done q scene) (buffered_all scene (effects q scene) found).file (length-all scene (effects q scene) found) (entry-shape q scene)
      (goes-used q i (file_done q scene) (goes image plain plain-legal many four i scene its u (length buffer) q Done (done a)))
      (within_all scene (effects q scene) (suit (open_files plain.files) (length buffer) q scene (lawful image plain plain-legal i u) e) found (held-within image s ok i))
      (legal-next image plain plain-legal many four i scene its u (length buffer) q Done (done a))
  after-legal (Met x) e =
      let a : Meets (facts_of true (open_files plain.files) (length buffer) q scene) q x = met-meets q _ x e in
      let u : is_free (entry_at s.table i) ≡ false = (met-live _ q x a).used in
      let l = next-legal image (entry_at s.table i) (file_met x scene.file) (held_of s i) refl (same_shape (entry_at s.table i))
      (goes-used q i (file_met x scene.file) (goes image plain plain-legal many four i scene its u (length buffer) q (Met x) (met x a))) (held-within image s ok i)
      (legal-next image plain plain-legal many four i scene its u (length buffer) q (Met x) (met x a)) in
      rw (set-get_or s.table i free_entry) at l
  after-legal (Refused x) e = ok

  -- and it is as its type says
  pub start : is_free (entry_at s.table i) ≡ false → SoundBench (entry_at s.table i) found
  unfolding bare
  start u = record {
    bytes = sound-image image s fine;
    room = omega (arith, (lies (sectors_of image) s.table (good-table image plain plain-legal) i (eqb-false (entry_at s.table i).kind 0 u)).ends, lawful-whole image (lawful-length image plain plain-legal));
    whole = held_whole image s fine i;
  }

  after-sound : Bytes given → (a : Answer) → judge q (facts_of true (open_files plain.files) (length buffer) q scene) ≡ a
      → sound (buffered_after a image s q scene (held_of s i) buffer).image (buffered_after a image s q scene (held_of s i) buffer).session ≡ true
  unfolding buffered_after buffered_scene bare facts_of
  after-sound gives Done e =
      let u : is_free (entry_at s.table i) ≡ false = (done-real q _ (done-allows q _ e)).used in
      let law : Lawful (entry_at s.table i) (file_of plain.files i) = lawful image plain plain-legal i u in
      let b : SoundBench (entry_at s.table i) (buffered_all scene (effects q scene) found) =
      all_sound scene (effects q scene) (suit (open_files plain.files) (length buffer) q scene law e) (effects-bytes scene gives (omega (arith, law.flags)) q) found (start u) in
      sound-next image s fine (buffered_all scene (effects q scene) found).image b.bytes i (entry_done q scene) (entry-shape q scene).name (slot_of plain.files i) (file_done q scene)
      (buffered_all scene (effects q scene) found).file b.whole
  after-sound gives (Met x) e =
      rw (set-get_or s.table i free_entry) at
      (sound-next image s fine image (sound-image image s fine) i (entry_at s.table i) refl (slot_of plain.files i) (file_met x scene.file) (held_of s i) (held_whole image s fine i))
  after-sound gives (Refused x) e = fine

  step-passes : Bytes given → (sound (buffered_step image s i q given buffer).image (buffered_step image s i q given buffer).session ≡ true)
      × (buffered_legal (buffered_step image s i q given buffer).image (buffered_step image s i q given buffer).session ≡ true)
  unfolding buffered_step buffered_answer
  step-passes gives = (after-sound gives (buffered_answer image s i q given (length buffer)) (rw ok), after-legal (buffered_answer image s i q given (length buffer)) (rw ok))

pub buffered-passing : Passing buffered_engine
unfolding step_of answered edit_of edited mounted buffered_mount
buffered-passing = record {
  mounting = λ image b l. record { is_sound = unheld-sound image (plain_mount image).session b (mounted-typed image); is_legal = (mounted-kept image l).is_legal };
  requests = λ w p a gives.
      let z = step-passes w.image w.session p.is_sound p.is_legal a.entry a.request a.given a.buffer gives in
      record { is_sound = z.0; is_legal = z.1 };
  edits = λ w p x gives.
      let z = buffered-edit-passes w.image w.session x.entry x.edit x.name p.is_sound p.is_legal gives in
      record { is_sound = z.0; is_legal = z.1 };
}

-- ---- the plain engine

module _ (image : List ℕ) (s : Session) (fine : sound image (unheld s) ≡ true) (ok : legal image s ≡ true) (i : ℕ) (q : Request) (given buffer : List ℕ) where
  abbrev here : Scene
  here = plain_scene image s i given

  typed-unheld : typed (unheld s) ≡ true
  typed-unheld = sound-typed image (unheld s) fine

  plain-many : length s.table ≡ entries
  plain-many = unfold unheld in table-length (unheld s) typed-unheld

  plain-four : length s.files ≡ most_open
  plain-four = unfold unheld in sym (length-map s.files fresh) ∙ files-length (unheld s) typed-unheld

  plain-names : every (λ e. eqb (length e.name) 8) s.table ≡ true
  plain-names = unfold unheld in names-eight (unheld s) typed-unheld

  plain-next : (x : List ℕ) → Bytes x → (a : Entry) → a.name ≡ (entry_at s.table i).name → (k : ℕ) (f : OpenFile)
      → sound x (unheld (record { says = s.says; table = set s.table i a; files = set s.files k f })) ≡ true
  plain-next x b a n k f = unheld-sound x _ b (unheld-typed _ (length-set s.table i a ∙ plain-many)
      (every-set-same (λ e. eqb (length e.name) 8) s.table i a free_entry (ap (λ (m : List ℕ). eqb (length m) 8) n) ∙ plain-names)
      (length-set s.files k f ∙ plain-four))

  plain-after : Bytes given → (a : Answer) → judge q (facts_of true (open_files s.files) (length buffer) q here) ≡ a
      → sound (plain_after a image s q here buffer).image (unheld (plain_after a image s q here buffer).session) ≡ true
  unfolding plain_after plain_scene facts_of
  plain-after gives Done e =
      let u : is_free (entry_at s.table i) ≡ false = (done-real q _ (done-allows q _ e)).used in
      plain-next (plain_all here (effects q here) image)
      (plain-bytes here (effects q here) (effects-bytes here gives (omega (arith, (lawful image s ok i u).flags)) q) image (sound-image image (unheld s) fine))
      (entry_done q here) (entry-shape q here).name (slot_of s.files i) (file_done q here)
  plain-after gives (Met x) e =
      rw (set-get_or s.table i free_entry) at
      (plain-next image (sound-image image (unheld s) fine) (entry_at s.table i) refl (slot_of s.files i) (file_met x here.file))
  plain-after gives (Refused x) e = fine

  plain_step_lem : Bytes given → (sound (plain_step image s i q given buffer).image (unheld (plain_step image s i q given buffer).session) ≡ true)
      × (buffered_legal (plain_step image s i q given buffer).image (unheld (plain_step image s i q given buffer).session) ≡ true)
  unfolding plain_step plain_answer
  plain_step_lem gives = (plain-after gives (plain_answer image s i q given (length buffer)) (rw ok), unheld-legal _ _ ∙ legal-step image s ok plain-many plain-four i q given buffer)

pub plain-passing : Passing plain_engine
unfolding step_of answered edit_of edited mounted
plain-passing = record {
  mounting = λ image b l. record { is_sound = unheld-sound image (plain_mount image).session b (mounted-typed image); is_legal = unheld-legal image (plain_mount image).session ∙ mounted-legal image l };
  requests = λ w p a gives.
      let z = plain_step_lem w.image w.session p.is_sound (sym (unheld-legal w.image w.session) ∙ p.is_legal) a.entry a.request a.given a.buffer gives in
      record { is_sound = z.0; is_legal = z.1 };
  edits = λ w p x gives.
      let z = plain-edit-passes w.image w.session x.entry x.edit x.name p.is_sound (sym (unheld-legal w.image w.session) ∙ p.is_legal) gives in
      record { is_sound = z.0; is_legal = z.1 };
}
