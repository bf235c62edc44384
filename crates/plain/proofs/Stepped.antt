-- A verdict with its effects done straight in the image is the plain step: a plain session is a buffered one that holds nothing, so the scene is the same, and each
-- answer is its own case of the step.
use mathlib.Core.Path.{◌≡◌, refl, sym, ap, ◌∙◌}
use mathlib.Core.Bool.{false}
use mathlib.Core.List.{List}
use Prim.Native.Nat.{ℕ}
use lib.ListN.{length, set}
use lib.Seq.{set-get_or}
use Rattle.geometry.proofs.Tests.{either, chosen, not_chosen}
use Rattle.directory.specs.Entries.{free_entry}
use Rattle.requests.specs.Judge.{judge}
use Rattle.sessions.specs.Session.{idle, fresh, bare, unheld, file_of, slot_of, open_files, extent, holds_one, extent_with, legal, buffered_legal}
use Rattle.sessions.proofs.Unheld.{bare-unheld, unheld-at, unheld-legal}
use Rattle.steps.specs.Effects.{effects, plain_all}
use Rattle.steps.specs.Next.{Scene, facts_of}
use Rattle.steps.specs.Step.{After, held_of, plain_scene, plain_answer, plain_after, plain_step, buffered_scene}
use Rattle.steps.specs.Verdict.{entry_next, file_next, buffer_next}
use Rattle.steps.proofs.Standing.{map-set}
use Rattle.straight.proofs.Judged.{judgement}
use Rattle.directory.specs.declared.Entry.{Entry}
use Rattle.requests.specs.declared.Request.{Request}
use Rattle.requests.specs.declared.Answer.{Answer}
use Rattle.requests.specs.declared.Answer.TheVariants.{Done, Met, Refused}
use Rattle.requests.specs.declared.Edge.{Edge}
use Rattle.requests.specs.declared.Refusal.{Refusal}
use Rattle.sessions.specs.declared.BufferedFile.{BufferedFile}
use Rattle.sessions.specs.declared.BufferedSession.{BufferedSession}
use Rattle.sessions.specs.declared.OpenFile.{OpenFile}
use Rattle.sessions.specs.declared.Session.{Session}
use Rattle.steps.specs.declared.Verdict.{Verdict}

-- ---- a plain session as a buffered one

-- what is behind a plain step
abbrev pub unheld_after : After Session → After BufferedSession
unheld_after w = record { answer = w.answer; image = w.image; session = unheld w.session; buffer = w.buffer }

module _ (t : Session) where
  same-table : (unheld t).table ≡ t.table
  unfolding unheld
  same-table = refl

  -- with another entry and another state
  set-unheld : (i k : ℕ) (e : Entry) (f : OpenFile)
      → record { says = (unheld t).says; table = set (unheld t).table i e; files = set (unheld t).files k (fresh f) } ≡ unheld (record { says = t.says; table = set t.table i e; files = set t.files k f })
  unfolding unheld
  set-unheld i k e f = ap (λ (fs : List BufferedFile). record { says = t.says; table = set t.table i e; files = fs }) (sym (map-set fresh t.files k f))

  nothing-held : (i : ℕ) → (held_of (unheld t) i).holds ≡ false
  unfolding held_of
  nothing-held i =
      let k : ℕ = slot_of (bare (unheld t)).files i in
      either (file_of (bare (unheld t)).files i).used
      (λ u. ap (λ (b : BufferedFile). b.holds) (chosen (file_of (bare (unheld t)).files i).used _ (fresh idle) u ∙ unheld-at t k))
      (λ u. ap (λ (b : BufferedFile). b.holds) (not_chosen (file_of (bare (unheld t)).files i).used _ (fresh idle) u))

extent-unheld : (e : Entry) (b : BufferedFile) (image : List ℕ) → b.holds ≡ false → extent_with e b image ≡ extent e image
unfolding extent_with holds_one
extent-unheld e b image h = rw h

scene-unheld : (image : List ℕ) (t : Session) (i : ℕ) (given : List ℕ) → buffered_scene image (unheld t) i given ≡ plain_scene image t i given
unfolding buffered_scene plain_scene
scene-unheld image t i given = rw (extent-unheld _ (held_of (unheld t) i) image (nothing-held t i), bare-unheld t, same-table t)

-- ---- each answer

module _ (image : List ℕ) (t : Session) (i : ℕ) (q : Request) (given buffer : List ℕ) where
  abbrev own : Scene
  own = plain_scene image t i given

  abbrev own_answer : Answer
  own_answer = judge q (facts_of (legal image t) (open_files t.files) (length buffer) q own)

  abbrev own_verdict : Verdict
  own_verdict = judgement (legal image t) (open_files t.files) (length buffer) q own

  -- the session with the verdict's entry and state
  abbrev next : Verdict → Session
  next v = record { says = t.says; table = set t.table i v.entry; files = set t.files (slot_of t.files i) v.file }

  done-after : own_answer ≡ Done
      → record { answer = own_answer; image = plain_all own (effects q own) image; session = next own_verdict; buffer = buffer_next own_answer q own buffer } ≡ plain_step image t i q given buffer
  unfolding plain_step plain_answer plain_after entry_next file_next buffer_next plain_scene
  done-after d = rw d

  met-after : (x : Edge) → own_answer ≡ Met x
      → record { answer = own_answer; image = image; session = next own_verdict; buffer = buffer_next own_answer q own buffer } ≡ plain_step image t i q given buffer
  unfolding plain_step plain_answer plain_after entry_next file_next buffer_next plain_scene
  met-after x d = rw d (rw (set-get_or t.table i free_entry))

  refused-after : (x : Refusal) → own_answer ≡ Refused x
      → record { answer = own_answer; image = image; session = t; buffer = buffer_next own_answer q own buffer } ≡ plain_step image t i q given buffer
  unfolding plain_step plain_answer plain_after buffer_next
  refused-after x d = rw d

  -- as it is judged of the buffered session that holds nothing
  module _ (s : BufferedSession) (s-is : s ≡ unheld t) where
    abbrev c : Scene
    c = buffered_scene image s i given

    abbrev a : Answer
    a = judge q (facts_of (buffered_legal image s) (open_files (bare s).files) (length buffer) q c)

    abbrev j : Verdict
    j = judgement (buffered_legal image s) (open_files (bare s).files) (length buffer) q c

    same-bare : bare s ≡ t
    same-bare = ap bare s-is ∙ bare-unheld t

    same-scene : c ≡ own
    same-scene = ap (λ (s : BufferedSession). buffered_scene image s i given) s-is ∙ scene-unheld image t i given

    same_answer : a ≡ own_answer
    same_answer = rw (same-scene, same-bare, s-is) (rw (unheld-legal image t))

    module _ (v : Verdict) (v-is : v ≡ j) (moved : List ℕ) (moved-is : moved ≡ buffer_next a q c buffer) where
      same-verdict : v ≡ own_verdict
      same-verdict = rw (same_answer, same-scene) at v-is

      same-moved : moved ≡ buffer_next own_answer q own buffer
      same-moved = rw (same_answer, same-scene) at moved-is

      told : (x : Answer) → v.answer ≡ x → own_answer ≡ x
      told x h = sym (ap (λ (v : Verdict). v.answer) same-verdict) ∙ h

      abbrev after : List ℕ → BufferedSession → After BufferedSession
      after new z = record { answer = v.answer; image = new; session = z; buffer = moved }

      abbrev laid : BufferedSession
      laid = record { says = s.says; table = set s.table i v.entry; files = set s.files (slot_of (bare s).files i) (fresh v.file) }

      is-next : laid ≡ unheld (next own_verdict)
      is-next = rw (same-bare, same-verdict, s-is) (set-unheld t i (slot_of t.files i) own_verdict.entry own_verdict.file)

      ended : (new : List ℕ) (z : Session) (w : After Session) → record { answer = own_answer; image = new; session = z; buffer = buffer_next own_answer q own buffer } ≡ w
          → after new (unheld z) ≡ unheld_after w
      ended new z w h = rw (same-moved, ap (λ (v : Verdict). v.answer) same-verdict) (ap unheld_after h)

      pub done-told : v.answer ≡ Done → (new : List ℕ) → new ≡ plain_all c (effects q c) image → after new laid ≡ unheld_after (plain_step image t i q given buffer)
      done-told d new New-is =
          ap (after new) is-next
          ∙ ap (λ (x : List ℕ). after x (unheld (next own_verdict))) (New-is ∙ ap (λ (c : Scene). plain_all c (effects q c) image) same-scene)
          ∙ ended (plain_all own (effects q own) image) (next own_verdict) _ (done-after (told Done d))

      pub met-told : (x : Edge) → v.answer ≡ Met x → after image laid ≡ unheld_after (plain_step image t i q given buffer)
      met-told x d = ap (after image) is-next ∙ ended image (next own_verdict) _ (met-after x (told (Met x) d))

      pub refused-told : (x : Refusal) → v.answer ≡ Refused x → after image s ≡ unheld_after (plain_step image t i q given buffer)
      refused-told x d = ap (after image) s-is ∙ ended image t _ (refused-after x (told (Refused x) d))
