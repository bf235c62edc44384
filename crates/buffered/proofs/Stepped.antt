-- A verdict with its effects done by way of the buffer is the buffered step: each answer is its own case; and what a request answered 0 goes by is there.
use mathlib.Core.Path.{◌≡◌, sym, ap, ◌∙◌}
use mathlib.Core.Bool.{Bool}
use mathlib.Core.List.{List}
use Prim.Native.Nat.{ℕ}
use lib.Seq.{sets, set-get_or}
use lib.ListN.{length, set}
use Rattle.geometry.specs.Bytes.{part}
use Rattle.geometry.specs.Sizes.{entries}
use Rattle.directory.specs.Entries.{entry_at, free_entry}
use Rattle.requests.specs.Judge.{judge}
use Rattle.sessions.specs.Session.{bare, slot_of, open_files, extent_with, buffered_legal}
use Rattle.sessions.proofs.Legal.{bare-legal}
use Rattle.steps.specs.Effects.{Bench, effects, buffered_all}
use Rattle.steps.specs.Next.{Scene, facts_of}
use Rattle.steps.specs.Step.{After, held_of, kept, buffered_scene, buffered_answer, buffered_after, buffered_step}
use Rattle.steps.specs.Verdict.{entry_next, file_next, buffer_next}
use Rattle.straight.specs.Straight.{code_given}
use Rattle.straight.proofs.Judged.{judgement}
use Rattle.steps.proofs.Granted.{room, suits}
use Rattle.straight.proofs.Goes.{there, lies_in, encoded}
use Rattle.straight.specs.Moving.{bench}
use Rattle.buffered.proofs.Acts.{Goes}
use Rattle.directory.specs.declared.Entry.{Entry}
use Rattle.requests.specs.declared.Request.{Request}
use Rattle.requests.specs.declared.Answer.{Answer}
use Rattle.requests.specs.declared.Answer.TheVariants.{Done, Met, Refused}
use Rattle.requests.specs.declared.Edge.{Edge}
use Rattle.requests.specs.declared.Refusal.{Refusal}
use Rattle.sessions.specs.declared.BufferedFile.{BufferedFile}
use Rattle.sessions.specs.declared.BufferedSession.{BufferedSession}
use Rattle.steps.specs.declared.Verdict.{Verdict}

module _ (image : List ℕ) (s : BufferedSession) (i : ℕ) (q : Request) (given buffer : List ℕ) where
  abbrev c : Scene
  c = buffered_scene image s i given

  abbrev e : Entry
  e = entry_at s.table i

  abbrev ok : Bool
  ok = buffered_legal image s

  abbrev files : ℕ
  files = open_files (bare s).files

  abbrev a : Answer
  a = judge q (facts_of ok files (length buffer) q c)

  -- what a request answered 0 goes by
  pub goes : a ≡ Done → length s.table ≡ entries → (old : List ℕ) → length old ≡ 135
      → Goes image q c (part (sets old 0 (code_given e given)) 0 (length (code_given e given))) (file_next a q c).here.sector
  unfolding buffered_scene bare file_next
  goes d l old z =
      let bytes : List ℕ = extent_with e (held_of s i) image in (
        there image (bare s) ok (bare-legal image s) i bytes given files (length buffer) q d l,
        room image (bare s) ok (bare-legal image s) i bytes given files (length buffer) q d,
        suits image (bare s) ok (bare-legal image s) i bytes given files (length buffer) q d,
        λ w y. ap (λ (x : Answer). (file_next x q c).here.sector) d ∙ lies_in image (bare s) ok (bare-legal image s) i bytes given files (length buffer) q d w y,
        encoded image (bare s) ok (bare-legal image s) i bytes given files (length buffer) q d old z,
      )

  -- as it is judged, and with what is then in the caller's buffer
  module _ (v : Verdict) (v-is : v ≡ judgement ok files (length buffer) q c) (moved : List ℕ) (moved-is : moved ≡ buffer_next a q c buffer) where
    told : (x : Answer) → v.answer ≡ x → a ≡ x
    told x h = sym (ap (λ (v : Verdict). v.answer) v-is) ∙ h

    abbrev after : List ℕ → BufferedSession → After BufferedSession
    after new z = record { answer = v.answer; image = new; session = z; buffer = moved }

    -- the session with the verdict's entry and state, and the buffer that the file then has
    abbrev laid : BufferedFile → BufferedSession
    laid x = record { says = s.says; table = set s.table i v.entry; files = set s.files (slot_of (bare s).files i) (kept v.file x) }

    pub done-told : v.answer ≡ Done → (new : List ℕ) (x : BufferedFile) → bench new x ≡ buffered_all c (effects q c) (bench image (held_of s i))
        → after new (laid x) ≡ buffered_step image s i q given buffer
    unfolding buffered_step buffered_answer buffered_after entry_next file_next buffer_next buffered_scene
    done-told d new x z = rw (moved-is, v-is, ap (λ (w : Bench). w.image) z, ap (λ (w : Bench). w.file) z) (rw (told Done d))

    pub met-told : (x : Edge) → v.answer ≡ Met x → after image (laid (held_of s i)) ≡ buffered_step image s i q given buffer
    unfolding buffered_step buffered_answer buffered_after entry_next file_next buffer_next buffered_scene
    met-told x d = rw (moved-is, v-is) (rw (told (Met x) d) (rw (set-get_or s.table i free_entry)))

    pub refused-told : (x : Refusal) → v.answer ≡ Refused x → after image s ≡ buffered_step image s i q given buffer
    unfolding buffered_step buffered_answer buffered_after buffer_next
    refused-told x d = rw (moved-is, v-is) (rw (told (Refused x) d))
