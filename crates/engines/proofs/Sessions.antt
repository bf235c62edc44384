-- An answer but a refusal tells that the bytes are a session and that there is a state for the file: the rules of the answer ask for it.
use mathlib.Core.Path.{◌≡◌, ap, ◌∙◌}
use mathlib.Core.Logic.{◌⊎◌, inl, inr}
use mathlib.Core.Bool.{Bool, true}
use mathlib.Core.List.{List}
use Prim.Native.Nat.{ℕ, ◌<◌}
use native.Mathlib.Omega.{arith}
use lib.ListN.{length, length-map}
use Rattle.geometry.specs.Sizes.{most_open}
use Rattle.geometry.proofs.Tests.{either, both_ways, many-room}
use Rattle.requests.specs.Judge.{judge}
use Rattle.requests.proofs.Done.{Live, done-allows, met-meets}
use Rattle.requests.proofs.Live.{Real, done-real, done-place, met-live}
use Rattle.sessions.specs.Session.{bare, file_of, slot_of, open_files, buffered_legal}
use Rattle.sessions.proofs.Files.{Finds, opened, closed, finds}
use Rattle.steps.specs.Next.{facts_of}
use Rattle.steps.specs.Step.{buffered_scene}
use Rattle.storing.specs.Stored.{is_session, session_in}
use Rattle.storing.proofs.Illegal.{none-legal}
use Rattle.advancing.proofs.Sessions.{four}
use Rattle.requests.specs.declared.Answer.TheVariants.{Done, Met}
use Rattle.requests.specs.declared.Edge.{Edge}
use Rattle.requests.specs.declared.Facts.{Facts}
use Rattle.requests.specs.declared.Request.{Request}
use Rattle.sessions.specs.declared.BufferedSession.{BufferedSession}
use Rattle.sessions.specs.declared.OpenFile.{OpenFile}

module _ (u : Bool) (b : List ℕ) where
  abbrev s : BufferedSession
  s = session_in u b

  -- a legal session's bytes are one
  told : (image : List ℕ) → buffered_legal image s ≡ true → is_session u b ≡ true
  told image ok = either (is_session u b) (λ h. h) (λ h. both_ways (buffered_legal image s) ok (none-legal u image b h))

  slot-there : (i : ℕ) → ((file_of (bare s).files i).used ≡ true) ⊎ (open_files (bare s).files < most_open) → slot_of (bare s).files i < most_open
  unfolding open_files
  slot-there i p = go (finds (bare s).files i) p
    where
      many : length (bare s).files ≡ most_open
      many = unfold bare in (length-map s.files (λ f. f.file) ∙ four u b)

      go : Finds (bare s).files i → ((file_of (bare s).files i).used ≡ true) ⊎ (open_files (bare s).files < most_open) → slot_of (bare s).files i < most_open
      go (opened h f u e n) p = omega (arith, many)
      go (closed f n m) (inl u) = both_ways (file_of (bare s).files i).used u (ap (λ (g : OpenFile). g.used) f)
      go (closed f n m) (inr l) = omega (arith, many, n, many-room (λ (g : OpenFile). g.used) (bare s).files (omega (arith, many)))

  -- ---- an answer

  module _ (image : List ℕ) (i : ℕ) (q : Request) (given : List ℕ) (n : ℕ) where
    abbrev facts : Facts
    facts = facts_of (buffered_legal image s) (open_files (bare s).files) n q (buffered_scene image s i given)

    pub done-session : judge q facts ≡ Done → is_session u b ≡ true
    unfolding facts_of
    done-session d = let r : Real facts = done-real q facts (done-allows q facts d) in told image r.legal

    pub done-slot : judge q facts ≡ Done → slot_of (bare s).files i < most_open
    unfolding facts_of buffered_scene
    done-slot d = slot-there i (done-place q facts (done-allows q facts d))

    module _ (y : Edge) (d : judge q facts ≡ Met y) where
      live : Live facts
      live = met-live facts q y (met-meets q facts y d)

      pub met-session : is_session u b ≡ true
      unfolding facts_of
      met-session = told image live.legal

      pub met-used : (file_of (bare s).files i).used ≡ true
      unfolding facts_of buffered_scene
      met-used = live.opened

      pub met-slot : slot_of (bare s).files i < most_open
      met-slot = slot-there i (inl met-used)
