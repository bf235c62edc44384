-- A step on the session that lent bytes are: the bytes behind it are those of the next session, and bytes that are no session stay. One argument for both engines.
use mathlib.Core.Path.{◌≡◌, refl, sym, ap, ◌∙◌}
use mathlib.Core.Bool.{Bool, true, false}
use mathlib.Core.List.{List}
use Prim.Native.Nat.{ℕ}
use Rattle.geometry.proofs.Tests.{either}
use Rattle.steps.specs.Next.{Scene, counted, entry_done}
use Rattle.steps.specs.Step.{After}
use Rattle.steps.specs.Verdict.{entry_next}
use Rattle.directory.specs.Stamp.{restamped}
use Rattle.requests.specs.declared.Answer.{Answer}
use Rattle.requests.specs.declared.Answer.TheVariants.{Done, Met, Refused}
use Rattle.requests.specs.declared.Order.TheVariants.{WriteMark, RewindOnline, RewindOffline, RecordForward, RecordBack, FileForward, FileBack}
use Rattle.requests.specs.declared.Request.{Request}
use Rattle.requests.specs.declared.Request.TheVariants.{Open, Read, Write, GranuleRead, GranuleWrite, GranuleLook, Position}
use Rattle.judging.specs.Lent.{after_in, lent_after}

module _ {S : Type 0} (told : List ℕ → Bool) (stored : S → List ℕ) (b : List ℕ) where
  lent-told : (w : After S) → told b ≡ true → lent_after (told b) stored b w ≡ after_in w.answer w.image (stored w.session) w.buffer
  unfolding lent_after
  lent-told w t = rw t

  lent_none : (w : After S) → told b ≡ false → lent_after (told b) stored b w ≡ after_in w.answer w.image b w.buffer
  unfolding lent_after
  lent_none w t = rw t

  -- the next session is laid
  pub laid : told b ≡ true → (x w : After S) → x ≡ w → (lent : List ℕ) → lent ≡ stored x.session
      → after_in x.answer x.image lent x.buffer ≡ lent_after (told b) stored b w
  laid t x w h lent l =
      ap (λ (z : List ℕ). after_in x.answer x.image z x.buffer) l ∙ sym (lent-told x t) ∙ ap (lent_after (told b) stored b) h

  -- nothing is laid: the session that the bytes are, stored, is the bytes
  pub unlaid : (s : S) → (told b ≡ true → stored s ≡ b) → (a : Answer) (image moved : List ℕ) (w : After S)
      → record { answer = a; image = image; session = s; buffer = moved } ≡ w → after_in a image b moved ≡ lent_after (told b) stored b w
  unlaid s back a image moved w h = go ∙ ap (lent_after (told b) stored b) h
    where
      old : After S
      old = record { answer = a; image = image; session = s; buffer = moved }

      go : after_in a image b moved ≡ lent_after (told b) stored b old
      go = either (told b)
          (λ (t : told b ≡ true). ap (λ (z : List ℕ). after_in a image z moved) (sym (back t)) ∙ sym (lent-told old t))
          (λ (t : told b ≡ false). sym (lent_none old t))

-- a request changes nothing of an entry but its count and flags
entry_done_lem : (q : Request) (c : Scene) → entry_done q c ≡ restamped c.entry (entry_done q c).count (entry_done q c).flags
unfolding entry_done counted
entry_done_lem Open c = refl
entry_done_lem Read c = refl
entry_done_lem Write c = refl
entry_done_lem (GranuleRead g) c = refl
entry_done_lem (GranuleWrite g) c = refl
entry_done_lem (GranuleLook g) c = refl
entry_done_lem (Position WriteMark) c = refl
entry_done_lem (Position RewindOnline) c = refl
entry_done_lem (Position RewindOffline) c = refl
entry_done_lem (Position RecordForward) c = refl
entry_done_lem (Position RecordBack) c = refl
entry_done_lem (Position FileForward) c = refl
entry_done_lem (Position FileBack) c = refl

pub entry_kept : (a : Answer) (q : Request) (c : Scene) → entry_next a q c ≡ restamped c.entry (entry_next a q c).count (entry_next a q c).flags
unfolding entry_next
entry_kept Done q c = entry_done_lem q c
entry_kept (Met x) q c = refl
entry_kept (Refused x) q c = refl
