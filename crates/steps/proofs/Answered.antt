-- A request hands out the answer that it is judged by, and all else goes by that.
use mathlib.Core.Path.{◌≡◌, refl, sym, ap, ◌∙◌}
use mathlib.Core.List.{List}
use Prim.Native.Nat.{ℕ}
use lib.ListN.{length}
use Rattle.steps.specs.Step.{plain_scene, plain_answer, plain_after, plain_step, held_of, buffered_scene, buffered_answer, buffered_after, buffered_step}
use Rattle.requests.specs.declared.Answer.{Answer}
use Rattle.requests.specs.declared.Answer.TheVariants.{Done, Met, Refused}
use Rattle.requests.specs.declared.Request.{Request}
use Rattle.sessions.specs.declared.BufferedSession.{BufferedSession}
use Rattle.sessions.specs.declared.Session.{Session}

module _ (image : List ℕ) (s : Session) (i : ℕ) (q : Request) (given buffer : List ℕ) where
  plain-after : (a : Answer) → (plain_after a image s q (plain_scene image s i given) buffer).answer ≡ a
  unfolding plain_after
  plain-after Done = refl
  plain-after (Met x) = refl
  plain-after (Refused x) = refl

  pub plain-answered : (plain_step image s i q given buffer).answer ≡ plain_answer image s i q given (length buffer)
  unfolding plain_step
  plain-answered = plain-after (plain_answer image s i q given (length buffer))

  pub plain-is : (a : Answer) → (plain_step image s i q given buffer).answer ≡ a → plain_step image s i q given buffer ≡ plain_after a image s q (plain_scene image s i given) buffer
  unfolding plain_step
  plain-is a h = ap (λ (x : Answer). plain_after x image s q (plain_scene image s i given) buffer) (sym plain-answered ∙ h)

module _ (image : List ℕ) (s : BufferedSession) (i : ℕ) (q : Request) (given buffer : List ℕ) where
  buffered-after : (a : Answer) → (buffered_after a image s q (buffered_scene image s i given) (held_of s i) buffer).answer ≡ a
  unfolding buffered_after
  buffered-after Done = refl
  buffered-after (Met x) = refl
  buffered-after (Refused x) = refl

  pub buffered-answered : (buffered_step image s i q given buffer).answer ≡ buffered_answer image s i q given (length buffer)
  unfolding buffered_step
  buffered-answered = buffered-after (buffered_answer image s i q given (length buffer))

  pub buffered-is : (a : Answer) → (buffered_step image s i q given buffer).answer ≡ a → buffered_step image s i q given buffer ≡ buffered_after a image s q (buffered_scene image s i given) (held_of s i) buffer
  unfolding buffered_step
  buffered-is a h = ap (λ (x : Answer). buffered_after x image s q (buffered_scene image s i given) (held_of s i) buffer) (sym buffered-answered ∙ h)
