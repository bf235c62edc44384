-- A look is judged by the entry and its state alone, so that one judgement serves both engines.
use mathlib.Core.Path.{◌≡◌, refl, ap, ◌∙◌}
use mathlib.Core.Bool.{Bool, false}
use mathlib.Core.List.{List, []}
use Prim.Native.Nat.{ℕ}
use Rattle.directory.specs.Entries.{entry_at}
use Rattle.requests.specs.Judge.{tests, or_else, first_of, judge}
use Rattle.sessions.specs.Session.{bare, open_files, buffered_legal}
use Rattle.steps.specs.Next.{Scene, facts_of, facts_but}
use Rattle.steps.specs.Step.{buffered_scene, buffered_answer}
use Rattle.steps.specs.Look.{buffered_look_answer}
use Rattle.storing.specs.Stored.{lent_session}
use Rattle.finding.specs.Lent.{seen_of, seen_in}
use Rattle.looking.specs.Looks.{looked_by}
use Rattle.looking.specs.declared.Looked.{Looked}
use Rattle.requests.specs.declared.Request.TheVariants.{GranuleLook}

look-seen : (l : Bool) (n g : ℕ) (c : Scene) → judge (GranuleLook g) (facts_but false l n c.entry c.file 0 0 0) ≡ judge (GranuleLook g) (facts_of l n 0 (GranuleLook g) c)
unfolding facts_of judge tests first_of or_else
look-seen l n g c = refl

-- in lent bytes
pub looked : (image b : List ℕ) (i g : ℕ) (x : Looked) → x ≡ looked_by (seen_in image b i) g
    → (x.answer ≡ buffered_look_answer image (lent_session b) i g) × (x.entry ≡ entry_at (lent_session b).table i)
unfolding looked_by seen_of buffered_look_answer buffered_answer buffered_scene bare
looked image b i g x h = (
  ap (λ (y : Looked). y.answer) h ∙ look-seen (buffered_legal image (lent_session b)) (open_files (bare (lent_session b)).files) g (buffered_scene image (lent_session b) i []),
  ap (λ (y : Looked). y.entry) h,
)
