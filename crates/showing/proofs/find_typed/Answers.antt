-- `showing::find_typed` meets its contract: nine bytes of the name find what it finds.
use mathlib.Core.Path.{ap, ◌∙◌}
use Rattle.telling.specs.Told.{found}
use Rattle.showing.proofs.Named.{put-part, nine-found}
use Rattle.showing.proofs.find_typed.Goals as goal

pub returns : goal.returns
returns c = c.find_named.ensures ∙ ap (found c.args.session.now) (c.part.ensures ∙ put-part _ _ _ _ c.put_name-n.ensures) ∙ nine-found _ _
