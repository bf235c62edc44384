-- `showing::begin` meets its contract: nothing is printed of a file opened, and of an answer its line.
use mathlib.Core.Path.{sym, ap, ◌∙◌}
use Rattle.requests.proofs.Numbers.{done-is}
use Rattle.texts.proofs.Writing.{wrote_none}
use Rattle.showing.specs.Lines.{printed_first}
use Rattle.showing.specs.Showing.{Begun}
use Rattle.showing.proofs.Lines.{as-text, first-none, first-answer}
use Rattle.showing.proofs.begin.Goals as goal

pub returns-in-Ok-clause-prints : goal.returns-in-Ok-clause-prints
returns-in-Ok-clause-prints c =
    as-text (sym (first-none _ (sym (ap (λ (s : Begun). s.number) c.in-Ok.ensures.leaves)))) (wrote_none c.args.out.now 0)

pub returns-in-Err-clause-prints : goal.returns-in-Err-clause-prints
returns-in-Err-clause-prints c =
    as-text (sym (first-answer _ (λ z. c.in-Err.ensures.stopped (done-is _ z))) ∙ ap (λ (s : Begun). printed_first s.number) c.in-Err.ensures.leaves) c.put_answer-size.ensures
