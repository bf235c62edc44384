-- `texts::number_in` meets its contract: the digits from the index on say, behind n, what all of them say.
use mathlib.Core.Path.{sym, ◌∙◌}
use native.Mathlib.Omega.{arith}
use borrow.Author.Rules.{rules}
use Rattle.std.specs.Prelude.{Some, None}
use Rattle.texts.proofs.Reading.{digits_next, digits_end, none-behind, one-to-ten}
use Rattle.texts.proofs.number_in.Goals as goal

pub returns-in_err-n : goal.returns-in_err-n
returns-in_err-n c =
    let l = c.loop-c in
    let xs = c.args.text.now in
    let e : _ = digits_next l.n xs l.c-index None (omega arith) (sym c.longer.ensures ∙ c.in_err-n.was) in
    c.from_residual.ensures ∙ sym (e ∙ none-behind _) ∙ l.invariant ∙ sym (one-to-ten xs (search rules) c.if-text-gt10.false)

pub loop-c-preserved : goal.loop-c-preserved
loop-c-preserved c =
    let l = c.loop-c in
    sym (digits_next l.n c.args.text.now l.c-index (Some c.in_ok-n.n) (omega arith) (sym c.longer.ensures ∙ c.in_ok-n.was)) ∙ l.invariant

pub returns : goal.returns
returns c =
    let l = c.loop-c in
    let xs = c.args.text.now in
    sym (digits_end l.n xs l.c-index (omega arith)) ∙ l.invariant ∙ sym (one-to-ten xs (search rules) c.if-text-gt10.false)
