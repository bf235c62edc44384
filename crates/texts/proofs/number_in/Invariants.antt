-- `texts::number_in` meets its contract: the digits from the index on say, behind n, what all of them say.
use mathlib.Core.Path.{◌≡◌}
use Rattle.std.specs.Prelude.{Some, drop}
use Rattle.texts.specs.Texts.{with_digits}
use Rattle.texts.proofs.number_in.Given as goal

abbrev pub invariant-loop-c : goal.invariant-loop-c
invariant-loop-c l = with_digits (Some l.n) (drop l.c-index l.text) ≡ with_digits (Some 0) l.text
