-- `typing::put_letters` meets its contract: from the index on the rest of the text is to be put.
use mathlib.Core.List.{map}
use lib.ListN.{drop}
use Rattle.texts.proofs.Writing.{Leads}
use Rattle.typing.specs.Typing.{typed_code}
use Rattle.typing.proofs.put_letters.Given as goal

abbrev pub invariant-loop-c : goal.invariant-loop-c
invariant-loop-c l = Leads l.initial.out 0 (map typed_code l.text) l.out l.a (map typed_code (drop l.c-index l.text))
