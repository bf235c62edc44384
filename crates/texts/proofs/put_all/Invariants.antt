-- `texts::put_all` meets its contract: from the index on the rest is to be put.
use lib.ListN.{drop}
use Rattle.texts.proofs.Writing.{Leads}
use Rattle.texts.proofs.put_all.Given as goal

abbrev pub invariant-loop-c : goal.invariant-loop-c
invariant-loop-c l = Leads l.initial.out l.at l.xs l.out l.a (drop l.c-index l.xs)
