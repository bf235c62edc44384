-- Behind the first i entries the rest of the table is to be listed.
use lib.ListN.{drop}
use Rattle.directory.specs.Entries.{table_of}
use Rattle.listing.specs.Listing.{lines_from}
use Rattle.texts.proofs.Writing.{Leads}
use Rattle.listing.proofs.put_lines.Given as goal

abbrev pub invariant-loop-i : goal.invariant-loop-i
invariant-loop-i l = Leads l.initial.out l.at (lines_from 0 (table_of l.image)) l.out l.a (lines_from l.i (drop l.i (table_of l.image)))
