-- `lookup::lookup` meets its contract: the lowest match, or none.
use mathlib.Core.Path.{sym, ◌∙◌}
use mathlib.Core.List.{[]}
use native.Mathlib.Omega.{arith}
use borrow.Author.Count.{below_more}
use Rattle.directory.specs.declared.Entry.{Entry}
use Rattle.directory.proofs.Find.{found_here, found_none}
use Rattle.lookup.proofs.lookup.Goals as goal

-- what stands past the end of a slice of entries
abbrev blank : Entry
blank = record { name = []; kind = 0; length = 0; first = 0; sectors = 0; count = 0; flags = 0 }

pub loop-i-preserved : goal.loop-i-preserved
loop-i-preserved c = below_more _ _ c.loop-i.invariant (sym c.is_named.ensures ∙ c.if-is_named.false)

pub returns-then-is_named : goal.returns-then-is_named
returns-then-is_named c =
    sym (found_here c.args.entries.now c.args.name.now c.loop-i.i blank c.loop-i-test.true c.loop-i.invariant (sym c.is_named.ensures ∙ c.if-is_named.true))

pub returns : goal.returns
returns c = sym (found_none c.args.entries.now c.args.name.now blank (λ j l. c.loop-i.invariant j (omega arith)))
