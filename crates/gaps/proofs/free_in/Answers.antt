-- `gaps::free_in` meets its contract: no entry passed is free.
use mathlib.Core.Path.{sym, ◌∙◌}
use native.Mathlib.Omega.{arith}
use borrow.Author.Count.{below_more}
use Rattle.geometry.proofs.Tests.{first-is}
use Rattle.directory.specs.Entries.{is_free, free_entry}
use Rattle.tables.specs.Table.{rows_of}
use Rattle.tables.proofs.Tables.{length-entries}
use Rattle.gaps.specs.Gaps.{lowest_free}
use Rattle.gaps.proofs.free_in.Goals as goal

pub returns-then-is_free : goal.returns-then-is_free
unfolding lowest_free
returns-then-is_free c =
    let t = c.args.t.now in
    let h = sym c.is_free.ensures ∙ c.if-is_free.true in
    let n = length-entries t.width t.rows t.bytes.now in
    (first-is is_free (rows_of t) c.loop-i.i free_entry (omega arith) c.loop-i.invariant (λ l. h), omega arith)

pub loop-i-preserved : goal.loop-i-preserved
loop-i-preserved c =
    below_more _ _ c.loop-i.invariant (sym c.is_free.ensures ∙ c.if-is_free.false)

pub returns : goal.returns
unfolding lowest_free
returns c =
    let t = c.args.t.now in
    let n = length-entries t.width t.rows t.bytes.now in
    first-is is_free (rows_of t) t.rows free_entry (omega arith) (λ k l. c.loop-i.invariant k (omega arith)) (λ l. absurd (omega arith)) ∙ sym n
