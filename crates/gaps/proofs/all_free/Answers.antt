-- `gaps::all_free` meets its contract: each entry passed is free.
use mathlib.Core.Path.{sym, ◌∙◌}
use native.Mathlib.Omega.{arith}
use borrow.Author.Count.{below_more}
use Rattle.geometry.specs.Lists.{every}
use Rattle.geometry.proofs.Tests.{denied, every-get_or, every-from}
use Rattle.directory.specs.Entries.{is_free, free_entry, entry_at}
use Rattle.tables.specs.Table.{rows_of}
use Rattle.tables.proofs.Tables.{length-entries}
use Rattle.gaps.proofs.all_free.Goals as goal

pub returns-then-not-is_free : goal.returns-then-not-is_free
returns-then-not-is_free c =
    let t = c.args.t.now in
    let xs = rows_of t in
    let i = c.loop-i.i in
    let n = length-entries t.width t.rows t.bytes.now in
    let h = sym c.is_free.ensures ∙ c.if-not-is_free.true in
    sym (denied (every is_free xs) (is_free (entry_at xs i)) (λ e. every-get_or is_free xs i free_entry e (omega arith)) h)

pub loop-i-preserved : goal.loop-i-preserved
loop-i-preserved c =
    below_more _ _ c.loop-i.invariant (sym c.is_free.ensures ∙ c.if-not-is_free.false)

pub returns : goal.returns
returns c =
    let t = c.args.t.now in
    let n = length-entries t.width t.rows t.bytes.now in
    sym (every-from is_free (rows_of t) free_entry (λ k l. c.loop-i.invariant k (omega arith)))
