-- `gaps::swept` meets its contract: what is left of the table decides.
use native.Mathlib.Omega.{arith}
use Rattle.tables.specs.Table.{rows_of}
use Rattle.tables.proofs.Tables.{length-entries}
use Rattle.gaps.proofs.Sweep.{sweeping-on, sweeping-whole}
use Rattle.gaps.proofs.swept.Goals as goal

pub loop-i-preserved : goal.loop-i-preserved
loop-i-preserved c =
    let t = c.args.t.now in
    let l = c.loop-i in
    let n = length-entries t.width t.rows t.bytes.now in
    (sweeping-on (rows_of t) c.args.n c.args.p l.q l.i l.invariant.0 (omega arith) _ c.behind-q.ensures.0, c.behind-q.ensures.1)

pub returns : goal.returns
returns c =
    let t = c.args.t.now in
    let l = c.loop-i in
    let n = length-entries t.width t.rows t.bytes.now in
    (sweeping-whole (rows_of t) c.args.n c.args.p l.q l.i l.invariant.0 (omega arith), l.invariant.1)
