-- `gaps::gap_in` meets its contract: at no sector passed do so many free sectors stand, and a sweep goes on unless nothing is in the way.
use native.Mathlib.Omega.{arith}
use Rattle.tables.specs.Table.{rows_of}
use Rattle.gaps.specs.Gaps.{is_taken}
use Rattle.gaps.proofs.Gaps.{stands-directory}
use Rattle.gaps.proofs.Sweep.{swept-on, passed_on, rests, leaves}
use Rattle.gaps.proofs.gap_in.Goals as goal

pub loop-p-init : goal.loop-p-init
loop-p-init c =
    let a = c.args in
    (omega arith, omega arith, stands-directory (is_taken (rows_of a.t.now)) a.sectors a.n)

pub returns-then-q-p : goal.returns-then-q-p
returns-then-q-p c =
    let a = c.args in
    let l = c.loop-p in
    rests (rows_of a.t.now) a.sectors a.n l.p l.invariant.2 (omega arith) (omega arith) _ c.swept-q.ensures.0 c.if-q-p.true

pub loop-p-smaller : goal.loop-p-smaller
loop-p-smaller c =
    let a = c.args in
    let l = c.loop-p in
    omega (arith, swept-on a.n l.p (rows_of a.t.now), c.swept-q.ensures.0, c.if-q-p.false)

pub loop-p-preserved : goal.loop-p-preserved
loop-p-preserved c =
    let a = c.args in
    let l = c.loop-p in
    let t = rows_of a.t.now in
    (omega (arith, swept-on a.n l.p t, c.swept-q.ensures.0), c.swept-q.ensures.1, passed_on t a.sectors a.n l.p l.invariant.2 _ c.swept-q.ensures.0)

pub returns : goal.returns
returns c =
    let a = c.args in
    let l = c.loop-p in
    leaves (rows_of a.t.now) a.sectors a.n l.p l.invariant.2 (omega arith)
