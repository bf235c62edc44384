-- Its first byte is 0 or 1.
use native.Mathlib.Omega.{arith}
use Rattle.finding.proofs.States.{room, flag-read}
use Rattle.finding.proofs.State.used.Goals as goal

pub bounds-self-inside-0 : goal.bounds-self-inside-0
bounds-self-inside-0 c =
    let s = c.self.inside in
    omega (arith, room s.buffers s.bytes.now c.self.invariant.0)

pub returns : goal.returns
returns c =
    let s = c.self.inside in
    flag-read s.buffers s.bytes.now _ c.self.view_is c.self.invariant.1
