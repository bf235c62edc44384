-- Each field is read at its place.
use native.Mathlib.Omega.{arith}
use Rattle.storing.specs.Stored.{file_in}
use Rattle.finding.proofs.States.{room, file-read}
use Rattle.finding.proofs.State.file.Goals as goal

pub is_set-requires : goal.is_set-requires
is_set-requires c =
    let s = c.self.inside in
    omega (arith, room s.buffers s.bytes.now c.self.invariant.0)

pub wide_at-requires : goal.wide_at-requires
wide_at-requires c =
    let s = c.self.inside in
    omega (arith, room s.buffers s.bytes.now c.self.invariant.0)

pub long_at-requires : goal.long_at-requires
long_at-requires c =
    let s = c.self.inside in
    omega (arith, room s.buffers s.bytes.now c.self.invariant.0)

pub is_set-requires-2 : goal.is_set-requires-2
is_set-requires-2 c =
    let s = c.self.inside in
    omega (arith, room s.buffers s.bytes.now c.self.invariant.0)

pub place_at-requires : goal.place_at-requires
place_at-requires c =
    let s = c.self.inside in
    omega (arith, room s.buffers s.bytes.now c.self.invariant.0)

pub place_at-requires-2 : goal.place_at-requires-2
place_at-requires-2 c =
    let s = c.self.inside in
    omega (arith, room s.buffers s.bytes.now c.self.invariant.0)

pub returns : goal.returns
unfolding file_in
returns c =
    let s = c.self.inside in
    rw (c.is_set.ensures, c.wide_at.ensures, c.long_at.ensures, c.is_set-2.ensures, c.place_at.ensures, c.place_at-2.ensures)
    (file-read s.buffers s.bytes.now _ c.self.view_is)
