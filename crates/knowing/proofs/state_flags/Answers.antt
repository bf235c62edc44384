-- Those of the state, and those of what it holds, if it has a buffer.
use native.Mathlib.Omega.{arith}
use Rattle.storing.proofs.Read.{width-least}
use Rattle.knowing.proofs.Known.{held-wide, flags-held, flags-plain}
use Rattle.knowing.proofs.state_flags.Goals as goal

pub file_flags-requires : goal.file_flags-requires
file_flags-requires c = omega (arith, c.requires, width-least c.args.buffers)

pub is_flag-requires : goal.is_flag-requires
is_flag-requires c = omega (arith, c.requires, held-wide c.args.buffers c.if-buffers.true)

pub is_flag-requires-then-buffers : goal.is_flag-requires-then-buffers
is_flag-requires-then-buffers c = omega (arith, c.requires, held-wide c.args.buffers c.if-buffers.true)

pub file_flags-requires-else-buffers : goal.file_flags-requires-else-buffers
file_flags-requires-else-buffers c = omega (arith, c.requires, width-least c.args.buffers)

pub returns-then-buffers : goal.returns-then-buffers
returns-then-buffers c =
    let a = c.args in
    (flags-held a.buffers a.b.now a.at _ c.file_flags.ensures.0 c.if-buffers.true _ _ c.is_flag.ensures.0 c.is_flag-then-buffers.ensures.0, c.is_flag-then-buffers.ensures.1)

pub returns-else-buffers : goal.returns-else-buffers
returns-else-buffers c =
    let a = c.args in
    (flags-plain a.buffers a.b.now a.at _ c.file_flags-else-buffers.ensures.0 c.if-buffers.false, c.file_flags-else-buffers.ensures.1)
