-- One width for each.
use Rattle.storing.specs.Stored.{width}
use mathlib.Core.Path.{sym, ap}
use native.Mathlib.Omega.{arith}
use Rattle.storing.proofs.state_width.Goals as goal

pub returns-then-buffers : goal.returns-then-buffers
unfolding width
returns-then-buffers c = (sym (ap width c.if-buffers.true), omega arith)

pub returns-else-buffers : goal.returns-else-buffers
unfolding width
returns-else-buffers c = (sym (ap width c.if-buffers.false), omega arith)
