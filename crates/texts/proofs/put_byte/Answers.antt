-- `texts::put_byte` meets its contract: past the end nothing is put.
use mathlib.Core.Path.{sym}
use native.Mathlib.Omega.{arith}
use lib.Seq.{set_out}
use Rattle.texts.proofs.put_byte.Goals as goal

pub returns-else-at-out : goal.returns-else-at-out
returns-else-at-out c =
    let a = c.args in
    record { ends = omega arith; puts = sym (set_out a.out.now a.at a.c c.if-at-out.false) }
