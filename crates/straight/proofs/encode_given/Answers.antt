-- `straight::encode_given` meets its contract: what may be a record is coded, and nothing else.
use mathlib.Core.Path.{refl}
use Rattle.straight.proofs.Coded.{given-encoded, given-none}
use Rattle.straight.proofs.encode_given.Goals as goal

pub returns-then-e-given : goal.returns-then-e-given
returns-then-e-given c =
    let a = c.args in
    rw (← given-encoded a.e a.given.now c.if-e-given.true) c.encode.ensures

pub returns-else-e-given : goal.returns-else-e-given
returns-else-e-given c =
    let a = c.args in
    rw (← given-none a.e a.given.now c.if-e-given.false) (refl, refl)
