-- A truth value in its byte.
use mathlib.Core.Path.{refl}
use Rattle.storing.specs.Stored.{saying_stored}
use Rattle.storing.proofs.Numbers.{flag-byte}
use Rattle.storing.proofs.saying_bytes.Goals as goal

pub returns : goal.returns
unfolding saying_stored
returns c = rw (flag-byte c.args.s.refused _ c.from.ensures) refl
