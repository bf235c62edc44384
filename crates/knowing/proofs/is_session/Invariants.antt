-- Each truth value of the states passed.
use mathlib.Core.Path.{◌≡◌}
use lib.ListN.{take}
use Rattle.geometry.specs.Lists.{all}
use Rattle.storing.proofs.Read.{flags_in}
use Rattle.knowing.proofs.is_session.Given as goal

abbrev pub invariant-loop-k : goal.invariant-loop-k
invariant-loop-k l = l.good ≡ all (take l.k (flags_in l.buffers l.b))
