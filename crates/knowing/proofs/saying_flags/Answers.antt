-- Its one truth value.
use Rattle.storing.specs.Stored.{saying_flags}
use Rattle.knowing.proofs.saying_flags.Goals as goal

pub returns : goal.returns
unfolding saying_flags
returns c = c.is_flag.ensures
