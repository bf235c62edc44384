-- Each truth value is 0 or 1.
use Rattle.storing.specs.Stored.{file_flags}
use Rattle.knowing.proofs.file_flags.Goals as goal

pub returns : goal.returns
unfolding file_flags
returns c = (rw (c.is_flag-2.ensures.0, c.is_flag.ensures.0), c.is_flag-2.ensures.1)
