-- The bytes that stand there, taken together.
use Rattle.finding.proofs.Numbers.{four-in}
use Rattle.finding.proofs.long_at.Goals as goal

pub returns : goal.returns
returns c = four-in c.args.b.now c.args.at c.requires _ c.from_le_bytes.ensures
