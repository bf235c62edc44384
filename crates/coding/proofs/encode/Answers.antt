-- `coding::encode` meets its contract.
use Rattle.coding.specs.Encode.{encode}
use Rattle.coding.proofs.encode.Goals as goal

pub returns : goal.returns
unfolding encode
returns c = rw c.of.ensures at c.put_runs.ensures
