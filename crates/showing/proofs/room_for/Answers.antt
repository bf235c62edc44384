-- `showing::room_for` meets its contract: it asks what the definition asks.
use mathlib.Core.Path.{sym}
use lib.Dec.{ltb}
use lib.ListN.{length}
use borrow.Author.Tests.{lt-ltb, le-ltb}
use Rattle.geometry.proofs.Tests.{chosen, not_chosen}
use Rattle.showing.specs.Showing.{room_for}
use Rattle.showing.proofs.room_for.Goals as goal

pub returns-then-length-out : goal.returns-then-length-out
unfolding room_for
returns-then-length-out c =
    sym (chosen (ltb c.args.length (length c.args.out.now)) c.args.length 0 (lt-ltb _ _ c.if-length-out.true))

pub returns-else-length-out : goal.returns-else-length-out
unfolding room_for
returns-else-length-out c =
    sym (not_chosen (ltb c.args.length (length c.args.out.now)) c.args.length 0 (le-ltb _ _ c.if-length-out.false))
