-- `decoding::blanks` and `decoding::characters`, which call each other, meet their contracts. The measure is twice the bytes that are left, and one
-- more for runs of characters.
use Rattle.std.proofs.Common.{length, ◌+◌, ◌-◌, ◌*◌}
use Rattle.decoding.proofs.+blanks_characters.Given as goal

abbrev pub decreases-blanks : goal.decreases-blanks
decreases-blanks l = 2 * (length l.sector.now.now - l.at)

abbrev pub decreases-characters : goal.decreases-characters
decreases-characters l = 2 * (length l.sector.now.now - l.at) + 1
