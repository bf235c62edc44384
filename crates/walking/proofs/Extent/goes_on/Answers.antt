-- The byte at the place is that of its sector.
use mathlib.Core.Path.{sym}
use native.Mathlib.Omega.{arith}
use Rattle.walking.specs.Extent.{read_in}
use Rattle.walking.proofs.Starts.{goes-far, goes-seen}
use Rattle.walking.proofs.Extent.goes_on.Goals as goal

pub returns-then-p-ge-SECTOR_END : goal.returns-then-p-ge-SECTOR_END
returns-then-p-ge-SECTOR_END c =
    let a = c.args in
    sym (goes-far (read_in a.self.now) a.p (omega arith))

pub returns : goal.returns
returns c =
    let a = c.args in
    goes-seen (read_in a.self.now) a.p (omega arith) c.sector.result.now (sym c.sector.ensures) _ c.byte_at-c.ensures
