-- The answer of measuring leads from the start on.
use lib.ListN.{drop}
use Rattle.decoding.specs.Decode.{decode}
use Rattle.walking.proofs.Starts.{leads-in}
use Rattle.walking.proofs.skip_at.Goals as goal

pub leads-requires : goal.leads-requires
leads-requires c =
    let a = c.args in
    leads-in a.length a.q.byte a.sector.now c.measure-c.result c.requires.0 c.requires.1 (rw c.from_byte.ensures at c.measure-c.ensures)

pub returns : goal.returns
returns c =
    let a = c.args in
    c.leads.ensures (decode a.length (drop a.q.byte a.sector.now)) (rw c.from_byte.ensures at c.measure-c.ensures)
