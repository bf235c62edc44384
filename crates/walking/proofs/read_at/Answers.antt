-- The decoder's answer leads from the start on.
use mathlib.Core.Path.{◌∙◌}
use lib.ListN.{length, drop}
use Rattle.decoding.specs.Decode.{decode}
use Rattle.walking.proofs.Starts.{leads-in, into-given}
use Rattle.walking.proofs.read_at.Goals as goal

pub leads-requires : goal.leads-requires
leads-requires c =
    let a = c.args in
    let d = c.decode-c in
    let f = c.from_byte in
    leads-in (length a.out.now) a.q.byte a.sector.now d.result c.requires.0 c.requires.1 (rw f.ensures at d.ensures.0)

pub returns : goal.returns
returns c =
    let a = c.args in
    let d = c.decode-c in
    let f = c.from_byte in
    let e = rw f.ensures at d.ensures in
    (c.leads.ensures (decode (length a.out.now) (drop a.q.byte a.sector.now)) e.0, e.1 ∙ into-given a.q (decode (length a.out.now) (drop a.q.byte a.sector.now)) a.out.now)
