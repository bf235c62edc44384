-- The record is read from its start on, in that place's sector.
use lib.ListN.{length}
use Rattle.walking.specs.Extent.{read_in}
use Rattle.walking.proofs.Starts.{same-led, own-size, read-own}
use Rattle.walking.proofs.Extent.read_behind.Goals as goal

pub read_at-requires : goal.read_at-requires
read_at-requires c =
    let a = c.args in
    let s = c.start-q in
    own-size (length a.out.now) a.sectors (read_in a.self.now) a.p s.result s.ensures c.sector.result.now c.sector.ensures

pub returns : goal.returns
returns c =
    let a = c.args in
    let s = c.start-q in
    let r = c.read_at in
    same-led _ _ r.result r.new.out a.out.now (read-own (length a.out.now) a.sectors (read_in a.self.now) a.p s.result s.ensures c.sector.result.now c.sector.ensures) r.ensures
