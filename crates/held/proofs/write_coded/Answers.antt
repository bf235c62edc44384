-- `held::write_coded` meets its contract: one way for each case of `changes`.
use mathlib.Core.Path.{◌≡◌, sym, ◌∙◌}
use mathlib.Core.Bool.{false}
use Prim.Native.Nat.{◌+◌, ◌-◌}
use lib.ListN.{length}
use Rattle.geometry.specs.Bytes.{padded}
use Rattle.geometry.specs.Sizes.{sector}
use Rattle.packing.specs.Placing.{fits_here}
use Rattle.steps.specs.Effects.{change, Bench}
use Rattle.directory.specs.declared.Entry.{Entry}
use Rattle.straight.specs.Moving.{Way}
use Rattle.held.proofs.Cases.{coded-here, coded-further, coded-both, behind}
use Rattle.held.proofs.write_coded.Goals.{then-byte-lt-SECTOR, else-byte-lt-SECTOR}
use Rattle.held.proofs.write_coded.Goals as goal

pub returns-then-fits_here : goal.returns-then-fits_here
returns-then-fits_here g c =
    let a = c.args in
    (c.change.ensures.0 ∙ coded-here g.M.Mover.way (g.M.Mover.entry a.m.now) a.p a.code.now (g.M.Mover.bench a.m.now) (sym c.fits_here.ensures ∙ c.if-fits_here.true), c.change.ensures.1)

pub returns-after-byte-lt-SECTOR : goal.returns-after-byte-lt-SECTOR
returns-after-byte-lt-SECTOR g c =
    let a = c.args in
    let m : Way = g.M.Mover.way in
    let e : Entry = g.M.Mover.entry a.m.now in
    let w : Bench = g.M.Mover.bench a.m.now in
    let n : fits_here a.p (length a.code.now) ≡ false = sym c.fits_here.ensures ∙ c.if-fits_here.false in
    elim c.if-byte-lt-SECTOR.branch [
      | then-byte-lt-SECTOR b ↦
          let h = rw b.m-is at c.change-else-fits_here.ensures in
          let o = b.change-then-byte-lt-SECTOR.ensures in (
            behind m _ (change (record { place = record { sector = a.p.sector + 1; byte = 0 }; bytes = padded 128 (sector - 0) a.code.now })) o.0 (g.met.M.Mover.same_entry _ _ o.1) h.0
                ∙ coded-both m e a.p a.code.now w n b.if-byte-lt-SECTOR.true,
            g.met.M.Mover.same_on _ _ _ o.1 h.1,
          )
      | else-byte-lt-SECTOR b ↦
          let h = rw b.m-is at c.change-else-fits_here.ensures in
          (h.0 ∙ coded-further m e a.p a.code.now w n b.if-byte-lt-SECTOR.false, h.1)
    ]
