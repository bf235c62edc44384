-- `Held::load` meets its contract: a whole sector is laid over a whole buffer.
use mathlib.Core.Path.{refl, ap}
use mathlib.Core.Bool.{true, false}
use Rattle.geometry.specs.Bytes.{part}
use Rattle.geometry.specs.Sizes.{sector}
use Rattle.geometry.proofs.Bytes.{lay-all, length_part}
use Rattle.steps.specs.Effects.{sector_at, loaded}
use Rattle.blocking.specs.Blocking.{lent}
use Rattle.blocking.proofs.Held.load.Goals as goal

pub returns : goal.returns
unfolding loaded
returns c =
    let k = c.args.k in
    let s = c.args.self.now in (
      ap (lent s.image.now (record { holds = true; held = k; changed = false })) (rw (c.lay.ensures, c.part.ensures, c.sector_at-at.ensures)
          (lay-all sector s.buffer.now (part s.image.now (sector_at s.entry k) sector) c.requires.1 (length_part s.image.now (sector_at s.entry k) sector c.requires.0))),
      (refl, refl, refl),
    )
