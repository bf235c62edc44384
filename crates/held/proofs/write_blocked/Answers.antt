-- `held::write_blocked` meets its contract: the record goes where geometry says that it lies.
use mathlib.Core.Path.{◌∙◌}
use Rattle.directory.specs.declared.Entry.{Entry}
use Rattle.held.proofs.Cases.{blocked-at}
use Rattle.held.proofs.write_blocked.Goals as goal

pub returns : goal.returns
returns g c =
    let a = c.args in
    let e : Entry = g.M.Mover.entry a.m.now in (
      c.change.ensures.0
          ∙ blocked-at g.M.Mover.way e a.f a.given.now _ _ (g.M.Mover.bench a.m.now) (rw c.entry-e.ensures at c.sector_of_record-k.ensures) (rw c.entry-e.ensures at c.byte_of_record-byte.ensures),
      c.change.ensures.1,
    )
