-- By whether the place goes on, and whether the sector that the record then starts in is one of the extent's.
use mathlib.Core.Path.{◌≡◌, sym, ◌∙◌}
use mathlib.Core.List.{List}
use mathlib.Core.Bool.{Bool, true, false}
use native.Mathlib.Omega.{arith}
use Rattle.geometry.specs.declared.Place.{Place}
use Rattle.packing.specs.Reading.{goes_on, next_sector, start_of}
use Rattle.packing.proofs.One.{goes_on_lem, stays_here}
use Rattle.walking.specs.Extent.{read_in}
use Rattle.walking.proofs.Starts.{start-past, start-inside}
use Rattle.walking.proofs.Extent.start.Goals as goal

-- the answer t to whether the place goes on, as it was told
module _ (bytes : List _) (p : Place) (t : Bool) (told : t ≡ goes_on bytes p) where
  next : t ≡ true → start_of bytes p ≡ next_sector p
  next h = goes_on_lem bytes p (sym told ∙ h)

  here : t ≡ false → start_of bytes p ≡ p
  here h = stays_here bytes p (sym told ∙ h)

pub returns-then-sectors-next : goal.returns-then-sectors-next
returns-then-sectors-next c =
    let a = c.args in
    c.extent_end.ensures ∙ start-past a.sectors _ a.p (next_sector a.p) (next (read_in a.self.now) a.p _ c.goes_on.ensures c.if-goes_on.true) (omega arith)

pub returns-then-goes_on : goal.returns-then-goes_on
returns-then-goes_on c =
    let a = c.args in
    start-inside a.sectors _ a.p (next_sector a.p) (next (read_in a.self.now) a.p _ c.goes_on.ensures c.if-goes_on.true) (omega arith)

pub returns-then-sectors-p : goal.returns-then-sectors-p
returns-then-sectors-p c =
    let a = c.args in
    c.extent_end-then-sectors-p.ensures ∙ start-past a.sectors _ a.p a.p (here (read_in a.self.now) a.p _ c.goes_on.ensures c.if-goes_on.false) (omega arith)

pub returns : goal.returns
returns c =
    let a = c.args in
    start-inside a.sectors _ a.p a.p (here (read_in a.self.now) a.p _ c.goes_on.ensures c.if-goes_on.false) (omega arith)
