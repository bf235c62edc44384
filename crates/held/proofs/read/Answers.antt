-- `held::read` meets its contract: one way for each case of `read_with`.
use mathlib.Core.Path.{◌≡◌, sym, ap, ◌∙◌}
use Rattle.geometry.specs.Sizes.{blocked, compressed}
use Rattle.steps.specs.Effects.{hold, Bench}
use Rattle.directory.specs.declared.Entry.{Entry}
use Rattle.straight.specs.Moving.{Way}
use Rattle.held.proofs.Cases.{read-blocked, read-both, read_one, read_none, behind}
use borrow.Author.Rules.{rules}
use Rattle.held.proofs.read.Goals.{then-goes-here, else-goes-here}
use Rattle.held.proofs.read.Goals as goal

pub returns-in-2 : goal.returns-in-2
returns-in-2 g c =
    let a = c.args in
    let m : Way = g.M.Mover.way in
    let e : Entry = g.M.Mover.entry a.m.now in
    let k : e.kind ≡ blocked = ap (λ (e : Entry). e.kind) (sym c.entry-e.ensures) ∙ c.in-2.is in
    (c.hold.ensures.0 ∙ rw (c.sector_of_record-k.ensures, c.entry-e.ensures) (read-blocked m e a.f a.goes a.start (g.M.Mover.bench a.m.now) k), c.hold.ensures.1)

pub returns-after-goes-here : goal.returns-after-goes-here
returns-after-goes-here g c =
    let a = c.args in
    let m : Way = g.M.Mover.way in
    let e : Entry = g.M.Mover.entry a.m.now in
    let w : Bench = g.M.Mover.bench a.m.now in
    let k : e.kind ≡ compressed = ap (λ (e : Entry). e.kind) (sym c.entry-e.ensures) ∙ c.in-3.is in
    elim c.if-goes-here.branch [
      | then-goes-here b ↦
          let h = rw b.m-is at c.hold-in-3.ensures in
          let o = b.hold-then-goes-here.ensures in (
            behind m (hold a.f.here.sector) (hold a.start) o.0 (g.met.M.Mover.same_entry _ _ o.1) h.0 ∙ read-both m e a.f a.goes a.start w k b.if-goes-here.true,
            g.met.M.Mover.same_on _ _ _ o.1 h.1,
          )
      | else-goes-here b ↦
          let h = rw b.m-is at c.hold-in-3.ensures in
          (h.0 ∙ read_one m e a.f a.goes a.start w k b.if-goes-here.false, h.1)
    ]

pub returns-in_default : goal.returns-in_default
returns-in_default g c =
    let a = c.args in
    let b : ¬ (c.entry-e.result.kind ≡ blocked) = search rules in
    let z : ¬ (c.entry-e.result.kind ≡ compressed) = search rules in
    (rw (← c.entry-e.ensures) (read_none g.M.Mover.way c.entry-e.result a.f a.goes a.start (g.M.Mover.bench a.m.now) b z), g.met.M.Mover.same_itself _)
