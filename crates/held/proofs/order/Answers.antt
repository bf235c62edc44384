-- `held::order` meets its contract: a record skip, a close, and any other order.
use mathlib.Core.Path.{ap₂, ◌∙◌}
use Rattle.directory.specs.Stamp.{stamp_bytes}
use Rattle.directory.specs.declared.Entry.{Entry}
use Rattle.steps.specs.Effects.{stamp, Bench}
use Rattle.straight.specs.Moving.{scene}
use Rattle.straight.specs.Moving.{Way, moved_by}
use Rattle.held.proofs.Cases.{skips, closes-by, goes_back}
use borrow.Author.Rules.{rules}
use Rattle.held.proofs.order.Goals as goal

pub returns-in-RecordForward : goal.returns-in-RecordForward
returns-in-RecordForward g c =
    let a = c.args in
    (skips g.M.Mover.way a.i (g.M.Mover.entry a.m.now) (g.M.Mover.bench a.m.now) a.o (search rules), g.met.M.Mover.same_itself _)

pub returns-in-RewindOffline : goal.returns-in-RewindOffline
returns-in-RewindOffline g c =
    let a = c.args in
    let m : Way = g.M.Mover.way in
    let e : Entry = g.M.Mover.entry a.m.now in
    let p = c.put_back.ensures in
    let s = c.stamp.ensures in
    rw c.in-RewindOffline.is (
      s.0
          ∙ ap₂ (λ (e : Entry) (w : Bench). moved_by m (scene a.i e) (stamp (stamp_bytes e.count e.flags)) w) (g.met.M.Mover.same_entry _ _ p.1) p.0
          ∙ closes-by m a.i e (g.M.Mover.bench a.m.now),
      g.met.M.Mover.same_on _ _ _ p.1 s.1,
    )

pub returns-in_default : goal.returns-in_default
returns-in_default g c =
    let a = c.args in
    let p = c.put_back-in_default.ensures in
    (p.0 ∙ goes_back g.M.Mover.way a.i (g.M.Mover.entry a.m.now) (g.M.Mover.bench a.m.now) a.o (search rules), p.1)
