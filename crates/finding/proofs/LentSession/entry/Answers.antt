-- The table has room there.
use mathlib.Core.Path.{ap, ◌∙◌}
use mathlib.Core.List.{List}
use native.Mathlib.Omega.{arith}
use Rattle.directory.specs.Entries.{entry_at}
use Rattle.directory.specs.declared.Entry.{Entry}
use Rattle.sessions.specs.declared.BufferedSession.{BufferedSession}
use Rattle.finding.proofs.Lent.{table_is}
use Rattle.finding.proofs.States.{session-room}
use Rattle.finding.proofs.LentSession.entry.Goals as goal

pub returns : goal.returns
returns c =
    let s = c.self.inside in
    c.entry_in.ensures
    ∙ ap (λ (t : List Entry). entry_at t c.args.i) (table_is s.bytes.now (omega (arith, session-room s.buffers s.bytes.now c.self.invariant)))
    ∙ ap (λ (x : BufferedSession). entry_at x.table c.args.i) c.self.view_is
