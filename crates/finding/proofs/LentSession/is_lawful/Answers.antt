-- The rules of the image and the table, then those of the files and of what it says of itself.
use mathlib.Core.Path.{sym, ◌∙◌}
use native.Mathlib.Omega.{arith}
use Rattle.geometry.proofs.Places.{lawful-most}
use Rattle.sessions.specs.Session.{bare}
use Rattle.sessions.proofs.Grouped.{grouped}
use Rattle.finding.proofs.States.{table-judged}
use Rattle.finding.proofs.LentSession.is_lawful.Goals as goal

pub overflow_cast-n : goal.overflow_cast-n
overflow_cast-n c =
    omega (arith, lawful-most c.args.image.now (rw c.lawful_length.ensures at c.if-lawful_length.true), c.sectors_of-n.ensures)

pub returns-then-lawful_length : goal.returns-then-lawful_length
unfolding bare
returns-then-lawful_length c =
    let s = c.self.inside in
    let l = sym c.lawful_length.ensures ∙ c.if-lawful_length.true in
    let t = c.table_good.ensures ∙ table-judged s.buffers s.bytes.now c.self.invariant _ c.self.view_is c.sectors_of-n.result in
    sym (grouped c.args.image.now (bare c.args.self.now) ∙ rw (l, t, c.files_good.ensures, c.saying_good.ensures, c.sectors_of-n.ensures))

pub returns-else-lawful_length : goal.returns-else-lawful_length
returns-else-lawful_length c =
    sym (grouped c.args.image.now (bare c.args.self.now) ∙ rw (sym c.lawful_length.ensures ∙ c.if-lawful_length.false))
