-- What it says of itself decides whether there is anything to be judged.
use mathlib.Core.Path.{ap, ◌∙◌}
use Rattle.geometry.specs.Lists.{every}
use Rattle.directory.specs.Entries.{is_free}
use Rattle.finding.proofs.States.{its-table, says-refused, says-mounted}
use Rattle.finding.proofs.LentSession.saying_good.Goals as goal

pub returns-then-is_refused : goal.returns-then-is_refused
returns-then-is_refused c =
    let s = c.self.inside in
    let t = its-table s.buffers s.bytes.now c.self.invariant _ c.self.view_is in
    says-refused c.args.self.now _ c.is_refused.ensures c.if-is_refused.true _ _ (c.none_used.ensures ∙ ap (every is_free) t) c.opened.ensures

pub returns-else-is_refused : goal.returns-else-is_refused
returns-else-is_refused c = says-mounted c.args.self.now _ c.is_refused.ensures c.if-is_refused.false
