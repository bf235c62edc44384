-- `tables::Table::count` meets its contract: one word or two, by the width.
use mathlib.Core.Path.{sym, ◌∙◌}
use Rattle.tables.proofs.Entries.{count-one, count-two}
use Rattle.tables.proofs.Table.count.Goals as goal

pub returns-then-self-eq-ONE : goal.returns-then-self-eq-ONE
returns-then-self-eq-ONE c =
    let t = c.args.self.now in
    c.word.ensures ∙ sym (count-one t.width t.bytes.now _ c.if-self-eq-ONE.true)

pub returns-else-self-eq-ONE : goal.returns-else-self-eq-ONE
returns-else-self-eq-ONE c =
    let t = c.args.self.now in
    c.long.ensures.0 ∙ sym (count-two t.width t.bytes.now _ c.if-self-eq-ONE.false)
