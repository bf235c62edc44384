-- `tables::Table::apart` meets its contract: the first of two words at once decides where the number is compared, and then their sum.
use Prim.Native.Nat.{◌*◌}
use Rattle.tables.proofs.Tables.{apart-before, apart-behind, apart-free}
use Rattle.tables.proofs.Table.apart.Goals as goal

pub returns-then-behind-extent : goal.returns-then-behind-extent
returns-then-behind-extent c =
    let a = c.args in
    let t = a.self.now in
    λ e f q u. apart-before t.bytes.now (t.width * a.j) _ c.long-extent.ensures t.width e a.first a.behind f q u c.if-behind-extent.true

pub returns-then-extent-first : goal.returns-then-extent-first
returns-then-extent-first c =
    let a = c.args in
    let t = a.self.now in
    λ e f q u. apart-behind t.bytes.now (t.width * a.j) _ c.long-extent.ensures t.width e a.first a.behind f q u c.if-extent-first.true

pub returns : goal.returns
returns c =
    let a = c.args in
    let t = a.self.now in
    λ e f q u. apart-free t.bytes.now (t.width * a.j) _ c.long-extent.ensures t.width e a.first a.behind f q u c.if-behind-extent.false c.if-extent-first.false _ c.word.ensures
