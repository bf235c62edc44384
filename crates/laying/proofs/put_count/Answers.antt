-- `laying::put_count` meets its contract: the count as one word or two, by the width, and the flags behind it.
use Prim.Native.Nat.{◌%◌}
use mathlib.Core.Path.{sym, ap, ◌∙◌}
use mathlib.Core.List.{◌++◌}
use native.Mathlib.Omega.{arith}
use borrow.Author.Rules.{rules}
use Rattle.geometry.specs.Bytes.{lay, word}
use Rattle.tables.specs.Numbers.{long}
use Rattle.tables.specs.Tables.{count_of}
use Rattle.tables.proofs.Laid.{counts-one, counts-two}
use Rattle.directory.proofs.Fields.{word-bytes, behind}
use Rattle.laying.proofs.Fields.{long-bytes}
use Rattle.laying.proofs.put_count.Goals as goal

pub returns-then-width-eq-ONE : goal.returns-then-width-eq-ONE
unfolding count_of word
returns-then-width-eq-ONE c =
    let a = c.args in
    behind a.b.now _ _ a.at _ (word (a.count % 65536)) (word a.flags)
    (c.lay.ensures ∙ ap (lay a.b.now a.at) (c.to_be_bytes.ensures ∙ word-bytes _ (omega arith))) (omega arith)
    (c.lay-then-width-eq-ONE.ensures ∙ ap (lay _ _) (c.to_be_bytes-then-width-eq-ONE.ensures ∙ word-bytes _ (search rules))) (omega arith)
    ∙ ap (λ x. lay a.b.now a.at (x ++ word a.flags)) (sym (counts-one a.width a.count c.if-width-eq-ONE.true))

pub returns-else-width-eq-ONE : goal.returns-else-width-eq-ONE
unfolding count_of word long
returns-else-width-eq-ONE c =
    let a = c.args in
    behind a.b.now _ _ a.at _ (long a.count) (word a.flags)
    (c.lay-else-width-eq-ONE.ensures ∙ ap (lay a.b.now a.at) (c.to_be_bytes-else-width-eq-ONE.ensures ∙ long-bytes _ (search rules))) (omega arith)
    (c.lay-else-width-eq-ONE-2.ensures ∙ ap (lay _ _) (c.to_be_bytes-else-width-eq-ONE-2.ensures ∙ word-bytes _ (search rules))) (omega arith)
    ∙ ap (λ x. lay a.b.now a.at (x ++ word a.flags)) (sym (counts-two a.width a.count c.requires.0 c.if-width-eq-ONE.false))
