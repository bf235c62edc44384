-- A name is in use exactly if an entry is found by it.
use mathlib.Core.Path.{◌∙◌}
use Rattle.geometry.specs.Sizes.{entries}
use Rattle.tables.specs.Tables.{two_words_wide, table_in}
use Rattle.editing.proofs.Adding.{name-told}
use Rattle.editing.proofs.is_taken.Goals as goal

pub returns : goal.returns
returns c =
    let a = c.args in
    c.is_some.ensures ∙ name-told (table_in two_words_wide entries a.b.now) a.name.now _ c.search_in.ensures
