-- `gaps::lowest_free` meets its contract: none is free where there is no table.
use mathlib.Core.Path.{refl, subst}
use mathlib.Core.List.{List}
use Rattle.geometry.specs.Lists.{first_with}
use Rattle.directory.specs.declared.Entry.{Entry}
use Rattle.tables.proofs.Tables.{table-made, table_none}
use Rattle.gaps.specs.Gaps.{lowest_free, IsLowest}
use Rattle.gaps.proofs.lowest_free.Goals as goal

pub returns-in_err-t : goal.returns-in_err-t
unfolding lowest_free first_with
returns-in_err-t c =
    let a = c.args in
    rw (c.from_residual.ensures, table_none a.width a.rows a.b.now c.in_err-t.ensures) refl

pub returns : goal.returns
returns c =
    let a = c.args in
    subst (λ (t : List Entry). IsLowest c.free_in.result t) (table-made c.in_ok-t.t a.width a.rows a.b.now c.in_ok-t.ensures) c.free_in.ensures
