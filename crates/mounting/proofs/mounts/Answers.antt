-- The length, then the rules of the table, then the decoding rule.
use mathlib.Core.Path.{sym, ◌∙◌}
use native.Mathlib.Omega.{arith}
use Rattle.geometry.proofs.Places.{lawful-most}
use Rattle.mounting.specs.Mounting.{mounts}
use Rattle.mounting.proofs.Directory.{sector-there, table-tested}
use Rattle.mounting.proofs.mounts.Goals as goal

pub returns-then-not-lawful_length : goal.returns-then-not-lawful_length
unfolding mounts
returns-then-not-lawful_length c = rw (sym c.if-not-lawful_length.ensures)

pub overflow_cast-n : goal.overflow_cast-n
overflow_cast-n c = omega (arith, lawful-most c.args.image.now (sym c.if-not-lawful_length.ensures), c.sectors_of-n.ensures)

pub all_decode-requires : goal.all_decode-requires
all_decode-requires c = sector-there c.args.image.now (sym c.if-not-lawful_length.ensures)

pub returns-then-table_good : goal.returns-then-table_good
unfolding mounts
returns-then-table_good c =
    let image = c.args.image.now in
    let l = sym c.if-not-lawful_length.ensures in
    rw (l, table-tested image l c.sectors_of-n.result c.sectors_of-n.ensures _ c.table_good.ensures ∙ c.if-table_good.true, c.all_decode.ensures)

pub returns-else-table_good : goal.returns-else-table_good
unfolding mounts
returns-else-table_good c =
    let image = c.args.image.now in
    let l = sym c.if-not-lawful_length.ensures in
    rw (l, table-tested image l c.sectors_of-n.result c.sectors_of-n.ensures _ c.table_good.ensures ∙ c.if-table_good.false, c.if-table_good.false)
