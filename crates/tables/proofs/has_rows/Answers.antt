-- `tables::has_rows` meets its contract: a product is at most a length if one factor is at most the length divided by the other.
use Rattle.tables.proofs.Widths.{has_one, has-two, has-none}
use Rattle.tables.proofs.has_rows.Goals as goal

pub returns-then-width-eq-ONE : goal.returns-then-width-eq-ONE
returns-then-width-eq-ONE c =
    let a = c.args in
    has_one a.width a.rows a.b.now c.if-width-eq-ONE.true

pub returns-then-width-eq-TWO : goal.returns-then-width-eq-TWO
returns-then-width-eq-TWO c =
    let a = c.args in
    has-two a.width a.rows a.b.now c.if-width-eq-TWO.true

pub returns-else-width-eq-TWO : goal.returns-else-width-eq-TWO
returns-else-width-eq-TWO c =
    let a = c.args in
    has-none a.width a.rows a.b.now c.if-width-eq-ONE.false c.if-width-eq-TWO.false
