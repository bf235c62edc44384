-- `laying::copy_rows` meets its contract: each entry is laid behind those before it.
use Prim.Native.Nat.{◌*◌}
use mathlib.Core.Path.{sym, ap, ◌∙◌}
use native.Mathlib.Omega.{arith}
use lib.ListN.{length}
use lib.Seq.{take_all}
use Rattle.geometry.specs.Bytes.{lay}
use Rattle.directory.specs.Entries.{free_entry}
use Rattle.tables.specs.Rows.{row_of}
use Rattle.tables.specs.Table.{rows_of}
use Rattle.tables.specs.Tables.{entry_of}
use Rattle.tables.proofs.Widths.{below, one_on}
use Rattle.tables.proofs.Rows.{laid_none, size_none, turn}
use Rattle.tables.proofs.Tables.{length-entries}
use Rattle.laying.proofs.copy_rows.Goals as goal

pub loop-i-init : goal.loop-i-init
loop-i-init c =
    let a = c.args in
    (laid_none (entry_of a.to) a.out.now 0 (rows_of a.t.now), size_none (entry_of a.to) (rows_of a.t.now) ∙ omega arith)

pub overflow_mul-to : goal.overflow_mul-to
overflow_mul-to c = let a = c.args in omega (arith, below a.to c.loop-i.i a.t.now.rows c.loop-i-test.true)

pub put_row-requires : goal.put_row-requires
put_row-requires c = let a = c.args in (c.requires.0, omega (arith, below a.to c.loop-i.i a.t.now.rows c.loop-i-test.true))

pub loop-i-preserved : goal.loop-i-preserved
loop-i-preserved c =
    let a = c.args in
    let l = c.loop-i in
    let xs = rows_of a.t.now in
    let n = length-entries a.t.now.width a.t.now.rows a.t.now.bytes.now in
    let e = c.entry-e.ensures in
    let r = turn (entry_of a.to) a.out.now l.out c.put_row.new.b xs l.i 0 (a.to * l.i) a.to (a.to * l.i) free_entry (omega arith) (omega arith) l.invariant.0 l.invariant.1
    (c.put_row.ensures.0 ∙ ap (λ x. lay l.out (a.to * l.i) (entry_of a.to x)) e) (ap (λ x. length (entry_of a.to x)) (sym e) ∙ c.put_row.ensures.1) (omega (arith, below a.to l.i a.t.now.rows c.loop-i-test.true)) in
    (r.0, r.1 ∙ one_on a.to l.i)

pub returns : goal.returns
returns c =
    let a = c.args in
    let l = c.loop-i in
    let n = length-entries a.t.now.width a.t.now.rows a.t.now.bytes.now in
    l.invariant.0 ∙ ap (λ x. lay a.out.now 0 (row_of (entry_of a.to) x)) (take_all l.i (rows_of a.t.now) (omega arith))
