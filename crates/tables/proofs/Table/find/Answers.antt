-- `tables::Table::find` meets its contract: no entry passed matches.
use Prim.Native.Nat.{◌*◌}
use mathlib.Core.Path.{refl, sym, ap, ◌∙◌}
use native.Mathlib.Omega.{arith}
use borrow.Author.Count.{below_more}
use Rattle.directory.specs.Search.{matches}
use Rattle.directory.specs.Entries.{free_entry}
use Rattle.directory.proofs.Find.{found_here, found_none}
use Rattle.tables.specs.Table.{rows_of}
use Rattle.tables.proofs.Numbers.{at_front}
use Rattle.tables.proofs.Widths.{room}
use Rattle.tables.proofs.Tables.{length-entries, entry-is, unnamed-none, match-other, match-free, match-same}
use Rattle.tables.proofs.Table.find.Goals as goal
use Rattle.tables.proofs.Table.find.Goals.{then-eight-x+else-word-ne-FREE, else-eight-x}

pub returns-then-name-ne8 : goal.returns-then-name-ne8
returns-then-name-ne8 c =
    let a = c.args in
    sym (unnamed-none _ a.name.now c.if-name-ne8.true)

pub returns-then-word-ne-FREE : goal.returns-then-word-ne-FREE
returns-then-word-ne-FREE c =
    let t = c.args.self.now in
    let name = c.args.name.now in
    let i = c.loop-i.i in
    let h = c.loop-i-test.true in
    let r = room t.width i t.rows t.bytes.now t.fits h in
    let n = at_front t.bytes.now (t.width * i) _ c.eight.ensures in
    let m = match-same t.width t.bytes.now (t.width * i) (omega (arith, r, t.wide.0)) _ n name (omega arith) _ c.eight_in-x.ensures c.if-eight-x.true _ c.word.ensures c.if-word-ne-FREE.true in
    sym (found_here (rows_of t) name i free_entry (omega (arith, length-entries t.width t.rows t.bytes.now)) c.loop-i.invariant (ap (matches name) (entry-is t.width t.rows t.bytes.now i _ h refl) ∙ m))

pub loop-i-preserved : goal.loop-i-preserved
loop-i-preserved c =
    let t = c.args.self.now in
    let name = c.args.name.now in
    let i = c.loop-i.i in
    let h = c.loop-i-test.true in
    let r = room t.width i t.rows t.bytes.now t.fits h in
    let n = at_front t.bytes.now (t.width * i) _ c.eight.ensures in
    let e = ap (matches name) (entry-is t.width t.rows t.bytes.now i _ h refl) in
    below_more _ _ c.loop-i.invariant
    (elim c.if-eight-x.branch [
      | then-eight-x+else-word-ne-FREE v ↦ e ∙ match-free t.width t.bytes.now (t.width * i) (omega (arith, r, t.wide.0)) _ n name (omega arith) _ c.eight_in-x.ensures _ v.word.ensures v.if-word-ne-FREE.false
      | else-eight-x v ↦ e ∙ match-other t.width t.bytes.now (t.width * i) (omega (arith, r, t.wide.0)) _ n name (omega arith) _ c.eight_in-x.ensures v.if-eight-x.false
    ])

pub returns : goal.returns
returns c =
    let t = c.args.self.now in
    sym (found_none (rows_of t) c.args.name.now free_entry (λ j q. c.loop-i.invariant j (omega (arith, length-entries t.width t.rows t.bytes.now))))
