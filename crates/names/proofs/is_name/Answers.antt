-- `names::is_name` meets its contract: no bytes are no name; else what is asked of the bytes left decides, and then the first byte.
use mathlib.Core.Path.{refl, sym, ◌∙◌}
use mathlib.Core.Bool.{and-true, and-false}
use native.Mathlib.Omega.{arith}
use lib.ListN.{get_or}
use Rattle.names.specs.Names.{capital}
use Rattle.names.proofs.Names.{left_end, blank-on, blank-off, name-on, name-ends, name-off, name-whole, name-none}
use Rattle.names.proofs.is_name.Goals as goal
use Rattle.names.proofs.is_name.Goals.{then-ended+else-c-ne-BLANK, else-ended+then-not-is_capital_or_digit+else-c-ne-BLANK-2, else-ended+else-not-is_capital_or_digit}

pub returns-then-x-eq0 : goal.returns-then-x-eq0
returns-then-x-eq0 c = sym (name-none c.args.x.now c.if-x-eq0.true)

pub loop-k-init : goal.loop-k-init
loop-k-init c = refl

pub returns-then-c-ne-BLANK : goal.returns-then-c-ne-BLANK
returns-then-c-ne-BLANK c =
    let x = c.args.x.now in
    let bad = c.loop-k.invariant ∙ blank-off x c.loop-k.k (omega arith) c.loop-k.ended c.loop-k.ended c.if-ended.true c.if-c-ne-BLANK.true in
    sym (name-whole x (omega arith) ∙ rw (bad, and-false (capital (get_or x 0 0))))

pub returns-then-c-ne-BLANK-2 : goal.returns-then-c-ne-BLANK-2
returns-then-c-ne-BLANK-2 c =
    let x = c.args.x.now in
    let bad = c.loop-k.invariant ∙ name-off x c.loop-k.k (omega arith) c.loop-k.ended c.loop-k.ended c.if-ended.false _ c.is_capital_or_digit.ensures c.if-not-is_capital_or_digit.true c.if-c-ne-BLANK-2.true in
    sym (name-whole x (omega arith) ∙ rw (bad, and-false (capital (get_or x 0 0))))

pub loop-k-preserved : goal.loop-k-preserved
loop-k-preserved c =
    let x = c.args.x.now in
    let e = c.loop-k.ended in
    let f = c.if-ended.ended in
    c.loop-k.invariant
    ∙ elim c.if-ended.branch [
      | then-ended+else-c-ne-BLANK w ↦ blank-on x c.loop-k.k (omega arith) e f w.if-ended.true w.if-c-ne-BLANK.false w.ended-is
      | else-ended+then-not-is_capital_or_digit+else-c-ne-BLANK-2 w ↦ name-ends x c.loop-k.k (omega arith) e f w.if-ended.false _ w.is_capital_or_digit.ensures w.if-not-is_capital_or_digit.true w.if-c-ne-BLANK-2.false w.ended-is
      | else-ended+else-not-is_capital_or_digit w ↦ name-on x c.loop-k.k (omega arith) e f w.if-ended.false _ w.is_capital_or_digit.ensures w.if-not-is_capital_or_digit.false w.ended-is
    ]

pub returns : goal.returns
returns c =
    let x = c.args.x.now in
    let good = c.loop-k.invariant ∙ left_end x c.loop-k.k c.loop-k.ended (omega arith) in
    c.is_capital.ensures ∙ sym (name-whole x (omega arith) ∙ rw (good, and-true (capital (get_or x 0 0))))
