-- `coding::Kept::first_blanks` meets its contract: the definition's test at two characters, taken apart; no blank is the last one.
use mathlib.Core.Path.{sym, ◌∙◌}
use Prim.Native.Nat.{◌-◌}
use native.Mathlib.Omega.{arith}
use lib.ListN.{get_or}
use borrow.Author.Tests.{ne_eqb, eq-eqb}
use Rattle.geometry.specs.Sizes.{blank}
use Rattle.coding.proofs.Writer.{gap-none, gap-first-last, gap-behind, behind, count_none, count-one, count-two}
use Rattle.coding.proofs.Kept.first_blanks.Goals as goal

pub returns-then-x-j-ne-BLANK : goal.returns-then-x-j-ne-BLANK
returns-then-x-j-ne-BLANK c =
    count_none c.args.self.text.now c.args.j c.requires (gap-none c.args.self.text.now c.args.j (λ z. omega arith))

pub bounds-x-j-2 : goal.bounds-x-j-2
bounds-x-j-2 c =
    let more = behind c.args.self.text.now c.args.j c.args.self.kept c.requires (omega arith) in
    omega arith

pub returns-then-x-j-eq-BLANK : goal.returns-then-x-j-eq-BLANK
returns-then-x-j-eq-BLANK c =
    let x = c.args.self.text.now in
    let j = c.args.j in
    count-two x j (behind x j c.args.self.kept c.requires (omega arith)) (omega arith) (omega arith)

pub returns-then-j-eq0 : goal.returns-then-j-eq0
returns-then-j-eq0 c =
    let x = c.args.self.text.now in
    let j = c.args.j in
    count_none x j c.requires (gap-first-last x j (omega arith) (λ z. omega arith) (omega arith))

pub returns-then-x-j-eq-BLANK-2 : goal.returns-then-x-j-eq-BLANK-2
returns-then-x-j-eq-BLANK-2 c =
    let x = c.args.self.text.now in
    let j = c.args.j in
    count-one x j (behind x j c.args.self.kept c.requires (omega arith)) (sym (gap-behind x j (omega arith) (λ z. omega arith) (λ z. omega arith)) ∙ eq-eqb (get_or x (j - 1) 0) blank (omega arith)) (λ z. omega arith)

pub returns : goal.returns
returns c =
    let x = c.args.self.text.now in
    let j = c.args.j in
    count_none x j c.requires (sym (ne_eqb (get_or x (j - 1) 0) blank (λ z. omega arith)) ∙ gap-behind x j (omega arith) (λ z. omega arith) (λ z. omega arith))
