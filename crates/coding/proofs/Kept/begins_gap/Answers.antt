-- `coding::Kept::begins_gap` meets its contract: a blank behind a character needs a blank behind it, and no blank is the last character.
use native.Mathlib.Omega.{arith}
use Rattle.coding.proofs.Writer.{gap-none, gap-begins, behind}
use Rattle.coding.proofs.Kept.begins_gap.Goals as goal

pub returns-then-x-j-ne-BLANK : goal.returns-then-x-j-ne-BLANK
returns-then-x-j-ne-BLANK c = let a = c.args in gap-none a.self.text.now a.j (λ z. omega arith)

pub bounds-x-j-2 : goal.bounds-x-j-2
bounds-x-j-2 c = behind c.args.self.text.now c.args.j c.args.self.kept c.requires.1 (omega arith)

pub returns : goal.returns
returns c = gap-begins c.args.self.text.now c.args.j c.requires.0 c.requires.2 (omega arith)
