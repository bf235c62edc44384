-- The bytes that stand there, taken together.
use mathlib.Core.Path.{◌≡◌, ap, ◌∙◌}
use borrow.Author.Rules.{rules}
use Rattle.std.specs.Int.{from_le_bytes, w64}
use Rattle.geometry.specs.Bytes.{part}
use Rattle.tables.proofs.Numbers.{from_le-part}
use Rattle.finding.proofs.wide_at.Goals as goal

pub returns : goal.returns
unfolding part
returns c =
    let e : c.unwrap-eight.result ≡ part c.args.b.now c.args.at 8 = search rules in
    c.from_le_bytes.ensures ∙ ap (from_le_bytes w64) e ∙ from_le-part c.args.b.now c.args.at c.requires
