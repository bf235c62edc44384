-- The bytes of a word are those of the word turned, the other way round.
use mathlib.Core.Path.{◌≡◌, sym, ◌∙◌}
use Prim.Native.Nat.{◌+◌, ◌*◌, ◌/◌, ◌%◌, ◌<◌}
use native.Mathlib.Omega.{arith}
use Rattle.tables.proofs.Numbers.{turned-back}
use borrow.Author.Rules.{rules}
use Rattle.laying.proofs.two_bytes.Goals as goal

pub returns : goal.returns
returns c =
    let x = c.args.x in
    let h : x < 65536 = search rules in
    let t : c.swap_bytes-t.result ≡ 256 * (x % 256) + x / 256 = c.swap_bytes-t.ensures ∙ omega (arith, h) in
    sym (turned-back x _ h t)
