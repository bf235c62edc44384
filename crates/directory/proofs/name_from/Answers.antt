-- Eight zeros, with the first 8 bytes laid over them: what is past the end stays zero.
use mathlib.Core.Path.{◌≡◌, ap, ◌∙◌}
use mathlib.Core.List.{List}
use Prim.Native.Nat.{ℕ, min, ◌-◌}
use native.Mathlib.Omega.{arith}
use lib.ListN.{length, replicate}
use Rattle.geometry.specs.Bytes.{part, lay}
use Rattle.geometry.proofs.Bytes.{length-part-min}
use Rattle.directory.proofs.Table.{lay-over}
use Rattle.directory.proofs.name_from.Goals as goal

pub returns : goal.returns
returns c =
    let b : List ℕ = c.args.b.now in
    let l : length (part b 0 8) ≡ min 8 (length b - 0) = length-part-min b 0 8 in
    c.lay.ensures ∙ ap (lay (replicate 8 0) 0) c.part.ensures ∙ lay-over 0 8 (part b 0 8) (omega arith)
