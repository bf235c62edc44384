-- `typing::put_letters` meets its contract: from the index on the rest of the text is to be put.
use mathlib.Core.Path.{◌≡◌}
use mathlib.Core.List.{[], ◌∷◌, ◌++◌, map}
use Prim.Native.Nat.{◌+◌}
use native.Mathlib.Omega.{arith}
use native.Mathlib.Numerals.{add-one}
use lib.ListN.{drop, get_or, drop_of_length-le}
use lib.Seq.{drop-cons}
use Rattle.texts.proofs.Writing.{leads-on, leads-end}
use Rattle.typing.specs.Typing.{typed_code}
use Rattle.typing.proofs.put_letters.Goals as goal

pub loop-c-init : goal.loop-c-init
loop-c-init c = λ new b w. w

pub loop-c-preserved : goal.loop-c-preserved
loop-c-preserved c =
    let l = c.loop-c in
    let xs = c.args.text.now in
    let e : map typed_code (drop l.c-index xs) ≡ (typed_code (get_or xs l.c-index 0) ∷ []) ++ map typed_code (drop (l.c-index + 1) xs) =
    rw (drop-cons xs l.c-index 0 (omega arith), add-one) in
    leads-on (rw (e, ← c.typed_code.ensures) at l.invariant) c.put_byte-a.ensures

pub returns : goal.returns
returns c =
    let l = c.loop-c in
    let xs = c.args.text.now in
    let e : drop l.c-index xs ≡ [] = drop_of_length-le xs {i = l.c-index} (omega arith) in
    leads-end (rw e at l.invariant)
