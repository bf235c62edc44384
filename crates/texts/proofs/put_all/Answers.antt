-- `texts::put_all` meets its contract: from the index on the rest is to be put.
use mathlib.Core.Path.{◌≡◌}
use mathlib.Core.List.{[], ◌∷◌, ◌++◌}
use Prim.Native.Nat.{◌+◌}
use native.Mathlib.Omega.{arith}
use native.Mathlib.Numerals.{add-one}
use lib.ListN.{drop, get_or, drop_of_length-le}
use lib.Seq.{drop-cons}
use Rattle.texts.proofs.Writing.{leads-on, leads-end}
use Rattle.texts.proofs.put_all.Goals as goal

pub loop-c-init : goal.loop-c-init
loop-c-init c = λ new b w. w

pub loop-c-preserved : goal.loop-c-preserved
loop-c-preserved c =
    let l = c.loop-c in
    let xs = c.args.xs.now in
    let e : drop l.c-index xs ≡ (get_or xs l.c-index 0 ∷ []) ++ drop (l.c-index + 1) xs = rw (drop-cons xs l.c-index 0 (omega arith), add-one) in
    leads-on (rw e at l.invariant) c.put_byte-a.ensures

pub returns : goal.returns
returns c =
    let l = c.loop-c in
    let xs = c.args.xs.now in
    let e : drop l.c-index xs ≡ [] = drop_of_length-le xs {i = l.c-index} (omega arith) in
    leads-end (rw e at l.invariant)
