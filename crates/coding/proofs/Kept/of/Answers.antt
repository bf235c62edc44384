-- What is kept has no trailing blanks.
use mathlib.Core.Path.{refl, sym}
use native.Mathlib.Omega.{arith}
use lib.ListN.{length}
use lib.Seq.{length-take-le}
use Rattle.coding.proofs.Runs.{keeps-le}
use Rattle.coding.proofs.Writer.{kept}
use Rattle.coding.proofs.Kept.of.Goals as goal

pub slice_bounds-result-end : goal.slice_bounds-result-end
slice_bounds-result-end c =
    let x = c.args.x.now in
    let l = keeps-le (length x) x in
    sym (length-take-le c.keeps-e.result x (omega (arith, c.keeps-e.ensures)))

pub invariant_of-result : goal.invariant_of-result
invariant_of-result c = record { kept = kept c.args.x.now c.keeps-e.result c.keeps-e.ensures }

pub returns : goal.returns
returns c = rw c.keeps-e.ensures refl
