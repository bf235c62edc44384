-- The last byte of a session says so.
use native.Mathlib.Omega.{arith}
use Rattle.editing.proofs.Adding.{said-there, said-is}
use Rattle.editing.proofs.says_refused.Goals as goal

pub overflow_sub-result : goal.overflow_sub-result
overflow_sub-result c = let l = said-there c.args.b.now c.requires in omega arith

pub bounds-b-b : goal.bounds-b-b
bounds-b-b c = let l = said-there c.args.b.now c.requires in omega arith

pub returns : goal.returns
returns c =
    let a = c.args in
    let l = said-there a.b.now c.requires in
    said-is a.b.now c.requires _ (omega arith)
