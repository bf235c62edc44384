-- Behind each word the sums of the rest are to be added.
use native.Mathlib.Omega.{arith}
use borrow.Author.Rules.{rules}
use Rattle.std.proofs.Common.{◌≡◌, ◌∙◌}
use Rattle.std.specs.Slice.Iter.{chunks_rest}
use Rattle.scripts.specs.Sums.{words_of, running, sums_of}
use Rattle.scripts.proofs.Adding.{next, none, added, ended, begun, behind, behind-none}
use Rattle.scripts.proofs.sums_of.Goals as goal

pub loop-word-init : goal.loop-word-init
loop-word-init c =
    let all : chunks_rest c.into_iter-word-iterator.result ≡ c.args.s.now = search rules in
    (search rules, tt, search rules, omega arith, omega arith, rw all (begun (words_of c.args.s.now)), rw all (begun (running 0 (words_of c.args.s.now))))

pub loop-word-preserved : goal.loop-word-preserved
loop-word-preserved c =
    let k = c.loop-word.invariant in
    let steps = c.in-Some.ensures.steps in
    let e = next _ c.in-Some.word.now _ steps.1.0 (rw k.2 at steps.1.1) steps.1.2 in
    let w = c.from.ensures ∙ c.word_at.ensures in
    let a = rw (e, ← w, added) at k.5 in
    let b = rw (e, ← w, behind, added) at k.6 in
    (search rules, tt, steps.0 ∙ k.2, omega arith, omega arith, a, b)

pub returns : goal.returns
unfolding sums_of
returns c =
    let l = c.loop-word in
    let k = l.invariant in
    let e = none _ c.in-None.ensures.steps.1.0 in
    let a = rw (e, ended l.a k.3) at k.5 in
    let b = rw (e, behind-none, ended l.b k.4) at k.6 in
    rw (sums_of, ← a, ← b)
