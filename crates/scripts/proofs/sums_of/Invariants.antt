-- Behind each word the sums of the rest are to be added.
use Rattle.std.proofs.Common.{◌≡◌, ◌<◌}
use Rattle.std.specs.Slice.Iter.{chunks_rest, chunks_size}
use Rattle.scripts.specs.Sums.{words_of, sum_of, running}
use Rattle.scripts.proofs.Adding.{To}
use Rattle.scripts.proofs.sums_of.Given as goal

abbrev pub invariant-loop-word : goal.invariant-loop-word
invariant-loop-word l =
    goal.iterator-loop-word.can_next l.word-iterator
    × goal.iterator-loop-word.is_finite l.word-iterator
    × (chunks_size l.word-iterator ≡ 2)
    × (l.a < 65535)
    × (l.b < 65535)
    × (To l.a (words_of (chunks_rest l.word-iterator)) ≡ sum_of (words_of l.fn.s))
    × (To l.b (running l.a (words_of (chunks_rest l.word-iterator))) ≡ sum_of (running 0 (words_of l.fn.s)))
