-- What is said is read off behind the request.
use Rattle.playing.specs.Played.{asked, said_of}
use Rattle.playing.proofs.play_request.Goals as goal

pub returns : goal.returns
unfolding asked said_of
returns c =
    let e = c.lleuadrys_request-number.ensures in
    (e, rw (c.sum_moved-sum.ensures, c.lleuadrys_position-standing.ensures.0, c.lleuadrys_position-standing.ensures.1, ← e))
