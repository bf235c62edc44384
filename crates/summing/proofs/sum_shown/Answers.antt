-- `summing::sum_shown` meets its contract: the part of the image that the call tells is what the look shows.
use Rattle.looking.proofs.Shown.{look_is}
use Rattle.scripts.specs.Sums.{sums_of}
use Rattle.summing.proofs.sum_shown.Goals as goal

pub returns : goal.returns
unfolding sums_of
returns c =
    let a = c.args in
    rw (c.sums_of.ensures, c.part.ensures, c.lleuadrys_look-n.ensures.0, c.lleuadrys_look-n.ensures.1, look_is a.image.now a.session.now a.i a.g 0)
