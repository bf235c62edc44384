-- Judged by the session that the bytes are.
use Rattle.looking.proofs.Looks.{answered}
use Rattle.looking.proofs.look_answer.Goals as goal

pub returns : goal.returns
returns c =
    let a = c.args in
    answered a.image.now a.session.now a.i a.g _ c.look_in.ensures.0
