-- Where it is done, the granule and its place; else an empty part, and no place.
use Rattle.looking.proofs.Looks.{look-shown, look-placed, look-empty, look-stays}
use Rattle.looking.proofs.look.Goals as goal

pub returns-in-Done : goal.returns-in-Done
returns-in-Done c =
    let a = c.args in record {
      shows = look-shown a.image.now a.session.now a.i a.g _ c.look_in-seen.ensures.0 _ c.look_in-seen.ensures.1 c.in-Done.is _ c.record_at-place.ensures _ c.part.ensures;
      places = look-placed a.image.now a.session.now a.i a.g _ c.look_in-seen.ensures.0 _ c.look_in-seen.ensures.1 c.in-Done.is _ c.record_at-place.ensures a.at.now;
    }

pub returns-in_default : goal.returns-in_default
returns-in_default c =
    let a = c.args in record {
      shows = look-empty a.image.now a.session.now a.i a.g _ c.look_in-seen.ensures.0 _ c.look_in-seen.ensures.1 c.in_default.not-Done _ c.part-in_default.ensures;
      places = look-stays a.image.now a.session.now a.i a.g _ c.look_in-seen.ensures.0 _ c.look_in-seen.ensures.1 c.in_default.not-Done a.at.now;
    }
