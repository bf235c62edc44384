-- The first two tests of every request: 12 where the session is not legal, 8 where there is no such entry.
use mathlib.Core.Path.{◌≡◌}
use mathlib.Core.Bool.{true, false}
use lib.Dec.{eqb}
use Rattle.geometry.specs.Sizes.{free}
use Rattle.requests.specs.Judge.{whether, or_else, tests, first_of, judge}
use Rattle.requests.specs.declared.Facts.{Facts}
use Rattle.requests.specs.declared.Order.TheVariants.{WriteMark, RewindOnline, RewindOffline, RecordForward, RecordBack, FileForward, FileBack}
use Rattle.requests.specs.declared.Request.{Request}
use Rattle.requests.specs.declared.Request.TheVariants.{Open, Read, Write, GranuleRead, GranuleWrite, GranuleLook, Position}
use Rattle.requests.specs.declared.Refusal.TheVariants.{NotThere, NotLegal}
use Rattle.requests.specs.declared.Answer.TheVariants.{Refused}

pub not-legal : (q : Request) (f : Facts) → f.legal ≡ false → judge q f ≡ Refused NotLegal
unfolding judge tests first_of or_else whether
not-legal Open f l = rw l
not-legal Read f l = rw l
not-legal Write f l = rw l
not-legal (GranuleRead g) f l = rw l
not-legal (GranuleWrite g) f l = rw l
not-legal (GranuleLook g) f l = rw l
not-legal (Position WriteMark) f l = rw l
not-legal (Position RewindOnline) f l = rw l
not-legal (Position RewindOffline) f l = rw l
not-legal (Position RecordForward) f l = rw l
not-legal (Position RecordBack) f l = rw l
not-legal (Position FileForward) f l = rw l
not-legal (Position FileBack) f l = rw l

pub not_there : (q : Request) (f : Facts) → f.legal ≡ true → eqb f.kind free ≡ true → judge q f ≡ Refused NotThere
unfolding judge tests first_of or_else whether
not_there Open f l k = rw (l, k)
not_there Read f l k = rw (l, k)
not_there Write f l k = rw (l, k)
not_there (GranuleRead g) f l k = rw (l, k)
not_there (GranuleWrite g) f l k = rw (l, k)
not_there (GranuleLook g) f l k = rw (l, k)
not_there (Position WriteMark) f l k = rw (l, k)
not_there (Position RewindOnline) f l k = rw (l, k)
not_there (Position RewindOffline) f l k = rw (l, k)
not_there (Position RecordForward) f l k = rw (l, k)
not_there (Position RecordBack) f l k = rw (l, k)
not_there (Position FileForward) f l k = rw (l, k)
not_there (Position FileBack) f l k = rw (l, k)
