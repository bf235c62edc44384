-- Requests by code, as a script and C name them. Definitions only.
use Rattle.std.specs.Prelude.{List, [], ◌∷◌, ℕ, Option, Some, None, get_or}
use Rattle.requests.specs.declared.Order.TheVariants.{WriteMark, RewindOnline, RewindOffline, RecordForward, RecordBack, FileForward, FileBack}
use Rattle.requests.specs.declared.Request.{Request}
use Rattle.requests.specs.declared.Request.TheVariants.{Open, Read, Write, GranuleRead, GranuleWrite, GranuleLook, Position}

-- the requests by code, from 1 on; g is the granule's number
unfoldable pub codes : ℕ → List (Option Request)
codes g =
    None
    ∷ Some Open
    ∷ Some Read
    ∷ Some Write
    ∷ Some (GranuleRead g)
    ∷ Some (GranuleWrite g)
    ∷ Some (GranuleLook g)
    ∷ Some (Position WriteMark)
    ∷ Some (Position RewindOnline)
    ∷ Some (Position RewindOffline)
    ∷ Some (Position RecordForward)
    ∷ Some (Position RecordBack)
    ∷ Some (Position FileForward)
    ∷ Some (Position FileBack)
    ∷ []

unfoldable pub asked_for : ℕ → ℕ → Option Request
asked_for code g = get_or (codes g) code None
