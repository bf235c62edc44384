-- What a request answered 0 does to the image in the engine with no buffer, where the code of the bytes given is given too. proofs/Acts.antt shows that
-- these are the request's effects, done straight in the image. Definitions only.
use Rattle.std.specs.Prelude.{true, false, List, map, ℕ}
use Rattle.geometry.specs.Sizes.{blocked, compressed}
use Rattle.directory.specs.Entries.{is_kind}
use Rattle.directory.specs.Stamp.{stamped}
use Rattle.packing.specs.Placing.{changes}
use Rattle.steps.specs.Effects.{change, store_effect, blocked_effect, plain_do, plain_all}
use Rattle.steps.specs.Next.{Scene}
use Rattle.straight.specs.Straight.{writing}
use Rattle.requests.specs.declared.Order.TheVariants.{WriteMark, RewindOnline, RewindOffline, RecordForward, RecordBack, FileForward, FileBack}
use Rattle.requests.specs.declared.Request.{Request}
use Rattle.requests.specs.declared.Request.TheVariants.{Open, Read, Write, GranuleRead, GranuleWrite, GranuleLook, Position}
use Rattle.directory.specs.declared.Entry.{Entry}
use Rattle.sessions.specs.declared.OpenFile.{OpenFile}

-- a write, by the kind of the file
unfoldable pub written_with : Entry → OpenFile → List ℕ → List ℕ → List ℕ → List ℕ
written_with e f given code image =
    let w : Scene = writing e f given in
    elim (is_kind blocked e) [
      | true ↦ plain_do w (blocked_effect w) image
      | false ↦ elim (is_kind compressed e) [ true ↦ plain_all w (map change (changes f.here code)) image | false ↦ plain_do w (store_effect w f.position) image ]
    ]

-- any request: a write, a granule written and a close change the image, all others nothing
unfoldable pub acted_with : Request → ℕ → Entry → OpenFile → List ℕ → List ℕ → List ℕ → List ℕ
acted_with Open i e f given code image = image
acted_with Read i e f given code image = image
acted_with Write i e f given code image = written_with e f given code image
acted_with (GranuleRead g) i e f given code image = image
acted_with (GranuleWrite g) i e f given code image = plain_do (writing e f given) (store_effect (writing e f given) g) image
acted_with (GranuleLook g) i e f given code image = image
acted_with (Position WriteMark) i e f given code image = image
acted_with (Position RewindOnline) i e f given code image = image
acted_with (Position RewindOffline) i e f given code image = stamped image i e.count e.flags
acted_with (Position RecordForward) i e f given code image = image
acted_with (Position RecordBack) i e f given code image = image
acted_with (Position FileForward) i e f given code image = image
acted_with (Position FileBack) i e f given code image = image
