-- Reading a mounted image changes no byte of it. As a statement over engines.
use Rattle.std.specs.Prelude.{◌≡◌, Bool, true, false, List, ℕ}
use Rattle.geometry.specs.Lists.{every}
use Rattle.requests.specs.declared.Order.TheVariants.{WriteMark, RewindOnline, RewindOffline, RecordForward, RecordBack, FileForward, FileBack}
use Rattle.requests.specs.declared.Request.{Request}
use Rattle.requests.specs.declared.Request.TheVariants.{Open, Read, Write, GranuleRead, GranuleWrite, GranuleLook, Position}
use Rattle.tapes.specs.Runs.{Asking, of_file, of_directory}
use Rattle.demands.specs.Engine.{Engine, run, mounted, in_bytes}

-- a request that only reads, or moves to another record: an opening, a read, a granule read or look, and every order but two. A mark ends the file where it
-- stands, and a close writes count and flags
unfoldable pub is_quiet : Request → Bool
is_quiet Open = true
is_quiet Read = true
is_quiet Write = false
is_quiet (GranuleRead g) = true
is_quiet (GranuleWrite g) = false
is_quiet (GranuleLook g) = true
is_quiet (Position WriteMark) = false
is_quiet (Position RewindOnline) = true
is_quiet (Position RewindOffline) = false
is_quiet (Position RecordForward) = true
is_quiet (Position RecordBack) = true
is_quiet (Position FileForward) = true
is_quiet (Position FileBack) = true

-- an edit is none
unfoldable pub asks_quietly : Asking → Bool
asks_quietly (of_file a) = is_quiet a.request
asks_quietly (of_directory x) = false

-- a run of such requests alone leaves the image as it was mounted, on whatever files they are and whatever is answered, also where the mounting is refused
pub record Quiet (E : Engine) : Type 0 where
  pub stays : (image : List ℕ) (asked : List Asking) → in_bytes image asked ≡ true → every asks_quietly asked ≡ true
      → (run E (mounted E image) asked).image ≡ image
