-- Document 01, "Sizes and the directory": mounting; and what document 02, item 1, adds to it. Definitions only.
use Rattle.std.specs.Prelude.{Bool, true, false, ◌&&◌, ◌||◌, not, List, ℕ, replicate}
use Rattle.geometry.specs.Lists.{every}
use Rattle.geometry.specs.Places.{origin}
use Rattle.geometry.specs.Sizes.{entries, most_open, compressed, sectors_of, lawful_length}
use Rattle.directory.specs.Entries.{table_of, is_kind, free_entry}
use Rattle.directory.specs.Rules.{table_good}
use Rattle.packing.specs.Reading.{Walk, walk, decodes}
use Rattle.sessions.specs.Session.{idle, extent, unheld}
use Rattle.directory.specs.declared.Entry.{Entry}
use Rattle.requests.specs.declared.Answer.{Answer}
use Rattle.requests.specs.declared.Answer.TheVariants.{Done, Refused}
use Rattle.requests.specs.declared.Refusal.TheVariants.{BadImage}
use Rattle.sessions.specs.declared.BufferedSession.{BufferedSession}
use Rattle.sessions.specs.declared.Session.{Session}

-- the records that a compressed file's entry counts
unfoldable pub counted_walk : Entry → List ℕ → Walk
counted_walk e bytes = walk e.length e.sectors bytes e.count origin

-- "kind 3's first count records decode one after another inside the extent"
unfoldable pub count_decodes : List ℕ → Entry → Bool
count_decodes image e = not (is_kind compressed e) || decodes (counted_walk e (extent e image))

-- "Mounting refuses (11) exactly when the length is wrong or the directory is not good"
unfoldable pub mounts : List ℕ → Bool
mounts image = lawful_length image && (table_good (sectors_of image) (table_of image) && every (count_decodes image) (table_of image))

pub record Mounted (S : Type 0) : Type 0 where
  pub answer : Answer
  pub session : S

-- a session with nothing open; whether it says that it is from a refused mounting
unfoldable pub start_with : Bool → List Entry → Session
start_with refused table = record { says = record { refused = refused }; table = table; files = replicate most_open idle }

-- "A refused mounting hands out a table with no used entry and nothing open."; document 02, item 1: "The session from a refused mounting says that it is one"
unfoldable pub plain_mount : List ℕ → Mounted Session
plain_mount image = elim (mounts image) [
  | true ↦ record { answer = Done; session = start_with false (table_of image) }
  | false ↦ record { answer = Refused BadImage; session = start_with true (replicate entries free_entry) }
]

unfoldable pub buffered_mount : List ℕ → Mounted BufferedSession
buffered_mount image = record { answer = (plain_mount image).answer; session = unheld (plain_mount image).session }
