-- What a legal session says of a used entry and its open-file state, and an effect on the bytes of the file's own extent.
use mathlib.Core.Path.{◌≡◌}
use mathlib.Core.Bool.{true, false}
use mathlib.Core.List.{List, [], ◌∷◌}
use Prim.Native.Nat.{ℕ, ◌≤◌}
use Rattle.geometry.specs.Bytes.{lay}
use Rattle.geometry.specs.Sizes.{compressed, random, most_sectors, most_records}
use Rattle.geometry.specs.Places.{capacity, byte_of}
use Rattle.directory.specs.Entries.{is_kind, is_marked}
use Rattle.directory.specs.Rules.{longest}
use Rattle.sessions.specs.Session.{place_good}
use Rattle.steps.specs.Effects.{Effect, hold, change, store, stamp, put_back}
use Rattle.directory.specs.declared.Entry.{Entry}
use Rattle.sessions.specs.declared.OpenFile.{OpenFile}

-- of a used entry, and of its state (idle if it is not open)
pub record Lawful (e : Entry) (f : OpenFile) : Type 0 where
  pub known : (1 ≤ e.kind) × (e.kind ≤ 4)
  pub some : 1 ≤ e.sectors
  pub few : e.sectors ≤ most_sectors
  pub long : 2 ≤ e.length
  pub short : e.length ≤ longest e.kind
  pub flags : e.flags ≤ 3
  pub words : e.count ≤ most_records
  -- kinds 1 and 2: "the count is at most the capacity"
  pub counted : is_kind compressed e ≡ false → is_kind random e ≡ false → e.count ≤ capacity e.kind e.length e.sectors
  -- "kind 4 has count 0 and is not marked"
  pub bare : is_kind random e ≡ true → (e.count ≡ 0) × (is_marked e ≡ false)
  -- "each open p is at most the count, beyond occurs only as above"
  pub standing : f.position ≤ e.count
  pub ahead : f.beyond ≡ true → (is_marked e ≡ true) × (f.position ≡ e.count)
  -- "compressed places (current and end) lie in the extent at byte 0 to 360"
  pub places : is_kind compressed e ≡ true → (place_good e f.here ≡ true) × (place_good e f.end ≡ true)

-- an effect on the bytes of the file's own extent
unfoldable pub own_do : Effect → List ℕ → List ℕ
own_do (hold k) bytes = bytes
own_do (change x) bytes = lay bytes (byte_of x.place) x.bytes
own_do (store x) bytes = lay bytes (byte_of x.place) x.bytes
own_do (stamp xs) bytes = bytes
own_do put_back bytes = bytes

unfoldable pub own_all : List Effect → List ℕ → List ℕ
own_all [] bytes = bytes
own_all (x ∷ xs) bytes = own_all xs (own_do x bytes)
