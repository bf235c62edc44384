-- Document 01, "Compressed records": coded records one behind another in the sectors of an extent, as they are read. Definitions only.
-- `bytes` is the file's extent, of so many `sectors`; a place is one of them, from 0 on, and a byte 0 to 360.
use Rattle.std.specs.Prelude.{Bool, true, false, ◌&&◌, ◌||◌, List, [], ◌∷◌, ℕ, zero, suc, ◌+◌, ◌-◌, ◌*◌, length, get_or, eqb, leb, ltb, Result, Ok, Err}
use Rattle.geometry.specs.Bytes.{part, lay}
use Rattle.geometry.specs.Sizes.{sector}
use Rattle.geometry.specs.Places.{byte_of, origin}
use Rattle.geometry.specs.declared.Place.{Place}
use Rattle.decoding.specs.Decode.{Decoded, good, bad, decode}
use Rattle.packing.specs.declared.BadPlace.{BadPlace}

-- the extent with a held sector, if 360 bytes are lent for it, in place of its own
unfoldable pub overlaid : List ℕ → ℕ → List ℕ → List ℕ
overlaid bytes held over = elim (eqb (length over) sector) [ true ↦ lay bytes (sector * held) over | false ↦ bytes ]

-- the first byte of the next sector
abbrev pub next_sector : Place → Place
next_sector p = record { sector = p.sector + 1; byte = 0 }

-- so many bytes behind a place of the same sector
abbrev pub further : Place → ℕ → Place
further p n = record { sector = p.sector; byte = p.byte + n }

-- "128 is lawful only where a record could start, and not at byte 0 of a sector: it means go on in the next sector. A place at byte 360 also goes on there."
unfoldable pub goes_on : List ℕ → Place → Bool
goes_on bytes p = leb sector p.byte || (leb 1 p.byte && eqb (get_or bytes (byte_of p) 0) 128)

-- where the record behind a place starts
unfoldable pub start_of : List ℕ → Place → Place
start_of bytes p = elim (goes_on bytes p) [ true ↦ next_sector p | false ↦ p ]

-- a record, and the place behind it
pub record Recorded : Type 0 where
  pub bytes : List ℕ
  pub behind : Place

-- what is read: a record; or the place of the byte at which its code is bad
pub data Got : Type 0 where
  got : Recorded → Got
  lost : Place → Got

-- what stands at a start: the place behind the record is in the same sector
unfoldable pub got_from : Place → Decoded → Got
got_from q (good xs e) = got (record { bytes = xs; behind = further q e })
got_from q (bad k) = lost (further q k)

-- the end of an extent of so many sectors: byte 360 of its last
abbrev pub extent_end : ℕ → Place
extent_end sectors = record { sector = sectors - 1; byte = sector }

-- the record of R characters that starts at q: "A code is bad if it runs past its sector, .. or leaves the extent"
unfoldable pub read_at : ℕ → ℕ → List ℕ → Place → Got
read_at R sectors bytes q = elim (ltb q.sector sectors) [
  | true ↦ got_from q (decode R (part bytes (byte_of q) (sector - q.byte)))
  | false ↦ lost (extent_end sectors)
]

-- the record behind a place
unfoldable pub read_behind : ℕ → ℕ → List ℕ → Place → Got
read_behind R sectors bytes p = read_at R sectors bytes (start_of bytes p)

-- records one after another; or the place at which one of them is bad
pub data Walk : Type 0 where
  walked : List Recorded → Walk
  broken : Place → Walk

unfoldable pub and_then : Recorded → Walk → Walk
and_then r (walked rs) = walked (r ∷ rs)
and_then r (broken p) = broken p

unfoldable pub walk_on : Got → (Place → Walk) → Walk
walk_on (got r) more = and_then r (more r.behind)
walk_on (lost p) more = broken p

-- n records behind a place
unfoldable pub walk : ℕ → ℕ → List ℕ → ℕ → Place → Walk
walk R sectors bytes zero p = walked []
walk R sectors bytes (suc n) p = walk_on (read_behind R sectors bytes p) (walk R sectors bytes n)

-- "kind 3's first count records decode one after another inside the extent, whatever stands behind them"
unfoldable pub decodes : Walk → Bool
decodes (walked rs) = true
decodes (broken p) = false

-- the records of a walk; none if it is broken
unfoldable pub records_of : Walk → List Recorded
records_of (walked rs) = rs
records_of (broken p) = []

-- the place behind the first n of some records, which begin behind a place
unfoldable pub behind_from : Place → List Recorded → ℕ → Place
behind_from p rs zero = p
behind_from p [] (suc n) = p
behind_from p (r ∷ rs) (suc n) = behind_from r.behind rs n

unfoldable pub behind : List Recorded → ℕ → Place
behind rs n = behind_from origin rs n

-- what walking or reading leads to: the place behind, or the place at which a code is bad
abbrev pub lost_at : Place → Result Place BadPlace
lost_at p = Err (record { place = p })

unfoldable pub led_to : Got → Result Place BadPlace
led_to (got r) = Ok r.behind
led_to (lost p) = lost_at p

unfoldable pub walked_to : Place → Walk → Result Place BadPlace
walked_to p (walked []) = Ok p
walked_to p (walked (r ∷ rs)) = walked_to r.behind (walked rs)
walked_to p (broken q) = lost_at q

-- a lent buffer, old before: the record; a bad code leaves it as it was
unfoldable pub into : Got → List ℕ → List ℕ
into (got r) old = r.bytes
into (lost p) old = old
