-- "Where a record lies" of document 01, with document 02's item 3: how many records or granules an extent holds, where each begins, and how many bytes a
-- granule takes. Definitions only.
use Rattle.std.specs.Prelude.{Bool, true, false, ◌&&◌, ◌||◌, ℕ, ◌+◌, ◌*◌, ◌/◌, ◌%◌, min, eqb, leb}
use Rattle.geometry.specs.Sizes.{sector, blocked, random, most_records, most_shared}
use Rattle.geometry.specs.declared.Place.{Place}

-- "s = R/360 rounded up"
unfoldable pub sectors_for : ℕ → ℕ
sectors_for R = (R + 359) / sector

-- "q = 360/R rounded down"
unfoldable pub per_sector : ℕ → ℕ
per_sector R = sector / R

-- item 3: "for R up to 180, .. granules lie in each sector"
abbrev pub small_granules : ℕ → ℕ → Bool
small_granules kind R = eqb kind random && leb R most_shared

-- q of them lie in each sector: records of a blocked file, and small granules
unfoldable pub shares : ℕ → ℕ → Bool
shares kind R = eqb kind blocked || small_granules kind R

-- "sectors divided by s, rounded down"; blocked: "q·sectors, at most 65,535"; item 3: "the new capacity, q·sectors". Compressed files have no capacity in
-- records
unfoldable pub capacity : ℕ → ℕ → ℕ → ℕ
capacity kind R sectors = elim (shares kind R) [
  | true ↦ elim (eqb kind blocked) [ true ↦ min (per_sector R * sectors) most_records | false ↦ per_sector R * sectors ]
  | false ↦ sectors / sectors_for R
]

-- blocked: "Record k is in extent sector k/q (rounded down) at byte (k mod q)·R"; item 3: "granule g in extent sector g/q rounded down at byte (g mod q)·R";
-- else "Record k begins s·k sectors into the extent", and so "granule g begins s·g sectors into the extent"
unfoldable pub place_of : ℕ → ℕ → ℕ → Place
place_of kind R k = elim (shares kind R) [
  | true ↦ record { sector = k / per_sector R; byte = (k % per_sector R) * R }
  | false ↦ record { sector = sectors_for R * k; byte = 0 }
]

-- the bytes that a record or granule takes where it is written straight in the image: item 3, "its own R bytes"; else whole sectors, since "Bytes behind R
-- .. are written as zero"
unfoldable pub bytes_for : ℕ → ℕ → ℕ
bytes_for kind R = elim (shares kind R) [ true ↦ R | false ↦ sector * sectors_for R ]

-- how many bytes of each sector of an extent a file may write: small granules lie one behind another, and the 360 − q·R bytes at a sector's end belong to none
unfoldable pub reach_of : ℕ → ℕ → ℕ
reach_of kind R = elim (small_granules kind R) [ true ↦ per_sector R * R | false ↦ sector ]

-- a place's byte of the extent
abbrev pub byte_of : Place → ℕ
byte_of p = sector * p.sector + p.byte

-- the place before the first record
abbrev pub origin : Place
origin = record { sector = 0; byte = 0 }
