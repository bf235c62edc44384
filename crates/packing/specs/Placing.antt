-- Document 01, "Compressed records", last paragraph: where a coded record goes, whether there is room, and which bytes become what. Definitions only.
use Rattle.std.specs.Prelude.{Bool, true, false, List, [], ◌∷◌, ℕ, ◌+◌, ◌-◌, length, leb, ltb}
use Rattle.geometry.specs.Bytes.{lay, padded}
use Rattle.geometry.specs.Sizes.{sector}
use Rattle.geometry.specs.Places.{byte_of}
use Rattle.geometry.specs.declared.Place.{Place}
use Rattle.packing.specs.Reading.{next_sector, further}

-- "A coded record of e bytes goes at the current place o if o + e ≤ 360, else to the next sector"
unfoldable pub fits_here : Place → ℕ → Bool
fits_here p e = leb (p.byte + e) sector

unfoldable pub goes_to : Place → ℕ → Place
goes_to p e = elim (fits_here p e) [ true ↦ p | false ↦ next_sector p ]

-- the place behind it
unfoldable pub behind_new : Place → ℕ → Place
behind_new p e = further (goes_to p e) e

-- "no room: .. a coded record due in a sector past the extent"
unfoldable pub has_room : ℕ → Place → ℕ → Bool
has_room sectors p e = ltb (goes_to p e).sector sectors

-- bytes of one sector that change, from this place on
pub record Change : Type 0 where
  pub place : Place
  pub bytes : List ℕ

-- bytes from a place on, and 128 behind them up to the sector's end
unfoldable pub filled : Place → List ℕ → Change
filled p xs = record { place = p; bytes = padded 128 (sector - p.byte) xs }

-- "else to the next sector, and then bytes o to 359 of the old sector become 128. Behind the new record the sector is filled with 128."
unfoldable pub changes : Place → List ℕ → List Change
changes p code = elim (fits_here p (length code)) [
  | true ↦ filled p code ∷ []
  | false ↦
      elim (leb sector p.byte) [
        | true ↦ filled (next_sector p) code ∷ []
        | false ↦ filled p [] ∷ filled (next_sector p) code ∷ []
      ]
]

-- the extent's bytes with such changes, one after another
abbrev pub laid : List Change → List ℕ → List ℕ
laid [] bytes = bytes
laid (c ∷ cs) bytes = laid cs (lay bytes (byte_of c.place) c.bytes)
