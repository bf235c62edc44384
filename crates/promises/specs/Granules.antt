-- Document 02, item 3: where granules lie, for any R, and what a write of one changes. As statements over R and over an engine.
use Rattle.std.specs.Prelude.{◌≡◌, List, ℕ, ◌+◌, ◌*◌, ◌/◌, ◌%◌, ◌≤◌, ◌<◌, length, get_or}
use Rattle.geometry.specs.Bytes.{part, padded}
use Rattle.geometry.specs.Places.{sectors_for, per_sector, capacity, place_of, byte_of}
use Rattle.geometry.specs.Sizes.{sector, random, most_shared}
use Rattle.directory.specs.Entries.{entry_at}
use Rattle.demands.specs.Engine.{Engine}
use Rattle.directory.specs.declared.Entry.{Entry}
use Rattle.requests.specs.declared.Answer.TheVariants.{Done}
use Rattle.requests.specs.declared.Request.TheVariants.{GranuleWrite}

-- ---- where granules lie

-- byte j of the extent is one of granule g's
abbrev pub Has : ℕ → ℕ → ℕ → Type 0
Has R g j = (byte_of (place_of random R g) ≤ j) × (j < byte_of (place_of random R g) + R)

pub record Layout (R : ℕ) : Type 0 where
  -- granules do not overlap
  pub apart : (g h j : ℕ) → Has R g j → Has R h j → g ≡ h
  -- "for R up to 180" each lies in its sector, and has none of the 360 − q·R bytes at the sector's end
  pub in_sector : R ≤ most_shared → (g j : ℕ) → Has R g j → (j / sector ≡ (place_of random R g).sector) × (j % sector < per_sector R * R)
  -- above, it begins with a sector
  pub of_sectors : most_shared < R → (g : ℕ) → place_of random R g ≡ record { sector = sectors_for R * g; byte = 0 }
  -- every granule below the capacity lies in the extent, and no other does
  pub in_extent : (g sectors : ℕ) → g < capacity random R sectors → byte_of (place_of random R g) + R ≤ sector * sectors
  pub past_extent : (g sectors : ℕ) → capacity random R sectors ≤ g → sector * sectors < byte_of (place_of random R g) + R

-- ---- what a write changes

-- the n bytes from `at` on become those given, with zeros behind them, and no other byte changes
pub record Covers (at n : ℕ) (given image after : List ℕ) : Type 0 where
  pub own : part after at n ≡ padded 0 n given
  pub others : (j : ℕ) → ¬ ((at ≤ j) × (j < at + n)) → get_or after j 0 ≡ get_or image j 0
  pub size : length after ≡ length image

-- where granule g of an entry begins in the image
abbrev pub granule_at : Entry → ℕ → ℕ
granule_at e g = sector * e.first + byte_of (place_of random e.length g)

-- of any image and session: a write of granule g of entry i that is answered 0
pub record GranuleWrites (E : Engine) : Type 0 where
  -- "A write then changes only its own R bytes, padding included"
  pub small : (image : List ℕ) (s : E.Session) (i g : ℕ) (given buffer : List ℕ) (e : Entry) → entry_at (E.seen s).table i ≡ e
      → (E.request image s i (GranuleWrite g) given buffer).answer ≡ Done → e.length ≤ most_shared
      → Covers (granule_at e g) e.length given image (E.request image s i (GranuleWrite g) given buffer).image
  -- "Above 180 the old rule holds": "Bytes behind R are written as zero", to the last sector's end
  pub large : (image : List ℕ) (s : E.Session) (i g : ℕ) (given buffer : List ℕ) (e : Entry) → entry_at (E.seen s).table i ≡ e
      → (E.request image s i (GranuleWrite g) given buffer).answer ≡ Done → most_shared < e.length
      → Covers (granule_at e g) (sector * sectors_for e.length) given image (E.request image s i (GranuleWrite g) given buffer).image
