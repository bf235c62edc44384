-- Document 01, "Sizes and the directory": the numbers that everything else is measured by. Definitions only.
use Rattle.std.specs.Prelude.{Bool, ◌&&◌, List, ℕ, ◌/◌, ◌%◌, length, eqb, leb}

-- "A sector is 360 bytes"
abbrev pub sector : ℕ
sector = 360

-- "18 entries of 20 bytes, numbered 0 to 17"
abbrev pub entries : ℕ
entries = 18

abbrev pub entry_size : ℕ
entry_size = 20

-- "N from 1 to 4,096"
abbrev pub most_sectors : ℕ
most_sectors = 4096

-- "At most four files are open"
abbrev pub most_open : ℕ
most_open = 4

-- "at most 65,535"
abbrev pub most_records : ℕ
most_records = 65535

-- document 02, item 3: "for R up to 180" granules share a sector
abbrev pub most_shared : ℕ
most_shared = 180

-- "kind: 1 unblocked, 2 blocked, 3 compressed, 4 random; 0 free"
abbrev pub free : ℕ
free = 0

abbrev pub unblocked : ℕ
unblocked = 1

abbrev pub blocked : ℕ
blocked = 2

abbrev pub compressed : ℕ
compressed = 3

abbrev pub random : ℕ
random = 4

-- blank is hex 40
abbrev pub blank : ℕ
blank = 0x40

-- the image's N: its length in sectors
unfoldable pub sectors_of : List ℕ → ℕ
sectors_of image = length image / sector

-- "An image is 360·N bytes, N from 1 to 4,096"
unfoldable pub lawful_length : List ℕ → Bool
lawful_length image = eqb (length image % sector) 0 && (leb 1 (sectors_of image) && leb (sectors_of image) most_sectors)
