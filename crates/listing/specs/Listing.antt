-- Document 01, "Listing": what the program prints, as ASCII bytes. Definitions only.
use Rattle.std.specs.Prelude.{Bool, true, false, ◌&&◌, List, [], ◌∷◌, ◌++◌, ℕ, ◌+◌, eqb, leb}
use Rattle.geometry.specs.Sizes.{sectors_of, blank}
use Rattle.characters.specs.Characters.{ascii_of}
use Rattle.directory.specs.Entries.{table_of, is_free}
use Rattle.mounting.specs.Mounting.{mounts}
use Rattle.texts.specs.Texts.{spelled, decimal, spaced}
use Rattle.directory.specs.declared.Entry.{Entry}

-- "prints a header"
unfoldable pub header : List ℕ
header = spelled "FILE NAME KIND RECORD FIRST SECTORS COUNT FLAGS\n"

-- "prints only BAD IMAGE"
unfoldable pub bad_image : List ℕ
bad_image = spelled "BAD IMAGE\n"

-- "names in ASCII without trailing blanks"
unfoldable pub name_text : List ℕ → List ℕ
name_text [] = []
name_text (c ∷ cs) = elim (eqb c blank) [ true ↦ [] | false ↦ ascii_of c ∷ name_text cs ]

-- "one line per used entry"
unfoldable pub line : ℕ → Entry → List ℕ
line i e =
    spaced (decimal i ∷ name_text e.name ∷ decimal e.kind ∷ decimal e.length ∷ decimal e.first ∷ decimal e.sectors
    ∷ decimal e.count ∷ decimal e.flags ∷ [])

-- "in entry order", the first of the entries being number i
unfoldable pub lines_from : ℕ → List Entry → List ℕ
lines_from i [] = []
lines_from i (e ∷ es) = elim (is_free e) [ true ↦ lines_from (i + 1) es | false ↦ line i e ++ lines_from (i + 1) es ]

-- "an image of at most 180 sectors"
abbrev pub is_short : List ℕ → Bool
is_short image = leb (sectors_of image) 180

-- an image that is listed; "A bad or longer image prints only BAD IMAGE"
abbrev pub lists : List ℕ → Bool
lists image = is_short image && mounts image

unfoldable pub listing : List ℕ → List ℕ
listing image = elim (lists image) [ true ↦ header ++ lines_from 0 (table_of image) | false ↦ bad_image ]
