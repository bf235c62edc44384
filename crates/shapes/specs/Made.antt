-- Document 02, item 1: "ADD takes name, kind, length and sector count": when these are a file's, and the entry that it gets. Definitions only.
use Rattle.std.specs.Prelude.{Bool, ◌&&◌, List, [], ℕ, eqb, leb, length}
use Rattle.geometry.specs.Sizes.{unblocked, random}
use Rattle.names.specs.Names.{is_name}
use Rattle.directory.specs.Rules.{length_fits}
use Rattle.directory.specs.declared.Entry.{Entry}

-- the bytes given are a name: 8 of them, as the directory's rule has it; else "bad name"
unfoldable pub is_named : List ℕ → Bool
is_named name = eqb (length name) 8 && is_name name

-- the entry of a file that is added: it "starts with count and flags 0"
unfoldable pub file_made : ℕ → ℕ → ℕ → List ℕ → ℕ → Entry
file_made kind length sectors name first =
    record { name = name; kind = kind; length = length; first = first; sectors = sectors; count = 0; flags = 0 }

-- a kind of 1 to 4, a length that the directory's rule for it takes, a sector at least; else "bad kind, length or sector count 0"
unfoldable pub shape_good : ℕ → ℕ → ℕ → Bool
shape_good kind length sectors =
    leb unblocked kind && (leb kind random && (length_fits (file_made kind length sectors [] 0) && leb 1 sectors))
