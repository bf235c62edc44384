-- Document 01, "An entry is also found by name in a lent list of entries". Definitions only.
use Rattle.std.specs.Prelude.{Bool, true, false, ◌&&◌, not, List, [], ◌∷◌, ℕ, Option, Some, None, length, eqb, ltb}
use Rattle.geometry.specs.Lists.{same, first_with}
use Rattle.directory.specs.Entries.{is_free}
use Rattle.directory.specs.declared.Entry.{Entry}

-- "A free entry matches no name; a name not of 8 bytes matches none."
unfoldable pub matches : List ℕ → Entry → Bool
matches name e = eqb (length name) 8 && (not (is_free e) && same e.name name)

-- what a search tells, by document 01's numbers: 0 and the entry's, or 8, "no such entry"
abbrev pub told : Option ℕ → ℕ × List ℕ
told (Some i) = (0, i ∷ [])
told None = (8, [])

-- "the lowest match, or 8"
unfoldable pub find : List Entry → List ℕ → ℕ × List ℕ
find table name =
    let i : ℕ = first_with (matches name) table in
    elim (ltb i (length table)) [ true ↦ (0, i ∷ []) | false ↦ (8, []) ]
