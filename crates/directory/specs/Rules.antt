-- Document 01, "A directory is good exactly if": one named rule for each part of that sentence, in its order, all but the decoding one. Definitions only.
use Rattle.std.specs.Prelude.{Bool, true, false, ◌&&◌, ◌||◌, not, List, [], ◌∷◌, ℕ, ◌+◌, ◌%◌, eqb, leb}
use Rattle.geometry.specs.Lists.{all, every, pairwise, same}
use Rattle.geometry.specs.Sizes.{unblocked, blocked, compressed, random, most_records}
use Rattle.geometry.specs.Places.{capacity}
use Rattle.names.specs.Names.{is_name}
use Rattle.directory.specs.Entries.{entry_bytes, is_free, is_kind, is_marked}
use Rattle.directory.specs.declared.Entry.{Entry}

-- "kinds are 0 to 4"
unfoldable pub kind_known : Entry → Bool
kind_known e = leb e.kind 4

-- "free entries are 20 zero bytes"
unfoldable pub free_is_zero : Entry → Bool
free_is_zero e = not (is_free e) || every (λ b. eqb b 0) (entry_bytes e)

-- what a name is: names/specs/Names.antt
unfoldable pub name_good : Entry → Bool
name_good e = is_free e || is_name e.name

-- "names differ"
unfoldable pub names_differ : Entry → Entry → Bool
names_differ a b = is_free a || (is_free b || not (same a.name b.name))

-- "first sector and sector count are at least 1 and their sum is at most N"
abbrev pub extent_fits : ℕ → Entry → Bool
extent_fits N e = leb 1 e.first && (leb 1 e.sectors && leb (e.first + e.sectors) N)

unfoldable pub extent_inside : ℕ → Entry → Bool
extent_inside N e = is_free e || extent_fits N e

-- "extents share no sector"
unfoldable pub extents_apart : Entry → Entry → Bool
extents_apart a b = is_free a || (is_free b || (leb (a.first + a.sectors) b.first || leb (b.first + b.sectors) a.first))

-- "flags are 0 to 3"
unfoldable pub flags_known : Entry → Bool
flags_known e = leb e.flags 3

-- the greatest R: "3,600 for kinds 1 and 4, .. 360 for kind 2, .. 132 for kind 3"
unfoldable pub longest : ℕ → ℕ
longest kind = elim (eqb kind blocked) [
  | true ↦ 360
  | false ↦
      elim (eqb kind compressed) [ true ↦ 132 | false ↦ 3600 ]
]

-- "R is even and 2 to" that
abbrev pub length_fits : Entry → Bool
length_fits e = eqb (e.length % 2) 0 && (leb 2 e.length && leb e.length (longest e.kind))

unfoldable pub length_good : Entry → Bool
length_good e = is_free e || length_fits e

-- "the count is at most the capacity for kinds 1 and 2"; for kind 3 it is a word of the directory, as every count is
unfoldable pub count_good : Entry → Bool
count_good e = elim (is_kind unblocked e || is_kind blocked e) [
  | true ↦ leb e.count (capacity e.kind e.length e.sectors)
  | false ↦ leb e.count most_records
]

-- "kind 4 has count 0 and is not marked"
unfoldable pub random_bare : Entry → Bool
random_bare e = not (is_kind random e) || (eqb e.count 0 && not (is_marked e))

-- every directory rule but the decoding one, of a table of entries in an image of N sectors
unfoldable pub table_rules : ℕ → List Entry → List Bool
table_rules N table =
    every kind_known table
    ∷ every free_is_zero table
    ∷ every name_good table
    ∷ pairwise names_differ table
    ∷ every (extent_inside N) table
    ∷ pairwise extents_apart table
    ∷ every flags_known table
    ∷ every length_good table
    ∷ every count_good table
    ∷ every random_bare table
    ∷ []

unfoldable pub table_good : ℕ → List Entry → Bool
table_good N table = all (table_rules N table)
