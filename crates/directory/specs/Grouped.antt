-- The rules of a directory grouped as a program tests them: those of one entry, and those of two. proofs/Grouped.antt shows that together they are `table_good`. Definitions only.
use Rattle.std.specs.Prelude.{Bool, ◌&&◌, not, ℕ, ◌%◌, eqb, leb}
use Rattle.geometry.specs.Lists.{every}
use Rattle.directory.specs.Entries.{entry_bytes, is_free}
use Rattle.directory.specs.Rules.{kind_known, free_is_zero, name_good, names_differ, extent_fits, extent_inside, extents_apart, flags_known, length_fits, length_good, count_good, random_bare}
use Rattle.directory.specs.declared.Entry.{Entry}

-- all bytes of an entry are zero
abbrev pub is_zero : Entry → Bool
is_zero e = every (λ b. eqb b 0) (entry_bytes e)

-- the rules of one entry
unfoldable pub entry_good : ℕ → Entry → Bool
entry_good N e =
    kind_known e
    && (free_is_zero e && (name_good e && (extent_inside N e && (flags_known e && (length_good e && (count_good e && random_bare e))))))

-- R is even and 2 to a greatest one
abbrev pub length_up_to : ℕ → Entry → Bool
length_up_to most e = eqb (e.length % 2) 0 && (leb 2 e.length && leb e.length most)

-- the rules of R and of the count, which differ from kind to kind
unfoldable pub sizes_good : Entry → Bool
sizes_good e = length_fits e && (count_good e && random_bare e)

-- a used entry, and the rules of one but that of its name
unfoldable pub used_good : ℕ → Entry → Bool
used_good N e = not (is_free e) && (kind_known e && (extent_fits N e && (flags_known e && sizes_good e)))

-- the rules of two entries
unfoldable pub two_good : Entry → Entry → Bool
two_good a b = names_differ a b && extents_apart a b
