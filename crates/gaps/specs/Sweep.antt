-- How a program looks for the lowest gap: it goes over the table and moves behind each extent that is in the way. proofs/Sweep.antt shows that it comes to rest at the lowest gap. Definitions only.
use Rattle.std.specs.Prelude.{true, false, ◌&&◌, not, List, [], ◌∷◌, ℕ, ◌+◌, min, max, ltb}
use Rattle.directory.specs.declared.Entry.{Entry}
use Rattle.directory.specs.Entries.{is_free}

-- the sector behind the extent of a used entry, where that has one of the n sectors from p on; else p
unfoldable pub behind : ℕ → ℕ → Entry → ℕ
behind n p e = elim (not (is_free e) && ltb (max p e.first) (min (p + n) (e.first + e.sectors))) [ true ↦ e.first + e.sectors | false ↦ p ]

-- and so on over a table
unfoldable pub swept : ℕ → ℕ → List Entry → ℕ
swept n p [] = p
swept n p (e ∷ es) = swept n (behind n p e) es
