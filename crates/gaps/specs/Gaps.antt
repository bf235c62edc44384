-- Document 02, item 1: "ADD .. picks the lowest entry and the lowest gap that holds the extent". Definitions only.
use Rattle.std.specs.Prelude.{◌≡◌, Bool, ◌&&◌, not, List, ℕ, ◌+◌, ◌<◌, Option, MatchOption, leb, ltb, length}
use Rattle.geometry.specs.Lists.{every, first_with, numbers_from}
use Rattle.directory.specs.declared.Entry.{Entry}
use Rattle.directory.specs.Entries.{is_free}

-- "the lowest entry": the number of the lowest free one; the table's length where there is none
unfoldable pub lowest_free : List Entry → ℕ
lowest_free table = first_with is_free table

-- that number as an option: none where none is free
abbrev pub IsLowest : Option ℕ → List Entry → Type 0
IsLowest o table = MatchOption o (lowest_free table ≡ length table) (λ n. (lowest_free table ≡ n) × (n < length table))

-- sector k lies in the extent of a used entry
unfoldable pub used_by : Entry → ℕ → Bool
used_by e k = not (is_free e) && (leb e.first k && ltb k (e.first + e.sectors))

-- sector k is not free, which means "in no extent of a used entry of the table"
unfoldable pub is_taken : List Entry → ℕ → Bool
is_taken table k = not (every (λ e. not (used_by e k)) table)

-- "that many free sectors .. in 1 to N − 1": n of them from sector p on; `taken` says which sectors are not free
unfoldable pub stands_free : (ℕ → Bool) → ℕ → ℕ → ℕ → Bool
stands_free taken N n p = leb 1 p && (leb (p + n) N && every (λ k. not (taken k)) (numbers_from p n))

-- "the lowest gap": the lowest first sector at which that many free sectors stand; N where there is none
unfoldable pub lowest_gap : (ℕ → Bool) → ℕ → ℕ → ℕ
lowest_gap taken N n = first_with (stands_free taken N n) (numbers_from 0 N)
