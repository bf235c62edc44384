-- What a request leaves of a session in lent bytes, with buffers or with none: a state made ready for it, and the next state laid behind it. Definitions only.
use Rattle.std.specs.Prelude.{Bool, true, false, List, ℕ}
use Rattle.geometry.specs.Sizes.{entries}
use Rattle.sessions.specs.Session.{idle}
use Rattle.tables.specs.Tables.{two_words_wide, lay_counts}
use Rattle.storing.specs.Stored.{lay_state, lay_fresh}
use Rattle.sessions.specs.declared.Holding.{Holding}
use Rattle.steps.specs.declared.Verdict.{Verdict}

-- the bytes with a fresh state of number k if that is not in use
unfoldable pub readied : Bool → List ℕ → ℕ → Bool → List ℕ
readied u b k used = elim used [ true ↦ b | false ↦ lay_fresh u b k idle ]

-- the bytes with the count and flags of a verdict's entry of number i and its state of number k: one that is open keeps its buffer, one that is closed gets a fresh one
unfoldable pub lay_next : Bool → List ℕ → ℕ → ℕ → Verdict → Holding → List ℕ
lay_next u b i k v h =
    let c : List ℕ = lay_counts two_words_wide entries b i v.entry.count v.entry.flags in
    elim v.file.used [ true ↦ lay_state u c k v.file h | false ↦ lay_fresh u c k v.file ]
