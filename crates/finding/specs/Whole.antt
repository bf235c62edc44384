-- Bytes that are a session, read as one. Definitions only.
use Rattle.std.specs.Prelude.{◌≡◌, Bool, List, ℕ, ◌<◌, length, Option, MatchOption}
use Rattle.geometry.specs.Lists.{first_with}
use Rattle.sessions.specs.declared.BufferedSession.{BufferedSession}
use Rattle.storing.specs.Stored.{said_at, saying_in, table_in, states_in}

-- what stands in their places, with a buffer for each state or with none
abbrev pub whole_in : Bool → List ℕ → BufferedSession
whole_in u b = record { says = saying_in b (said_at u); table = table_in b; files = states_in u b }

module _ {A : Type 0} where
  -- an option is the number of the first member that a rule holds of, if there is one
  abbrev pub IsFirst : (A → Bool) → List A → Option ℕ → Type 0
  IsFirst p xs o = MatchOption o (first_with p xs ≡ length xs) (λ k. (first_with p xs ≡ k) × (k < length xs))
