-- What mounting an image answers, and what it leaves in the bytes that are lent for a session. Definitions only.
use Rattle.std.specs.Prelude.{true, false, List, ℕ, Result, Ok, Err, eqb, length}
use Rattle.requests.specs.Numbers.{number_of}
use Rattle.requests.specs.declared.Answer.TheVariants.{Refused}
use Rattle.requests.specs.declared.Refusal.{Refusal}
use Rattle.mounting.specs.Mounting.{plain_mount}
use Rattle.storing.specs.Stored.{size_of, has_buffers, lay_start}

-- mounting: 12 where the lent bytes are not as many as a session takes
unfoldable pub mount_number : List ℕ → List ℕ → ℕ
mount_number image b = elim (eqb (length b) (size_of (has_buffers b))) [ true ↦ number_of (plain_mount image).answer | false ↦ 12 ]

-- the session that mounting hands out; "A refused mounting hands out a table with no used entry and nothing open", and says so
unfoldable pub mount_bytes : List ℕ → List ℕ → List ℕ
mount_bytes image b = lay_start b (plain_mount image).session.says (plain_mount image).session.table

-- how a mounting ends, as a number: 0 where it is done
abbrev pub number_told : {A : Type 0} → Result A Refusal → ℕ
number_told (Ok x) = 0
number_told (Err x) = number_of (Refused x)
