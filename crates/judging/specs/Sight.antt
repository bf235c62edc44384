-- The bytes of a file as a request finds it. Definitions only.
use Rattle.std.specs.Prelude.{List, ℕ}
use Rattle.steps.specs.Verdict.{seen_bytes}
use Rattle.judging.specs.Turns.{blocked_bytes}
use Rattle.judging.specs.declared.Sight.{Sight}

-- with what is held of it
abbrev pub seen_of : Sight → List ℕ
seen_of x = seen_bytes x.entry x.file x.extent.bytes.now x.extent.held x.extent.over.now

-- with a blocked one's held sector
abbrev pub blocked_in : Sight → List ℕ
blocked_in x = blocked_bytes x.entry x.extent.bytes.now x.extent.held x.extent.over.now
