-- Document 01, "Sizes and the directory": an image with no files. Definitions only.
use Rattle.std.specs.Prelude.{true, false, List, ℕ, length, replicate}
use Rattle.geometry.specs.Sizes.{lawful_length}

-- bytes made an image with no files, if there are as many as an image has; else as they were. "free entries are 20 zero bytes", and zeros
-- stand in the sectors that no file owns too
unfoldable pub emptied : List ℕ → List ℕ
emptied bytes = elim (lawful_length bytes) [ true ↦ replicate (length bytes) 0 | false ↦ bytes ]
