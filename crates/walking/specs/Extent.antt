-- An extent as it is read. Definitions only.
use Rattle.std.specs.Prelude.{List, ℕ}
use Rattle.packing.specs.Reading.{overlaid}
use Rattle.walking.specs.declared.Extent.{Extent}

-- with the held sector, if 360 bytes are lent for it, in place of its own
abbrev pub read_in : Extent → List ℕ
read_in x = overlaid x.bytes.now x.held x.over.now
