-- What the types of the code say of every session: how many bytes, entries and states there are, and how wide a number is. Definitions only.
use Rattle.std.specs.Prelude.{Bool, ◌&&◌, List, [], ◌∷◌, ℕ, ◌^◌, eqb, ltb, length}
use Rattle.geometry.specs.Bytes.{is_byte}
use Rattle.geometry.specs.Lists.{all, every}
use Rattle.geometry.specs.Sizes.{sector, entries, most_open}
use Rattle.directory.specs.declared.Entry.{Entry}
use Rattle.sessions.specs.declared.BufferedFile.{BufferedFile}
use Rattle.sessions.specs.declared.BufferedSession.{BufferedSession}
use Rattle.sessions.specs.declared.OpenFile.{OpenFile}
use Rattle.sessions.specs.declared.Session.{Session}

-- a number of n bytes
unfoldable pub fits : ℕ → ℕ → Bool
fits n x = ltb x (256 ^ n)

-- an array of n bytes
unfoldable pub are_bytes : ℕ → List ℕ → Bool
are_bytes n b = eqb (length b) n && every is_byte b

-- an entry: `[u8; 8]`, then `u16` and one `u32`
unfoldable pub entry_fits : Entry → Bool
entry_fits e =
    all (are_bytes 8 e.name ∷ fits 2 e.kind ∷ fits 2 e.length ∷ fits 2 e.first ∷ fits 2 e.sectors ∷ fits 4 e.count ∷ fits 2 e.flags ∷ [])

-- an open-file state: a `usize`, then `u32`
unfoldable pub file_fits : OpenFile → Bool
file_fits f =
    all (fits 8 f.entry ∷ fits 4 f.position ∷ fits 4 f.here.sector ∷ fits 4 f.here.byte ∷ fits 4 f.end.sector ∷ fits 4 f.end.byte ∷ [])

-- and with its buffer: a `u32` and a `[u8; 360]`
unfoldable pub held_fits : BufferedFile → Bool
held_fits f = all (file_fits f.file ∷ fits 4 f.held ∷ are_bytes sector f.buffer ∷ [])

module _ {A : Type 0} where
  -- an array of n things that fit
  unfoldable pub are_all : ℕ → (A → Bool) → List A → Bool
  are_all n p xs = eqb (length xs) n && every p xs

unfoldable pub session_fits : Session → Bool
session_fits s = are_all entries entry_fits s.table && are_all most_open file_fits s.files

unfoldable pub buffered_fits : BufferedSession → Bool
buffered_fits s = are_all entries entry_fits s.table && are_all most_open held_fits s.files
