-- What one act does to the image and a file's buffer, in the words of steps/specs/Effects.antt. Definitions only.
use Rattle.std.specs.Prelude.{◌≡◌, Bool, true, false, ◌&&◌, List, ℕ, ◌+◌, length, eqb, leb, ltb}
use Rattle.geometry.specs.Sizes.{sector, entries}
use Rattle.sessions.specs.Session.{idle}
use Rattle.steps.specs.Effects.{Effect, hold, change, store, stamp, put_back, sector_at, Bench, buffered_do}
use Rattle.steps.specs.Next.{Scene}
use Rattle.straight.specs.Moving.{bench, scene, Way}
use Rattle.blocking.specs.declared.Held.{Held}
use Rattle.directory.specs.declared.Entry.{Entry}
use Rattle.sessions.specs.declared.BufferedFile.{BufferedFile}
use Rattle.sessions.specs.declared.OpenFile.{OpenFile}
use Rattle.sessions.specs.declared.Holding.{Holding}

-- an open-file state with what it holds, and the bytes of its buffer
abbrev pub state_with : OpenFile → Holding → List ℕ → BufferedFile
state_with f h buffer = record { file = f; holds = h.holds; held = h.held; changed = h.changed; buffer = buffer }

-- an image and a buffer lent, as far as an effect goes by them: what the buffer holds, and no more of its file
abbrev pub lent : List ℕ → Holding → List ℕ → Bench
lent image h buffer = bench image (state_with idle h buffer)

-- that of a file whose sectors are moved by way of its buffer
abbrev pub bench_of : Held → Bench
bench_of x = lent x.image.now x.hold x.buffer.now

-- the same file still, in the same lent bytes
abbrev pub Kept : Held → Held → Type 0
Kept x y = (y.entry ≡ x.entry) × (y.image.ghost_name ≡ x.image.ghost_name) × (y.buffer.ghost_name ≡ x.buffer.ghost_name)

-- ---- an effect on what is not there is left out

-- whether sector k is one of the extent's, and lies in an image of n bytes
unfoldable pub is_there : Entry → ℕ → ℕ → Bool
is_there e k n = ltb k e.sectors && leb (sector_at e k + sector) n

-- whether a buffer of 360 bytes is lent
abbrev pub is_whole : Bench → Bool
is_whole w = eqb (length w.file.buffer) sector

-- whether there is such a buffer and such a sector, or such an entry, for an effect
unfoldable pub can_do : Scene → Effect → Bench → Bool
can_do c (hold k) w = is_whole w && is_there c.entry k (length w.image)
can_do c (change x) w = is_whole w && is_there c.entry x.place.sector (length w.image)
can_do c (store x) w = true
can_do c (stamp xs) w = ltb c.number entries
can_do c put_back w = is_whole w

unfoldable pub held_do : Scene → Effect → Bench → Bench
held_do c x w = elim (can_do c x w) [ true ↦ buffered_do c x w | false ↦ w ]

-- what is done to a file, by its entry
abbrev pub held_way : Way
held_way e x w = held_do (scene 0 e) x w
