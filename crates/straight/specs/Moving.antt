-- What both engines share of moving bytes: an image and what a file holds, and the effects of a request on them in an engine's own way. Definitions only.
use Rattle.std.specs.Prelude.{true, false, List, [], ◌∷◌, ℕ, ltb}
use Rattle.geometry.specs.Sizes.{entries}
use Rattle.sessions.specs.Session.{idle}
use Rattle.steps.specs.Effects.{Effect, hold, change, store, stamp, put_back, plain_do, Bench}
use Rattle.steps.specs.Next.{Scene}
use Rattle.directory.specs.declared.Entry.{Entry}
use Rattle.sessions.specs.declared.BufferedFile.{BufferedFile}

abbrev pub bench : List ℕ → BufferedFile → Bench
bench image b = record { image = image; file = b }

-- a scene as far as an effect goes by it: the entry's number and the entry
abbrev pub scene : ℕ → Entry → Scene
scene i e = record { number = i; entry = e; file = idle; bytes = []; given = [] }

-- how an engine does to a file, by its entry, what goes by way of a buffer: a sector held, one changed, and the buffer put back
abbrev pub Way : Type 0
Way = Entry → Effect → Bench → Bench

-- straight in the image: nothing is held, nothing put back
abbrev pub straight_way : Way
straight_way e x w = bench (plain_do (scene 0 e) x w.image) w.file

-- what goes straight to the image is the same in every way; an entry that is not there is not stamped
unfoldable pub moved_by : Way → Scene → Effect → Bench → Bench
moved_by m c (hold k) w = m c.entry (hold k) w
moved_by m c (change x) w = m c.entry (change x) w
moved_by m c (store x) w = bench (plain_do c (store x) w.image) w.file
moved_by m c (stamp xs) w = elim (ltb c.number entries) [ true ↦ bench (plain_do c (stamp xs) w.image) w.file | false ↦ w ]
moved_by m c put_back w = m c.entry put_back w

unfoldable pub all_moved_by : Way → Scene → List Effect → Bench → Bench
all_moved_by m c [] w = w
all_moved_by m c (x ∷ xs) w = all_moved_by m c xs (moved_by m c x w)
