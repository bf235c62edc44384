-- Where no sector is lent, a file has the bytes of its extent as they are.
use mathlib.Core.Path.{◌≡◌}
use mathlib.Core.Bool.{true, false, ◌&&◌}
use mathlib.Core.List.{List, []}
use Prim.Native.Nat.{ℕ}
use Rattle.geometry.proofs.Tests.{either}
use Rattle.packing.specs.Reading.{overlaid}
use Rattle.sessions.specs.Session.{has_buffer}
use Rattle.steps.specs.Verdict.{seen_bytes}
use Rattle.directory.specs.declared.Entry.{Entry}
use Rattle.sessions.specs.declared.OpenFile.{OpenFile}

pub nothing-over : (e : Entry) (f : OpenFile) (bytes : List ℕ) (held : ℕ) → seen_bytes e f bytes held [] ≡ bytes
unfolding seen_bytes overlaid
nothing-over e f bytes held = either (f.used && has_buffer e)
    (λ (t : f.used && has_buffer e ≡ true). rw (t, seen_bytes))
    (λ (t : f.used && has_buffer e ≡ false). rw (t, seen_bytes))
