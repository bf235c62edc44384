-- Each field's bytes, one behind another.
use mathlib.Core.Path.{◌≡◌}
use mathlib.Core.List.{List, [], ◌∷◌, ◌++◌}
use Prim.Native.Nat.{ℕ}
use Rattle.storing.specs.Numbers.{bytes_of, flag_of}
use Rattle.storing.specs.Stored.{place_stored, file_stored}
use Rattle.sessions.specs.declared.OpenFile.{OpenFile}
use Rattle.storing.proofs.Numbers.{flag-byte}
use Rattle.stating.proofs.Numbers.{four-bytes, eight-bytes, place-bytes}
use Rattle.stating.proofs.file_bytes.Goals as goal

joined : (o : OpenFile) (u y : ℕ) (i p h e : List ℕ)
    → u ≡ flag_of o.used → i ≡ bytes_of 8 o.entry → p ≡ bytes_of 4 o.position → y ≡ flag_of o.beyond → h ≡ place_stored o.here → e ≡ place_stored o.end
    → (u ∷ []) ++ (i ++ (p ++ ((y ∷ []) ++ (h ++ e)))) ≡ file_stored o
unfolding file_stored
joined o u y i p h e hu hi hp hy hh he = rw (hu, hi, hp, hy, hh, he)

pub returns : goal.returns
returns c =
    joined c.args.f _ _ _ _ _ _
    (flag-byte c.args.f.used _ c.from-u.ensures) (eight-bytes _ _ c.to_le_bytes-i.ensures) (four-bytes _ _ c.to_le_bytes-p.ensures) (flag-byte c.args.f.beyond _ c.from-y.ensures)
    (place-bytes _ _ c.place_bytes-h.ensures) (place-bytes _ _ c.place_bytes-e.ensures)
