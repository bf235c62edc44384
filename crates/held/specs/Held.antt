-- What a request answered 0 does to bytes: its effects one after another, as crate `blocking` has each. Definitions only.
use Rattle.std.specs.Prelude.{Bool, true, false, ◌&&◌, not, List, [], ◌∷◌, map, ℕ, eqb, ltb}
use Rattle.geometry.specs.Places.{place_of}
use Rattle.geometry.specs.Sizes.{sector, blocked, compressed}
use Rattle.directory.specs.Entries.{is_kind}
use Rattle.packing.specs.Placing.{changes}
use Rattle.steps.specs.Effects.{Effect, hold, change, store_effect, blocked_effect, effects, Bench}
use Rattle.steps.specs.Next.{Scene}
use Rattle.straight.specs.Straight.{writing}
use Rattle.straight.specs.Moving.{scene}
use Rattle.blocking.specs.Blocking.{held_do}
use Rattle.directory.specs.declared.Entry.{Entry}
use Rattle.requests.specs.declared.Request.{Request}
use Rattle.requests.specs.declared.Request.TheVariants.{Open, Read, Write, GranuleRead, GranuleWrite, GranuleLook, Position}
use Rattle.sessions.specs.declared.OpenFile.{OpenFile}

-- one effect after another
unfoldable pub held_all : Scene → List Effect → Bench → Bench
held_all c [] w = w
held_all c (x ∷ xs) w = held_all c xs (held_do c x w)

-- ---- the effects of a request

-- as `read_effects`: whether the place before a compressed record says go on, and the sector in which the record starts, are given
unfoldable pub read_with : Entry → OpenFile → Bool → ℕ → List Effect
read_with e f goes start = elim (is_kind blocked e) [
  | true ↦ hold (place_of blocked e.length f.position).sector ∷ []
  | false ↦ elim (is_kind compressed e) [
    | true ↦ elim (goes && ltb f.here.byte sector) [ true ↦ hold f.here.sector ∷ hold start ∷ [] | false ↦ hold start ∷ [] ]
    | false ↦ []
  ]
]

-- as `write_effects`: the code of the bytes given is given too
unfoldable pub write_with : Entry → OpenFile → List ℕ → List ℕ → List Effect
write_with e f given code = elim (is_kind blocked e) [
  | true ↦ blocked_effect (writing e f given) ∷ []
  | false ↦ elim (is_kind compressed e) [
    | true ↦ map change (changes f.here code)
    | false ↦ store_effect (writing e f given) f.position ∷ []
  ]
]

-- as `effects`: the sector that a record read of a compressed file lies in, and the code of the bytes given, are given
unfoldable pub effects_with : Request → Entry → OpenFile → List ℕ → List ℕ → ℕ → List Effect
effects_with Open e f given code k = []
effects_with Read e f given code k = read_with e f (not (eqb f.here.sector k)) k
effects_with Write e f given code k = write_with e f given code
effects_with (GranuleRead g) e f given code k = []
effects_with (GranuleWrite g) e f given code k = store_effect (writing e f given) g ∷ []
effects_with (GranuleLook g) e f given code k = []
effects_with (Position o) e f given code k = effects (Position o) (scene 0 e)
