-- What the private functions of this crate hand on to each other. Definitions only.
use Rattle.std.specs.Prelude.{◌≡◌, Bool, true, false, List, ℕ, length}
use Rattle.geometry.specs.Bytes.{part, lay}
use Rattle.geometry.specs.Sizes.{sector}
use Rattle.steps.specs.Effects.{Bench}
use Rattle.finding.specs.Lent.{buffer_at}
use Rattle.straight.specs.Moving.{scene}
use Rattle.blocking.specs.Blocking.{lent}
use Rattle.held.specs.Held.{held_all, effects_with}
use Rattle.advancing.specs.Advancing.{readied}
use Rattle.plain.specs.Plain.{acted_with}
use Rattle.sessions.specs.declared.Holding.{Holding}
use Rattle.requests.specs.declared.Request.{Request}
use Rattle.finding.specs.declared.Seen.{Seen}

-- what a request answered 0 leaves: image, bytes, and what the file holds
module _ (x : Seen) (i : ℕ) (q : Request) (given code : List ℕ) (k : ℕ) (image b image' b' : List ℕ) (h : Holding) where
  -- in a session with buffers: as the effects leave them, worked on the buffer of the file's state
  abbrev pub Acted : Type 0
  Acted =
      let c : List ℕ = readied true b x.slot x.file.used in
      let w : Bench = held_all (scene i x.entry) (effects_with q x.entry x.file given code k) (lent image x.hold (part c (buffer_at x.slot) sector)) in
      (lent image' h w.file.buffer ≡ w) × (b' ≡ lay c (buffer_at x.slot) w.file.buffer) × (length w.file.buffer ≡ sector)

  -- in one with none: the bytes stay
  abbrev pub Straight : Type 0
  Straight = (image' ≡ acted_with q i x.entry x.file given code image) × (b' ≡ b)

-- in either
abbrev pub Moved : Bool → Seen → ℕ → Request → List ℕ → List ℕ → ℕ → List ℕ → List ℕ → List ℕ → List ℕ → Holding → Type 0
Moved true x i q given code k image b image' b' h = Acted x i q given code k image b image' b' h
Moved false x i q given code k image b image' b' h = Straight x i q given code k image b image' b' h
