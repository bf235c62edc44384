-- By the request; an opening finds its file not open, so that no held sector counts.
use Rattle.requests.specs.contracts.Request as Request
use Rattle.requests.specs.declared.Request.TheVariants.{Open, Read, Write, GranuleRead, GranuleWrite, GranuleLook, Position}
use Rattle.requests.specs.declared.Request.{Request}
use Rattle.std.specs.Prelude.{Ok}
use Rattle.sessions.specs.declared.OpenFile.{OpenFile}
use Rattle.directory.specs.declared.Entry.{Entry}
use Rattle.geometry.specs.declared.Place.{Place}
use Rattle.judging.proofs.Here.{seen-shut}
use Rattle.judging.specs.Turns.{TurnOf, end_led, turn_led, turn_into}
use Rattle.geometry.specs.Places.{origin}
use denote.Enum.Declared.{tag_of}
use types.Run.{OneOf, miss}
use lib.ListN.{length}
use Prim.Native.Nat.{ℕ}
use mathlib.Core.List.{List, [], ◌∷◌}
use mathlib.Core.Bool.{false}
use mathlib.Core.Path.{◌≡◌, refl, sym, ap, subst, ◌∙◌}
use borrow.Author.Rules.{rules}
use Rattle.judging.proofs.Sight.decode.Goals as goal

-- any other request decodes nothing
others : (q : Request) (e : Entry) (f : OpenFile) (bytes old : List ℕ) (p : Place) → OneOf (2 ∷ 3 ∷ 4 ∷ 5 ∷ []) (tag_of (Request.the_type) q) → p ≡ origin
    → (Ok p ≡ turn_led q e f bytes) × (old ≡ turn_into q e f bytes old)
unfolding turn_led turn_into
others Open e f bytes old p k h = absurd (miss (2 ∷ 3 ∷ 4 ∷ 5 ∷ []) 0 tt k)
others Read e f bytes old p k h = absurd (miss (2 ∷ 3 ∷ 4 ∷ 5 ∷ []) 1 tt k)
others Write e f bytes old p k h = (ap Ok h, refl)
others (GranuleRead g) e f bytes old p k h = (ap Ok h, refl)
others (GranuleWrite g) e f bytes old p k h = (ap Ok h, refl)
others (GranuleLook g) e f bytes old p k h = (ap Ok h, refl)
others (Position o) e f bytes old p k h = absurd (miss (2 ∷ 3 ∷ 4 ∷ 5 ∷ []) 6 tt k)

pub read_here-requires : goal.read_here-requires
read_here-requires c =
    let a = c.args in
    let x = a.self.now in
    subst (λ (q : Request). TurnOf q x.entry x.file (length x.extent.bytes.now) (length a.buffer.now)) c.in-Read.is c.requires

pub skip_here-requires : goal.skip_here-requires
skip_here-requires c =
    let a = c.args in
    let x = a.self.now in
    subst (λ (q : Request). TurnOf q x.entry x.file (length x.extent.bytes.now) (length a.buffer.now)) c.in-Position.is c.requires

pub returns-in-Open : goal.returns-in-Open
unfolding turn_led turn_into
returns-in-Open c =
    let a = c.args in
    let x = a.self.now in
    let u : x.file.used ≡ false = subst (λ (q : Request). TurnOf q x.entry x.file (length x.extent.bytes.now) (length a.buffer.now)) c.in-Open.is c.requires in
    rw c.in-Open.is (c.end_place.ensures ∙ ap (end_led x.entry) (sym (seen-shut x.entry x.file x.extent.bytes.now x.extent.over.now x.extent.held u)), refl)

pub returns-in-Read : goal.returns-in-Read
unfolding turn_led turn_into
returns-in-Read c = rw c.in-Read.is c.read_here.ensures

pub returns-in-Position : goal.returns-in-Position
unfolding turn_led turn_into
returns-in-Position c = rw c.in-Position.is (c.skip_here.ensures, refl)

pub returns-in_default : goal.returns-in_default
returns-in_default c =
    let a = c.args in
    let x = a.self.now in
    others a.q x.entry x.file _ a.buffer.now c.start.result (search rules) c.start.ensures
