-- By the request; a granule's file holds no sector.
use Rattle.requests.specs.contracts.Request as Request
use Rattle.requests.specs.declared.Request.TheVariants.{Open, Read, Write, GranuleRead, GranuleWrite, GranuleLook, Position}
use Rattle.requests.specs.declared.Request.{Request}
use Rattle.sessions.specs.declared.OpenFile.{OpenFile}
use Rattle.directory.specs.declared.Entry.{Entry}
use Rattle.geometry.specs.declared.Place.{Place}
use Rattle.judging.proofs.Here.{seen-random}
use Rattle.judging.specs.Turns.{CarryOf, record_in, carried_to, carried_into}
use Rattle.steps.specs.Next.{fixed_at}
use Rattle.geometry.specs.Places.{origin}
use Rattle.geometry.specs.Bytes.{lay}
use denote.Enum.Declared.{tag_of}
use types.Run.{OneOf, miss}
use lib.ListN.{length}
use Prim.Native.Nat.{ℕ}
use mathlib.Core.List.{List, [], ◌∷◌}
use mathlib.Core.Path.{◌≡◌, refl, sym, ap, subst, ◌∙◌}
use borrow.Author.Rules.{rules}
use Rattle.judging.proofs.Sight.carry.Goals as goal

-- any other request moves nothing
others : (q : Request) (code : ℕ) (e : Entry) (f : OpenFile) (bytes old : List ℕ) (p : Place) → OneOf (0 ∷ 1 ∷ 4 ∷ 5 ∷ 6 ∷ []) (tag_of (Request.the_type) q) → p ≡ origin
    → (p ≡ carried_to code q e f) × (old ≡ carried_into q e f bytes old)
unfolding carried_to carried_into
others Open code e f bytes old p k h = (h, refl)
others Read code e f bytes old p k h = (h, refl)
others Write code e f bytes old p k h = absurd (miss (0 ∷ 1 ∷ 4 ∷ 5 ∷ 6 ∷ []) 2 tt k)
others (GranuleRead g) code e f bytes old p k h = absurd (miss (0 ∷ 1 ∷ 4 ∷ 5 ∷ 6 ∷ []) 3 tt k)
others (GranuleWrite g) code e f bytes old p k h = (h, refl)
others (GranuleLook g) code e f bytes old p k h = (h, refl)
others (Position o) code e f bytes old p k h = (h, refl)

pub behind_written-requires : goal.behind_written-requires
behind_written-requires c =
    let a = c.args in
    let x = a.self.now in
    subst (λ (q : Request). CarryOf q a.code x.entry x.file (length x.extent.bytes.now)) c.in-Write.is c.requires

pub copy_record-requires : goal.copy_record-requires
copy_record-requires c =
    let a = c.args in
    let x = a.self.now in
    (subst (λ (q : Request). CarryOf q a.code x.entry x.file (length x.extent.bytes.now)) c.in-GranuleRead.is c.requires).0

pub returns-in-Write : goal.returns-in-Write
unfolding carried_to carried_into
returns-in-Write c = rw c.in-Write.is (c.behind_written.ensures, refl)

pub returns-in-GranuleRead : goal.returns-in-GranuleRead
unfolding carried_to carried_into fixed_at record_in
returns-in-GranuleRead c =
    let a = c.args in
    let x = a.self.now in
    let h : CarryOf (GranuleRead c.in-GranuleRead.g) a.code x.entry x.file (length x.extent.bytes.now) =
    subst (λ (q : Request). CarryOf q a.code x.entry x.file (length x.extent.bytes.now)) c.in-GranuleRead.is c.requires in
    rw c.in-GranuleRead.is (
      c.start.ensures,
      c.copy_record.ensures
          ∙ ap (λ (b : List ℕ). lay a.buffer.now 0 (record_in x.entry c.in-GranuleRead.g b)) (sym (seen-random x.entry x.file x.extent.bytes.now x.extent.over.now x.extent.held h.1 h.2)),
    )

pub returns-in_default : goal.returns-in_default
returns-in_default c =
    let a = c.args in
    let x = a.self.now in
    others a.q a.code x.entry x.file _ a.buffer.now c.start-in_default.result (search rules) c.start-in_default.ensures
