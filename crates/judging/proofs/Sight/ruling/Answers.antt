-- 11 to the request taken as if a code were bad: its turn has come, and where decoding meets no bad code the tests behind that one answer.
-- Any other answer stands.
use mathlib.Core.Path.{◌≡◌, ap, subst, ◌∙◌}
use mathlib.Core.List.{List, [], ◌∷◌}
use Prim.Native.Nat.{ℕ}
use types.Run.{OneOf, miss}
use denote.Enum.Declared.{tag_of}
use borrow.Author.Rules.{rules}
use native.Mathlib.Omega.{arith}
use lib.ListN.{length}
use Rattle.following.proofs.Following.{small}
use Rattle.requests.proofs.InTurn.{turn}
use Rattle.requests.proofs.Done.{done-allows}
use Rattle.requests.specs.contracts.Refusal as Refusals
use Rattle.requests.specs.declared.Refusal.{Refusal}
use Rattle.requests.specs.declared.Refusal.TheVariants.{BadImage}
use Rattle.requests.specs.declared.Edge.{Edge}
use Rattle.requests.specs.declared.Answer.{Answer}
use Rattle.requests.specs.declared.Answer.TheVariants.{Met, Refused}
use Rattle.judging.specs.Turns.{Ruled, scene_of}
use Rattle.judging.specs.Sight.{seen_of}
use Rattle.judging.proofs.Turns.{is-bad, is-done, good-rules, lost-rules, done-rules, other-rules}
use Rattle.judging.proofs.Here.{turn-of, carry-of}
use Rattle.judging.proofs.Sight.ruling.Goals as goal
use Rattle.judging.proofs.Sight.ruling.Goals.{In-Refused-BadImage, in_default-via-in-Refused+in_default, in_default-via-in_default}

-- an edge met, or any other refusal
abbrev others : List ℕ
others = 0 ∷ 1 ∷ 2 ∷ 3 ∷ 4 ∷ 5 ∷ 6 ∷ 7 ∷ 9 ∷ 10 ∷ 11 ∷ 12 ∷ 13 ∷ 14 ∷ []

met-other : (a : Answer) (m : Edge) → a ≡ Met m → a ≡ Refused BadImage → ⊥
met-other a m is e = let z : ◌≡◌ {A = ℕ} 0 1 = cc in absurd (omega arith)

refused-other : (a : Answer) (r : Refusal) → OneOf others (tag_of (Refusals.the_type) r) → a ≡ Refused r → a ≡ Refused BadImage → ⊥
refused-other a r k is e =
    let same : r ≡ BadImage = cc in
    miss others 8 tt (subst (λ (y : Refusal). OneOf others (tag_of (Refusals.the_type) y)) same k)

bad-first : (c : In-Refused-BadImage) → c.judge-first.result ≡ Refused BadImage
bad-first c = let r = c.in-Refused-BadImage in r.is ∙ ap Refused (rw r.is at r.field-0-is)

pub decode-requires : goal.decode-requires
decode-requires c =
    let a = c.args in
    let x = a.self.now in
    let p = c.requires in
    turn-of a.files (length a.buffer.now) a.code (length a.given.now) (length x.extent.bytes.now) x.entry x.file p.0 p.1 a.q
    (turn a.q _ (is-bad a.files (length a.buffer.now) a.code (scene_of 0 x.entry x.file (seen_of x) a.given.now) (small x.entry x.file p.0) a.q c.facts-known.result c.judge-first.result c.facts-known.ensures c.judge-first.ensures (bad-first (goal.at.decode-requires c).In-Refused-BadImage)))

pub returns-in-Ok : goal.returns-in-Ok
unfolding Ruled
returns-in-Ok c = λ i.
    let a = c.args in
    let x = a.self.now in
    let p = c.requires in
    good-rules a.files (length a.buffer.now) a.code (scene_of i x.entry x.file (seen_of x) a.given.now) (small x.entry x.file p.0) a.q c.facts-known.result c.judge-first.result c.facts-known.ensures c.judge-first.ensures (bad-first (goal.at.returns-in-Ok c).In-Refused-BadImage)
    a.buffer.now _ c.decode.result c.decode.ensures _ c.in-Ok.is c.past_code.result c.past_code.ensures

pub returns-in-Err : goal.returns-in-Err
unfolding Ruled
returns-in-Err c = λ i.
    let a = c.args in
    let x = a.self.now in
    let p = c.requires in
    lost-rules a.files (length a.buffer.now) a.code (scene_of i x.entry x.file (seen_of x) a.given.now) (small x.entry x.file p.0) a.q c.facts-known.result c.judge-first.result c.facts-known.ensures c.judge-first.ensures (bad-first (goal.at.returns-in-Err c).In-Refused-BadImage)
    a.buffer.now _ c.decode.result c.decode.ensures _ c.in-Err.is

pub carry-requires : goal.carry-requires
carry-requires c =
    let a = c.args in
    let x = a.self.now in
    let p = c.requires in
    carry-of a.files (length a.buffer.now) a.code (length a.given.now) (length x.extent.bytes.now) x.entry x.file p.0 p.1 a.q
    (done-allows a.q _ (is-done a.files (length a.buffer.now) a.code (scene_of 0 x.entry x.file (seen_of x) a.given.now) (small x.entry x.file p.0) a.q c.facts-known.result c.judge-first.result c.facts-known.ensures c.judge-first.ensures c.in-Done.is))

pub returns-in-Done : goal.returns-in-Done
unfolding Ruled
returns-in-Done c = λ i.
    let a = c.args in
    let x = a.self.now in
    let p = c.requires in
    done-rules a.files (length a.buffer.now) a.code (scene_of i x.entry x.file (seen_of x) a.given.now) (small x.entry x.file p.0) a.q c.facts-known.result c.judge-first.result c.facts-known.ensures c.judge-first.ensures c.in-Done.is
    a.buffer.now _ c.carry.result c.carry.ensures

pub returns-in_default : goal.returns-in_default
unfolding Ruled
returns-in_default c = λ i.
    let a = c.args in
    let x = a.self.now in
    let p = c.requires in
    let stands = other-rules a.files (length a.buffer.now) a.code (scene_of i x.entry x.file (seen_of x) a.given.now) (small x.entry x.file p.0) a.q c.facts-known.result c.judge-first.result c.facts-known.ensures c.judge-first.ensures in
    elim c.in_default.branch [
      | in_default-via-in-Refused+in_default w ↦ stands (refused-other _ w.in_default.field-0 (search rules) w.in_default.is) w.in_default.not-Done a.buffer.now _
      | in_default-via-in_default w ↦ stands (met-other _ w.in_default.field-0 w.in_default.is) w.in_default.not-Done a.buffer.now _
    ]
