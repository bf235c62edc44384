-- A verdict with the code that `encode_given` gives is the step's: in a legal session that is the code of the bytes given, and in any other
-- every request gets 12.
use mathlib.Core.Path.{◌≡◌, refl, ap, ◌∙◌}
use mathlib.Core.Bool.{Bool, true, false}
use mathlib.Core.List.{List}
use Prim.Native.Nat.{ℕ, ◌+◌, ◌≤◌}
use native.Mathlib.Omega.{arith}
use lib.ListN.{length}
use lib.Dec.{leb}
use lib.Seq.{sets}
use borrow.Author.Tests.{eqb-true, le-leb}
use Rattle.geometry.specs.Bytes.{part}
use Rattle.geometry.specs.Sizes.{compressed}
use Rattle.geometry.proofs.Tests.{either, and_both}
use Rattle.coding.specs.Encode.{code_of}
use Rattle.coding.proofs.Sizes.{code_of-length}
use Rattle.directory.specs.Entries.{is_kind}
use Rattle.directory.specs.Rules.{longest}
use Rattle.requests.specs.Judge.{judge}
use Rattle.requests.proofs.First.{not-legal}
use Rattle.steps.specs.Next.{Scene, code_length, facts_with, facts_of}
use Rattle.steps.specs.Verdict.{entry_next, file_next, buffer_next, file_with, answer_of, verdict_of}
use Rattle.steps.proofs.Lawful.{Lawful}
use Rattle.steps.proofs.Coded.{verdict-coded}
use Rattle.straight.specs.Straight.{code_given}
use Rattle.straight.proofs.Coded.{given-coded, sets-part}
use Rattle.directory.specs.declared.Entry.{Entry}
use Rattle.requests.specs.declared.Request.{Request}
use Rattle.requests.specs.declared.Answer.{Answer}
use Rattle.requests.specs.declared.Answer.TheVariants.{Refused}
use Rattle.requests.specs.declared.Refusal.TheVariants.{NotLegal}
use Rattle.sessions.specs.declared.OpenFile.{OpenFile}
use Rattle.steps.specs.declared.Verdict.{Verdict}

-- of a lawful entry, the length of the code is right
pub right-length : (e : Entry) (given : List ℕ) → (is_kind compressed e ≡ true → e.length ≤ 132) → length (code_given e given) ≡ code_length e given
unfolding code_given code_length
right-length e given h = either (is_kind compressed e)
    (λ (z : is_kind compressed e ≡ true). either (leb (length given) e.length)
    (λ (m : leb (length given) e.length ≡ true). rw (z, m, le-leb _ _ (h z), code_given, code_length))
    (λ (m : leb (length given) e.length ≡ false). rw (z, m, code_given, code_length)))
    (λ (z : is_kind compressed e ≡ false). rw (z, code_given, code_length))

pub short-coded : (e : Entry) (f : OpenFile) → Lawful e f → is_kind compressed e ≡ true → e.length ≤ 132
unfolding longest
short-coded e f l z =
    let k : e.kind ≡ compressed = eqb-true e.kind compressed z in
    let s : e.length ≤ longest e.kind = l.short in
    rw k at s

-- and the code is in the room lent for it
pub room-coded : (e : Entry) (f : OpenFile) → Lawful e f → is_kind compressed e ≡ true → (given room : List ℕ) → length given ≤ e.length → length room ≡ 135
    → part (sets room 0 (code_given e given)) 0 (length (code_given e given)) ≡ code_of e.length given
room-coded e f l z given room h k =
    let s : e.length ≤ 132 = short-coded e f l z in
    let w : code_of e.length given ≡ code_given e given = given-coded e given (and_both _ _ z (and_both _ _ (le-leb _ _ h) (le-leb _ _ s))) in
    let m : length (code_of e.length given) ≤ e.length + 3 = code_of-length e.length given h s in
    rw (← w) (sets-part room (code_of e.length given) (omega arith))

-- what the step comes to
abbrev pub judgement : Bool → ℕ → ℕ → Request → Scene → Verdict
judgement legal files buffer q c =
    let a : Answer = judge q (facts_of legal files buffer q c) in
    record { answer = a; entry = entry_next a q c; file = file_next a q c }

module _ (files buffer : ℕ) (q : Request) where
  abbrev twelve : Entry → OpenFile → Verdict
  twelve e f = record { answer = Refused NotLegal; entry = e; file = f }

  illegal-with : (n : ℕ) (c : Scene) → verdict_of false files buffer n q c ≡ twelve c.entry c.file
  unfolding verdict_of entry_next file_with
  illegal-with n c = rw (not-legal q (facts_with false files buffer n q c) refl)

  illegal : (c : Scene) → judgement false files buffer q c ≡ twelve c.entry c.file
  unfolding entry_next file_next facts_of
  illegal c = rw (not-legal q (facts_of false files buffer q c) refl)

  -- with that length, if the session is legal
  pub judged : (legal : Bool) (n : ℕ) (c d : Scene) → c.entry ≡ d.entry → c.file ≡ d.file → (legal ≡ true → c ≡ d)
      → (legal ≡ true → n ≡ code_length d.entry d.given) → verdict_of legal files buffer n q c ≡ judgement legal files buffer q d
  judged true n c d e f h k = ap (λ (x : Scene). verdict_of true files buffer n q x) (h refl) ∙ ap (λ (m : ℕ). verdict_of true files buffer m q d) (k refl) ∙ verdict-coded true files buffer d q
  judged false n c d e f h k = rw (illegal-with n c, illegal d, e, f)

  -- nor does the caller's buffer change then
  pub buffer-judged : (legal : Bool) (n : ℕ) (c d : Scene) → (legal ≡ true → c ≡ d) → (legal ≡ true → n ≡ code_length d.entry d.given) → (old : List ℕ)
      → buffer_next (answer_of legal files buffer n q c) q c old ≡ buffer_next (judge q (facts_of legal files buffer q d)) q d old
  unfolding buffer_next facts_of
  buffer-judged true n c d h k old = rw (h refl, k refl)
  buffer-judged false n c d h k old = rw (not-legal q (facts_with false files buffer n q c) refl, not-legal q (facts_of false files buffer q d) refl)
