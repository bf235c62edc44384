-- A verdict judged with the right length of code is the step's: a write answered 0 has at most R bytes, and their code has that length.
use mathlib.Core.Path.{◌≡◌, refl, sym, ap}
use mathlib.Core.Bool.{Bool, true, false}
use Prim.Native.Nat.{ℕ, ◌+◌}
use Rattle.geometry.specs.Sizes.{compressed}
use Rattle.geometry.proofs.Tests.{either}
use Rattle.directory.specs.Entries.{is_kind}
use Rattle.requests.specs.Judge.{judge}
use Rattle.requests.proofs.Done.{Allows, done-allows}
use Rattle.steps.specs.Next.{Scene, code_length, facts_with, facts_of, behind_written, moved, file_done}
use Rattle.steps.specs.Verdict.{entry_next, file_next, done_with, file_with, verdict_of}
use Rattle.steps.proofs.Compressed.{here-written, code_is}
use Rattle.geometry.specs.declared.Place.{Place}
use Rattle.requests.specs.declared.Request.{Request}
use Rattle.requests.specs.declared.Request.TheVariants.{Open, Read, Write, GranuleRead, GranuleWrite, GranuleLook, Position}
use Rattle.requests.specs.declared.Answer.{Answer}
use Rattle.requests.specs.declared.Answer.TheVariants.{Done, Met, Refused}
use Rattle.sessions.specs.declared.OpenFile.{OpenFile}

module _ (legal : Bool) (files buffer : ℕ) (c : Scene) where
  abbrev code : ℕ
  code = code_length c.entry c.given

  done_coded : (q : Request) → Allows q (facts_with legal files buffer code q c) → done_with code q c ≡ file_done q c
  unfolding done_with file_done behind_written
  done_coded Open a = refl
  done_coded Read a = refl
  done_coded Write a = ap (λ (p : Place). moved c.file (c.file.position + 1) false p p) (either (is_kind compressed c.entry)
      (λ (p : is_kind compressed c.entry ≡ true). rw (p, code_is c p a.short) (sym (here-written c p)))
      (λ (p : is_kind compressed c.entry ≡ false). rw (p, behind_written)))
  done_coded (GranuleRead g) a = refl
  done_coded (GranuleWrite g) a = refl
  done_coded (GranuleLook g) a = refl
  done_coded (Position o) a = refl

  file-coded : (q : Request) (a : Answer) → judge q (facts_with legal files buffer code q c) ≡ a → file_with code a q c ≡ file_next a q c
  unfolding file_with file_next
  file-coded q Done e = done_coded q (done-allows q (facts_with legal files buffer code q c) e)
  file-coded q (Met x) e = refl
  file-coded q (Refused x) e = refl

  -- answer, entry and file are those of the step
  pub verdict-coded : (q : Request)
      → verdict_of legal files buffer (code_length c.entry c.given) q c
      ≡ (let a : Answer = judge q (facts_of legal files buffer q c) in record { answer = a; entry = entry_next a q c; file = file_next a q c })
  unfolding verdict_of facts_of
  verdict-coded q =
      let a : Answer = judge q (facts_with legal files buffer code q c) in
      ap (λ (f : OpenFile). record { answer = a; entry = entry_next a q c; file = f }) (file-coded q a refl)
