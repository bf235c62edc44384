-- In a legal session the next entry and state are document 01's: its positions are below the greatest number.
use mathlib.Core.Path.{◌≡◌, refl, ap}
use Prim.Native.Nat.{ℕ, ◌+◌, ◌<◌, ◌^◌}
use native.Mathlib.Omega.{arith}
use Rattle.steps.specs.Next.{Scene, counted, entry_done}
use Rattle.steps.specs.Verdict.{entry_next}
use Rattle.steps.proofs.Lawful.{Lawful}
use Rattle.following.specs.Following.{one_more, counted_from, entry_from}
use Rattle.directory.specs.declared.Entry.{Entry}
use Rattle.requests.specs.declared.Order.TheVariants.{WriteMark, RewindOnline, RewindOffline, RecordForward, RecordBack, FileForward, FileBack}
use Rattle.requests.specs.declared.Request.{Request}
use Rattle.requests.specs.declared.Request.TheVariants.{Open, Read, Write, GranuleRead, GranuleWrite, GranuleLook, Position}
use Rattle.requests.specs.declared.Answer.{Answer}
use Rattle.requests.specs.declared.Answer.TheVariants.{Done, Met, Refused}
use Rattle.sessions.specs.declared.OpenFile.{OpenFile}

pub one_more_lem : (n : ℕ) → n + 1 < 2 ^ 32 → one_more n ≡ n + 1
unfolding one_more
one_more_lem n h = omega (arith, h)

pub small : (e : Entry) (f : OpenFile) → Lawful e f → f.position + 1 < 2 ^ 32
small e f w = omega (arith, w.standing, w.words)

-- the entry, whatever the request finds besides it and its state
pub entry-from : (a : Answer) (q : Request) (c : Scene) → c.file.position + 1 < 2 ^ 32 → entry_from a q c.entry c.file ≡ entry_next a q c
unfolding entry_from entry_next counted_from entry_done
entry-from (Met x) q c h = refl
entry-from (Refused x) q c h = refl
entry-from Done Open c h = refl
entry-from Done Read c h = refl
entry-from Done Write c h = ap (λ (n : ℕ). counted c.entry n 0) (one_more_lem c.file.position h)
entry-from Done (GranuleRead g) c h = refl
entry-from Done (GranuleWrite g) c h = refl
entry-from Done (GranuleLook g) c h = refl
entry-from Done (Position WriteMark) c h = refl
entry-from Done (Position RewindOnline) c h = refl
entry-from Done (Position RewindOffline) c h = refl
entry-from Done (Position RecordForward) c h = refl
entry-from Done (Position RecordBack) c h = refl
entry-from Done (Position FileForward) c h = refl
entry-from Done (Position FileBack) c h = refl
