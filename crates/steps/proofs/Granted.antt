-- What a request answered 0 goes by, in either engine: its session is legal and its entry is used, so the entry and its state are lawful, the extent lies in the
-- image, and every effect suits the file.
use mathlib.Core.Path.{◌≡◌}
use mathlib.Core.Bool.{Bool, true, false}
use mathlib.Core.List.{List}
use Prim.Native.Nat.{ℕ, ◌+◌, ◌*◌, ◌≤◌}
use native.Mathlib.Omega.{arith}
use lib.ListN.{length}
use borrow.Author.Tests.{eqb-false}
use Rattle.geometry.specs.Sizes.{sector, free, sectors_of}
use Rattle.geometry.proofs.Places.{lawful-whole}
use Rattle.directory.specs.Entries.{entry_at, is_free}
use Rattle.directory.proofs.Good.{Lies, lies}
use Rattle.requests.specs.Judge.{judge}
use Rattle.requests.proofs.Done.{done-allows}
use Rattle.requests.proofs.Live.{Real, done-real}
use Rattle.sessions.specs.Session.{file_of, legal}
use Rattle.sessions.proofs.Legal.{lawful-length, good-table}
use Rattle.steps.specs.Effects.{effects}
use Rattle.steps.specs.Next.{Scene, facts_of}
use Rattle.steps.proofs.Inside.{lawful, AllSuit, suit}
use Rattle.steps.proofs.Lawful.{Lawful}
use Rattle.directory.specs.declared.Entry.{Entry}
use Rattle.requests.specs.declared.Answer.TheVariants.{Done}
use Rattle.requests.specs.declared.Request.{Request}
use Rattle.sessions.specs.declared.Session.{Session}

-- what a request finds, with its file's bytes as the engine has them
abbrev pub found : Session → ℕ → List ℕ → List ℕ → Scene
found s i bytes given = record { number = i; entry = entry_at s.table i; file = file_of s.files i; bytes = bytes; given = given }

-- `ok` is legality as the engine asks for it
module _ (image : List ℕ) (s : Session) (ok : Bool) (sound : ok ≡ true → legal image s ≡ true) (i : ℕ) (bytes given : List ℕ) where
  abbrev e : Entry
  e = entry_at s.table i

  abbrev c : Scene
  c = found s i bytes given

  module _ (files buffer : ℕ) (q : Request) (d : judge q (facts_of ok files buffer q c) ≡ Done) where
    pub is_real : (ok ≡ true) × (is_free e ≡ false)
    unfolding facts_of
    is_real =
        let r : Real (facts_of ok files buffer q c) = done-real q _ (done-allows q _ d) in
        (r.legal, r.used)

    pub is_lawful : Lawful e (file_of s.files i)
    is_lawful = lawful image s (sound is_real.0) i is_real.1

    pub room : sector * (e.first + e.sectors) ≤ length image
    room =
        let l : Lies (sectors_of image) e = lies (sectors_of image) s.table (good-table image s (sound is_real.0)) i (eqb-false e.kind free is_real.1) in
        omega (arith, l.ends, lawful-whole image (lawful-length image s (sound is_real.0)))

    pub suits : AllSuit e (effects q c)
    suits = suit files buffer q c is_lawful (rw is_real.0 at d)
