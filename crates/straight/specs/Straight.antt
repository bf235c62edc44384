-- What the functions of this crate write, in the words of steps/specs/Effects.antt. Definitions only.
use Rattle.std.specs.Prelude.{◌≡◌, true, false, ◌&&◌, List, [], ℕ, length, leb}
use Rattle.geometry.specs.Sizes.{compressed}
use Rattle.coding.specs.Encode.{code_of}
use Rattle.directory.specs.Entries.{is_kind}
use Rattle.steps.specs.Next.{Scene}
use Rattle.directory.specs.declared.Entry.{Entry}
use Rattle.requests.specs.declared.Request.{Request}
use Rattle.requests.specs.declared.Request.TheVariants.{Write}
use Rattle.sessions.specs.declared.OpenFile.{OpenFile}

-- a scene as far as a write goes by it: the entry, its open-file state and the bytes given
abbrev pub writing : Entry → OpenFile → List ℕ → Scene
writing e f given = record { number = 0; entry = e; file = f; bytes = []; given = given }

-- the code of the bytes given, where they may be a record of a compressed file: "R is .. 2 to 132 for kind 3"
unfoldable pub code_given : Entry → List ℕ → List ℕ
code_given e given = elim (is_kind compressed e && (leb (length given) e.length && leb e.length 132)) [ true ↦ code_of e.length given | false ↦ [] ]

-- a write in a compressed file comes with the code of the bytes given
abbrev pub Encoded : Request → Entry → List ℕ → List ℕ → Type 0
Encoded q e given code = q ≡ Write → is_kind compressed e ≡ true → code ≡ code_of e.length given
