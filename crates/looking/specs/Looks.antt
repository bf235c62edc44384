-- Document 01, "A granule may also be shown in place in the image", for both engines at once. proofs/Looks.antt shows that these are the engines' looks. Definitions only.
use Rattle.std.specs.Prelude.{false, ℕ}
use Rattle.requests.specs.Judge.{judge}
use Rattle.finding.specs.declared.Seen.{Seen}
use Rattle.steps.specs.Next.{facts_but}
use Rattle.looking.specs.declared.Looked.{Looked}
use Rattle.requests.specs.declared.Request.TheVariants.{GranuleLook}

-- by what is seen of an entry
unfoldable pub looked_by : Seen → ℕ → Looked
looked_by x g = record { answer = judge (GranuleLook g) (facts_but false x.lawful x.opened x.entry x.file 0 0 0); entry = x.entry }
